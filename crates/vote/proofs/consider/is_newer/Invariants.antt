-- `vote::consider::is_newer` meets its contract: a loop over the items of the base set that returns at the first hit computes `any`.
use mathlib.Core.Bool.{Bool}
use mathlib.Core.List.{List}
use Prim.Native.Nat.{ℕ}
use lib.Dec.{ltb}
use lib.ListN.{get_or}
use Rattle.sets.proofs.Lowest.{Sought}
use Rattle.vote.proofs.consider.is_newer.Given as goal

-- the copy of item i is the newer
abbrev pub newer : List ℕ → List ℕ → ℕ → Bool
newer based held i = ltb (get_or based i 0) (get_or held i 0)

abbrev pub invariant-loop-left : goal.invariant-loop-left
invariant-loop-left l = Sought l.base (newer l.based l.held) l.left

abbrev pub decreases-loop-left : goal.decreases-loop-left
decreases-loop-left l = l.left
