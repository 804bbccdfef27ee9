-- `table::marks::marked_of` meets its contract: one pass over the marks.
use mathlib.Core.Path.{◌≡◌}
use mathlib.Core.Bool.{false}
use Prim.Native.Nat.{ℕ, ◌<◌}
use lib.ListN.{length, get_or}
use Rattle.vote.specs.Data.{is_ok_vote, is_other}
use Rattle.vote.specs.declared.data.Mark.TheVariants as mark
use Rattle.table.proofs.marks.marked_of.Given as goal

abbrev pub invariant-loop-i : goal.invariant-loop-i
invariant-loop-i l =
    (length l.oks ≡ 112) × (length l.others ≡ 112)
    × ((k : ℕ) → k < l.i → (get_or l.oks k false ≡ is_ok_vote (get_or l.mark-items k mark.None)) × (get_or l.others k false ≡ is_other (get_or l.mark-items k mark.None)))
