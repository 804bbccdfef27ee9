-- `plans::begin::kept` meets its contract: an array filled from the front.
use Rattle.std.specs.Prelude.{cond, get_or}
use Rattle.kit.proofs.Listings.{Filled}
use Rattle.sets.specs.Sets.{member}
use Rattle.plans.proofs.begin.kept.Given as goal

abbrev pub invariant-loop-i : goal.invariant-loop-i
invariant-loop-i g l = Filled l.fn.zero 24 (λ i. cond (member l.set i) (get_or l.numbers i l.fn.zero) l.fn.zero) l.i l.row
