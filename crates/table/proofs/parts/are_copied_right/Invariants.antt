-- `table::parts::are_copied_right` meets its contract: a loop that makes all tests.
use mathlib.Core.Path.{◌≡◌}
use lib.IntN.{pos}
use lib.ListN.{length, get_or}
use Rattle.kit.specs.Range.{all}
use Rattle.table.specs.Parts.{value_right}
use Rattle.table.proofs.parts.are_copied_right.Given as goal

abbrev pub invariant-loop-stamp : goal.invariant-loop-stamp
invariant-loop-stamp l = l.right ≡ all (length l.yielded) (λ i. value_right (get_or l.copied i 0) (get_or l.values i (pos 0)))
