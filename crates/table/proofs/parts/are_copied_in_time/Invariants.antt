-- `table::parts::are_copied_in_time` meets its contract: a loop that returns at the first that fails, and knows that the last one passed.
use mathlib.Core.Path.{◌≡◌}
use mathlib.Core.Bool.{true}
use lib.ListN.{get_or}
use Rattle.kit.proofs.Loops.{Held}
use Rattle.table.proofs.Runs.{stamp_right}
use Rattle.table.proofs.parts.are_copied_in_time.Given as goal

abbrev pub invariant-loop-stamp : goal.invariant-loop-stamp
invariant-loop-stamp l = Held 24 (λ k. stamp_right l.n l.lasts (get_or l.copied k 0)) l.stamp-index × (stamp_right l.n l.lasts l.last ≡ true)
