-- `table::parts::is_queue_end_blank` meets its contract: a loop that returns at the first that fails computes `all`.
use lib.Dec.{eqb, leb}
use Rattle.kit.specs.Range.{implies}
use Rattle.kit.proofs.Loops.{Held}
use Rattle.vote.specs.Queue.{queued_at}
use Rattle.table.proofs.parts.is_queue_end_blank.Given as goal

abbrev pub invariant-loop-i : goal.invariant-loop-i
invariant-loop-i l = Held 16 (λ k. implies (leb l.waiting k) (eqb (queued_at l.queue k) 0)) l.i
