-- `table::parts::times_queued` meets its contract: a loop that counts each place where it meets it.
use Rattle.table.proofs.Marked.{Tallied}
use Rattle.table.proofs.parts.times_queued.Given as goal

abbrev pub invariant-loop-place : goal.invariant-loop-place
invariant-loop-place l = Tallied l.queue l.place-index l.times
