-- `vote::queue::place_in_queue` meets its contract: a loop that returns the first place.
use Rattle.std.specs.Prelude.{eqb}
use Rattle.kit.proofs.Loops.{Missed}
use Rattle.vote.specs.Queue.{queued_at}
use Rattle.vote.proofs.queue.place_in_queue.Given as goal

abbrev pub invariant-loop-i : goal.invariant-loop-i
invariant-loop-i l = Missed l.end (λ k. eqb (queued_at l.queue k) l.p) l.i
