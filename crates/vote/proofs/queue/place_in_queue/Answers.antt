-- `vote::queue::place_in_queue` meets its contract: a loop that returns the first place.
use Rattle.std.proofs.Common.{ap}
use Rattle.std.specs.Prelude.{eqb}
use borrow.Author.Tests.{eq-eqb, ne_eqb}
use Rattle.kit.proofs.Loops.{missed_none, missed_more, first_found, first_over}
use Rattle.vote.specs.Queue.{place_in_queue}
use Rattle.vote.proofs.queue.place_in_queue.Goals as goal

pub loop-i-init : goal.loop-i-init
loop-i-init c = missed_none

pub returns-then-queued_at-p : goal.returns-then-queued_at-p
unfolding place_in_queue
returns-then-queued_at-p c =
    rw (← c.from-end.ensures) (first_found c.loop-i.invariant c.loop-i-test.true (ap (λ x. eqb x c.args.p) c.queued_at.ensures) (eq-eqb _ _ c.if-queued_at-p.true))

pub loop-i-preserved : goal.loop-i-preserved
loop-i-preserved c = missed_more c.loop-i.invariant c.loop-i-test.true (ap (λ x. eqb x c.args.p) c.queued_at.ensures) (ne_eqb _ _ c.if-queued_at-p.false)

pub returns : goal.returns
unfolding place_in_queue
returns c = rw (← c.from-end.ensures) (first_over c.loop-i.invariant c.loop-i-test.false)
