-- `table::parts::is_queue_exact` meets its contract: the places that wait, and then how often each stands there.
use Rattle.table.proofs.Queueing.{queue_strange, queue_right}
use Rattle.table.proofs.parts.is_queue_exact.Goals as goal

pub returns-then-are_places : goal.returns-then-are_places
returns-then-are_places c =
    queue_right c.args.waiting c.args.queue.now c.args.votes.now c.told-queue c.from-w.ensures c.if-w-gt16.false c.are_places.ensures c.if-are_places.true c.times_queued.ensures c.are_queued_right.ensures

pub returns-else-are_places : goal.returns-else-are_places
returns-else-are_places c = queue_strange c.args.waiting c.args.queue.now c.args.votes.now c.told-queue c.from-w.ensures c.if-w-gt16.false c.are_places.ensures c.if-are_places.false
