-- `vote::verdicts::write_items` meets its contract. The loop's invariant: the update items that are gone are written.
use Rattle.sets.proofs.Lowest.{Done}
use Rattle.vote.proofs.WrittenItems.{Written}
use Rattle.vote.proofs.verdicts.write_items.Given as goal

abbrev pub invariant-loop-left : goal.invariant-loop-left
invariant-loop-left l = Done 24 l.q.update (Written l.initial.stamps l.initial.values l.q l.stamps l.values) l.left

abbrev pub decreases-loop-left : goal.decreases-loop-left
decreases-loop-left l = l.left
