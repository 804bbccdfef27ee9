-- `plans::retire::forget_everywhere` meets its contract: after each turn one site more has forgotten.
use Rattle.kit.proofs.Turns.{turned_none, turned_more}
use Rattle.plans.specs.Changes.{forgotten}
use Rattle.plans.proofs.retire.forget_everywhere.Goals as goal

pub loop-s-init : goal.loop-s-init
loop-s-init c = turned_none _ _ _ _

pub loop-s-preserved : goal.loop-s-preserved
unfolding forgotten
loop-s-preserved c = turned_more _ _ _ _ c.loop-s.invariant c.loop-s-test.true c.forget.ensures
