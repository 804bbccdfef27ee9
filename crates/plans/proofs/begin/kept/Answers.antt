-- `plans::begin::kept` meets its contract: an array filled from the front.
use Rattle.kit.proofs.Listings.{filled_end}
use Rattle.plans.proofs.begin.kept.Goals as goal

pub returns : goal.returns
returns g c = filled_end _ _ _ _ _ c.loop-i-test.false c.loop-i.invariant
