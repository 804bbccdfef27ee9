-- `steps::acting::retire` meets its contract: no request has the stamp.
use Rattle.steps.specs.Numbers.{retire_number}
use Rattle.steps.proofs.Ways.{no_place}
use Rattle.steps.proofs.acting.retire.Goals as goal

pub returns-in_default-clause-answer : goal.returns-in_default-clause-answer
unfolding retire_number
returns-in_default-clause-answer c ss vs = rw (no_place c.args.t.now c.args.a.stamp c.place_with.ensures.value c.in_default.is)
