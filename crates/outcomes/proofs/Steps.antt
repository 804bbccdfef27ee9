-- Written by scripts/promises: for each public call of `steps`, no two outcomes satisfy its promise.
use Rattle.std.proofs.Common.{refl}
use Rattle.outcomes.specs.Outcomes.{OneOutcome}
use Rattle.outcomes.proofs.Same.{as_one, part_by_part}
use Rattle.plans.proofs.Told.{same_results}
use Rattle.steps.proofs.Told.{same_ran}
use Rattle.steps.proofs.run.run.Kinds as run_kinds
use Rattle.steps.proofs.run.run.Reads as run_reads
use Rattle.steps.proofs.step.step.Kinds as step_kinds
use Rattle.steps.proofs.step.step.Reads as step_reads

-- steps::run::run
pub one_run : OneOutcome run_kinds.ps run_kinds.r run_reads.Learnt
one_run κs a r r' w w' p q = (same_ran r r' _ _ (as_one p.0 q.0), part_by_part (as_one p.1.0 q.1.0) (part_by_part refl (part_by_part refl (part_by_part (as_one p.1.1.0 q.1.1.0) refl))))

-- steps::step::step
pub one_step : OneOutcome step_kinds.ps step_kinds.r step_reads.Learnt
one_step κs a r r' w w' p q = (same_results r r' (as_one p.0 q.0), part_by_part (as_one p.1 q.1) refl)
