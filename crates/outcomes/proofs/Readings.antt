-- Written by scripts/promises: for each public call of `readings`, no two outcomes satisfy its promise.
use Rattle.std.proofs.Common.{refl}
use Rattle.outcomes.specs.Outcomes.{OneOutcome}
use Rattle.outcomes.proofs.Same.{as_one}
use Rattle.readings.proofs.movement_of.Kinds as movement_of_kinds
use Rattle.readings.proofs.movement_of.Reads as movement_of_reads
use Rattle.readings.proofs.position_of.Kinds as position_of_kinds
use Rattle.readings.proofs.position_of.Reads as position_of_reads
use Rattle.readings.proofs.is_in_range.Kinds as is_in_range_kinds
use Rattle.readings.proofs.is_in_range.Reads as is_in_range_reads
use Rattle.readings.proofs.is_zero.Kinds as is_zero_kinds
use Rattle.readings.proofs.is_zero.Reads as is_zero_reads

-- readings::movement_of
pub one_movement_of : OneOutcome movement_of_kinds.ps movement_of_kinds.r movement_of_reads.Learnt
one_movement_of κs a r r' w w' p q = (as_one p q, refl)

-- readings::position_of
pub one_position_of : OneOutcome position_of_kinds.ps position_of_kinds.r position_of_reads.Learnt
one_position_of κs a r r' w w' p q = (as_one p q, refl)

-- readings::is_in_range
pub one_is_in_range : OneOutcome is_in_range_kinds.ps is_in_range_kinds.r is_in_range_reads.Learnt
one_is_in_range κs a r r' w w' p q = (as_one p q, refl)

-- readings::is_zero
pub one_is_zero : OneOutcome is_zero_kinds.ps is_zero_kinds.r is_zero_reads.Learnt
one_is_zero κs a r r' w w' p q = (as_one p q, refl)
