-- Written by scripts/promises: for each public call of `kit`, no two outcomes satisfy its promise.
use Rattle.std.proofs.Common.{refl}
use Rattle.outcomes.specs.Outcomes.{OneOutcome}
use Rattle.outcomes.proofs.Same.{as_one, part_by_part}
use Rattle.kit.proofs.ends_inside.Kinds as ends_inside_kinds
use Rattle.kit.proofs.ends_inside.Reads as ends_inside_reads
use Rattle.kit.proofs.read_field.Kinds as read_field_kinds
use Rattle.kit.proofs.read_field.Reads as read_field_reads
use Rattle.kit.proofs.write_field.Kinds as write_field_kinds
use Rattle.kit.proofs.write_field.Reads as write_field_reads

-- kit::ends_inside
pub one_ends_inside : OneOutcome ends_inside_kinds.ps ends_inside_kinds.r ends_inside_reads.Learnt
one_ends_inside κs a r r' w w' p q = (as_one p q, refl)

-- kit::read_field
pub one_read_field : OneOutcome read_field_kinds.ps read_field_kinds.r read_field_reads.Learnt
one_read_field κs a r r' w w' p q = (as_one p q, refl)

-- kit::write_field
pub one_write_field : OneOutcome write_field_kinds.ps write_field_kinds.r write_field_reads.Learnt
one_write_field κs a r r' w w' p q = (refl, part_by_part (as_one p q) refl)
