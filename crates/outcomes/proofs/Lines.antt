-- Written by scripts/promises: for each public call of `lines`, no two outcomes satisfy its promise.
use Rattle.std.proofs.Common.{refl}
use Rattle.outcomes.specs.Outcomes.{OneOutcome}
use Rattle.outcomes.proofs.Same.{as_one, part_by_part}
use Rattle.lines.proofs.refused_length.Kinds as refused_length_kinds
use Rattle.lines.proofs.refused_length.Reads as refused_length_reads
use Rattle.lines.proofs.write_refused.Kinds as write_refused_kinds
use Rattle.lines.proofs.write_refused.Reads as write_refused_reads
use Rattle.lines.proofs.count_from.Kinds as count_from_kinds
use Rattle.lines.proofs.count_from.Reads as count_from_reads
use Rattle.lines.proofs.count_on.Kinds as count_on_kinds
use Rattle.lines.proofs.count_on.Reads as count_on_reads
use Rattle.lines.proofs.write_counted.Kinds as write_counted_kinds
use Rattle.lines.proofs.write_counted.Reads as write_counted_reads

-- lines::refused_length
pub one_refused_length : OneOutcome refused_length_kinds.ps refused_length_kinds.r refused_length_reads.Learnt
one_refused_length κs a r r' w w' p q = (as_one p q, refl)

-- lines::write_refused
pub one_write_refused : OneOutcome write_refused_kinds.ps write_refused_kinds.r write_refused_reads.Learnt
one_write_refused κs a r r' w w' p q = (as_one p.0 q.0, part_by_part (as_one p.1 q.1) refl)

-- lines::count_from
pub one_count_from : OneOutcome count_from_kinds.ps count_from_kinds.r count_from_reads.Learnt
one_count_from κs a r r' w w' p q = (as_one p.0 q.0, part_by_part (as_one p.1 q.1) refl)

-- lines::count_on
pub one_count_on : OneOutcome count_on_kinds.ps count_on_kinds.r count_on_reads.Learnt
one_count_on κs a r r' w w' p q = (as_one p.0 q.0, part_by_part (as_one p.1 q.1) refl)

-- lines::write_counted
pub one_write_counted : OneOutcome write_counted_kinds.ps write_counted_kinds.r write_counted_reads.Learnt
one_write_counted κs a r r' w w' p q = (as_one p.0 q.0, part_by_part (as_one p.1 q.1) refl)
