-- Written by scripts/promises: for each public call of `sitefile`, no two outcomes satisfy its promise.
use Rattle.std.proofs.Common.{refl}
use Rattle.outcomes.specs.Outcomes.{OneOutcome}
use Rattle.outcomes.proofs.Same.{as_one, part_by_part}
use Rattle.sitefile.proofs.Told.{same_file, same_written}
use Rattle.sitefile.proofs.read_site_file.Kinds as read_site_file_kinds
use Rattle.sitefile.proofs.read_site_file.Reads as read_site_file_reads
use Rattle.sitefile.proofs.write_site_file.Kinds as write_site_file_kinds
use Rattle.sitefile.proofs.write_site_file.Reads as write_site_file_reads

-- sitefile::read_site_file
pub one_read_site_file : OneOutcome read_site_file_kinds.ps read_site_file_kinds.r read_site_file_reads.Learnt
one_read_site_file κs a r r' w w' p q = (same_file r r' (as_one p q), refl)

-- sitefile::write_site_file
pub one_write_site_file : OneOutcome write_site_file_kinds.ps write_site_file_kinds.r write_site_file_reads.Learnt
one_write_site_file κs a r r' w w' p q = (same_written r r' (as_one p.0 q.0), part_by_part (as_one p.1 q.1) refl)
