-- Written by scripts/promises: for each public call of `house`, no two outcomes satisfy its promise.
use Rattle.std.proofs.Common.{refl}
use Rattle.outcomes.specs.Outcomes.{OneOutcome}
use Rattle.outcomes.proofs.Same.{as_one, part_by_part}
use Rattle.house.proofs.Told.{same_printed}
use Rattle.house.proofs.vundrelt_night_length.Kinds as vundrelt_night_length_kinds
use Rattle.house.proofs.vundrelt_night_length.Reads as vundrelt_night_length_reads
use Rattle.house.proofs.vundrelt_night.Kinds as vundrelt_night_kinds
use Rattle.house.proofs.vundrelt_night.Reads as vundrelt_night_reads
use Rattle.house.proofs.vundrelt_read_site_file.Kinds as vundrelt_read_site_file_kinds
use Rattle.house.proofs.vundrelt_read_site_file.Reads as vundrelt_read_site_file_reads
use Rattle.house.proofs.vundrelt_write_site_file.Kinds as vundrelt_write_site_file_kinds
use Rattle.house.proofs.vundrelt_write_site_file.Reads as vundrelt_write_site_file_reads
use Rattle.house.proofs.night.night_length.Kinds as night_length_kinds
use Rattle.house.proofs.night.night_length.Reads as night_length_reads
use Rattle.house.proofs.night.print_night.Kinds as print_night_kinds
use Rattle.house.proofs.night.print_night.Reads as print_night_reads

-- house::vundrelt_night_length
pub one_vundrelt_night_length : OneOutcome vundrelt_night_length_kinds.ps vundrelt_night_length_kinds.r vundrelt_night_length_reads.Learnt
one_vundrelt_night_length κs a r r' w w' p q = (as_one p q, refl)

-- house::vundrelt_night
pub one_vundrelt_night : OneOutcome vundrelt_night_kinds.ps vundrelt_night_kinds.r vundrelt_night_reads.Learnt
one_vundrelt_night κs a r r' w w' p q = (as_one p.0 q.0, part_by_part refl (part_by_part (as_one p.1.1 q.1.1) (part_by_part (as_one p.1.0 q.1.0) refl)))

-- house::vundrelt_read_site_file
pub one_vundrelt_read_site_file : OneOutcome vundrelt_read_site_file_kinds.ps vundrelt_read_site_file_kinds.r vundrelt_read_site_file_reads.Learnt
one_vundrelt_read_site_file κs a r r' w w' p q = (as_one p.0 q.0, part_by_part refl (part_by_part (as_one p.1.0 q.1.0) (part_by_part (as_one p.1.1.0 q.1.1.0) (part_by_part (as_one p.1.1.1 q.1.1.1) refl))))

-- house::vundrelt_write_site_file
pub one_vundrelt_write_site_file : OneOutcome vundrelt_write_site_file_kinds.ps vundrelt_write_site_file_kinds.r vundrelt_write_site_file_reads.Learnt
one_vundrelt_write_site_file κs a r r' w w' p q = (as_one p.0 q.0, part_by_part refl (part_by_part refl (part_by_part refl (part_by_part (as_one p.1.1 q.1.1) (part_by_part (as_one p.1.0 q.1.0) refl)))))

-- house::night::night_length
pub one_night_length : OneOutcome night_length_kinds.ps night_length_kinds.r night_length_reads.Learnt
one_night_length κs a r r' w w' p q = (as_one p q, refl)

-- house::night::print_night
pub one_print_night : OneOutcome print_night_kinds.ps print_night_kinds.r print_night_reads.Learnt
one_print_night κs a r r' w w' p q = (same_printed r r' (as_one p.0 q.0), part_by_part refl (part_by_part (as_one p.1 q.1) refl))
