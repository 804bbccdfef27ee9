-- Written by scripts/promises: for each public call of `stream`, no two outcomes satisfy its promise.
use Rattle.std.proofs.Common.{refl}
use Rattle.outcomes.specs.Outcomes.{OneOutcome}
use Rattle.outcomes.proofs.Same.{as_one}
use Rattle.stream.proofs.print_night.Kinds as print_night_kinds
use Rattle.stream.proofs.print_night.Reads as print_night_reads
use Rattle.stream.proofs.print_night_and_files.Kinds as print_night_and_files_kinds
use Rattle.stream.proofs.print_night_and_files.Reads as print_night_and_files_reads

-- stream::print_night
pub one_print_night : OneOutcome print_night_kinds.ps print_night_kinds.r print_night_reads.Learnt
one_print_night κs a r r' w w' p q = (as_one p q, refl)

-- stream::print_night_and_files
pub one_print_night_and_files : OneOutcome print_night_and_files_kinds.ps print_night_and_files_kinds.r print_night_and_files_reads.Learnt
one_print_night_and_files κs a r r' w w' p q = (as_one p q, refl)
