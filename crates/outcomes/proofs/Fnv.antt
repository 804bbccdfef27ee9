-- Written by scripts/promises: for each public call of `fnv`, no two outcomes satisfy its promise.
use Rattle.std.proofs.Common.{refl}
use Rattle.outcomes.specs.Outcomes.{OneOutcome}
use Rattle.outcomes.proofs.Same.{as_one}
use Rattle.fnv.proofs.wrapping_mul.Kinds as wrapping_mul_kinds
use Rattle.fnv.proofs.wrapping_mul.Reads as wrapping_mul_reads
use Rattle.fnv.proofs.with_byte.Kinds as with_byte_kinds
use Rattle.fnv.proofs.with_byte.Reads as with_byte_reads
use Rattle.fnv.proofs.check.Kinds as check_kinds
use Rattle.fnv.proofs.check.Reads as check_reads

-- fnv::wrapping_mul
pub one_wrapping_mul : OneOutcome wrapping_mul_kinds.ps wrapping_mul_kinds.r wrapping_mul_reads.Learnt
one_wrapping_mul κs a r r' w w' p q = (as_one p q, refl)

-- fnv::with_byte
pub one_with_byte : OneOutcome with_byte_kinds.ps with_byte_kinds.r with_byte_reads.Learnt
one_with_byte κs a r r' w w' p q = (as_one p q, refl)

-- fnv::check
pub one_check : OneOutcome check_kinds.ps check_kinds.r check_reads.Learnt
one_check κs a r r' w w' p q = (as_one p q, refl)
