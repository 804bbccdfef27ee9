-- Written by scripts/promises: for each public call of `pool`, no two outcomes satisfy its promise.
use Rattle.std.proofs.Common.{refl}
use Rattle.outcomes.specs.Outcomes.{OneOutcome}
use Rattle.outcomes.proofs.Same.{as_one, part_by_part}
use Rattle.pool.proofs.drop_at.Kinds as drop_at_kinds
use Rattle.pool.proofs.drop_at.Reads as drop_at_reads
use Rattle.pool.proofs.drop_from.Kinds as drop_from_kinds
use Rattle.pool.proofs.drop_from.Reads as drop_from_reads
use Rattle.pool.proofs.lowest_free.Kinds as lowest_free_kinds
use Rattle.pool.proofs.lowest_free.Reads as lowest_free_reads
use Rattle.pool.proofs.lowest_free_in.Kinds as lowest_free_in_kinds
use Rattle.pool.proofs.lowest_free_in.Reads as lowest_free_in_reads

-- pool::drop_at
pub one_drop_at : OneOutcome drop_at_kinds.ps drop_at_kinds.r drop_at_reads.Learnt
one_drop_at κs a r r' w w' p q = (refl, part_by_part (as_one p q) refl)

-- pool::drop_from
pub one_drop_from : OneOutcome drop_from_kinds.ps drop_from_kinds.r drop_from_reads.Learnt
one_drop_from κs a r r' w w' p q = (as_one p q, refl)

-- pool::lowest_free
pub one_lowest_free : OneOutcome lowest_free_kinds.ps lowest_free_kinds.r lowest_free_reads.Learnt
one_lowest_free κs a r r' w w' p q = (as_one p q, refl)

-- pool::lowest_free_in
pub one_lowest_free_in : OneOutcome lowest_free_in_kinds.ps lowest_free_in_kinds.r lowest_free_in_reads.Learnt
one_lowest_free_in κs a r r' w w' p q = (as_one p q, refl)
