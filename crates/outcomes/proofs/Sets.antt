-- Written by scripts/promises: for each public call of `sets`, no two outcomes satisfy its promise.
use Rattle.std.proofs.Common.{refl}
use Rattle.outcomes.specs.Outcomes.{OneOutcome}
use Rattle.outcomes.proofs.Same.{as_one}
use Rattle.sets.proofs.has.Kinds as has_kinds
use Rattle.sets.proofs.has.Reads as has_reads
use Rattle.sets.proofs.with.Kinds as with_kinds
use Rattle.sets.proofs.with.Reads as with_reads
use Rattle.sets.proofs.join.Kinds as join_kinds
use Rattle.sets.proofs.join.Reads as join_reads
use Rattle.sets.proofs.meet.Kinds as meet_kinds
use Rattle.sets.proofs.meet.Reads as meet_reads
use Rattle.sets.proofs.is_inside.Kinds as is_inside_kinds
use Rattle.sets.proofs.is_inside.Reads as is_inside_reads
use Rattle.sets.proofs.count.Kinds as count_kinds
use Rattle.sets.proofs.count.Reads as count_reads
use Rattle.sets.proofs.of_items.Kinds as of_items_kinds
use Rattle.sets.proofs.of_items.Reads as of_items_reads

-- sets::has
pub one_has : OneOutcome has_kinds.ps has_kinds.r has_reads.Learnt
one_has κs a r r' w w' p q = (as_one p q, refl)

-- sets::with
pub one_with : OneOutcome with_kinds.ps with_kinds.r with_reads.Learnt
one_with κs a r r' w w' p q = (as_one p q, refl)

-- sets::join
pub one_join : OneOutcome join_kinds.ps join_kinds.r join_reads.Learnt
one_join κs a r r' w w' p q = (as_one p q, refl)

-- sets::meet
pub one_meet : OneOutcome meet_kinds.ps meet_kinds.r meet_reads.Learnt
one_meet κs a r r' w w' p q = (as_one p q, refl)

-- sets::is_inside
pub one_is_inside : OneOutcome is_inside_kinds.ps is_inside_kinds.r is_inside_reads.Learnt
one_is_inside κs a r r' w w' p q = (as_one p q, refl)

-- sets::count
pub one_count : OneOutcome count_kinds.ps count_kinds.r count_reads.Learnt
one_count κs a r r' w w' p q = (as_one p q, refl)

-- sets::of_items
pub one_of_items : OneOutcome of_items_kinds.ps of_items_kinds.r of_items_reads.Learnt
one_of_items κs a r r' w w' p q = (as_one p q, refl)
