-- Written by scripts/promises: for each public call of `walk`, no two outcomes satisfy its promise.
use Rattle.std.proofs.Common.{refl}
use Rattle.outcomes.specs.Outcomes.{OneOutcome}
use Rattle.outcomes.proofs.Same.{as_one, part_by_part}
use Rattle.walk.proofs.hearing.take_up.Kinds as take_up_kinds
use Rattle.walk.proofs.hearing.take_up.Reads as take_up_reads
use Rattle.walk.proofs.hearing.receive.Kinds as receive_kinds
use Rattle.walk.proofs.hearing.receive.Reads as receive_reads
use Rattle.walk.proofs.walking.one_if_accepted.Kinds as one_if_accepted_kinds
use Rattle.walk.proofs.walking.one_if_accepted.Reads as one_if_accepted_reads
use Rattle.walk.proofs.walking.one_if_rejected.Kinds as one_if_rejected_kinds
use Rattle.walk.proofs.walking.one_if_rejected.Reads as one_if_rejected_reads
use Rattle.walk.proofs.walking.resolve.Kinds as resolve_kinds
use Rattle.walk.proofs.walking.resolve.Reads as resolve_reads

-- walk::hearing::take_up
pub one_take_up : OneOutcome take_up_kinds.ps take_up_kinds.r take_up_reads.Learnt
one_take_up κs a r r' w w' p q = (as_one p.1 q.1, part_by_part refl (part_by_part (as_one p.0 q.0) refl))

-- walk::hearing::receive
pub one_receive : OneOutcome receive_kinds.ps receive_kinds.r receive_reads.Learnt
one_receive κs a r r' w w' p q = (as_one p.1 q.1, part_by_part refl (part_by_part (as_one p.0 q.0) refl))

-- walk::walking::one_if_accepted
pub one_one_if_accepted : OneOutcome one_if_accepted_kinds.ps one_if_accepted_kinds.r one_if_accepted_reads.Learnt
one_one_if_accepted κs a r r' w w' p q = (as_one p q, refl)

-- walk::walking::one_if_rejected
pub one_one_if_rejected : OneOutcome one_if_rejected_kinds.ps one_if_rejected_kinds.r one_if_rejected_reads.Learnt
one_one_if_rejected κs a r r' w w' p q = (as_one p q, refl)

-- walk::walking::resolve
pub one_resolve : OneOutcome resolve_kinds.ps resolve_kinds.r resolve_reads.Learnt
one_resolve κs a r r' w w' p q = (as_one p.1 q.1, part_by_part refl (part_by_part (as_one p.0 q.0) refl))
