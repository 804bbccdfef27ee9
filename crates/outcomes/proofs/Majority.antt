-- Written by scripts/promises: for each public call of `majority`, no two outcomes satisfy its promise.
use Rattle.std.proofs.Common.{refl}
use Rattle.outcomes.specs.Outcomes.{OneOutcome}
use Rattle.outcomes.proofs.Same.{as_one}
use Rattle.majority.proofs.to_accept.Kinds as to_accept_kinds
use Rattle.majority.proofs.to_accept.Reads as to_accept_reads
use Rattle.majority.proofs.to_reject.Kinds as to_reject_kinds
use Rattle.majority.proofs.to_reject.Reads as to_reject_reads

-- majority::to_accept
pub one_to_accept : OneOutcome to_accept_kinds.ps to_accept_kinds.r to_accept_reads.Learnt
one_to_accept κs a r r' w w' p q = (as_one p q, refl)

-- majority::to_reject
pub one_to_reject : OneOutcome to_reject_kinds.ps to_reject_kinds.r to_reject_reads.Learnt
one_to_reject κs a r r' w w' p q = (as_one p q, refl)
