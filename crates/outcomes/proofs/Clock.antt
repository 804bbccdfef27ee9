-- Written by scripts/promises: for each public call of `clock`, no two outcomes satisfy its promise.
use Rattle.std.proofs.Common.{refl}
use Rattle.outcomes.specs.Outcomes.{OneOutcome}
use Rattle.outcomes.proofs.Same.{as_one, part_by_part}
use Rattle.clock.proofs.issue.Kinds as issue_kinds
use Rattle.clock.proofs.issue.Reads as issue_reads
use Rattle.clock.proofs.issue_from.Kinds as issue_from_kinds
use Rattle.clock.proofs.issue_from.Reads as issue_from_reads

-- clock::issue
pub one_issue : OneOutcome issue_kinds.ps issue_kinds.r issue_reads.Learnt
one_issue κs a r r' w w' p q = (as_one p.0 q.0, part_by_part (as_one p.1 q.1) refl)

-- clock::issue_from
pub one_issue_from : OneOutcome issue_from_kinds.ps issue_from_kinds.r issue_from_reads.Learnt
one_issue_from κs a r r' w w' p q = (as_one p q, refl)
