-- Written by scripts/promises: for each public call of `stamps`, no two outcomes satisfy its promise.
use Rattle.std.proofs.Common.{refl}
use Rattle.outcomes.specs.Outcomes.{OneOutcome}
use Rattle.outcomes.proofs.Same.{as_one}
use Rattle.stamps.proofs.time_of.Kinds as time_of_kinds
use Rattle.stamps.proofs.time_of.Reads as time_of_reads
use Rattle.stamps.proofs.digit_of.Kinds as digit_of_kinds
use Rattle.stamps.proofs.digit_of.Reads as digit_of_reads
use Rattle.stamps.proofs.stamp_of.Kinds as stamp_of_kinds
use Rattle.stamps.proofs.stamp_of.Reads as stamp_of_reads
use Rattle.stamps.proofs.is_issued_form.Kinds as is_issued_form_kinds
use Rattle.stamps.proofs.is_issued_form.Reads as is_issued_form_reads
use Rattle.stamps.proofs.is_well_formed.Kinds as is_well_formed_kinds
use Rattle.stamps.proofs.is_well_formed.Reads as is_well_formed_reads
use Rattle.stamps.proofs.is_higher.Kinds as is_higher_kinds
use Rattle.stamps.proofs.is_higher.Reads as is_higher_reads
use Rattle.stamps.proofs.largest_time.Kinds as largest_time_kinds
use Rattle.stamps.proofs.largest_time.Reads as largest_time_reads
use Rattle.stamps.proofs.next_time.Kinds as next_time_kinds
use Rattle.stamps.proofs.next_time.Reads as next_time_reads
use Rattle.stamps.proofs.issue_stamp.Kinds as issue_stamp_kinds
use Rattle.stamps.proofs.issue_stamp.Reads as issue_stamp_reads

-- stamps::time_of
pub one_time_of : OneOutcome time_of_kinds.ps time_of_kinds.r time_of_reads.Learnt
one_time_of κs a r r' w w' p q = (as_one p q, refl)

-- stamps::digit_of
pub one_digit_of : OneOutcome digit_of_kinds.ps digit_of_kinds.r digit_of_reads.Learnt
one_digit_of κs a r r' w w' p q = (as_one p q, refl)

-- stamps::stamp_of
pub one_stamp_of : OneOutcome stamp_of_kinds.ps stamp_of_kinds.r stamp_of_reads.Learnt
one_stamp_of κs a r r' w w' p q = (as_one p q, refl)

-- stamps::is_issued_form
pub one_is_issued_form : OneOutcome is_issued_form_kinds.ps is_issued_form_kinds.r is_issued_form_reads.Learnt
one_is_issued_form κs a r r' w w' p q = (as_one p q, refl)

-- stamps::is_well_formed
pub one_is_well_formed : OneOutcome is_well_formed_kinds.ps is_well_formed_kinds.r is_well_formed_reads.Learnt
one_is_well_formed κs a r r' w w' p q = (as_one p q, refl)

-- stamps::is_higher
pub one_is_higher : OneOutcome is_higher_kinds.ps is_higher_kinds.r is_higher_reads.Learnt
one_is_higher κs a r r' w w' p q = (as_one p q, refl)

-- stamps::largest_time
pub one_largest_time : OneOutcome largest_time_kinds.ps largest_time_kinds.r largest_time_reads.Learnt
one_largest_time κs a r r' w w' p q = (as_one p.0 q.0, refl)

-- stamps::next_time
pub one_next_time : OneOutcome next_time_kinds.ps next_time_kinds.r next_time_reads.Learnt
one_next_time κs a r r' w w' p q = (as_one p q, refl)

-- stamps::issue_stamp
pub one_issue_stamp : OneOutcome issue_stamp_kinds.ps issue_stamp_kinds.r issue_stamp_reads.Learnt
one_issue_stamp κs a r r' w w' p q = (as_one p q, refl)
