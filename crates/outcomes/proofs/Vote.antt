-- Written by scripts/promises: for each public call of `vote`, no two outcomes satisfy its promise.
use Rattle.std.proofs.Common.{refl}
use Rattle.outcomes.specs.Outcomes.{OneOutcome, OneOutcomeBehind}
use Rattle.outcomes.proofs.Same.{as_one, part_by_part}
use Rattle.vote.proofs.consider.is_ok.Kinds as is_ok_kinds
use Rattle.vote.proofs.consider.is_ok.Reads as is_ok_reads
use Rattle.vote.proofs.consider.is_deferred.Kinds as is_deferred_kinds
use Rattle.vote.proofs.consider.is_deferred.Reads as is_deferred_reads
use Rattle.vote.proofs.consider.is_other.Kinds as is_other_kinds
use Rattle.vote.proofs.consider.is_other.Reads as is_other_reads
use Rattle.vote.proofs.consider.is_unmarked.Kinds as is_unmarked_kinds
use Rattle.vote.proofs.consider.is_unmarked.Reads as is_unmarked_reads
use Rattle.vote.proofs.consider.is_open.Kinds as is_open_kinds
use Rattle.vote.proofs.consider.is_open.Reads as is_open_reads
use Rattle.vote.proofs.consider.is_pending.Kinds as is_pending_kinds
use Rattle.vote.proofs.consider.is_pending.Reads as is_pending_reads
use Rattle.vote.proofs.consider.is_newer.Kinds as is_newer_kinds
use Rattle.vote.proofs.consider.is_newer.Reads as is_newer_reads
use Rattle.vote.proofs.consider.is_older.Kinds as is_older_kinds
use Rattle.vote.proofs.consider.is_older.Reads as is_older_reads
use Rattle.vote.proofs.consider.is_blocked.Kinds as is_blocked_kinds
use Rattle.vote.proofs.consider.is_blocked.Reads as is_blocked_reads
use Rattle.vote.proofs.consider.is_blocked_above.Kinds as is_blocked_above_kinds
use Rattle.vote.proofs.consider.is_blocked_above.Reads as is_blocked_above_reads
use Rattle.vote.proofs.consider.weigh.Kinds as weigh_kinds
use Rattle.vote.proofs.consider.weigh.Reads as weigh_reads
use Rattle.vote.proofs.consider.consider.Kinds as consider_kinds
use Rattle.vote.proofs.consider.consider.Reads as consider_reads
use Rattle.vote.proofs.consider.mark_of.Kinds as mark_of_kinds
use Rattle.vote.proofs.consider.mark_of.Reads as mark_of_reads
use Rattle.vote.proofs.consider.is_deferral.Kinds as is_deferral_kinds
use Rattle.vote.proofs.consider.is_deferral.Reads as is_deferral_reads
use Rattle.vote.proofs.numbers.mark_number.Kinds as mark_number_kinds
use Rattle.vote.proofs.numbers.mark_number.Reads as mark_number_reads
use Rattle.vote.proofs.numbers.mark_from.Kinds as mark_from_kinds
use Rattle.vote.proofs.numbers.mark_from.Reads as mark_from_reads
use Rattle.vote.proofs.numbers.verdict_number.Kinds as verdict_number_kinds
use Rattle.vote.proofs.numbers.verdict_number.Reads as verdict_number_reads
use Rattle.vote.proofs.numbers.verdict_from.Kinds as verdict_from_kinds
use Rattle.vote.proofs.numbers.verdict_from.Reads as verdict_from_reads
use Rattle.vote.proofs.numbers.vote_number.Kinds as vote_number_kinds
use Rattle.vote.proofs.numbers.vote_number.Reads as vote_number_reads
use Rattle.vote.proofs.numbers.vote_from.Kinds as vote_from_kinds
use Rattle.vote.proofs.numbers.vote_from.Reads as vote_from_reads
use Rattle.vote.proofs.queue.queued_at.Kinds as queued_at_kinds
use Rattle.vote.proofs.queue.queued_at.Reads as queued_at_reads
use Rattle.vote.proofs.queue.join_queue.Kinds as join_queue_kinds
use Rattle.vote.proofs.queue.join_queue.Reads as join_queue_reads
use Rattle.vote.proofs.queue.move_up.Kinds as move_up_kinds
use Rattle.vote.proofs.queue.move_up.Reads as move_up_reads
use Rattle.vote.proofs.queue.leave_queue.Kinds as leave_queue_kinds
use Rattle.vote.proofs.queue.leave_queue.Reads as leave_queue_reads
use Rattle.vote.proofs.queue.place_in_queue.Kinds as place_in_queue_kinds
use Rattle.vote.proofs.queue.place_in_queue.Reads as place_in_queue_reads
use Rattle.vote.proofs.requests.blank_request.Kinds as blank_request_kinds
use Rattle.vote.proofs.requests.blank_request.Reads as blank_request_reads
use Rattle.vote.proofs.requests.head_of.Kinds as head_of_kinds
use Rattle.vote.proofs.requests.head_of.Reads as head_of_reads
use Rattle.vote.proofs.requests.is_covering.Kinds as is_covering_kinds
use Rattle.vote.proofs.requests.is_covering.Reads as is_covering_reads
use Rattle.vote.proofs.requests.is_conflicting.Kinds as is_conflicting_kinds
use Rattle.vote.proofs.requests.is_conflicting.Reads as is_conflicting_reads
use Rattle.vote.proofs.requests.is_outranking.Kinds as is_outranking_kinds
use Rattle.vote.proofs.requests.is_outranking.Reads as is_outranking_reads
use Rattle.vote.proofs.requests.is_concurrent.Kinds as is_concurrent_kinds
use Rattle.vote.proofs.requests.is_concurrent.Reads as is_concurrent_reads
use Rattle.vote.proofs.requests.request_in.Kinds as request_in_kinds
use Rattle.vote.proofs.requests.request_in.Reads as request_in_reads
use Rattle.vote.proofs.verdicts.verdict_due.Kinds as verdict_due_kinds
use Rattle.vote.proofs.verdicts.verdict_due.Reads as verdict_due_reads
use Rattle.vote.proofs.verdicts.release.Kinds as release_kinds
use Rattle.vote.proofs.verdicts.release.Reads as release_reads
use Rattle.vote.proofs.verdicts.note_verdict.Kinds as note_verdict_kinds
use Rattle.vote.proofs.verdicts.note_verdict.Reads as note_verdict_reads
use Rattle.vote.proofs.verdicts.write_request.Kinds as write_request_kinds
use Rattle.vote.proofs.verdicts.write_request.Reads as write_request_reads
use Rattle.vote.proofs.verdicts.rule.Kinds as rule_kinds
use Rattle.vote.proofs.verdicts.rule.Reads as rule_reads
use Rattle.vote.proofs.voters.voters_of.Kinds as voters_of_kinds
use Rattle.vote.proofs.voters.voters_of.Reads as voters_of_reads
use Rattle.vote.proofs.voters.join_voter.Kinds as join_voter_kinds
use Rattle.vote.proofs.voters.join_voter.Reads as join_voter_reads
use Rattle.vote.proofs.voters.join_voters.Kinds as join_voters_kinds
use Rattle.vote.proofs.voters.join_voters.Reads as join_voters_reads
use Rattle.vote.proofs.voters.clear_voters.Kinds as clear_voters_kinds
use Rattle.vote.proofs.voters.clear_voters.Reads as clear_voters_reads
use Rattle.vote.proofs.voters.no_known.Kinds as no_known_kinds
use Rattle.vote.proofs.voters.no_known.Reads as no_known_reads
use Rattle.vote.proofs.voters.no_voters.Kinds as no_voters_kinds
use Rattle.vote.proofs.voters.no_voters.Reads as no_voters_reads
use Rattle.vote.proofs.voters.has_voter.Kinds as has_voter_kinds
use Rattle.vote.proofs.voters.has_voter.Reads as has_voter_reads
use Rattle.vote.proofs.voters.is_no_voter.Kinds as is_no_voter_kinds
use Rattle.vote.proofs.voters.is_no_voter.Reads as is_no_voter_reads
use Rattle.vote.proofs.voters.is_none_known.Kinds as is_none_known_kinds
use Rattle.vote.proofs.voters.is_none_known.Reads as is_none_known_reads
use Rattle.vote.proofs.voters.count_voters.Kinds as count_voters_kinds
use Rattle.vote.proofs.voters.count_voters.Reads as count_voters_reads
use Rattle.vote.proofs.voters.count_known.Kinds as count_known_kinds
use Rattle.vote.proofs.voters.count_known.Reads as count_known_reads
use Rattle.vote.proofs.voters.is_known.Kinds as is_known_kinds
use Rattle.vote.proofs.voters.is_known.Reads as is_known_reads
use Rattle.vote.proofs.voters.are_known_among.Kinds as are_known_among_kinds
use Rattle.vote.proofs.voters.are_known_among.Reads as are_known_among_reads
use Rattle.vote.proofs.voting.vote_at.Kinds as vote_at_kinds
use Rattle.vote.proofs.voting.vote_at.Reads as vote_at_reads
use Rattle.vote.proofs.voting.put_mark.Kinds as put_mark_kinds
use Rattle.vote.proofs.voting.put_mark.Reads as put_mark_reads
use Rattle.vote.proofs.voting.cast_vote.Kinds as cast_vote_kinds
use Rattle.vote.proofs.voting.cast_vote.Reads as cast_vote_reads
use Rattle.vote.proofs.voting.defer.Kinds as defer_kinds
use Rattle.vote.proofs.voting.defer.Reads as defer_reads

-- vote::consider::is_ok
pub one_is_ok : OneOutcome is_ok_kinds.ps is_ok_kinds.r is_ok_reads.Learnt
one_is_ok κs a r r' w w' p q = (as_one p q, refl)

-- vote::consider::is_deferred
pub one_is_deferred : OneOutcome is_deferred_kinds.ps is_deferred_kinds.r is_deferred_reads.Learnt
one_is_deferred κs a r r' w w' p q = (as_one p q, refl)

-- vote::consider::is_other
pub one_is_other : OneOutcome is_other_kinds.ps is_other_kinds.r is_other_reads.Learnt
one_is_other κs a r r' w w' p q = (as_one p q, refl)

-- vote::consider::is_unmarked
pub one_is_unmarked : OneOutcome is_unmarked_kinds.ps is_unmarked_kinds.r is_unmarked_reads.Learnt
one_is_unmarked κs a r r' w w' p q = (as_one p q, refl)

-- vote::consider::is_open
pub one_is_open : OneOutcome is_open_kinds.ps is_open_kinds.r is_open_reads.Learnt
one_is_open κs a r r' w w' p q = (as_one p q, refl)

-- vote::consider::is_pending
pub one_is_pending : OneOutcome is_pending_kinds.ps is_pending_kinds.r is_pending_reads.Learnt
one_is_pending κs a r r' w w' p q = (as_one p q, refl)

-- vote::consider::is_newer
pub one_is_newer : OneOutcome is_newer_kinds.ps is_newer_kinds.r is_newer_reads.Learnt
one_is_newer κs a r r' w w' p q = (as_one p q, refl)

-- vote::consider::is_older
pub one_is_older : OneOutcome is_older_kinds.ps is_older_kinds.r is_older_reads.Learnt
one_is_older κs a r r' w w' p q = (as_one p q, refl)

-- vote::consider::is_blocked
pub one_is_blocked : OneOutcome is_blocked_kinds.ps is_blocked_kinds.r is_blocked_reads.Learnt
one_is_blocked κs a r r' w w' p q = (as_one p q, refl)

-- vote::consider::is_blocked_above
pub one_is_blocked_above : OneOutcome is_blocked_above_kinds.ps is_blocked_above_kinds.r is_blocked_above_reads.Learnt
one_is_blocked_above κs a r r' w w' p q = (as_one p q, refl)

-- vote::consider::weigh
pub one_weigh : OneOutcome weigh_kinds.ps weigh_kinds.r weigh_reads.Learnt
one_weigh κs a r r' w w' p q = (as_one p q, refl)

-- vote::consider::consider
pub one_consider : OneOutcome consider_kinds.ps consider_kinds.r consider_reads.Learnt
one_consider κs a r r' w w' p q = (as_one p q, refl)

-- vote::consider::mark_of
pub one_mark_of : OneOutcome mark_of_kinds.ps mark_of_kinds.r mark_of_reads.Learnt
one_mark_of κs a r r' w w' p q = (as_one p q, refl)

-- vote::consider::is_deferral
pub one_is_deferral : OneOutcome is_deferral_kinds.ps is_deferral_kinds.r is_deferral_reads.Learnt
one_is_deferral κs a r r' w w' p q = (as_one p q, refl)

-- vote::numbers::mark_number
pub one_mark_number : OneOutcome mark_number_kinds.ps mark_number_kinds.r mark_number_reads.Learnt
one_mark_number κs a r r' w w' p q = (as_one p q, refl)

-- vote::numbers::mark_from
pub one_mark_from : OneOutcome mark_from_kinds.ps mark_from_kinds.r mark_from_reads.Learnt
one_mark_from κs a r r' w w' p q = (as_one p q, refl)

-- vote::numbers::verdict_number
pub one_verdict_number : OneOutcome verdict_number_kinds.ps verdict_number_kinds.r verdict_number_reads.Learnt
one_verdict_number κs a r r' w w' p q = (as_one p q, refl)

-- vote::numbers::verdict_from
pub one_verdict_from : OneOutcome verdict_from_kinds.ps verdict_from_kinds.r verdict_from_reads.Learnt
one_verdict_from κs a r r' w w' p q = (as_one p q, refl)

-- vote::numbers::vote_number
pub one_vote_number : OneOutcome vote_number_kinds.ps vote_number_kinds.r vote_number_reads.Learnt
one_vote_number κs a r r' w w' p q = (as_one p q, refl)

-- vote::numbers::vote_from
pub one_vote_from : OneOutcome vote_from_kinds.ps vote_from_kinds.r vote_from_reads.Learnt
one_vote_from κs a r r' w w' p q = (as_one p q, refl)

-- vote::queue::queued_at
pub one_queued_at : OneOutcome queued_at_kinds.ps queued_at_kinds.r queued_at_reads.Learnt
one_queued_at κs a r r' w w' p q = (as_one p q, refl)

-- vote::queue::join_queue
pub one_join_queue : OneOutcome join_queue_kinds.ps join_queue_kinds.r join_queue_reads.Learnt
one_join_queue κs a r r' w w' p q = (refl, part_by_part (as_one p q) refl)

-- vote::queue::move_up
pub one_move_up : OneOutcome move_up_kinds.ps move_up_kinds.r move_up_reads.Learnt
one_move_up κs a r r' w w' p q = (refl, part_by_part (as_one p q) refl)

-- vote::queue::leave_queue
pub one_leave_queue : OneOutcome leave_queue_kinds.ps leave_queue_kinds.r leave_queue_reads.Learnt
one_leave_queue κs a r r' w w' p q = (refl, part_by_part (as_one p q) refl)

-- vote::queue::place_in_queue
pub one_place_in_queue : OneOutcome place_in_queue_kinds.ps place_in_queue_kinds.r place_in_queue_reads.Learnt
one_place_in_queue κs a r r' w w' p q = (as_one p q, refl)

-- vote::requests::blank_request
pub one_blank_request : OneOutcome blank_request_kinds.ps blank_request_kinds.r blank_request_reads.Learnt
one_blank_request κs a r r' w w' p q = (as_one p q, refl)

-- vote::requests::head_of
pub one_head_of : OneOutcome head_of_kinds.ps head_of_kinds.r head_of_reads.Learnt
one_head_of κs a r r' w w' p q = (as_one p q, refl)

-- vote::requests::is_covering
pub one_is_covering : OneOutcome is_covering_kinds.ps is_covering_kinds.r is_covering_reads.Learnt
one_is_covering κs a r r' w w' p q = (as_one p q, refl)

-- vote::requests::is_conflicting
pub one_is_conflicting : OneOutcome is_conflicting_kinds.ps is_conflicting_kinds.r is_conflicting_reads.Learnt
one_is_conflicting κs a r r' w w' p q = (as_one p q, refl)

-- vote::requests::is_outranking
pub one_is_outranking : OneOutcome is_outranking_kinds.ps is_outranking_kinds.r is_outranking_reads.Learnt
one_is_outranking κs a r r' w w' p q = (as_one p q, refl)

-- vote::requests::is_concurrent
pub one_is_concurrent : OneOutcome is_concurrent_kinds.ps is_concurrent_kinds.r is_concurrent_reads.Learnt
one_is_concurrent κs a r r' w w' p q = (as_one p q, refl)

-- vote::requests::request_in
pub one_request_in : OneOutcomeBehind request_in_kinds.ps request_in_kinds.r request_in_reads.Learnt (λ κs x. x.now)
one_request_in κs a r r' w w' p q = (as_one p q, refl)

-- vote::verdicts::verdict_due
pub one_verdict_due : OneOutcome verdict_due_kinds.ps verdict_due_kinds.r verdict_due_reads.Learnt
one_verdict_due κs a r r' w w' p q = (as_one p q, refl)

-- vote::verdicts::release
pub one_release : OneOutcome release_kinds.ps release_kinds.r release_reads.Learnt
one_release κs a r r' w w' p q = (refl, part_by_part (as_one p q) refl)

-- vote::verdicts::note_verdict
pub one_note_verdict : OneOutcome note_verdict_kinds.ps note_verdict_kinds.r note_verdict_reads.Learnt
one_note_verdict κs a r r' w w' p q = (refl, part_by_part (as_one p q) refl)

-- vote::verdicts::write_request
pub one_write_request : OneOutcome write_request_kinds.ps write_request_kinds.r write_request_reads.Learnt
one_write_request κs a r r' w w' p q = (refl, part_by_part (as_one p q) refl)

-- vote::verdicts::rule
pub one_rule : OneOutcome rule_kinds.ps rule_kinds.r rule_reads.Learnt
one_rule κs a r r' w w' p q = (refl, part_by_part (as_one p q) refl)

-- vote::voters::voters_of
pub one_voters_of : OneOutcome voters_of_kinds.ps voters_of_kinds.r voters_of_reads.Learnt
one_voters_of κs a r r' w w' p q = (as_one p q, refl)

-- vote::voters::join_voter
pub one_join_voter : OneOutcome join_voter_kinds.ps join_voter_kinds.r join_voter_reads.Learnt
one_join_voter κs a r r' w w' p q = (refl, part_by_part (as_one p q) refl)

-- vote::voters::join_voters
pub one_join_voters : OneOutcome join_voters_kinds.ps join_voters_kinds.r join_voters_reads.Learnt
one_join_voters κs a r r' w w' p q = (refl, part_by_part (as_one p q) refl)

-- vote::voters::clear_voters
pub one_clear_voters : OneOutcome clear_voters_kinds.ps clear_voters_kinds.r clear_voters_reads.Learnt
one_clear_voters κs a r r' w w' p q = (refl, part_by_part (as_one p q) refl)

-- vote::voters::no_known
pub one_no_known : OneOutcome no_known_kinds.ps no_known_kinds.r no_known_reads.Learnt
one_no_known κs a r r' w w' p q = (as_one p q, refl)

-- vote::voters::no_voters
pub one_no_voters : OneOutcome no_voters_kinds.ps no_voters_kinds.r no_voters_reads.Learnt
one_no_voters κs a r r' w w' p q = (as_one p q, refl)

-- vote::voters::has_voter
pub one_has_voter : OneOutcome has_voter_kinds.ps has_voter_kinds.r has_voter_reads.Learnt
one_has_voter κs a r r' w w' p q = (as_one p q, refl)

-- vote::voters::is_no_voter
pub one_is_no_voter : OneOutcome is_no_voter_kinds.ps is_no_voter_kinds.r is_no_voter_reads.Learnt
one_is_no_voter κs a r r' w w' p q = (as_one p q, refl)

-- vote::voters::is_none_known
pub one_is_none_known : OneOutcome is_none_known_kinds.ps is_none_known_kinds.r is_none_known_reads.Learnt
one_is_none_known κs a r r' w w' p q = (as_one p q, refl)

-- vote::voters::count_voters
pub one_count_voters : OneOutcome count_voters_kinds.ps count_voters_kinds.r count_voters_reads.Learnt
one_count_voters κs a r r' w w' p q = (as_one p q, refl)

-- vote::voters::count_known
pub one_count_known : OneOutcome count_known_kinds.ps count_known_kinds.r count_known_reads.Learnt
one_count_known κs a r r' w w' p q = (as_one p q, refl)

-- vote::voters::is_known
pub one_is_known : OneOutcome is_known_kinds.ps is_known_kinds.r is_known_reads.Learnt
one_is_known κs a r r' w w' p q = (as_one p q, refl)

-- vote::voters::are_known_among
pub one_are_known_among : OneOutcome are_known_among_kinds.ps are_known_among_kinds.r are_known_among_reads.Learnt
one_are_known_among κs a r r' w w' p q = (as_one p q, refl)

-- vote::voting::vote_at
pub one_vote_at : OneOutcome vote_at_kinds.ps vote_at_kinds.r vote_at_reads.Learnt
one_vote_at κs a r r' w w' p q = (as_one p q, refl)

-- vote::voting::put_mark
pub one_put_mark : OneOutcome put_mark_kinds.ps put_mark_kinds.r put_mark_reads.Learnt
one_put_mark κs a r r' w w' p q = (refl, part_by_part (as_one p q) refl)

-- vote::voting::cast_vote
pub one_cast_vote : OneOutcome cast_vote_kinds.ps cast_vote_kinds.r cast_vote_reads.Learnt
one_cast_vote κs a r r' w w' p q = (refl, part_by_part (as_one p q) refl)

-- vote::voting::defer
pub one_defer : OneOutcome defer_kinds.ps defer_kinds.r defer_reads.Learnt
one_defer κs a r r' w w' p q = (refl, part_by_part (as_one p q) refl)
