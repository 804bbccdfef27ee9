-- Written by scripts/promises: for each public call of `table`, no two outcomes satisfy its promise.
use Rattle.std.proofs.Common.{refl}
use Rattle.outcomes.specs.Outcomes.{OneOutcome}
use Rattle.outcomes.proofs.Same.{as_one}
use Rattle.table.proofs.blank.is_blank_vote.Kinds as is_blank_vote_kinds
use Rattle.table.proofs.blank.is_blank_vote.Reads as is_blank_vote_reads
use Rattle.table.proofs.blank.is_blank_request.Kinds as is_blank_request_kinds
use Rattle.table.proofs.blank.is_blank_request.Reads as is_blank_request_reads
use Rattle.table.proofs.blank.is_holding_nothing.Kinds as is_holding_nothing_kinds
use Rattle.table.proofs.blank.is_holding_nothing.Reads as is_holding_nothing_reads
use Rattle.table.proofs.blank.is_blank_site.Kinds as is_blank_site_kinds
use Rattle.table.proofs.blank.is_blank_site.Reads as is_blank_site_reads
use Rattle.table.proofs.blank.is_blank_message.Kinds as is_blank_message_kinds
use Rattle.table.proofs.blank.is_blank_message.Reads as is_blank_message_reads
use Rattle.table.proofs.fresh.blank_site.Kinds as blank_site_kinds
use Rattle.table.proofs.fresh.blank_site.Reads as blank_site_reads
use Rattle.table.proofs.fresh.blank_message.Kinds as blank_message_kinds
use Rattle.table.proofs.fresh.blank_message.Reads as blank_message_reads
use Rattle.table.proofs.fresh.fresh.Kinds as fresh_kinds
use Rattle.table.proofs.fresh.fresh.Reads as fresh_reads
use Rattle.table.proofs.marks.lasts_of.Kinds as lasts_of_kinds
use Rattle.table.proofs.marks.lasts_of.Reads as lasts_of_reads
use Rattle.table.proofs.requests.are_sets_allowed.Kinds as are_sets_allowed_kinds
use Rattle.table.proofs.requests.are_sets_allowed.Reads as are_sets_allowed_reads
use Rattle.table.proofs.requests.are_base_stamps_allowed.Kinds as are_base_stamps_allowed_kinds
use Rattle.table.proofs.requests.are_base_stamps_allowed.Reads as are_base_stamps_allowed_reads
use Rattle.table.proofs.requests.are_values_allowed.Kinds as are_values_allowed_kinds
use Rattle.table.proofs.requests.are_values_allowed.Reads as are_values_allowed_reads
use Rattle.table.proofs.requests.is_request_allowed.Kinds as is_request_allowed_kinds
use Rattle.table.proofs.requests.is_request_allowed.Reads as is_request_allowed_reads
use Rattle.table.proofs.sound.sound.Kinds as sound_kinds
use Rattle.table.proofs.sound.sound.Reads as sound_reads

-- table::blank::is_blank_vote
pub one_is_blank_vote : OneOutcome is_blank_vote_kinds.ps is_blank_vote_kinds.r is_blank_vote_reads.Learnt
one_is_blank_vote κs a r r' w w' p q = (as_one p q, refl)

-- table::blank::is_blank_request
pub one_is_blank_request : OneOutcome is_blank_request_kinds.ps is_blank_request_kinds.r is_blank_request_reads.Learnt
one_is_blank_request κs a r r' w w' p q = (as_one p q, refl)

-- table::blank::is_holding_nothing
pub one_is_holding_nothing : OneOutcome is_holding_nothing_kinds.ps is_holding_nothing_kinds.r is_holding_nothing_reads.Learnt
one_is_holding_nothing κs a r r' w w' p q = (as_one p q, refl)

-- table::blank::is_blank_site
pub one_is_blank_site : OneOutcome is_blank_site_kinds.ps is_blank_site_kinds.r is_blank_site_reads.Learnt
one_is_blank_site κs a r r' w w' p q = (as_one p q, refl)

-- table::blank::is_blank_message
pub one_is_blank_message : OneOutcome is_blank_message_kinds.ps is_blank_message_kinds.r is_blank_message_reads.Learnt
one_is_blank_message κs a r r' w w' p q = (as_one p q, refl)

-- table::fresh::blank_site
pub one_blank_site : OneOutcome blank_site_kinds.ps blank_site_kinds.r blank_site_reads.Learnt
one_blank_site κs a r r' w w' p q = (as_one p q, refl)

-- table::fresh::blank_message
pub one_blank_message : OneOutcome blank_message_kinds.ps blank_message_kinds.r blank_message_reads.Learnt
one_blank_message κs a r r' w w' p q = (as_one p q, refl)

-- table::fresh::fresh
pub one_fresh : OneOutcome fresh_kinds.ps fresh_kinds.r fresh_reads.Learnt
one_fresh κs a r r' w w' p q = (as_one p q, refl)

-- table::marks::lasts_of
pub one_lasts_of : OneOutcome lasts_of_kinds.ps lasts_of_kinds.r lasts_of_reads.Learnt
one_lasts_of κs a r r' w w' p q = (as_one p q, refl)

-- table::requests::are_sets_allowed
pub one_are_sets_allowed : OneOutcome are_sets_allowed_kinds.ps are_sets_allowed_kinds.r are_sets_allowed_reads.Learnt
one_are_sets_allowed κs a r r' w w' p q = (as_one p q, refl)

-- table::requests::are_base_stamps_allowed
pub one_are_base_stamps_allowed : OneOutcome are_base_stamps_allowed_kinds.ps are_base_stamps_allowed_kinds.r are_base_stamps_allowed_reads.Learnt
one_are_base_stamps_allowed κs a r r' w w' p q = (as_one p q, refl)

-- table::requests::are_values_allowed
pub one_are_values_allowed : OneOutcome are_values_allowed_kinds.ps are_values_allowed_kinds.r are_values_allowed_reads.Learnt
one_are_values_allowed κs a r r' w w' p q = (as_one p q, refl)

-- table::requests::is_request_allowed
pub one_is_request_allowed : OneOutcome is_request_allowed_kinds.ps is_request_allowed_kinds.r is_request_allowed_reads.Learnt
one_is_request_allowed κs a r r' w w' p q = (as_one p q, refl)

-- table::sound::sound
pub one_sound : OneOutcome sound_kinds.ps sound_kinds.r sound_reads.Learnt
one_sound κs a r r' w w' p q = (as_one p q, refl)
