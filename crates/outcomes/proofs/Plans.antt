-- Written by scripts/promises: for each public call of `plans`, no two outcomes satisfy its promise.
use Rattle.std.proofs.Common.{refl}
use Rattle.outcomes.specs.Outcomes.{OneOutcome}
use Rattle.outcomes.proofs.Same.{as_one, part_by_part}
use Rattle.plans.proofs.answer.Results.quiet.Kinds as results_quiet_kinds
use Rattle.plans.proofs.answer.Results.quiet.Reads as results_quiet_reads
use Rattle.plans.proofs.begin.stamp_for.Kinds as stamp_for_kinds
use Rattle.plans.proofs.begin.stamp_for.Reads as stamp_for_reads
use Rattle.plans.proofs.begin.stored.Kinds as stored_kinds
use Rattle.plans.proofs.begin.stored.Reads as stored_reads
use Rattle.plans.proofs.free.FreePlaces.among.Kinds as freeplaces_among_kinds
use Rattle.plans.proofs.free.FreePlaces.among.Reads as freeplaces_among_reads
use Rattle.plans.proofs.free.FreePlaces.lowest.Kinds as freeplaces_lowest_kinds
use Rattle.plans.proofs.free.FreePlaces.lowest.Reads as freeplaces_lowest_reads
use Rattle.plans.proofs.free.FreePlaces.take.Kinds as freeplaces_take_kinds
use Rattle.plans.proofs.free.FreePlaces.take.Reads as freeplaces_take_reads
use Rattle.plans.proofs.free.FreePlaces.give.Kinds as freeplaces_give_kinds
use Rattle.plans.proofs.free.FreePlaces.give.Reads as freeplaces_give_reads
use Rattle.plans.proofs.messages.has_word.Kinds as has_word_kinds
use Rattle.plans.proofs.messages.has_word.Reads as has_word_reads
use Rattle.plans.proofs.messages.message_from.Kinds as message_from_kinds
use Rattle.plans.proofs.messages.message_from.Reads as message_from_reads
use Rattle.plans.proofs.places.free_place.Kinds as free_place_kinds
use Rattle.plans.proofs.places.free_place.Reads as free_place_reads
use Rattle.plans.proofs.places.place_with.Kinds as place_with_kinds
use Rattle.plans.proofs.places.place_with.Reads as place_with_reads
use Rattle.plans.proofs.retire.is_held_back.Kinds as is_held_back_kinds
use Rattle.plans.proofs.retire.is_held_back.Reads as is_held_back_reads
use Rattle.plans.proofs.retire.forget.Kinds as forget_kinds
use Rattle.plans.proofs.retire.forget.Reads as forget_reads
use Rattle.plans.proofs.retire.forget_everywhere.Kinds as forget_everywhere_kinds
use Rattle.plans.proofs.retire.forget_everywhere.Reads as forget_everywhere_reads
use Rattle.plans.proofs.sites.is_site.Kinds as is_site_kinds
use Rattle.plans.proofs.sites.is_site.Reads as is_site_reads
use Rattle.plans.proofs.sites.is_up.Kinds as is_up_kinds
use Rattle.plans.proofs.sites.is_up.Reads as is_up_reads

-- plans::answer::Results::quiet
pub one_results_quiet : OneOutcome results_quiet_kinds.ps results_quiet_kinds.r results_quiet_reads.Learnt
one_results_quiet κs a r r' w w' p q = (as_one p q, refl)

-- plans::begin::stamp_for
pub one_stamp_for : OneOutcome stamp_for_kinds.ps stamp_for_kinds.r stamp_for_reads.Learnt
one_stamp_for κs a r r' w w' p q = (as_one p q, refl)

-- plans::begin::stored
pub one_stored : OneOutcome stored_kinds.ps stored_kinds.r stored_reads.Learnt
one_stored κs a r r' w w' p q = (as_one p q, refl)

-- plans::free::FreePlaces::among
pub one_freeplaces_among : OneOutcome freeplaces_among_kinds.ps freeplaces_among_kinds.r freeplaces_among_reads.Learnt
one_freeplaces_among κs a r r' w w' p q = (as_one p q, refl)

-- plans::free::FreePlaces::lowest
pub one_freeplaces_lowest : OneOutcome freeplaces_lowest_kinds.ps freeplaces_lowest_kinds.r freeplaces_lowest_reads.Learnt
one_freeplaces_lowest κs a r r' w w' p q = (as_one p.0 q.0, refl)

-- plans::free::FreePlaces::take
pub one_freeplaces_take : OneOutcome freeplaces_take_kinds.ps freeplaces_take_kinds.r freeplaces_take_reads.Learnt
one_freeplaces_take κs a r r' w w' p q = (refl, part_by_part (as_one p q) refl)

-- plans::free::FreePlaces::give
pub one_freeplaces_give : OneOutcome freeplaces_give_kinds.ps freeplaces_give_kinds.r freeplaces_give_reads.Learnt
one_freeplaces_give κs a r r' w w' p q = (refl, part_by_part (as_one p q) refl)

-- plans::messages::has_word
pub one_has_word : OneOutcome has_word_kinds.ps has_word_kinds.r has_word_reads.Learnt
one_has_word κs a r r' w w' p q = (as_one p q, refl)

-- plans::messages::message_from
pub one_message_from : OneOutcome message_from_kinds.ps message_from_kinds.r message_from_reads.Learnt
one_message_from κs a r r' w w' p q = (as_one p q, refl)

-- plans::places::free_place
pub one_free_place : OneOutcome free_place_kinds.ps free_place_kinds.r free_place_reads.Learnt
one_free_place κs a r r' w w' p q = (as_one p.0 q.0, refl)

-- plans::places::place_with
pub one_place_with : OneOutcome place_with_kinds.ps place_with_kinds.r place_with_reads.Learnt
one_place_with κs a r r' w w' p q = (as_one p.0 q.0, refl)

-- plans::retire::is_held_back
pub one_is_held_back : OneOutcome is_held_back_kinds.ps is_held_back_kinds.r is_held_back_reads.Learnt
one_is_held_back κs a r r' w w' p q = (as_one p q, refl)

-- plans::retire::forget
pub one_forget : OneOutcome forget_kinds.ps forget_kinds.r forget_reads.Learnt
one_forget κs a r r' w w' p q = (refl, part_by_part (as_one p q) refl)

-- plans::retire::forget_everywhere
pub one_forget_everywhere : OneOutcome forget_everywhere_kinds.ps forget_everywhere_kinds.r forget_everywhere_reads.Learnt
one_forget_everywhere κs a r r' w w' p q = (refl, part_by_part (as_one p q) refl)

-- plans::sites::is_site
pub one_is_site : OneOutcome is_site_kinds.ps is_site_kinds.r is_site_reads.Learnt
one_is_site κs a r r' w w' p q = (as_one p q, refl)

-- plans::sites::is_up
pub one_is_up : OneOutcome is_up_kinds.ps is_up_kinds.r is_up_reads.Learnt
one_is_up κs a r r' w w' p q = (as_one p.0 q.0, refl)
