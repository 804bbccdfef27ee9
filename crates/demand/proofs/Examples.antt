-- The nights of specs/Examples are nights of demand 3, and what happens in them, computed.
use Prim.Native.Nat.{ℕ, ◌≤◌}
use native.Mathlib.Omega.{arith}
use borrow.Author.Tests.{le-leb}
use lib.Dec.{eqb}
use mathlib.Core.Bool.{cond}
use mathlib.Core.List.{List, [], ◌∷◌, ◌++◌}
use mathlib.Core.Path.{◌≡◌, refl, ap, ◌∙◌}
use Rattle.demand.specs.Examples.{Standing, onward, after_all, evening, played, Small, alone, early, caught_up, late, settled_late, rivals, Shown}
use Rattle.plans.specs.Changes.{stored, forgotten}
use Rattle.table.specs.Places.{site_at, place_at, mark_at, verdict_at}
use lib.ListN.{get_or}
use Rattle.demand.specs.Nights.{Night, fresh, after, happened}
use Rattle.kit.specs.Lists.{listed, changed, without}
use Rattle.kit.specs.Range.{any, all, first, largest, passing}
use Rattle.sets.specs.Sets.{member, meets, inside, size, of_items}
use Rattle.stamps.specs.Issue.{issued}
use Rattle.stamps.specs.Stamps.{issued_form, well_formed, largest_time, next_time, higher}
use Rattle.majority.specs.Majority.{majority, blocking}
use Rattle.readings.specs.Readings.{in_range}
use Rattle.vote.specs.Consider.{newer_copy, older_copy, in_way, in_way_above, blocked_above, blocked, considered}
use Rattle.vote.specs.Data.{is_pending, blank_request, request_in, heads_of}
use Rattle.vote.specs.Queue.{queue_joined, count_joined, joins_queue, leaves_queue, place_in_queue}
use Rattle.vote.specs.Requests.{covers, conflicts}
use Rattle.vote.specs.Verdicts.{verdict_due, writes_item, written_up_to, written_site, released, noted, decided, ruled}
use Rattle.vote.specs.Voters.{knows, voters_of, only_voter, join_up_to, join_voters, has_voter, voter_list, voters_in, voters_known, clear_up_to, clear_voters, no_row, no_known}
use Rattle.vote.specs.Voting.{marked, counts_itself, voted, deferred, kept_outcome, voted_from_queue}
use Rattle.walk.specs.Hearing.{settled, taken_up, heard, received}
use Rattle.walk.specs.Walking.{looked_over, walk_up_to, walked, accepts, rejects}
use Rattle.table.specs.Fresh.{blank_site, blank_message, blank_table, fresh_for}
use Rattle.table.specs.Sound.{sets_allowed, base_stamps_allowed, values_allowed, request_allowed}
use Rattle.steps.specs.Numbers.{free_place, free_message, place_of, cannot_tell, no_message_at, cannot_retire, begin_number, tell_number, deliver_number, retire_number}
use Rattle.steps.specs.Steps.{stepped, entered, begun, told, delivered, retired, advanced}
use Rattle.demand.specs.Nights.{all_said, in_begin, in_deliver}
use Rattle.record.specs.declared.Step.{Step}
use Rattle.table.proofs.FreshSound.{fresh_means, fresh_shaped}
use Rattle.table.proofs.Meaning.{meant}
use Rattle.steps.proofs.Upkeep.{Well, advanced_well}

-- ---- a night on a sound table, without its test

-- one step more, where the table is sound
abbrev pub surely : Standing → Step → Standing
surely x a = record {
  table = (advanced x.table a).table;
  history = cond (eqb a.code 1) (in_begin x.table a) (cond (eqb a.code 3) (in_deliver x.table a) []) ++ x.history;
}

unfoldable pub sure_all : Standing → List Step → Standing
sure_all x [] = x
sure_all x (a ∷ rest) = sure_all (surely x a) rest

is_sure : (x : Standing) (a : Step) → Well x.table → onward x a ≡ surely x a
unfolding stepped happened
is_sure x a w = rw (meant x.table w.sound)

all_sure : (x : Standing) (steps : List Step) → Well x.table → after_all x steps ≡ sure_all x steps
unfolding after_all sure_all
all_sure x [] w = refl
all_sure x (a ∷ rest) w = ap (λ (y : Standing). after_all y rest) (is_sure x a w) ∙ all_sure (surely x a) rest (advanced_well x.table a w)

-- so a night is computed without testing soundness at each step
pub sure : (n : ℕ) → 1 ≤ n → n ≤ 7 → (steps : List Step) → played n steps ≡ sure_all (evening n) steps
unfolding fresh_for
sure n low high steps = all_sure (evening n) steps (rw (le-leb 1 n low, le-leb n 7 high) (record { sound = fresh_means n low high; shaped = fresh_shaped n }))

-- and it is a night of demand 3
pub is_night : (n : ℕ) → 1 ≤ n → n ≤ 7 → (steps : List Step) → Small steps → Night (played n steps).table (played n steps).history
unfolding after_all Small
is_night n low high steps small = going (evening n) (fresh n low high) steps small
  where
    going : (x : Standing) → Night x.table x.history → (steps : List Step) → Small steps → Night (after_all x steps).table (after_all x steps).history
    going x w [] small = w
    going x w (a ∷ rest) small = going (onward x a) (after w a small.0) rest small.1

one : (steps : List Step) → played 1 steps ≡ sure_all (evening 1) steps
one = sure 1 (omega arith) (omega arith)

three : (steps : List Step) → played 3 steps ≡ sure_all (evening 3) steps
three = sure 3 (omega arith) (omega arith)

pub shown : Shown
unfolding sure_all listed changed without any all first largest passing member meets inside size of_items issued issued_form well_formed largest_time next_time higher majority blocking in_range newer_copy older_copy in_way in_way_above blocked_above blocked considered is_pending blank_request request_in heads_of queue_joined count_joined joins_queue leaves_queue place_in_queue covers conflicts verdict_due writes_item written_up_to written_site released noted decided ruled knows voters_of only_voter join_up_to join_voters has_voter voter_list voters_in voters_known clear_up_to clear_voters no_row no_known marked counts_itself voted deferred kept_outcome voted_from_queue settled taken_up heard received looked_over walk_up_to walked accepts rejects blank_site blank_message blank_table fresh_for sets_allowed base_stamps_allowed values_allowed request_allowed free_place free_message place_of cannot_tell no_message_at cannot_retire begin_number tell_number deliver_number retire_number stored entered begun told delivered forgotten retired advanced all_said in_begin in_deliver
shown = record {
  alone_says = ap (λ (s : Standing). s.history) (one alone);
  alone_holds = ap (λ (s : Standing). place_at s.table 0) (one alone);
  early_waits = ap (λ (s : Standing). mark_at s.table 2 1) (three early);
  caught_up_lem = ap (λ (s : Standing). s.history) (three caught_up);
  late_says = ap (λ (s : Standing). s.history) (three late);
  late_open = ap (λ (s : Standing). verdict_at s.table 2 0) (three late);
  late_accepts = ap (λ (s : Standing). verdict_at s.table 2 0) (three settled_late);
  late_keeps = ap (λ (s : Standing). get_or (site_at s.table 2).stamps 0 0) (three settled_late);
  rivals_say = ap (λ (s : Standing). s.history) (three rivals);
}
