-- The bench cases, computed. On a sound table the test of soundness is passed over: every step keeps the table sound.
use Prim.Native.Nat.{ℕ, ◌≤◌}
use native.Mathlib.Omega.{arith}
use borrow.Author.Tests.{le-leb}
use mathlib.Core.List.{List, [], ◌∷◌}
use mathlib.Core.Path.{◌≡◌, refl, ap}
use Rattle.kit.specs.Lists.{listed, changed, without}
use Rattle.kit.specs.Range.{any, all, first, largest, passing}
use Rattle.plans.specs.Changes.{stored}
use Rattle.plans.specs.Answers.{Answer}
use Rattle.sets.specs.Sets.{member, meets, inside, size, of_items}
use Rattle.stamps.specs.Issue.{issued}
use Rattle.stamps.specs.Stamps.{issued_form, well_formed, largest_time, next_time, higher}
use Rattle.majority.specs.Majority.{majority, blocking}
use Rattle.readings.specs.Readings.{in_range}
use Rattle.record.specs.declared.Step.{Step}
use Rattle.vote.specs.Consider.{newer_copy, older_copy, in_way, in_way_above, blocked_above, blocked, considered}
use Rattle.vote.specs.Data.{is_pending, blank_request, request_in, heads_of}
use Rattle.vote.specs.Queue.{queue_joined, count_joined, joins_queue, leaves_queue, place_in_queue}
use Rattle.vote.specs.Requests.{covers, conflicts}
use Rattle.vote.specs.Verdicts.{verdict_due, writes_item, written_up_to, written_site, released, noted, decided, ruled}
use Rattle.vote.specs.Voters.{knows, voters_of, only_voter, join_up_to, join_voters, has_voter, voter_list, voters_in, voters_known, clear_up_to, clear_voters, no_row, no_known}
use Rattle.vote.specs.Voting.{marked, counts_itself, voted, deferred, kept_outcome, voted_from_queue}
use Rattle.walk.specs.Hearing.{settled, taken_up, heard, received}
use Rattle.walk.specs.Walking.{looked_over, walk_up_to, walked, accepts, rejects}
use Rattle.table.specs.Fresh.{blank_site, blank_message, blank_table, fresh_for}
use Rattle.table.specs.Sound.{sets_allowed, base_stamps_allowed, values_allowed, request_allowed}
use Rattle.table.specs.declared.data.Table.{Table}
use Rattle.table.proofs.FreshSound.{fresh_means, fresh_shaped}
use Rattle.table.proofs.Meaning.{meant}
use Rattle.steps.specs.Numbers.{free_place, free_message, place_of, cannot_tell, no_message_at, begin_number, tell_number, deliver_number}
use Rattle.steps.specs.Steps.{stepped, entered, begun, told, delivered, advanced}
use Rattle.steps.proofs.Upkeep.{Well, advanced_well}
use Rattle.demand.specs.Examples.{Standing, evening}
use Rattle.demand.proofs.Examples.{sure_all, sure}
use Rattle.cases.specs.Cases.{EveryRow, bench_cases, table_after, answers_from, answers_to, issues, numbers, verdict_counts, all_say, copy_at, second_comes, first_comes, then_second, u_spreads, a_spreads, word_comes_late, verdict_comes_late, begins_wide, begins_narrow}

-- ---- answers on a sound table, without its test

unfoldable sure_from : Table → List Step → List Answer
sure_from t [] = []
sure_from t (a ∷ rest) = (advanced t a).answer ∷ sure_from (advanced t a).table rest

all_sure : (t : Table) (steps : List Step) → Well t → answers_from t steps ≡ sure_from t steps
unfolding answers_from sure_from stepped
all_sure t [] w = refl
all_sure t (a ∷ rest) w = rw (meant t w.sound, all_sure (advanced t a).table rest (advanced_well t a w))

surely : (n : ℕ) → 1 ≤ n → n ≤ 7 → (steps : List Step) → answers_to n steps ≡ sure_from (fresh_for n).table steps
unfolding fresh_for
surely n low high steps = all_sure (fresh_for n).table steps (rw (le-leb 1 n low, le-leb n 7 high) (record { sound = fresh_means n low high; shaped = fresh_shaped n }))

answers_1 : (steps : List Step) → answers_to 1 steps ≡ sure_from (fresh_for 1).table steps
answers_1 = surely 1 (omega arith) (omega arith)

answers_2 : (steps : List Step) → answers_to 2 steps ≡ sure_from (fresh_for 2).table steps
answers_2 = surely 2 (omega arith) (omega arith)

answers_3 : (steps : List Step) → answers_to 3 steps ≡ sure_from (fresh_for 3).table steps
answers_3 = surely 3 (omega arith) (omega arith)

-- ---- and tables

said_1 : (steps : List Step) (asked : List (ℕ × ℕ)) → all_say (table_after 1 steps) asked ≡ all_say (sure_all (evening 1) steps).table asked
said_1 steps asked = ap (λ (s : Standing). all_say s.table asked) (sure 1 (omega arith) (omega arith) steps)

said_2 : (steps : List Step) (asked : List (ℕ × ℕ)) → all_say (table_after 2 steps) asked ≡ all_say (sure_all (evening 2) steps).table asked
said_2 steps asked = ap (λ (s : Standing). all_say s.table asked) (sure 2 (omega arith) (omega arith) steps)

said_3 : (steps : List Step) (asked : List (ℕ × ℕ)) → all_say (table_after 3 steps) asked ≡ all_say (sure_all (evening 3) steps).table asked
said_3 steps asked = ap (λ (s : Standing). all_say s.table asked) (sure 3 (omega arith) (omega arith) steps)

-- ---- the statement

infixr 5 ◌also◌
-- one row more
◌also◌ : {A B : Type 0} → A → B → A × B
e also h = (e, h)

pub cases_hold : EveryRow bench_cases
unfolding sure_from sure_all listed changed without any all first largest passing member meets inside size of_items issued issued_form well_formed largest_time next_time higher majority blocking in_range newer_copy older_copy in_way in_way_above blocked_above blocked considered is_pending blank_request request_in heads_of queue_joined count_joined joins_queue leaves_queue place_in_queue covers conflicts verdict_due writes_item written_up_to written_site released noted decided ruled knows voters_of only_voter join_up_to join_voters has_voter voter_list voters_in voters_known clear_up_to clear_voters no_row no_known marked counts_itself voted deferred kept_outcome voted_from_queue settled taken_up heard received looked_over walk_up_to walked accepts rejects blank_site blank_message blank_table fresh_for sets_allowed base_stamps_allowed values_allowed request_allowed free_place free_message place_of cannot_tell no_message_at begin_number tell_number deliver_number stored entered begun told delivered advanced
cases_hold =
    refl
    also refl
    also ap issues (answers_3 _)
    also ap issues (answers_3 _)
    also ap issues (answers_3 _)
    also said_3 second_comes ((1, 8001) ∷ (1, 8002) ∷ [])
    also said_3 first_comes ((2, 8002) ∷ (2, 8001) ∷ [])
    also ap verdict_counts (answers_1 _)
    also said_1 (begins_wide ∷ begins_narrow ∷ []) ((1, 8001) ∷ (1, 8009) ∷ [])
    also ap verdict_counts (answers_1 _)
    also said_1 (begins_narrow ∷ begins_wide ∷ []) ((1, 8001) ∷ (1, 8009) ∷ [])
    also said_2 first_comes ((2, 8002) ∷ (2, 8001) ∷ [])
    also said_2 then_second ((1, 8002) ∷ [])
    also ap verdict_counts (answers_2 _)
    also said_3 u_spreads ((2, 8001) ∷ (1, 8001) ∷ [])
    also said_3 a_spreads ((2, 8010) ∷ (1, 8010) ∷ [])
    also said_3 word_comes_late ((3, 8010) ∷ (3, 8001) ∷ [])
    also said_3 verdict_comes_late ((3, 8001) ∷ [])
    also ap (λ (s : Standing). copy_at s.table 3) (sure 3 (omega arith) (omega arith) verdict_comes_late)
    also ap verdict_counts (answers_3 _)
    also ap numbers (answers_1 _)
    also tt
