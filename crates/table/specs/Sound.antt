-- Document 01: "A table is sound if ..", one definition for each sentence, in its order, and the list of them at the end.
use Rattle.std.specs.Prelude.{ℕ, Bool, true, not, ◌&&◌, ◌||◌, List, eqb, leb, ltb, ℤ, pos, get_or}
use Rattle.kit.specs.Range.{all, one, number, implies}
use Rattle.majority.specs.Majority.{majority, blocking}
use Rattle.readings.specs.Readings.{in_range, is_zero}
use Rattle.sets.specs.Sets.{member, inside, of_items}
use Rattle.stamps.specs.Stamps.{time_of, issued_form, well_formed}
use Rattle.vote.specs.Data.{is_ok_vote, is_other, is_unmarked, is_deferred, is_open, vote_at}
use Rattle.vote.specs.Queue.{queued_at}
use Rattle.vote.specs.Voters.{knows, has_voter, none_known, voters_known}
use Rattle.vote.specs.declared.data.Request.{Request}
use Rattle.vote.specs.declared.data.Site.{Site}
use Rattle.vote.specs.declared.data.Verdict.{Verdict}
use Rattle.vote.specs.declared.data.Verdict.TheVariants as verdict
use Rattle.table.specs.Blank.{is_blank_request, holds_nothing, is_blank_site, is_blank_message}
use Rattle.table.specs.Places.{site_at, message_at, place_at, used_place, is_site, mark_at, verdict_at, last_of}
use Rattle.table.specs.declared.data.Message.{Message}
use Rattle.table.specs.declared.data.Table.{Table}

-- ---- "the site count is 1 to 7 and unused sites and places are blank"

unfoldable pub count_right : Table → Bool
count_right t = leb 1 t.count && leb t.count 7

unfoldable pub unused_sites_blank : Table → Bool
unused_sites_blank t = all 7 (λ k. implies (not (is_site t k)) (is_blank_site (site_at t k)))

-- a free request place is blank, and so is what each site holds of it
unfoldable pub free_places_blank : Table → Bool
free_places_blank t = all 16 (λ p. implies (not (used_place t p)) (is_blank_request (place_at t p) && all 7 (λ k. holds_nothing (site_at t k) p)))

-- the queue's places behind its end are 0
unfoldable pub queue_ends_blank : Table → Bool
queue_ends_blank t = all 7 (λ k. all 16 (λ i. implies (leb (site_at t k).waiting i) (eqb (queued_at (site_at t k).queue i) 0)))

unfoldable pub unused_messages_blank : Table → Bool
unused_messages_blank t = all 64 (λ j. implies (not (message_at t j).used) (is_blank_message (message_at t j)))

-- ---- "used requests pass checks 5, 6 and 7 and have distinct well-formed stamps other than 0"

-- check 5: "update set empty or outside base, or an item above 23 in either"
unfoldable pub sets_allowed : ℕ → ℕ → Bool
sets_allowed base update = not (eqb update 0) && (inside update base && of_items base)

-- check 6: "base stamp not well formed"
unfoldable pub base_stamps_allowed : ℕ → ℕ → List ℕ → Bool
base_stamps_allowed n base stamps = all 24 (λ i. implies (member base i) (well_formed n (get_or stamps i 0)))

-- check 7: "update value out of range"
unfoldable pub values_allowed : ℕ → List ℤ → Bool
values_allowed update values = all 24 (λ i. implies (member update i) (in_range (get_or values i (pos 0))))

unfoldable pub request_allowed : ℕ → Request → Bool
request_allowed n q =
    sets_allowed q.base q.update && (base_stamps_allowed n q.base q.stamps && values_allowed q.update q.values)

unfoldable pub requests_allowed : Table → Bool
requests_allowed t = all 16 (λ p. implies (used_place t p) (request_allowed t.count (place_at t p) && issued_form t.count (place_at t p).stamp))

unfoldable pub stamps_distinct : Table → Bool
stamps_distinct t = all 16 (λ p. implies (used_place t p) (all p (λ q. not (eqb (place_at t q).stamp (place_at t p).stamp))))

-- ---- "no request or copy stamp has a t above its site's last"

unfoldable pub request_times : Table → Bool
request_times t = all 16 (λ p. leb (time_of (place_at t p).stamp) (last_of t (place_at t p).stamp))

unfoldable pub copy_times : Table → Bool
copy_times t = all 7 (λ k. all 24 (λ i. leb (time_of (get_or (site_at t k).stamps i 0)) (last_of t (get_or (site_at t k).stamps i 0))))

-- ---- "copy stamps are well formed, copy values in range, and 0 at stamp 0"

unfoldable pub reading_allowed : ℕ → Site → ℕ → Bool
reading_allowed n s i =
    well_formed n (get_or s.stamps i 0)
    && (in_range (get_or s.values i (pos 0)) && implies (eqb (get_or s.stamps i 0) 0) (is_zero (get_or s.values i (pos 0))))

unfoldable pub copies_allowed : Table → Bool
copies_allowed t = all 7 (λ k. all 24 (reading_allowed t.count (site_at t k)))

-- ---- "queues hold exactly the deferred requests, once each"

-- how often place p stands among the queue's first `waiting`
unfoldable pub times_queued : Site → ℕ → ℕ
times_queued s p = number s.waiting (λ i. eqb (queued_at s.queue i) p)

unfoldable pub queue_exact : Site → Bool
queue_exact s =
    leb s.waiting 16
    && (all s.waiting (λ i. ltb (queued_at s.queue i) 16)
    && all 16 (λ p. eqb (times_queued s p) (one (is_deferred (vote_at s.votes p).mark))))

unfoldable pub queues_exact : Table → Bool
queues_exact t = all 7 (λ k. queue_exact (site_at t k))

-- ---- "messages name a used request and two different sites of the table"

unfoldable pub message_names : Table → Message → Bool
message_names t m =
    (ltb m.request 16 && used_place t m.request) && (is_site t m.from && (is_site t m.to && not (eqb m.from m.to)))

unfoldable pub messages_name : Table → Bool
messages_name t = all 64 (λ j. implies (message_at t j).used (message_names t (message_at t j)))

-- ---- "a voter known anywhere, messages included, has that mark of its own"

-- the sites whose own mark of place p is OK, and those whose mark is DR or REJ
abbrev pub marks_ok : Table → ℕ → ℕ → Bool
marks_ok t p u = is_ok_vote (mark_at t u p)

abbrev pub marks_other : Table → ℕ → ℕ → Bool
marks_other t p u = is_other (mark_at t u p)

unfoldable pub known_voted : Table → Bool
known_voted t =
    all 7 (λ k. all 16 (λ p. all 7 (λ u.
    implies (knows (site_at t k).oks p u) (marks_ok t p u) && implies (knows (site_at t k).others p u) (marks_other t p u))))

unfoldable pub sent_voted : Table → Bool
sent_voted t =
    all 64 (λ j. all 7 (λ u.
    implies (has_voter (message_at t j).oks u) (marks_ok t (message_at t j).request u)
    && implies (has_voter (message_at t j).others u) (marks_other t (message_at t j).request u)))

-- ---- "each voting site knows its own vote"

unfoldable pub own_vote_known : Table → Bool
own_vote_known t =
    all 7 (λ k. all 16 (λ p.
    implies (marks_ok t p k) (knows (site_at t k).oks p k) && implies (marks_other t p k) (knows (site_at t k).others p k)))

-- ---- "a verdict held or sent is backed by that many own marks"

abbrev pub backed : Table → ℕ → Verdict → Bool
backed t p verdict.Open = true
backed t p verdict.Accepted = leb (majority t.count) (number 7 (marks_ok t p))
backed t p verdict.Rejected = leb (blocking t.count) (number 7 (marks_other t p))

unfoldable pub held_backed : Table → Bool
held_backed t = all 7 (λ k. all 16 (λ p. backed t p (verdict_at t k p)))

unfoldable pub sent_backed : Table → Bool
sent_backed t = all 64 (λ j. backed t (message_at t j).request (message_at t j).verdict)

-- ---- "a site with a verdict has no deferred mark"

unfoldable pub judged_not_deferred : Table → Bool
judged_not_deferred t = all 7 (λ k. all 16 (λ p. is_open (verdict_at t k p) || not (is_deferred (mark_at t k p))))

-- ---- "a site holding a request open knows too few voters for either verdict"

unfoldable pub open_too_few : Table → Bool
open_too_few t =
    all 7 (λ k. all 16 (λ p.
    implies (is_open (verdict_at t k p))
    (ltb (voters_known (site_at t k).oks p) (majority t.count) && ltb (voters_known (site_at t k).others p) (blocking t.count))))

-- ---- "a site holding it open with no mark has not heard of it and knows no voters"

unfoldable pub unheard_knows_none : Table → Bool
unheard_knows_none t =
    all 7 (λ k. all 16 (λ p.
    implies (is_open (verdict_at t k p) && is_unmarked (mark_at t k p))
    (none_known (site_at t k).oks p && none_known (site_at t k).others p)))

-- ---- all of them; where the site count is wrong nothing else is asked

unfoldable pub sound_table : Table → Bool
sound_table t =
    count_right t
    && (unused_sites_blank t
    && (free_places_blank t
    && (queue_ends_blank t
    && (unused_messages_blank t
    && (requests_allowed t
    && (stamps_distinct t
    && (request_times t
    && (copy_times t
    && (copies_allowed t
    && (queues_exact t
    && (messages_name t
    && (known_voted t
    && (sent_voted t
    && (own_vote_known t
    && (held_backed t
    && (sent_backed t
    && (judged_not_deferred t
    && (open_too_few t
    && unheard_knows_none t))))))))))))))))))
