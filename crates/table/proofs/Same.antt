-- The test that is computed part by part is `soundTable`.
use mathlib.Core.Path.{◌≡◌, refl, sym, ap, ◌∙◌}
use mathlib.Core.Bool.{Bool, true, false, not, ◌&&◌, cond}
use mathlib.Core.List.{List, []}
use Prim.Native.Nat.{ℕ, ◌-◌, ◌≤◌, ◌<◌}
use native.Mathlib.Omega.{arith}
use borrow.Author.Tests.{eqb-true, eqb-false, eq-eqb, ne_eqb, leb-true, leb-false, le-leb, lt-leb, ltb-true, lt-ltb, not-true}
use lib.Dec.{eqb, leb, ltb}
use lib.IntN.{pos}
use lib.ListN.{get_or}
use Rattle.kit.specs.Range.{all, implies}
use Rattle.kit.proofs.Bools.{clash, and_left, and_right, both_true, implied, implying, by_test, by_eq, same_test, of_cond}
use Rattle.kit.proofs.Listings.{listed_at}
use Rattle.kit.proofs.Ranges.{all_at, all_of, all_same, number_same}
use Rattle.majority.specs.Majority.{majority, blocking}
use Rattle.readings.specs.Readings.{in_range, is_zero}
use Rattle.readings.proofs.Orders.{zero_is, zero_of}
use Rattle.stamps.specs.Stamps.{time_of, digit_of, issued_form, well_formed}
use Rattle.stamps.proofs.Laws.{digit_lt}
use Rattle.vote.specs.Data.{is_ok_vote, is_other, is_unmarked, is_deferred, is_open, vote_at, request_at}
use Rattle.vote.specs.Queue.{queued_at}
use Rattle.vote.specs.Voters.{voters_of, has_voter, are_among, no_voters, voters_in, none_known, voters_known}
use Rattle.vote.proofs.Rows.{row_for, row_known, row_number, nobody_at}
use Rattle.vote.specs.declared.data.Site.{Site}
use Rattle.vote.specs.declared.data.Verdict.{Verdict}
use Rattle.vote.specs.declared.data.Verdict.TheVariants as verdict
use Rattle.vote.specs.declared.data.Vote.{Vote}
use Rattle.table.specs.Blank.{blank_vote, holds_nothing, is_blank_site, is_blank_message}
use Rattle.table.specs.Meaning.{Holding, SoundSite, SoundPlace, SoundMessage, Sound}
use Rattle.table.specs.Parts.{lasts_of, stamps_of, ballots_of, marks_at, marks_of, marks_in, time_right, stamp_new, used_sound, request_sound, reading_sound, queue_end_blank, backed_by, holding_sound, place_held, site_rest, site_sound, message_sound, parts_sound}
use Rattle.table.specs.Places.{no_site, site_at, message_at, place_at, mark_at, verdict_at, last_of}
use Rattle.table.specs.Sound.{request_allowed, reading_allowed, queue_exact, marks_ok, marks_other, backed, sound_table}
use Rattle.table.specs.declared.data.Table.{Table}
use Rattle.table.specs.Parts.{Ballot}
use Rattle.table.specs.Parts.{Marks}
use Rattle.table.proofs.Meaning.{means, meant}

abbrev no_ballot : Ballot
no_ballot = record { votes = [] }

-- a verdict that is open
open_is : (v : Verdict) → is_open v ≡ true → v ≡ verdict.Open
open_is verdict.Open e = refl
open_is verdict.Accepted e = clash e refl
open_is verdict.Rejected e = clash e refl

module _ (t : Table) where
  abbrev lasts : List ℕ
  lasts = lasts_of t.sites

  abbrev stamps : List ℕ
  stamps = stamps_of t.requests

  abbrev marks : List Marks
  marks = marks_of (ballots_of t.sites)

  -- ---- what was gathered is what the table has

  stamp_at : (p : ℕ) → p < 16 → get_or stamps p 0 ≡ (place_at t p).stamp
  unfolding stamps_of
  stamp_at p h = listed_at 16 p (λ q. (request_at t.requests q).stamp) 0 h

  time_at : (stamp : ℕ) → time_right lasts stamp ≡ leb (time_of stamp) (last_of t stamp)
  unfolding time_right lasts_of
  time_at stamp =
      let h : digit_of stamp - 1 < 7 = omega (arith, digit_lt stamp) in
      ap (leb (time_of stamp)) (listed_at 7 (digit_of stamp - 1) (λ k. (get_or t.sites k no_site).last) 0 h)

  ballot_at : (u : ℕ) → u < 7 → (get_or (ballots_of t.sites) u no_ballot).votes ≡ (site_at t u).votes
  unfolding ballots_of
  ballot_at u h = ap (λ (b : Ballot). b.votes) (listed_at {A = Ballot} 7 u (λ k. record { votes = (get_or t.sites k no_site).votes }) no_ballot h)

  marks_at_lem : (p : ℕ) → p < 16 → marks_in marks p ≡ marks_at (ballots_of t.sites) p
  unfolding marks_of
  marks_at_lem p h = listed_at {A = Marks} 16 p (marks_at (ballots_of t.sites)) (record { oks = []; others = [] }) h

  marked_ok : (p u : ℕ) → p < 16 → u < 7 → has_voter (marks_in marks p).oks u ≡ marks_ok t p u
  unfolding marks_at
  marked_ok p u hp hu =
      ap (λ (m : Marks). has_voter m.oks u) (marks_at_lem p hp)
      ∙ row_for (λ v. is_ok_vote (vote_at (get_or (ballots_of t.sites) v no_ballot).votes p).mark) u hu
      ∙ ap (λ (votes : List Vote). is_ok_vote (vote_at votes p).mark) (ballot_at u hu)

  marked_other : (p u : ℕ) → p < 16 → u < 7 → has_voter (marks_in marks p).others u ≡ marks_other t p u
  unfolding marks_at
  marked_other p u hp hu =
      ap (λ (m : Marks). has_voter m.others u) (marks_at_lem p hp)
      ∙ row_for (λ v. is_other (vote_at (get_or (ballots_of t.sites) v no_ballot).votes p).mark) u hu
      ∙ ap (λ (votes : List Vote). is_other (vote_at votes p).mark) (ballot_at u hu)

  backed_same : (p : ℕ) (v : Verdict) → p < 16 → backed_by t.count (marks_in marks p) v ≡ backed t p v
  backed_same p verdict.Open h = refl
  backed_same p verdict.Accepted h = ap (leb (majority t.count)) (row_number (marks_in marks p).oks ∙ number_same _ _ 7 (λ u l. marked_ok p u h l))
  backed_same p verdict.Rejected h = ap (leb (blocking t.count)) (row_number (marks_in marks p).others ∙ number_same _ _ 7 (λ u l. marked_other p u h l))

  among_ok : (row : List Bool) (p : ℕ) → p < 16 → are_among row (marks_in marks p).oks ≡ all 7 (λ u. implies (has_voter row u) (marks_ok t p u))
  unfolding are_among
  among_ok row p h = all_same _ _ 7 (λ u l. ap (implies (has_voter row u)) (marked_ok p u h l))

  among_other : (row : List Bool) (p : ℕ) → p < 16 → are_among row (marks_in marks p).others ≡ all 7 (λ u. implies (has_voter row u) (marks_other t p u))
  unfolding are_among
  among_other row p h = all_same _ _ 7 (λ u l. ap (implies (has_voter row u)) (marked_other p u h l))

  -- ---- from the parts to what they mean

  module _ (n-low : 1 ≤ t.count) (n-high : t.count ≤ 7) (rs : (p : ℕ) → p < 16 → request_sound t.count lasts stamps (place_at t p) p ≡ true)
      (ss : (k : ℕ) → k < 7 → site_sound t.count lasts marks stamps k (site_at t k) ≡ true)
      (ms : (j : ℕ) → j < 64 → message_sound t.count marks stamps (message_at t j) ≡ true) where
    held : (k p : ℕ) → k < 7 → p < 16 → place_held t.count k marks stamps (site_at t k) p ≡ true
    unfolding site_sound site_rest
    held k p hk hp =
        all_at (place_held t.count k marks stamps (site_at t k)) 16 p
        (and_right (queue_exact (site_at t k)) _ (and_right (queue_end_blank (site_at t k)) _ (and_right (all 24 (reading_sound t.count lasts (site_at t k))) _ (and_right (implies (leb t.count k) (is_blank_site (site_at t k))) _ (ss k hk))))) hp

    holding_mean : (k p : ℕ) → k < 7 → p < 16 → Holding t k p
    unfolding place_held holding_sound none_known voters_known
    holding_mean k p hk hp =
        let s : Site = site_at t k in
        let oks : List Bool = voters_of s.oks p in
        let others : List Bool = voters_of s.others p in
        let d : Verdict = verdict_at t k p in
        let c1 : Bool = are_among oks (marks_in marks p).oks in
        let c2 : Bool = are_among others (marks_in marks p).others in
        let c3 : Bool = implies (marks_ok t p k) (has_voter oks k) in
        let c4 : Bool = implies (marks_other t p k) (has_voter others k) in
        let c5 : Bool = backed_by t.count (marks_in marks p) d in
        let few : Bool = not (leb (majority t.count) (voters_in oks)) in
        let less : Bool = not (leb (blocking t.count) (voters_in others)) in
        let none : Bool = implies (is_unmarked (mark_at t k p)) (no_voters oks && no_voters others) in
        let c6 : Bool = cond (is_open d) (few && (less && none)) (not (is_deferred (mark_at t k p))) in
        let free : Bool = implies (eqb (get_or stamps p 0) 0) (blank_vote (vote_at s.votes p) && (no_voters oks && no_voters others)) in
        let h0 : (c1 && (c2 && (c3 && (c4 && (c5 && c6))))) ≡ true = and_left (c1 && (c2 && (c3 && (c4 && (c5 && c6))))) free (held k p hk hp) in
        let h1 : (c2 && (c3 && (c4 && (c5 && c6)))) ≡ true = and_right c1 (c2 && (c3 && (c4 && (c5 && c6)))) h0 in
        let h2 : (c3 && (c4 && (c5 && c6))) ≡ true = and_right c2 (c3 && (c4 && (c5 && c6))) h1 in
        let h3 : (c4 && (c5 && c6)) ≡ true = and_right c3 (c4 && (c5 && c6)) h2 in
        let h4 : (c5 && c6) ≡ true = and_right c4 (c5 && c6) h3 in
        let e6 : c6 ≡ true = and_right c5 c6 h4 in
        let op : is_open d ≡ true → (few && (less && none)) ≡ true = λ o. rw o at e6 in
        let nn : is_open d ≡ true → is_unmarked (mark_at t k p) ≡ true → (no_voters oks && no_voters others) ≡ true =
        λ o. implied _ _ (and_right less none (and_right few (less && none) (op o))) in
        record {
          known_ok = λ u hu e. implied _ _ (all_at (λ v. implies (has_voter oks v) (marks_ok t p v)) 7 u (sym (among_ok oks p hp) ∙ and_left c1 (c2 && (c3 && (c4 && (c5 && c6)))) h0) hu) (row_known s.oks p u hu ∙ e);
          known_other = λ u hu e. implied _ _ (all_at (λ v. implies (has_voter others v) (marks_other t p v)) 7 u (sym (among_other others p hp) ∙ and_left c2 (c3 && (c4 && (c5 && c6))) h1) hu) (row_known s.others p u hu ∙ e);
          own_ok = λ e. sym (row_known s.oks p k hk) ∙ implied _ _ (and_left c3 (c4 && (c5 && c6)) h2) e;
          own_other = λ e. sym (row_known s.others p k hk) ∙ implied _ _ (and_left c4 (c5 && c6) h3) e;
          backing = sym (backed_same p d hp) ∙ and_left c5 c6 h4;
          judged = λ o. not-true _ (rw o at e6);
          few_oks = λ o. leb-false _ _ (not-true _ (and_left few (less && none) (op o)));
          few_others = λ o. leb-false _ _ (not-true _ (and_left less none (and_right few (less && none) (op o))));
          unheard_oks = λ o u. and_left (no_voters oks) (no_voters others) (nn o u);
          unheard_others = λ o u. and_right (no_voters oks) (no_voters others) (nn o u);
        }

    free_mean : (k p : ℕ) → k < 7 → p < 16 → (place_at t p).stamp ≡ 0 → holds_nothing (site_at t k) p ≡ true
    unfolding place_held holds_nothing none_known
    free_mean k p hk hp e =
        let s : Site = site_at t k in
        implied _ _ (and_right (holding_sound t.count k (marks_in marks p) (vote_at s.votes p) (voters_of s.oks p) (voters_of s.others p))
        (implies (eqb (get_or stamps p 0) 0) (holds_nothing s p)) (held k p hk hp)) (eq-eqb _ _ (stamp_at p hp ∙ e))

    site_mean : (k : ℕ) → k < 7 → SoundSite t k
    unfolding site_sound site_rest reading_sound reading_allowed queue_end_blank
    site_mean k hk =
        let s : Site = site_at t k in
        let c1 : Bool = implies (leb t.count k) (is_blank_site s) in
        let c2 : Bool = all 24 (reading_sound t.count lasts s) in
        let c3 : Bool = queue_end_blank s in
        let c4 : Bool = queue_exact s in
        let c5 : Bool = all 16 (place_held t.count k marks stamps s) in
        let h1 : (c2 && (c3 && (c4 && c5))) ≡ true = and_right c1 (c2 && (c3 && (c4 && c5))) (ss k hk) in
        let h2 : (c3 && (c4 && c5)) ≡ true = and_right c2 (c3 && (c4 && c5)) h1 in
        let h3 : (c4 && c5) ≡ true = and_right c3 (c4 && c5) h2 in
        let rd : (i : ℕ) → i < 24 → (reading_allowed t.count s i && time_right lasts (get_or s.stamps i 0)) ≡ true =
        λ i h. all_at (reading_sound t.count lasts s) 24 i (and_left c2 (c3 && (c4 && c5)) h1) h in
        let form : ℕ → Bool = λ i. well_formed t.count (get_or s.stamps i 0) in
        let range : ℕ → Bool = λ i. in_range (get_or s.values i (pos 0)) in
        let blank : ℕ → Bool = λ i. implies (eqb (get_or s.stamps i 0) 0) (is_zero (get_or s.values i (pos 0))) in
        let al : (i : ℕ) → i < 24 → (form i && (range i && blank i)) ≡ true = λ i h. and_left (reading_allowed t.count s i) (time_right lasts (get_or s.stamps i 0)) (rd i h) in
        record {
          unused = λ h. implied _ _ (and_left c1 (c2 && (c3 && (c4 && c5))) (ss k hk)) (le-leb _ _ h);
          queue_end = λ i h l. eqb-true _ _ (implied _ _ (all_at (λ j. implies (leb s.waiting j) (eqb (queued_at s.queue j) 0)) 16 i (and_left c3 (c4 && c5) h2) h) (le-leb _ _ l));
          queue = and_left c4 c5 h3;
          copy_form = λ i h. and_left (form i) (range i && blank i) (al i h);
          copy_time = λ i h. leb-true _ _ (sym (time_at (get_or s.stamps i 0)) ∙ and_right (reading_allowed t.count s i) (time_right lasts (get_or s.stamps i 0)) (rd i h));
          copy_value = λ i h. and_left (range i) (blank i) (and_right (form i) (range i && blank i) (al i h));
          copy_blank = λ i h e. zero_is _ (implied _ _ (and_right (range i) (blank i) (and_right (form i) (range i && blank i) (al i h))) (eq-eqb _ _ e));
        }

    place_mean : (p : ℕ) → p < 16 → SoundPlace t p
    unfolding used_sound stamp_new
    place_mean p hp =
        let q = place_at t p in
        let c1 : Bool = request_allowed t.count q in
        let c2 : Bool = issued_form t.count q.stamp in
        let c3 : Bool = time_right lasts q.stamp in
        let c4 : Bool = stamp_new stamps p in
        let us : (q.stamp ≡ 0 → ⊥) → (c1 && (c2 && (c3 && c4))) ≡ true = λ ne. rw (ne_eqb _ _ ne) at (rs p hp) in
        record {
          free_request = λ e. rw (eq-eqb _ _ e) at (rs p hp);
          free_held = λ e k hk. free_mean k p hk hp e;
          allowed = λ ne. and_left c1 (c2 && (c3 && c4)) (us ne);
          form = λ ne. and_left c2 (c3 && c4) (and_right c1 (c2 && (c3 && c4)) (us ne));
          time = by_eq q.stamp 0 (λ e. rw e (omega arith)) (λ ne. leb-true _ _ (sym (time_at q.stamp) ∙ and_left c3 c4 (and_right c2 (c3 && c4) (and_right c1 (c2 && (c3 && c4)) (us ne)))));
          own_stamp = λ ne j l e. eqb-false _ _ (not-true _ (all_at (λ a. not (eqb (get_or stamps a 0) (get_or stamps p 0))) p j (and_right c3 c4 (and_right c2 (c3 && c4) (and_right c1 (c2 && (c3 && c4)) (us ne)))) l)) (stamp_at j (omega arith) ∙ e ∙ sym (stamp_at p hp));
        }

    unused_mean : (j : ℕ) → j < 64 → (message_at t j).used ≡ false → is_blank_message (message_at t j) ≡ true
    unfolding message_sound
    unused_mean j hj e = rw e at (ms j hj)

    carries_nothing : (j : ℕ) → j < 64 → (message_at t j).used ≡ false
        → (is_open (message_at t j).verdict && (no_voters (message_at t j).oks && no_voters (message_at t j).others)) ≡ true
    unfolding is_blank_message
    carries_nothing j hj e =
        let m = message_at t j in
        let z : Bool = is_open m.verdict && (no_voters m.oks && no_voters m.others) in
        and_right (eqb m.to 0) z (and_right (eqb m.from 0) (eqb m.to 0 && z)
        (and_right (eqb m.request 0) (eqb m.from 0 && (eqb m.to 0 && z)) (and_right (not m.used) (eqb m.request 0 && (eqb m.from 0 && (eqb m.to 0 && z))) (unused_mean j hj e))))

    message_mean : (j : ℕ) → j < 64 → SoundMessage t j
    unfolding message_sound
    message_mean j hj =
        let m = message_at t j in
        let r : ℕ = m.request in
        let named : Bool = ltb r 16 && not (eqb (get_or stamps r 0) 0) in
        let c2 : Bool = not (eqb m.from m.to) in
        let sites : Bool = ltb m.from t.count && (ltb m.to t.count && c2) in
        let a : Bool = are_among m.oks (marks_in marks r).oks in
        let b : Bool = are_among m.others (marks_in marks r).others in
        let v : Bool = backed_by t.count (marks_in marks r) m.verdict in
        let us : m.used ≡ true → (named && (sites && (a && (b && v)))) ≡ true = λ e. rw e at (ms j hj) in
        let na : m.used ≡ true → named ≡ true = λ e. and_left named (sites && (a && (b && v))) (us e) in
        let si : m.used ≡ true → sites ≡ true = λ e. and_left sites (a && (b && v)) (and_right named (sites && (a && (b && v))) (us e)) in
        let co : m.used ≡ true → (a && (b && v)) ≡ true = λ e. and_right sites (a && (b && v)) (and_right named (sites && (a && (b && v))) (us e)) in
        let pl : m.used ≡ true → r < 16 = λ e. ltb-true _ _ (and_left (ltb r 16) (not (eqb (get_or stamps r 0) 0)) (na e)) in
        let z6 : m.used ≡ false → (no_voters m.oks && no_voters m.others) ≡ true = λ e. and_right (is_open m.verdict) (no_voters m.oks && no_voters m.others) (carries_nothing j hj e) in
        record {
          unused = unused_mean j hj;
          names_place = pl;
          names_request = λ e z. eqb-false _ _ (not-true _ (and_right (ltb r 16) (not (eqb (get_or stamps r 0) 0)) (na e))) (stamp_at r (pl e) ∙ z);
          names_from = λ e. ltb-true _ _ (and_left (ltb m.from t.count) (ltb m.to t.count && c2) (si e));
          names_to = λ e. ltb-true _ _ (and_left (ltb m.to t.count) c2 (and_right (ltb m.from t.count) (ltb m.to t.count && c2) (si e)));
          names_two = λ e. eqb-false _ _ (not-true _ (and_right (ltb m.to t.count) c2 (and_right (ltb m.from t.count) (ltb m.to t.count && c2) (si e))));
          sent_ok = λ u hu h. by_test m.used
              (λ e. implied _ _ (all_at (λ w. implies (has_voter m.oks w) (marks_ok t r w)) 7 u (sym (among_ok m.oks r (pl e)) ∙ and_left a (b && v) (co e)) hu) h)
              (λ e. clash h (nobody_at m.oks u (and_left (no_voters m.oks) (no_voters m.others) (z6 e)) hu));
          sent_other = λ u hu h. by_test m.used
              (λ e. implied _ _ (all_at (λ w. implies (has_voter m.others w) (marks_other t r w)) 7 u (sym (among_other m.others r (pl e)) ∙ and_left b v (and_right a (b && v) (co e))) hu) h)
              (λ e. clash h (nobody_at m.others u (and_right (no_voters m.oks) (no_voters m.others) (z6 e)) hu));
          sent_is_backed = by_test m.used
              (λ e. sym (backed_same r m.verdict (pl e)) ∙ and_right b v (and_right a (b && v) (co e)))
              (λ e. rw (open_is m.verdict (and_left (is_open m.verdict) (no_voters m.oks && no_voters m.others) (carries_nothing j hj e))));
        }

    parts_mean : Sound t
    parts_mean = record { count_from = n-low; count_to = n-high; site = site_mean; place = place_mean; message = message_mean; holding = holding_mean }

  -- ---- and back

  module _ (s : Sound t) where
    placed : (p : ℕ) → p < 16 → request_sound t.count lasts stamps (place_at t p) p ≡ true
    unfolding used_sound stamp_new
    placed p hp = by_eq (place_at t p).stamp 0
        (λ e. rw (eq-eqb _ _ e) ((s.place p hp).free_request e))
        (λ ne. rw (ne_eqb _ _ ne) (both_true ((s.place p hp).allowed ne) (both_true ((s.place p hp).form ne) (both_true
        (time_at (place_at t p).stamp ∙ le-leb _ _ (s.place p hp).time)
        (all_of p _ (λ j l. ap not (ne_eqb _ _ (λ e. (s.place p hp).own_stamp ne j l (sym (stamp_at j (omega arith)) ∙ e ∙ stamp_at p hp)))))))))

    holds : (k p : ℕ) → k < 7 → p < 16 → place_held t.count k marks stamps (site_at t k) p ≡ true
    unfolding place_held holding_sound none_known voters_known holds_nothing
    holds k p hk hp =
        let h = s.holding k p hk hp in
        both_true (both_true
        (among_ok (voters_of (site_at t k).oks p) p hp ∙ all_of 7 _ (λ u l. implying _ (λ e. h.known_ok u l (sym (row_known (site_at t k).oks p u l) ∙ e))))
        (both_true (among_other (voters_of (site_at t k).others p) p hp ∙ all_of 7 _ (λ u l. implying _ (λ e. h.known_other u l (sym (row_known (site_at t k).others p u l) ∙ e))))
        (both_true (implying _ (λ e. row_known (site_at t k).oks p k hk ∙ h.own_ok e))
        (both_true (implying _ (λ e. row_known (site_at t k).others p k hk ∙ h.own_other e))
        (both_true (backed_same p (verdict_at t k p) hp ∙ h.backing)
        (of_cond (λ b. b ≡ true) (is_open (verdict_at t k p))
        (λ o. both_true (ap not (lt-leb _ _ (h.few_oks o))) (both_true (ap not (lt-leb _ _ (h.few_others o)))
        (implying _ (λ u. both_true (h.unheard_oks o u) (h.unheard_others o u)))))
        (λ o. ap not (h.judged o))))))))
        (implying _ (λ e. (s.place p hp).free_held (sym (stamp_at p hp) ∙ eqb-true _ _ e) k hk))

    sited : (k : ℕ) → k < 7 → site_sound t.count lasts marks stamps k (site_at t k) ≡ true
    unfolding site_sound site_rest reading_sound reading_allowed queue_end_blank
    sited k hk =
        let q = s.site k hk in
        both_true (implying _ (λ e. q.unused (leb-true _ _ e)))
        (both_true (all_of 24 _ (λ i l. both_true
        (both_true (q.copy_form i l) (both_true (q.copy_value i l) (implying _ (λ e. ap is_zero (q.copy_blank i l (eqb-true _ _ e)) ∙ zero_of))))
        (time_at (get_or (site_at t k).stamps i 0) ∙ le-leb _ _ (q.copy_time i l))))
        (both_true (all_of 16 _ (λ i l. implying _ (λ e. eq-eqb _ _ (q.queue_end i l (leb-true _ _ e)))))
        (both_true q.queue (all_of 16 _ (λ p l. holds k p hk l)))))

    sent : (j : ℕ) → j < 64 → message_sound t.count marks stamps (message_at t j) ≡ true
    unfolding message_sound
    sent j hj =
        let q = s.message j hj in
        of_cond (λ b. b ≡ true) (message_at t j).used
        (λ e. let r : (message_at t j).request < 16 = q.names_place e in
        both_true (both_true (lt-ltb _ _ r) (ap not (ne_eqb _ _ (λ z. q.names_request e (sym (stamp_at (message_at t j).request r) ∙ z)))))
        (both_true (both_true (lt-ltb _ _ (q.names_from e)) (both_true (lt-ltb _ _ (q.names_to e)) (ap not (ne_eqb _ _ (q.names_two e)))))
        (both_true (among_ok (message_at t j).oks (message_at t j).request r ∙ all_of 7 _ (λ u l. implying _ (q.sent_ok u l)))
        (both_true (among_other (message_at t j).others (message_at t j).request r ∙ all_of 7 _ (λ u l. implying _ (q.sent_other u l)))
        (backed_same (message_at t j).request (message_at t j).verdict r ∙ q.sent_is_backed)))))
        (λ e. q.unused e)

  -- ---- the four parts

  abbrev few : Bool
  few = leb 1 t.count && leb t.count 7

  abbrev rs : Bool
  rs = all 16 (λ p. request_sound t.count lasts stamps (place_at t p) p)

  abbrev ss : Bool
  ss = all 7 (λ k. site_sound t.count lasts marks stamps k (site_at t k))

  abbrev ms : Bool
  ms = all 64 (λ j. message_sound t.count marks stamps (message_at t j))

-- the two tests are one
pub parts_sound_lem : (t : Table) → parts_sound t ≡ sound_table t
unfolding parts_sound
parts_sound_lem t = same_test (parts_sound t) (sound_table t) there back
  where
    there : parts_sound t ≡ true → sound_table t ≡ true
    there e =
        let c : few t ≡ true = and_left (few t) (rs t && (ss t && ms t)) e in
        let r : (rs t && (ss t && ms t)) ≡ true = and_right (few t) (rs t && (ss t && ms t)) e in
        let q : (ss t && ms t) ≡ true = and_right (rs t) (ss t && ms t) r in
        meant t (parts_mean t (leb-true 1 t.count (and_left (leb 1 t.count) (leb t.count 7) c)) (leb-true t.count 7 (and_right (leb 1 t.count) (leb t.count 7) c))
        (λ p h. all_at (λ a. request_sound t.count (lasts t) (stamps t) (place_at t a) a) 16 p (and_left (rs t) (ss t && ms t) r) h)
        (λ k h. all_at (λ a. site_sound t.count (lasts t) (marks t) (stamps t) a (site_at t a)) 7 k (and_left (ss t) (ms t) q) h)
        (λ j h. all_at (λ a. message_sound t.count (marks t) (stamps t) (message_at t a)) 64 j (and_right (ss t) (ms t) q) h))

    back : sound_table t ≡ true → parts_sound t ≡ true
    back e =
        let s = means t e in
        both_true (both_true (le-leb 1 t.count s.count_from) (le-leb t.count 7 s.count_to))
        (both_true (all_of 16 _ (placed t s)) (both_true (all_of 7 _ (sited t s)) (all_of 64 _ (sent t s))))
