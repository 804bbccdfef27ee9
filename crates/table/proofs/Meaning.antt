-- From `soundTable` to what it means for every site, place, item and message, and back.
use mathlib.Core.Path.{◌≡◌, ap}
use mathlib.Core.Bool.{Bool, true, not, ◌&&◌, ◌||◌}
use Prim.Native.Nat.{ℕ, ◌<◌}
use borrow.Author.Tests.{eqb-true, eqb-false, eq-eqb, ne_eqb, leb-true, le-leb, ltb-true, ltb-false, lt-ltb, le-ltb, not-true, not-false}
use lib.Dec.{eqb, leb, ltb}
use lib.IntN.{pos}
use lib.ListN.{get_or}
use Rattle.kit.specs.Range.{all, implies}
use Rattle.kit.proofs.Bools.{and_left, and_right, both_true, implied, implying, by_test}
use Rattle.kit.proofs.Ranges.{all_at, all_of}
use Rattle.majority.specs.Majority.{majority, blocking}
use Rattle.readings.specs.Readings.{in_range, is_zero}
use Rattle.readings.proofs.Orders.{zero_is, zero_of}
use Rattle.stamps.specs.Stamps.{time_of, issued_form, well_formed}
use Rattle.vote.specs.Data.{is_unmarked, is_deferred, is_open}
use Rattle.vote.specs.Queue.{queued_at}
use Rattle.vote.specs.Voters.{knows, has_voter, none_known, voters_known}
use Rattle.table.specs.Blank.{is_blank_request, holds_nothing, is_blank_site, is_blank_message}
use Rattle.table.specs.Meaning.{Holding, SoundSite, SoundPlace, SoundMessage, Sound}
use Rattle.table.specs.Places.{site_at, message_at, place_at, used_place, is_site, mark_at, verdict_at, last_of}
use Rattle.table.specs.Sound.{count_right, unused_sites_blank, free_places_blank, queue_ends_blank, unused_messages_blank, request_allowed, requests_allowed, stamps_distinct, request_times, copy_times, reading_allowed, copies_allowed, queue_exact, queues_exact, message_names, messages_name, marks_ok, marks_other, known_voted, sent_voted, own_vote_known, backed, held_backed, sent_backed, judged_not_deferred, open_too_few, unheard_knows_none, sound_table}
use Rattle.table.specs.declared.data.Table.{Table}

-- ---- tests over two and three ranges

all_at_2 : (m n : ℕ) (p : ℕ → ℕ → Bool) (i j : ℕ) → all m (λ a. all n (p a)) ≡ true → i < m → j < n → p i j ≡ true
all_at_2 m n p i j e h l = all_at (p i) n j (all_at (λ a. all n (p a)) m i e h) l

all_of_2 : (m n : ℕ) (p : ℕ → ℕ → Bool) → ((i j : ℕ) → i < m → j < n → p i j ≡ true) → all m (λ a. all n (p a)) ≡ true
all_of_2 m n p h = all_of m (λ a. all n (p a)) (λ i l. all_of n (p i) (λ j k. h i j l k))

all_at_3 : (l m n : ℕ) (p : ℕ → ℕ → ℕ → Bool) (i j k : ℕ) → all l (λ a. all m (λ b. all n (p a b))) ≡ true → i < l → j < m → k < n → p i j k ≡ true
all_at_3 l m n p i j k e h q r = all_at (p i j) n k (all_at_2 l m (λ a b. all n (p a b)) i j e h q) r

all_of_3 : (l m n : ℕ) (p : ℕ → ℕ → ℕ → Bool) → ((i j k : ℕ) → i < l → j < m → k < n → p i j k ≡ true) → all l (λ a. all m (λ b. all n (p a b))) ≡ true
all_of_3 l m n p h = all_of_2 l m (λ a b. all n (p a b)) (λ i j q r. all_of n (p i j) (λ k s. h i j k q r s))

-- ---- the sentences, one by one

pub record Sentences (t : Table) : Type 0 where
  pub count_is_right : count_right t ≡ true
  pub unused_sites : unused_sites_blank t ≡ true
  pub free_places : free_places_blank t ≡ true
  pub queue_ends : queue_ends_blank t ≡ true
  pub unused_messages : unused_messages_blank t ≡ true
  pub requests : requests_allowed t ≡ true
  pub stamps : stamps_distinct t ≡ true
  pub requests_in_time : request_times t ≡ true
  pub copies_in_time : copy_times t ≡ true
  pub copies : copies_allowed t ≡ true
  pub queues : queues_exact t ≡ true
  pub messages : messages_name t ≡ true
  pub known : known_voted t ≡ true
  pub sent : sent_voted t ≡ true
  pub own : own_vote_known t ≡ true
  pub held_is_backed : held_backed t ≡ true
  pub sent_is_backed : sent_backed t ≡ true
  pub judged : judged_not_deferred t ≡ true
  pub open_few : open_too_few t ≡ true
  pub unheard : unheard_knows_none t ≡ true

-- the first of a chain, and the rest
rest : {a b : Bool} → (a && b) ≡ true → (a ≡ true) × (b ≡ true)
rest {a} {b} e = (and_left a b e, and_right a b e)

pub sentences : (t : Table) → sound_table t ≡ true → Sentences t
unfolding sound_table
sentences t e =
    let r1 = rest e in let r2 = rest r1.1 in let r3 = rest r2.1 in let r4 = rest r3.1 in let r5 = rest r4.1 in
    let r6 = rest r5.1 in let r7 = rest r6.1 in let r8 = rest r7.1 in let r9 = rest r8.1 in let r10 = rest r9.1 in
    let r11 = rest r10.1 in let r12 = rest r11.1 in let r13 = rest r12.1 in let r14 = rest r13.1 in let r15 = rest r14.1 in
    let r16 = rest r15.1 in let r17 = rest r16.1 in let r18 = rest r17.1 in let r19 = rest r18.1 in
    record {
      count_is_right = r1.0;
      unused_sites = r2.0;
      free_places = r3.0;
      queue_ends = r4.0;
      unused_messages = r5.0;
      requests = r6.0;
      stamps = r7.0;
      requests_in_time = r8.0;
      copies_in_time = r9.0;
      copies = r10.0;
      queues = r11.0;
      messages = r12.0;
      known = r13.0;
      sent = r14.0;
      own = r15.0;
      held_is_backed = r16.0;
      sent_is_backed = r17.0;
      judged = r18.0;
      open_few = r19.0;
      unheard = r19.1;
    }

pub of_sentences : (t : Table) → Sentences t → sound_table t ≡ true
unfolding sound_table
of_sentences t s =
    rw (
      s.count_is_right,
      s.unused_sites,
      s.free_places,
      s.queue_ends,
      s.unused_messages,
      s.requests,
      s.stamps,
      s.requests_in_time,
      s.copies_in_time,
      s.copies,
      s.queues,
      s.messages,
      s.known,
      s.sent,
      s.own,
      s.held_is_backed,
      s.sent_is_backed,
      s.judged,
      s.open_few,
      s.unheard,
    )

-- ---- what they mean

module _ (t : Table) (s : Sentences t) where
  holding_of : (k p : ℕ) → k < 7 → p < 16 → Holding t k p
  unfolding known_voted own_vote_known held_backed judged_not_deferred open_too_few unheard_knows_none
  holding_of k p hk hp =
      let kn : (u : ℕ) → u < 7 → (implies (knows (site_at t k).oks p u) (marks_ok t p u) && implies (knows (site_at t k).others p u) (marks_other t p u)) ≡ true =
      λ u hu. all_at_3 7 16 7 (λ a b c. implies (knows (site_at t a).oks b c) (marks_ok t b c) && implies (knows (site_at t a).others b c) (marks_other t b c)) k p u s.known hk hp hu in
      let ow : (implies (marks_ok t p k) (knows (site_at t k).oks p k) && implies (marks_other t p k) (knows (site_at t k).others p k)) ≡ true =
      all_at_2 7 16 (λ a b. implies (marks_ok t b a) (knows (site_at t a).oks b a) && implies (marks_other t b a) (knows (site_at t a).others b a)) k p s.own hk hp in
      let ju : (is_open (verdict_at t k p) || not (is_deferred (mark_at t k p))) ≡ true = all_at_2 7 16 (λ a b. is_open (verdict_at t a b) || not (is_deferred (mark_at t a b))) k p s.judged hk hp in
      let op : is_open (verdict_at t k p) ≡ true → (ltb (voters_known (site_at t k).oks p) (majority t.count) && ltb (voters_known (site_at t k).others p) (blocking t.count)) ≡ true =
      implied _ _ (all_at_2 7 16 (λ a b. implies (is_open (verdict_at t a b)) (ltb (voters_known (site_at t a).oks b) (majority t.count) && ltb (voters_known (site_at t a).others b) (blocking t.count))) k p s.open_few hk hp) in
      let un : (is_open (verdict_at t k p) && is_unmarked (mark_at t k p)) ≡ true → (none_known (site_at t k).oks p && none_known (site_at t k).others p) ≡ true =
      implied _ _ (all_at_2 7 16 (λ a b. implies (is_open (verdict_at t a b) && is_unmarked (mark_at t a b)) (none_known (site_at t a).oks b && none_known (site_at t a).others b)) k p s.unheard hk hp) in
      record {
        known_ok = λ u hu. implied _ _ (and_left (implies (knows (site_at t k).oks p u) (marks_ok t p u)) (implies (knows (site_at t k).others p u) (marks_other t p u)) (kn u hu));
        known_other = λ u hu. implied _ _ (and_right (implies (knows (site_at t k).oks p u) (marks_ok t p u)) (implies (knows (site_at t k).others p u) (marks_other t p u)) (kn u hu));
        own_ok = implied _ _ (and_left (implies (marks_ok t p k) (knows (site_at t k).oks p k)) (implies (marks_other t p k) (knows (site_at t k).others p k)) ow);
        own_other = implied _ _ (and_right (implies (marks_ok t p k) (knows (site_at t k).oks p k)) (implies (marks_other t p k) (knows (site_at t k).others p k)) ow);
        backing = all_at_2 7 16 (λ a b. backed t b (verdict_at t a b)) k p s.held_is_backed hk hp;
        judged = λ e. not-true _ (rw e at ju);
        few_oks = λ e. ltb-true _ _ (and_left (ltb (voters_known (site_at t k).oks p) (majority t.count)) (ltb (voters_known (site_at t k).others p) (blocking t.count)) (op e));
        few_others = λ e. ltb-true _ _ (and_right (ltb (voters_known (site_at t k).oks p) (majority t.count)) (ltb (voters_known (site_at t k).others p) (blocking t.count)) (op e));
        unheard_oks = λ e f. and_left (none_known (site_at t k).oks p) (none_known (site_at t k).others p) (un (both_true e f));
        unheard_others = λ e f. and_right (none_known (site_at t k).oks p) (none_known (site_at t k).others p) (un (both_true e f));
      }

  site_of : (k : ℕ) → k < 7 → SoundSite t k
  unfolding unused_sites_blank queue_ends_blank queues_exact copy_times copies_allowed reading_allowed
  site_of k hk =
      let rd : (i : ℕ) → i < 24 → reading_allowed t.count (site_at t k) i ≡ true = λ i h. all_at_2 7 24 (λ a b. reading_allowed t.count (site_at t a) b) k i s.copies hk h in
      let form : ℕ → Bool = λ i. well_formed t.count (get_or (site_at t k).stamps i 0) in
      let range : ℕ → Bool = λ i. in_range (get_or (site_at t k).values i (pos 0)) in
      let blank : ℕ → Bool = λ i. implies (eqb (get_or (site_at t k).stamps i 0) 0) (is_zero (get_or (site_at t k).values i (pos 0))) in
      record {
        unused = λ h. implied _ _ (all_at (λ a. implies (not (is_site t a)) (is_blank_site (site_at t a))) 7 k s.unused_sites hk) (ap not (le-ltb k t.count h));
        queue_end = λ i h l. eqb-true _ _ (implied _ _ (all_at_2 7 16 (λ a b. implies (leb (site_at t a).waiting b) (eqb (queued_at (site_at t a).queue b) 0)) k i s.queue_ends hk h) (le-leb _ _ l));
        queue = all_at (λ a. queue_exact (site_at t a)) 7 k s.queues hk;
        copy_form = λ i h. and_left (form i) (range i && blank i) (rd i h);
        copy_time = λ i h. leb-true _ _ (all_at_2 7 24 (λ a b. leb (time_of (get_or (site_at t a).stamps b 0)) (last_of t (get_or (site_at t a).stamps b 0))) k i s.copies_in_time hk h);
        copy_value = λ i h. and_left (range i) (blank i) (and_right (form i) (range i && blank i) (rd i h));
        copy_blank = λ i h e. zero_is _ (implied _ _ (and_right (range i) (blank i) (and_right (form i) (range i && blank i) (rd i h))) (eq-eqb _ _ e));
      }

  place_of_lem : (p : ℕ) → p < 16 → SoundPlace t p
  unfolding free_places_blank requests_allowed stamps_distinct request_times
  place_of_lem p hp =
      let fr : (place_at t p).stamp ≡ 0 → (is_blank_request (place_at t p) && all 7 (λ k. holds_nothing (site_at t k) p)) ≡ true =
      λ e. implied _ _ (all_at (λ q. implies (not (used_place t q)) (is_blank_request (place_at t q) && all 7 (λ k. holds_nothing (site_at t k) q))) 16 p s.free_places hp) (ap (λ (b : Bool). not (not b)) (eq-eqb (place_at t p).stamp 0 e)) in
      let us : ((place_at t p).stamp ≡ 0 → ⊥) → (request_allowed t.count (place_at t p) && issued_form t.count (place_at t p).stamp) ≡ true =
      λ e. implied _ _ (all_at (λ q. implies (used_place t q) (request_allowed t.count (place_at t q) && issued_form t.count (place_at t q).stamp)) 16 p s.requests hp) (ap not (ne_eqb _ _ e)) in
      record {
        free_request = λ e. and_left (is_blank_request (place_at t p)) (all 7 (λ k. holds_nothing (site_at t k) p)) (fr e);
        free_held = λ e k hk. all_at (λ a. holds_nothing (site_at t a) p) 7 k (and_right (is_blank_request (place_at t p)) (all 7 (λ k. holds_nothing (site_at t k) p)) (fr e)) hk;
        allowed = λ e. and_left (request_allowed t.count (place_at t p)) (issued_form t.count (place_at t p).stamp) (us e);
        form = λ e. and_right (request_allowed t.count (place_at t p)) (issued_form t.count (place_at t p).stamp) (us e);
        time = leb-true _ _ (all_at (λ q. leb (time_of (place_at t q).stamp) (last_of t (place_at t q).stamp)) 16 p s.requests_in_time hp);
        own_stamp = λ e q l. eqb-false _ _ (not-true _ (all_at (λ a. not (eqb (place_at t a).stamp (place_at t p).stamp)) p q (implied _ _ (all_at (λ b. implies (used_place t b) (all b (λ a. not (eqb (place_at t a).stamp (place_at t b).stamp)))) 16 p s.stamps hp) (ap not (ne_eqb _ _ e))) l));
      }

  message_of : (j : ℕ) → j < 64 → SoundMessage t j
  unfolding unused_messages_blank messages_name message_names sent_voted sent_backed
  message_of j hj =
      let nm : (message_at t j).used ≡ true → message_names t (message_at t j) ≡ true = implied _ _ (all_at (λ a. implies (message_at t a).used (message_names t (message_at t a))) 64 j s.messages hj) in
      let place : Bool = ltb (message_at t j).request 16 in
      let used : Bool = used_place t (message_at t j).request in
      let from : Bool = is_site t (message_at t j).from in
      let to : Bool = is_site t (message_at t j).to in
      let two : Bool = not (eqb (message_at t j).from (message_at t j).to) in
      let named : (message_at t j).used ≡ true → (place && used) ≡ true = λ e. and_left (place && used) (from && (to && two)) (nm e) in
      let sites : (message_at t j).used ≡ true → (from && (to && two)) ≡ true = λ e. and_right (place && used) (from && (to && two)) (nm e) in
      let sv : (u : ℕ) → u < 7 → (implies (has_voter (message_at t j).oks u) (marks_ok t (message_at t j).request u) && implies (has_voter (message_at t j).others u) (marks_other t (message_at t j).request u)) ≡ true =
      λ u hu. all_at_2 64 7 (λ a b. implies (has_voter (message_at t a).oks b) (marks_ok t (message_at t a).request b) && implies (has_voter (message_at t a).others b) (marks_other t (message_at t a).request b)) j u s.sent hj hu in
      record {
        unused = λ e. implied _ _ (all_at (λ a. implies (not (message_at t a).used) (is_blank_message (message_at t a))) 64 j s.unused_messages hj) (ap not e);
        names_place = λ e. ltb-true _ _ (and_left place used (named e));
        names_request = λ e z. eqb-false (place_at t (message_at t j).request).stamp 0 (not-true _ (and_right place used (named e))) z;
        names_from = λ e. ltb-true _ _ (and_left from (to && two) (sites e));
        names_to = λ e. ltb-true _ _ (and_left to two (and_right from (to && two) (sites e)));
        names_two = λ e. eqb-false _ _ (not-true _ (and_right to two (and_right from (to && two) (sites e))));
        sent_ok = λ u hu. implied _ _ (and_left (implies (has_voter (message_at t j).oks u) (marks_ok t (message_at t j).request u)) (implies (has_voter (message_at t j).others u) (marks_other t (message_at t j).request u)) (sv u hu));
        sent_other = λ u hu. implied _ _ (and_right (implies (has_voter (message_at t j).oks u) (marks_ok t (message_at t j).request u)) (implies (has_voter (message_at t j).others u) (marks_other t (message_at t j).request u)) (sv u hu));
        sent_is_backed = all_at (λ a. backed t (message_at t a).request (message_at t a).verdict) 64 j s.sent_is_backed hj;
      }

-- soundness means all that
pub means : (t : Table) → sound_table t ≡ true → Sound t
unfolding count_right
means t e =
    let s = sentences t e in
    record {
      count_from = leb-true _ _ (and_left (leb 1 t.count) (leb t.count 7) s.count_is_right);
      count_to = leb-true _ _ (and_right (leb 1 t.count) (leb t.count 7) s.count_is_right);
      site = site_of t s;
      place = place_of_lem t s;
      message = message_of t s;
      holding = holding_of t s;
    }

-- ---- and back

module _ (t : Table) (s : Sound t) where
  sentences_of : Sentences t
  unfolding count_right unused_sites_blank free_places_blank queue_ends_blank unused_messages_blank requests_allowed stamps_distinct request_times copy_times copies_allowed reading_allowed queues_exact messages_name message_names known_voted sent_voted own_vote_known held_backed sent_backed judged_not_deferred open_too_few unheard_knows_none
  sentences_of = record {
    count_is_right = both_true (le-leb _ _ s.count_from) (le-leb _ _ s.count_to);
    unused_sites = all_of 7 _ (λ k h. implying _ (λ e. (s.site k h).unused (ltb-false k t.count (not-true _ e))));
    free_places = all_of 16 _ (λ p h. implying _ (λ e. let z : (place_at t p).stamp ≡ 0 = eqb-true _ _ (not-false _ (not-true _ e)) in
        both_true ((s.place p h).free_request z) (all_of 7 _ (λ k hk. (s.place p h).free_held z k hk))));
    queue_ends = all_of_2 7 16 _ (λ k i h l. implying _ (λ e. eq-eqb _ _ ((s.site k h).queue_end i l (leb-true _ _ e))));
    unused_messages = all_of 64 _ (λ j h. implying _ (λ e. (s.message j h).unused (not-true _ e)));
    requests = all_of 16 _ (λ p h. implying _ (λ e. let ne : (place_at t p).stamp ≡ 0 → ⊥ = eqb-false _ _ (not-true _ e) in
        both_true ((s.place p h).allowed ne) ((s.place p h).form ne)));
    stamps = all_of 16 _ (λ p h. implying _ (λ e. all_of p _ (λ q l. ap not (ne_eqb _ _ ((s.place p h).own_stamp (eqb-false _ _ (not-true _ e)) q l)))));
    requests_in_time = all_of 16 _ (λ p h. le-leb _ _ (s.place p h).time);
    copies_in_time = all_of_2 7 24 _ (λ k i h l. le-leb _ _ ((s.site k h).copy_time i l));
    copies = all_of_2 7 24 _ (λ k i h l. both_true ((s.site k h).copy_form i l)
        (both_true ((s.site k h).copy_value i l) (implying _ (λ e. rw ((s.site k h).copy_blank i l (eqb-true _ _ e)) zero_of))));
    queues = all_of 7 _ (λ k h. (s.site k h).queue);
    messages = all_of 64 _ (λ j h. implying _ (λ e. both_true
        (both_true (lt-ltb _ _ ((s.message j h).names_place e)) (ap not (ne_eqb _ _ ((s.message j h).names_request e))))
        (both_true (lt-ltb _ _ ((s.message j h).names_from e)) (both_true (lt-ltb _ _ ((s.message j h).names_to e)) (ap not (ne_eqb _ _ ((s.message j h).names_two e)))))));
    known = all_of_3 7 16 7 _ (λ k p u hk hp hu. both_true (implying _ ((s.holding k p hk hp).known_ok u hu)) (implying _ ((s.holding k p hk hp).known_other u hu)));
    sent = all_of_2 64 7 _ (λ j u h l. both_true (implying _ ((s.message j h).sent_ok u l)) (implying _ ((s.message j h).sent_other u l)));
    own = all_of_2 7 16 _ (λ k p hk hp. both_true (implying _ (s.holding k p hk hp).own_ok) (implying _ (s.holding k p hk hp).own_other));
    held_is_backed = all_of_2 7 16 _ (λ k p hk hp. (s.holding k p hk hp).backing);
    sent_is_backed = all_of 64 _ (λ j h. (s.message j h).sent_is_backed);
    judged = all_of_2 7 16 _ (λ k p hk hp. by_test (is_open (verdict_at t k p)) (λ e. rw e) (λ e. rw (e, (s.holding k p hk hp).judged e)));
    open_few = all_of_2 7 16 _ (λ k p hk hp. implying _ (λ e. both_true (lt-ltb _ _ ((s.holding k p hk hp).few_oks e)) (lt-ltb _ _ ((s.holding k p hk hp).few_others e))));
    unheard = all_of_2 7 16 _ (λ k p hk hp. implying _ (λ e.
        let o : is_open (verdict_at t k p) ≡ true = and_left (is_open (verdict_at t k p)) (is_unmarked (mark_at t k p)) e in
        let u : is_unmarked (mark_at t k p) ≡ true = and_right (is_open (verdict_at t k p)) (is_unmarked (mark_at t k p)) e in
        both_true ((s.holding k p hk hp).unheard_oks o u) ((s.holding k p hk hp).unheard_others o u)));
  }

-- what means soundness is soundness
pub meant : (t : Table) → Sound t → sound_table t ≡ true
meant t s = of_sentences t (sentences_of t s)
