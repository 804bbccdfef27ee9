-- A queue that holds exactly the deferred requests, once each: from the test to facts good for change, through each change, and back.
use mathlib.Core.Path.{◌≡◌, refl, sym, ap, ◌∙◌}
use mathlib.Core.Bool.{Bool, true, false}
use Prim.Native.Nat.{ℕ, ◌≤◌, ◌<◌}
use native.Mathlib.Omega.{arith}
use borrow.Author.Tests.{eqb-true, eq-eqb}
use lib.Dec.{eqb}
use lib.ListN.{length}
use Rattle.kit.specs.Range.{one, number}
use Rattle.kit.proofs.Bools.{clash, by_test, by_eq, by_lt}
use Rattle.kit.proofs.Counts.{number_single, only_one, room_left}
use Rattle.kit.proofs.Ranges.{one_of, number_none, one_le}
use Rattle.table.specs.Sound.{queue_exact}
use Rattle.table.proofs.Queues.{Exact, exact_means, exact_of, exact_deferred}
use Rattle.vote.specs.Data.{is_deferred, vote_at}
use Rattle.vote.specs.Queue.{queued_at, joins_queue, leaves_queue}
use Rattle.vote.specs.declared.data.Site.{Site}
use Rattle.vote.specs.declared.data.Vote.{Vote}
use Rattle.vote.proofs.After.{QueueOf, waits_of, once_of, tidy_of, queue_back}
use Rattle.vote.proofs.Queues.{Waits, Once, Tidy, queued_out, waiting_joined, waits_new, waits_still, waits_before, once_joined, waiting_left, waits_left_before, waits_gone, waits_left, once_left, tidy_joined, tidy_left}
use Rattle.vote.proofs.Said.{Says}

pub record Queued (s : Site) : Type 0 where
  pub few : s.waiting ≤ 16
  pub inside : (x : ℕ) → Waits s x → x < 16
  pub deferred : (x : ℕ) → Waits s x → is_deferred (vote_at s.votes x).mark ≡ true
  pub waits : (x : ℕ) → x < 16 → is_deferred (vote_at s.votes x).mark ≡ true → Waits s x
  pub once : Once s
  pub tidy : Tidy s

-- ---- from the test and back

module _ (s : Site) where
  -- p stands at place i
  abbrev stands : ℕ → ℕ → Bool
  stands p i = eqb (queued_at s.queue i) p

  pub queued_means : length s.queue ≡ 16 → ((i : ℕ) → i < 16 → s.waiting ≤ i → queued_at s.queue i ≡ 0) → queue_exact s ≡ true → Queued s
  queued_means len blank e =
      let x : Exact s = exact_means s e in
      let inside : (p : ℕ) → Waits s p → p < 16 = λ p w. rw (← w.there) (x.inside w.place w.inside) in
      record {
        few = x.few;
        inside = inside;
        deferred = λ p w. rw (← w.there) (exact_deferred s x w.place w.inside);
        waits = λ p h d. let f : 0 < number s.waiting (stands p) = rw (x.times p h, d) (omega arith) in
            let i = one_of s.waiting (stands p) f in
            record { place = i.0; inside = i.1; there = eqb-true _ _ i.2 };
        once = record {
          once = λ i j hi hj q. only_one (stands (queued_at s.queue j)) s.waiting i j
              (rw (x.times (queued_at s.queue j) (x.inside j hj)) (one_le (is_deferred (vote_at s.votes (queued_at s.queue j)).mark))) hi hj
              (eq-eqb (queued_at s.queue i) (queued_at s.queue j) q) (eq-eqb (queued_at s.queue j) (queued_at s.queue j) refl);
        };
        tidy = record { blank = λ i h. by_lt i 16 (λ l. blank i l h) (λ l. sym (queued_out s.queue i len (omega arith))) };
      }

  times_of : Queued s → (p : ℕ) → p < 16 → number s.waiting (stands p) ≡ one (is_deferred (vote_at s.votes p).mark)
  times_of q p h =
      by_test (is_deferred (vote_at s.votes p).mark)
      (λ d. let w = q.waits p h d in
      number_single (stands p) s.waiting w.place w.inside (eq-eqb _ _ w.there) (λ j l e. q.once.once j w.place l w.inside (eqb-true _ _ e ∙ sym w.there))
      ∙ ap one (sym d))
      (λ d. number_none s.waiting (stands p) (λ i l. by_test (stands p i) (λ y. clash (q.deferred p (record { place = i; inside = l; there = eqb-true _ _ y })) d) (λ f. f))
      ∙ ap one (sym d))

  pub queued_of : Queued s → queue_exact s ≡ true
  queued_of q =
      exact_of s (record {
        few = q.few;
        inside = λ i h. q.inside (queued_at s.queue i) (record { place = i; inside = h; there = refl });
        times = times_of q;
      })

-- ---- through each change

-- a queue that stays, of a site whose deferred requests stay
pub queued_same : {s s' : Site} → Queued s → QueueOf s s' → ((x : ℕ) → x < 16 → is_deferred (vote_at s'.votes x).mark ≡ is_deferred (vote_at s.votes x).mark) → Queued s'
queued_same q o same = record {
  few = rw o.waiting q.few;
  inside = λ x w. q.inside x (waits_of (queue_back o) w);
  deferred = λ x w. let v = waits_of (queue_back o) w in same x (q.inside x v) ∙ q.deferred x v;
  waits = λ x h d. waits_of o (q.waits x h (sym (same x h) ∙ d));
  once = once_of o q.once;
  tidy = tidy_of o q.tidy;
}

-- a queue has room for a request that is not deferred yet
pub room_for : (s : Site) (p : ℕ) → Queued s → p < 16 → is_deferred (vote_at s.votes p).mark ≡ false → s.waiting < 16
room_for s p q h d =
    room_left (queued_at s.queue) 16 s.waiting (λ i l. q.inside (queued_at s.queue i) (record { place = i; inside = l; there = refl })) q.once.once p h
    (λ i l e. clash (q.deferred p (record { place = i; inside = l; there = e })) d)

-- it joins
pub queued_joined
    : {s s' : Site} {p : ℕ} {v : Vote} → Queued s → length s.queue ≡ 16 → p < 16 → is_deferred (vote_at s.votes p).mark ≡ false
    → QueueOf (joins_queue s p) s' → Says p v s s' → is_deferred v.mark ≡ true → Queued s'
queued_joined {s} {s'} {p} {v} q len h d o y e =
    let room : s.waiting < 16 = room_for s p q h d in
    record {
      few = rw (o.waiting, waiting_joined s p room) (omega arith);
      inside = λ x w. by_eq x p (λ z. rw z h) (λ ne. q.inside x (old x room ne w));
      deferred = λ x w. by_eq x p (λ z. rw (z, y.here) e) (λ ne. rw (y.elsewhere x ne) (q.deferred x (old x room ne w)));
      waits = λ x l f. waits_of o (by_eq x p (λ z. rw z (waits_new s p room len)) (λ ne. waits_still s p room x (q.waits x l (rw (y.elsewhere x ne) at f))));
      once = once_of o (once_joined s p room len q.once (λ w. clash (q.deferred p w) d));
      tidy = tidy_of o (tidy_joined s p room q.tidy);
    }
  where
    old : (x : ℕ) → s.waiting < 16 → (x ≡ p → ⊥) → Waits s' x → Waits s x
    old x room ne w = waits_before s p room x len ne (waits_of (queue_back o) w)

-- the one at place i leaves
pub queued_left
    : {s s' : Site} (i : ℕ) {p : ℕ} {v : Vote} → Queued s → i < s.waiting → queued_at s.queue i ≡ p → QueueOf (leaves_queue s i) s' → Says p v s s' → is_deferred v.mark ≡ false
    → Queued s'
queued_left {s} {s'} i {p} {v} q h there o y e = record {
  few = rw (o.waiting, waiting_left s i (omega arith)) (let z = q.few in omega arith);
  inside = λ x w. q.inside x (old x w);
  deferred = λ x w. rw (y.elsewhere x (other x w)) (q.deferred x (old x w));
  waits = λ x l f. by_eq x p (λ z. let g : is_deferred (vote_at s'.votes p).mark ≡ true = rw z at f in clash (rw y.here at g) e)
      (λ ne. waits_of o (waits_left s i h x (λ z. ne (z ∙ there)) (q.waits x l (rw (y.elsewhere x ne) at f))));
  once = once_of o (once_left s i h q.once);
  tidy = tidy_of o (tidy_left s i h q.tidy);
}
  where
    old : (x : ℕ) → Waits s' x → Waits s x
    old x w = waits_left_before s i h x (waits_of (queue_back o) w)

    other : (x : ℕ) → Waits s' x → x ≡ p → ⊥
    other x w z = waits_gone s i h q.once (rw (there, ← z) (waits_of (queue_back o) w))
