-- A site's queue of deferred requests: what the code makes of it, and what stands where afterwards.
use mathlib.Core.Path.{◌≡◌, sym, ap, ◌∙◌}
use mathlib.Core.List.{List}
use Prim.Native.Nat.{ℕ, suc, ◌+◌, ◌-◌, ◌≤◌, ◌<◌}
use native.Mathlib.Omega.{arith}
use borrow.Author.Tests.{lt-ltb, le-ltb, eq-eqb, ne_eqb, eqb-true}
use lib.Dec.{eqb}
use lib.ListN.{length, set, length-set, get_or-eq_default}
use lib.Seq.{get_or-set_same, get_or-set_other}
use Rattle.kit.specs.Lists.{without}
use Rattle.kit.specs.Range.{any, first}
use Rattle.kit.proofs.Bools.{by_test, by_eq, by_lt}
use Rattle.kit.proofs.Queues.{skip, skip_after, skip_in, skip_once, skip_back, without_at, length_without, without_none}
use Rattle.kit.proofs.Ranges.{any_hit, none_of, first_le, first_hit, first_none}
use Rattle.vote.specs.Queue.{queued_at, queue_joined, count_joined, joins_queue, leaves_queue, place_in_queue}
use Rattle.vote.specs.declared.data.Site.{Site}

-- ---- as the code asks and makes it

pub queued_behind : (queue : List ℕ) (i : ℕ) → length queue ≤ i → 0 ≡ queued_at queue i
queued_behind queue i h = sym (get_or-eq_default queue 0 h)

pub queued_out : (queue : List ℕ) (i : ℕ) → length queue ≡ 16 → 15 < i → 0 ≡ queued_at queue i
queued_out queue i e h = queued_behind queue i (omega arith)

pub leaves_empty : (s : Site) (i : ℕ) → s.waiting ≡ 0 → s ≡ leaves_queue s i
unfolding leaves_queue
leaves_empty s i e = rw (eq-eqb s.waiting 0 e)

-- ---- one more at the end

module _ (s : Site) (p : ℕ) where
  -- with room left, the queue holds p behind the others
  pub queue_joined_lem : s.waiting < 16 → (joins_queue s p).queue ≡ set s.queue s.waiting p
  unfolding joins_queue queue_joined
  queue_joined_lem h = rw (lt-ltb s.waiting 16 h)

  pub waiting_joined : s.waiting < 16 → (joins_queue s p).waiting ≡ s.waiting + 1
  unfolding joins_queue count_joined
  waiting_joined h = rw (lt-ltb s.waiting 16 h)

  -- a full queue stays
  queue_full : 16 ≤ s.waiting → (joins_queue s p).queue ≡ s.queue
  unfolding joins_queue queue_joined
  queue_full h = rw (le-ltb s.waiting 16 h)

  -- p is the last
  pub joined_last : s.waiting < 16 → length s.queue ≡ 16 → queued_at (joins_queue s p).queue s.waiting ≡ p
  joined_last h l = rw (queue_joined_lem h) (get_or-set_same s.queue s.waiting p 0 (omega arith))

  -- every other place is as it was
  pub joined_other : (i : ℕ) → (i ≡ s.waiting → ⊥) → queued_at (joins_queue s p).queue i ≡ queued_at s.queue i
  joined_other i ne =
      by_lt s.waiting 16 (λ h. rw (queue_joined_lem h) (get_or-set_other s.queue s.waiting i p 0 ne))
      (λ h. ap (λ (l : List ℕ). queued_at l i) (queue_full h))

  pub length_joined : length (joins_queue s p).queue ≡ length s.queue
  length_joined =
      by_lt s.waiting 16 (λ h. rw (queue_joined_lem h) (length-set s.queue s.waiting p))
      (λ h. ap length (queue_full h))

-- ---- place i out

module _ (s : Site) (i : ℕ) where
  -- those behind place i move up
  pub queue_left : 0 < s.waiting → (leaves_queue s i).queue ≡ without 0 s.queue i
  unfolding leaves_queue
  queue_left h = rw (ne_eqb s.waiting 0 (λ e. omega arith))

  pub waiting_left : 0 < s.waiting → (leaves_queue s i).waiting ≡ s.waiting - 1
  unfolding leaves_queue
  waiting_left h = rw (ne_eqb s.waiting 0 (λ e. omega arith))

  -- what stands at place k stood at place `skip i k`
  pub left_at : (k : ℕ) → 0 < s.waiting → queued_at (leaves_queue s i).queue k ≡ queued_at s.queue (skip i k)
  left_at k h = rw (queue_left h) (without_at 0 s.queue i k)

  pub length_left : length (leaves_queue s i).queue ≡ length s.queue
  length_left =
      by_eq s.waiting 0 (λ e. ap (λ (t : Site). length t.queue) (sym (leaves_empty s i e)))
      (λ ne. rw (queue_left (omega (arith, ne)))
      (by_lt i (length s.queue) (λ h. length_without 0 s.queue i h) (λ h. ap length (sym (without_none 0 s.queue i h)))))

-- ---- where a request stands

module _ (queue : List ℕ) (w p : ℕ) where
  pub place_le : place_in_queue queue w p ≤ w
  unfolding place_in_queue
  place_le = first_le w (λ i. eqb (queued_at queue i) p)

  -- p stands at the place that was found, and at none before it
  pub place_hit : place_in_queue queue w p < w → queued_at queue (place_in_queue queue w p) ≡ p
  unfolding place_in_queue
  place_hit h =
      by_test (any w (λ i. eqb (queued_at queue i) p))
      (λ t. eqb-true _ _ (first_hit w (λ i. eqb (queued_at queue i) p) t).1)
      (λ f. absurd (let e : first w (λ i. eqb (queued_at queue i) p) ≡ w = first_none w (λ i. eqb (queued_at queue i) p) f in let z : ⊥ = omega arith in z))

  -- what stands among the first w is found
  pub place_found : (i : ℕ) → i < w → queued_at queue i ≡ p → place_in_queue queue w p < w
  unfolding place_in_queue
  place_found i h e =
      (first_hit w (λ k. eqb (queued_at queue k) p) (any_hit w i (λ k. eqb (queued_at queue k) p) h (eq-eqb (queued_at queue i) p e))).0

  -- what does not is not
  pub place_missed : ((i : ℕ) → i < w → queued_at queue i ≡ p → ⊥) → place_in_queue queue w p ≡ w
  unfolding place_in_queue
  place_missed h =
      first_none w (λ i. eqb (queued_at queue i) p) (none_of w (λ i. eqb (queued_at queue i) p) (λ i l. ne_eqb (queued_at queue i) p (h i l)))

-- ---- who waits

-- the request at place p waits in the queue
pub record Waits (s : Site) (p : ℕ) : Type 0 where
  pub place : ℕ
  pub inside : place < s.waiting
  pub there : queued_at s.queue place ≡ p

-- none waits twice
pub record Once (s : Site) : Type 0 where
  pub once : (i j : ℕ) → i < s.waiting → j < s.waiting → queued_at s.queue i ≡ queued_at s.queue j → i ≡ j

-- one that waits is found
pub waits_found : (s : Site) (p : ℕ) → Waits s p → place_in_queue s.queue s.waiting p < s.waiting
waits_found s p w = place_found s.queue s.waiting p w.place w.inside w.there

module _ (s : Site) (p : ℕ) (room : s.waiting < 16) where
  -- p waits once it has joined, and so do those that waited before
  pub waits_new : length s.queue ≡ 16 → Waits (joins_queue s p) p
  waits_new l = record { place = s.waiting; inside = rw (waiting_joined s p room) (omega arith); there = joined_last s p room l }

  pub waits_still : (x : ℕ) → Waits s x → Waits (joins_queue s p) x
  waits_still x w = record {
    place = w.place;
    inside = rw (waiting_joined s p room) (omega (arith, w.inside));
    there = joined_other s p w.place (λ e. omega (arith, w.inside)) ∙ w.there;
  }

  -- nobody else does
  pub waits_before : (x : ℕ) → length s.queue ≡ 16 → (x ≡ p → ⊥) → Waits (joins_queue s p) x → Waits s x
  waits_before x l ne w =
      by_eq w.place s.waiting (λ e. absurd (ne (sym w.there ∙ rw e (joined_last s p room l))))
      (λ ni. record {
        place = w.place;
        inside = let h : w.place < s.waiting + 1 = rw (← waiting_joined s p room) w.inside in omega (arith, ni);
        there = sym (joined_other s p w.place ni) ∙ w.there;
      })

  -- one that did not wait joins once
  pub once_joined : length s.queue ≡ 16 → Once s → (Waits s p → ⊥) → Once (joins_queue s p)
  once_joined l o new = record { once = λ i j hi hj e. go i j (rw (waiting_joined s p room) at hi) (rw (waiting_joined s p room) at hj) e }
    where
      old : (i : ℕ) → i < s.waiting + 1 → (i ≡ s.waiting → ⊥) → queued_at (joins_queue s p).queue i ≡ p → ⊥
      old i hi ni e = new (record { place = i; inside = omega (arith, ni); there = sym (joined_other s p i ni) ∙ e })

      go : (i j : ℕ) → i < s.waiting + 1 → j < s.waiting + 1 → queued_at (joins_queue s p).queue i ≡ queued_at (joins_queue s p).queue j → i ≡ j
      go i j hi hj e =
          by_eq i s.waiting
          (λ ei. by_eq j s.waiting (λ ej. ei ∙ sym ej) (λ nj. absurd (old j hj nj (sym e ∙ rw ei (joined_last s p room l)))))
          (λ ni. by_eq j s.waiting (λ ej. absurd (old i hi ni (e ∙ rw ej (joined_last s p room l))))
          (λ nj. o.once i j (omega (arith, ni)) (omega (arith, nj)) (sym (joined_other s p i ni) ∙ e ∙ joined_other s p j nj)))

module _ (s : Site) (i : ℕ) (h : i < s.waiting) where
  some : 0 < s.waiting
  some = omega arith

  -- who still waits when place i is out waited before, and was not there
  pub waits_left_before : (x : ℕ) → Waits (leaves_queue s i) x → Waits s x
  waits_left_before x w =
      let k : w.place < s.waiting - 1 = rw (← waiting_left s i some) w.inside in
      record { place = skip i w.place; inside = (skip_in i w.place s.waiting h k).0; there = sym (left_at s i w.place some) ∙ w.there }

  pub waits_gone : Once s → Waits (leaves_queue s i) (queued_at s.queue i) → ⊥
  waits_gone o w =
      let k : w.place < s.waiting - 1 = rw (← waiting_left s i some) w.inside in
      let b = skip_in i w.place s.waiting h k in
      b.1 (o.once (skip i w.place) i b.0 h (sym (left_at s i w.place some) ∙ w.there))

  -- all others still wait
  pub waits_left : (x : ℕ) → (x ≡ queued_at s.queue i → ⊥) → Waits s x → Waits (leaves_queue s i) x
  waits_left x ne w =
      let b = skip_back i w.place s.waiting h w.inside (λ e. ne (sym w.there ∙ ap (queued_at s.queue) e)) in
      record { place = b.0; inside = rw (waiting_left s i some) b.1; there = left_at s i b.0 some ∙ ap (queued_at s.queue) b.2 ∙ w.there }

  pub once_left : Once s → Once (leaves_queue s i)
  once_left o = record { once = λ j k hj hk e. go j k (rw (waiting_left s i some) at hj) (rw (waiting_left s i some) at hk) e }
    where
      go : (j k : ℕ) → j < s.waiting - 1 → k < s.waiting - 1 → queued_at (leaves_queue s i).queue j ≡ queued_at (leaves_queue s i).queue k → j ≡ k
      go j k hj hk e =
          skip_once i j k
          (o.once (skip i j) (skip i k) (skip_in i j s.waiting h hj).0 (skip_in i k s.waiting h hk).0
          (sym (left_at s i j some) ∙ e ∙ left_at s i k some))

-- ---- blank behind the end

pub record Tidy (s : Site) : Type 0 where
  pub blank : (k : ℕ) → s.waiting ≤ k → queued_at s.queue k ≡ 0

pub tidy_joined : (s : Site) (p : ℕ) → s.waiting < 16 → Tidy s → Tidy (joins_queue s p)
tidy_joined s p room t = record {
  blank = λ k h. let l : s.waiting + 1 ≤ k = rw (← waiting_joined s p room) h in joined_other s p k (λ e. omega arith) ∙ t.blank k (omega arith);
}

pub tidy_left : (s : Site) (i : ℕ) → i < s.waiting → Tidy s → Tidy (leaves_queue s i)
tidy_left s i h t = record {
  blank = λ k l. let b : s.waiting - 1 ≤ k = rw (← waiting_left s i (omega arith)) l in
      left_at s i k (omega arith) ∙ ap (queued_at s.queue) (skip_after i k (omega arith)) ∙ t.blank (suc k) (omega arith);
}
