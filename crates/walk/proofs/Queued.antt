-- A queue in order, as who waits: one leaves, one joins, nobody does.
use Prim.Native.Nat.{ℕ, ◌≤◌, ◌<◌}
use mathlib.Core.Bool.{false}
use mathlib.Core.Path.{◌≡◌, refl, sym, ap, ◌∙◌}
use native.Mathlib.Omega.{arith}
use lib.ListN.{length}
use Rattle.kit.proofs.Bools.{clash, by_eq}
use Rattle.kit.proofs.Counts.{room_left}
use Rattle.vote.specs.Data.{is_deferred}
use Rattle.vote.specs.Queue.{joins_queue, leaves_queue}
use Rattle.vote.specs.declared.data.Mark.TheVariants as mark
use Rattle.vote.specs.declared.data.Site.{Site}
use Rattle.vote.specs.declared.data.Vote.{Vote}
use Rattle.vote.proofs.After.{QueueOf, waits_of, once_of, tidy_of, queue_back}
use Rattle.vote.proofs.Queues.{Waits, Once, Tidy, tidy_joined, tidy_left, waiting_joined, waiting_left, waits_new, waits_still, waits_before, once_joined, waits_left_before, waits_gone, waits_left, once_left}
use Rattle.vote.proofs.Said.{Says}
use Rattle.walk.specs.Order.{mark_at, Orderly, BlankEnd}
use Rattle.walk.specs.Walking.{queued}

-- ---- who waits, and who is deferred

module _ {s : Site} (o : Orderly s) where
  pub waits_place : {p : ℕ} → Waits s p → p < 16
  waits_place w = rw (← w.there) (o.place w.place w.inside)

  pub waits_deferred : {p : ℕ} → Waits s p → mark_at s p ≡ mark.Deferred
  waits_deferred w = rw (← w.there) (o.deferred w.place w.inside)

  pub deferred_waits : {p : ℕ} → p < 16 → mark_at s p ≡ mark.Deferred → Waits s p
  deferred_waits {p} h e = let r = o.all p h e in record { place = r.0; inside = r.1; there = r.2 }

  pub waits_once : Once s
  waits_once = record { once = o.once }

  -- one that is not deferred does not wait, and finds room
  pub not_waiting : {p : ℕ} → is_deferred (mark_at s p) ≡ false → Waits s p → ⊥
  not_waiting f w = clash (ap is_deferred (waits_deferred w)) f

  pub room : {p : ℕ} → p < 16 → is_deferred (mark_at s p) ≡ false → s.waiting < 16
  room {p} h f =
      room_left (queued s) 16 s.waiting o.place o.once p h (λ k l e. not_waiting f (record { place = k; inside = l; there = e }))

orderly_of
    : {s : Site} → s.waiting ≤ 16 → ((p : ℕ) → Waits s p → p < 16) → ((p : ℕ) → Waits s p → mark_at s p ≡ mark.Deferred)
    → ((p : ℕ) → p < 16 → mark_at s p ≡ mark.Deferred → Waits s p) → Once s → Orderly s
orderly_of few place def all once = record {
  few = few;
  place = λ k h. place _ (record { place = k; inside = h; there = refl });
  deferred = λ k h. def _ (record { place = k; inside = h; there = refl });
  all = λ p h e. let w = all p h e in (w.place, w.inside, w.there);
  once = once.once;
}

-- ---- the site s, later t, which says v of the request at place p

module _ {s t : Site} {p : ℕ} {v : Vote} (o : Orderly s) (y : Says p v s t) where
  elsewhere : (x : ℕ) → (x ≡ p → ⊥) → mark_at t x ≡ mark_at s x
  elsewhere x ne = ap (λ (w : Vote). w.mark) (y.elsewhere x ne)

  here : mark_at t p ≡ v.mark
  here = ap (λ (w : Vote). w.mark) y.here

  -- what is deferred in t is another, and was deferred
  others_deferred : {x : ℕ} → is_deferred v.mark ≡ false → mark_at t x ≡ mark.Deferred → x ≡ p → ⊥
  others_deferred f e q = clash (ap is_deferred (sym here ∙ ap (mark_at t) (sym q) ∙ e)) f

  -- p stood at place i of the queue and left it
  pub orderly_out : {i : ℕ} → i < s.waiting → queued s i ≡ p → QueueOf (leaves_queue s i) t → is_deferred v.mark ≡ false → Orderly t
  orderly_out {i} h at q f =
      orderly_of (rw (q.waiting, waiting_left s i (omega arith)) (let l = o.few in omega arith)) (λ x w. waits_place o (was w))
      (λ x w. elsewhere x (other w) ∙ waits_deferred o (was w))
      (λ x l e. let ne : x ≡ p → ⊥ = others_deferred f e in
      waits_of q (waits_left s i h x (λ z. ne (z ∙ at)) (deferred_waits o l (sym (elsewhere x ne) ∙ e))))
      (once_of q (once_left s i h (waits_once o)))
    where
      was : {x : ℕ} → Waits t x → Waits s x
      was {x} w = waits_left_before s i h x (waits_of (queue_back q) w)

      other : {x : ℕ} → Waits t x → x ≡ p → ⊥
      other {x} w e = waits_gone s i h (waits_once o) (rw (e ∙ sym at) at (waits_of (queue_back q) w))

  -- p was not in the queue and is not
  pub orderly_same : QueueOf s t → is_deferred (mark_at s p) ≡ false → is_deferred v.mark ≡ false → Orderly t
  orderly_same q g f =
      orderly_of (rw q.waiting o.few) (λ x w. waits_place o (waits_of (queue_back q) w))
      (λ x w. let was : Waits s x = waits_of (queue_back q) w in elsewhere x (λ e. not_waiting o g (rw e at was)) ∙ waits_deferred o was)
      (λ x l e. let ne : x ≡ p → ⊥ = others_deferred f e in waits_of q (deferred_waits o l (sym (elsewhere x ne) ∙ e)))
      (once_of q (waits_once o))

  -- p joined it
  pub orderly_in : p < 16 → length s.queue ≡ 16 → QueueOf (joins_queue s p) t → is_deferred (mark_at s p) ≡ false → v.mark ≡ mark.Deferred → Orderly t
  orderly_in h l q g e =
      orderly_of (rw (q.waiting, waiting_joined s p free) (omega (arith, free)))
      (λ x w. by_eq x p (λ z. rw z h) (λ ne. waits_place o (was w ne)))
      (λ x w. by_eq x p (λ z. rw z (here ∙ e)) (λ ne. elsewhere x ne ∙ waits_deferred o (was w ne)))
      (λ x b d. by_eq x p (λ z. waits_of q (rw z (waits_new s p free l)))
      (λ ne. waits_of q (waits_still s p free x (deferred_waits o b (sym (elsewhere x ne) ∙ d)))))
      (once_of q (once_joined s p free l (waits_once o) (not_waiting o g)))
    where
      free : s.waiting < 16
      free = room o h g

      was : {x : ℕ} → Waits t x → (x ≡ p → ⊥) → Waits s x
      was {x} w ne = waits_before s p free x l ne (waits_of (queue_back q) w)

-- nothing of it changed
pub orderly_kept : {s t : Site} → QueueOf s t → t.votes ≡ s.votes → Orderly s → Orderly t
orderly_kept q e o =
    orderly_of (rw q.waiting o.few) (λ x w. waits_place o (waits_of (queue_back q) w)) (λ x w. rw e (waits_deferred o (waits_of (queue_back q) w)))
    (λ x l d. waits_of q (deferred_waits o l (rw e at d))) (once_of q (waits_once o))

-- ---- blank behind the end

tidy : {s : Site} → BlankEnd s → Tidy s
tidy b = record { blank = b.blank }

blank_of : {u t : Site} → QueueOf u t → Tidy u → BlankEnd t
blank_of q y = record { blank = (tidy_of q y).blank }

pub blank_out : {s t : Site} {i : ℕ} → BlankEnd s → i < s.waiting → QueueOf (leaves_queue s i) t → BlankEnd t
blank_out {s} {i = i} b h q = blank_of q (tidy_left s i h (tidy b))

pub blank_same : {s t : Site} → BlankEnd s → QueueOf s t → BlankEnd t
blank_same b q = blank_of q (tidy b)

pub blank_in : {s t : Site} (p : ℕ) → BlankEnd s → s.waiting < 16 → QueueOf (joins_queue s p) t → BlankEnd t
blank_in {s} p b h q = blank_of q (tidy_joined s p h (tidy b))
