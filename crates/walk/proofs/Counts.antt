-- A queue in order, as a count: each place of the table stands in the queue once if it is deferred, and else not at all.
use Prim.Native.Nat.{ℕ, ◌≤◌, ◌<◌}
use mathlib.Core.Bool.{true}
use mathlib.Core.Path.{◌≡◌, refl, sym, ap, ◌∙◌}
use native.Mathlib.Omega.{arith}
use borrow.Author.Tests.{eqb-true, eq-eqb, ne_eqb}
use lib.Dec.{eqb}
use Rattle.kit.specs.Range.{one, number}
use Rattle.kit.proofs.Bools.{by_test, clash}
use Rattle.kit.proofs.Counts.{number_some, number_single, only_one}
use Rattle.kit.proofs.Ranges.{number_none, one_of, one_le, one_true}
use Rattle.vote.specs.Data.{is_deferred}
use Rattle.vote.specs.declared.data.Site.{Site}
use Rattle.vote.proofs.MarkKinds.{deferred_is}
use Rattle.walk.specs.Order.{mark_at, Orderly}
use Rattle.walk.specs.Walking.{queued}

-- how often place p stands among the first `waiting` of the queue
abbrev pub times_in : Site → ℕ → ℕ
times_in s p = number s.waiting (λ i. eqb (queued s i) p)

-- ---- from the order to the counts, and back

pub orderly_counts : {s : Site} → Orderly s → (p : ℕ) → p < 16 → times_in s p ≡ one (is_deferred (mark_at s p))
orderly_counts {s} o p h =
    by_test (is_deferred (mark_at s p))
    (λ e. let r = o.all p h (deferred_is (mark_at s p) e) in
    rw e
    (number_single (λ i. eqb (queued s i) p) s.waiting r.0 r.1 (eq-eqb (queued s r.0) p r.2)
    (λ j l z. o.once j r.0 l r.1 (eqb-true (queued s j) p z ∙ sym r.2))))
    (λ f. rw f (number_none s.waiting (λ i. eqb (queued s i) p)
    (λ i l. ne_eqb (queued s i) p (λ z. clash (ap is_deferred (rw z at (o.deferred i l))) f))))

pub counts_orderly
    : {s : Site} → s.waiting ≤ 16 → ((k : ℕ) → k < s.waiting → queued s k < 16) → ((p : ℕ) → p < 16 → times_in s p ≡ one (is_deferred (mark_at s p))) → Orderly s
counts_orderly {s} few place count = record {
  few = few;
  place = place;
  deferred = λ k h. deferred_is (mark_at s (queued s k))
      (one_true _ (rw (← count (queued s k) (place k h)) (number_some (λ i. eqb (queued s i) (queued s k)) s.waiting k h (here k))));
  all = λ p h e. let n : times_in s p ≡ 1 = count p h ∙ rw e in
      let r = one_of s.waiting (λ i. eqb (queued s i) p) (omega arith) in
      (r.0, r.1, eqb-true (queued s r.0) p r.2);
  once = λ j k hj hk e. only_one (λ i. eqb (queued s i) (queued s k)) s.waiting j k
      (rw (count (queued s k) (place k hk)) (one_le (is_deferred (mark_at s (queued s k))))) hj hk (eq-eqb (queued s j) (queued s k) e) (here k);
}
  where
    here : (k : ℕ) → eqb (queued s k) (queued s k) ≡ true
    here k = eq-eqb (queued s k) (queued s k) refl
