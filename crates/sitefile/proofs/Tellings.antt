-- What entries tell of items. Entries whose items rise tell of each item at most once, so that the list of items and the tellings determine
-- each other.
use mathlib.Core.Path.{◌≡◌, refl, sym, ap, ◌∙◌, subst}
use mathlib.Core.Bool.{Bool, true, false}
use mathlib.Core.List.{List}
use Prim.Native.Nat.{ℕ, zero, suc, ◌<◌}
use native.Mathlib.Nat.{not-suc-le-zero}
use native.Mathlib.Omega.{arith}
use borrow.Author.Tests.{eq-eqb, ne_eqb}
use lib.ListN.{length, get_or, set, length-set}
use lib.Seq.{get_or-set_same, get_or-set_other, ext_get_or}
use Rattle.kit.specs.Lists.{listed}
use Rattle.kit.specs.Range.{number, passing}
use Rattle.kit.proofs.Bools.{clash, by_test, by_eq, by_lt, cond_yes, cond_no}
use Rattle.kit.proofs.Listings.{length_listed, listed_at}
use Rattle.kit.proofs.Passing.{Rising, passing_nth, passing_at, passing_rises}
use Rattle.sitefile.specs.Entries.{told}

module _ {A : Type 0} (d : A) (item : ℕ → ℕ) (part : ℕ → A) where
  pub told_none : (n i : ℕ) → ((k : ℕ) → k < n → item k ≡ i → ⊥) → told d item part n i ≡ d
  unfolding told
  told_none zero i h = refl
  told_none (suc n) i h = rw (ne_eqb (item n) i (h n (omega arith))) (told_none n i (λ k l. h k (omega arith)))

  pub told_at : (n k : ℕ) → Rising item n → k < n → told d item part n (item k) ≡ part k
  unfolding told
  told_at zero k r h = absurd (not-suc-le-zero h)
  told_at (suc n) k r h =
      by_lt k n
      (λ l. rw (ne_eqb (item n) (item k) (λ e. omega (arith, r k n l (omega arith)))) (told_at n k (λ i j a b. r i j a (omega arith)) l))
      (λ l. let e : k ≡ n = omega arith in rw (e, eq-eqb (item n) (item n) refl))

  -- the entries of the numbers that pass tell of these alone
  pub told_passing : (N : ℕ) (p : ℕ → Bool) (g : ℕ → A) → ((k : ℕ) → k < length (passing N p) → item k ≡ get_or (passing N p) k 0)
      → ((k : ℕ) → k < length (passing N p) → part k ≡ g (item k)) → (i : ℕ) → i < N → (p i ≡ false → g i ≡ d)
      → told d item part (length (passing N p)) i ≡ g i
  told_passing N p g hi hp i l blank =
      by_test (p i)
      (λ e.
      let q = passing_at N p i l e in
      let own : item (number i p) ≡ i = hi (number i p) q.0 ∙ q.1 in
      ap (told d item part n) (sym own) ∙ told_at n (number i p) rising q.0 ∙ hp (number i p) q.0 ∙ ap g own)
      (λ e. told_none n i (λ k h own. clash (subst (λ (j : ℕ). p j ≡ true) (sym (hi k h) ∙ own) (passing_nth N p k h).passes) e) ∙ sym (blank e))
    where
      n : ℕ
      n = length (passing N p)

      rising : Rising item n
      rising j k a b = rw (hi j (omega arith), hi k b) (passing_rises N p j k a b)

  -- one entry more: its item's place is set
  pub told_turn : (N k : ℕ) → set (listed N (told d item part k)) (item k) (part k) ≡ listed N (told d item part (suc k))
  unfolding told
  told_turn N k =
      ext_get_or d (set old (item k) (part k)) new (length-set old (item k) (part k) ∙ length_listed N _ ∙ sym (length_listed N _))
      (λ i h.
      let l : i < N = omega (arith, length-set old (item k) (part k), length_listed N (told d item part k)) in
      by_eq (item k) i
      (λ e.
      ap (λ (j : ℕ). get_or (set old (item k) (part k)) j d) (sym e)
      ∙ get_or-set_same old (item k) (part k) d (omega (arith, length_listed N (told d item part k)))
      ∙ sym (listed_at N i (told d item part (suc k)) d l ∙ cond_yes _ _ (eq-eqb (item k) i e)))
      (λ ne.
      get_or-set_other old (item k) i (part k) d (λ e. ne (sym e)) ∙ listed_at N i (told d item part k) d l
      ∙ sym (listed_at N i (told d item part (suc k)) d l ∙ cond_no _ _ (ne_eqb (item k) i ne))))
    where
      old : List A
      old = listed N (told d item part k)

      new : List A
      new = listed N (told d item part (suc k))
