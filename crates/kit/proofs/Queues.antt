-- A list with one place out, `without d l i`: the loop that moves the later ones up, and what stands where.
use mathlib.Core.Path.{◌≡◌, refl, ap, sym, ◌∙◌}
use mathlib.Core.Bool.{cond}
use mathlib.Core.List.{List, [], ◌∷◌, ◌++◌}
use Prim.Native.Nat.{ℕ, zero, suc, ◌-◌, ◌≤◌, ◌<◌}
use native.Mathlib.Omega.{arith}
use borrow.Author.Tests.{lt-ltb, le-ltb}
use lib.Dec.{ltb}
use lib.ListN.{length, get_or, set, length-append}
use Rattle.kit.specs.Lists.{without}
use Rattle.kit.proofs.Bools.{by_lt}

-- ---- places

-- where in the old list stood what stands at k once place i is out
abbrev pub skip : ℕ → ℕ → ℕ
skip i k = cond (ltb k i) k (suc k)

pub skip_before : (i k : ℕ) → k < i → skip i k ≡ k
skip_before i k h = rw (lt-ltb k i h)

pub skip_after : (i k : ℕ) → i ≤ k → skip i k ≡ suc k
skip_after i k h = rw (le-ltb k i h)

-- of the first w places, those left come from the first w, and not from i
pub skip_in : (i k w : ℕ) → i < w → k < w - 1 → (skip i k < w) × (skip i k ≡ i → ⊥)
skip_in i k w hi hk =
    by_lt k i (λ h. rw (skip_before i k h) (omega arith, λ e. omega arith)) (λ h. rw (skip_after i k h) (omega arith, λ e. omega arith))

-- from two places to two places
pub skip_once : (i j k : ℕ) → skip i j ≡ skip i k → j ≡ k
skip_once i j k e =
    by_lt j i
    (λ hj. by_lt k i (λ hk. let f : j ≡ k = rw (skip_before i j hj, skip_before i k hk) at e in f)
    (λ hk. let f : j ≡ suc k = rw (skip_before i j hj, skip_after i k hk) at e in omega arith))
    (λ hj. by_lt k i (λ hk. let f : suc j ≡ k = rw (skip_after i j hj, skip_before i k hk) at e in omega arith)
    (λ hk. let f : suc j ≡ suc k = rw (skip_after i j hj, skip_after i k hk) at e in omega arith))

-- each of the first w places but i is still there
pub skip_back : (i k w : ℕ) → i < w → k < w → (k ≡ i → ⊥) → (j : ℕ) × (j < w - 1) × (skip i j ≡ k)
skip_back i k w hi hk ne =
    by_lt k i (λ h. (k, omega arith, skip_before i k h))
    (λ h. let up : i ≤ k - 1 = omega (arith, ne) in (k - 1, omega (arith, ne), skip_after i (k - 1) up ∙ omega (arith, ne)))

module _ {A : Type 0} (d : A) where
  -- ---- the loop

  -- one place on: what is left to do gives the same list
  pub without_turn : (l : List A) (i : ℕ) → suc i < length l → without d (set l i (get_or l (suc i) d)) (suc i) ≡ without d l i
  unfolding without
  without_turn [] i h = refl
  without_turn (a ∷ []) zero h = absurd (let z : ⊥ = omega arith in z)
  without_turn (a ∷ b ∷ l) zero h = refl
  without_turn (a ∷ l) (suc i) h = ap (λ (m : List A). a ∷ m) (without_turn l i (omega arith))

  -- at the last place, d is put
  pub without_last : (l : List A) (i : ℕ) → suc i ≡ length l → set l i d ≡ without d l i
  unfolding without
  without_last [] i h = refl
  without_last (a ∷ []) zero h = refl
  without_last (a ∷ b ∷ l) zero h = absurd (let z : ⊥ = omega arith in z)
  without_last (a ∷ l) (suc i) h = ap (λ (m : List A). a ∷ m) (without_last l i (omega arith))

  -- a place behind the end is no place
  pub without_none : (l : List A) (i : ℕ) → length l ≤ i → l ≡ without d l i
  unfolding without
  without_none [] i h = refl
  without_none (a ∷ l) zero h = absurd (let z : ⊥ = omega arith in z)
  without_none (a ∷ l) (suc i) h = ap (λ (m : List A). a ∷ m) (without_none l i (omega arith))

  -- ---- what stands where

  pub length_without : (l : List A) (i : ℕ) → i < length l → length (without d l i) ≡ length l
  unfolding without
  length_without [] i h = refl
  length_without (a ∷ l) zero h = simp length-append (omega arith)
  length_without (a ∷ l) (suc i) h = ap suc (length_without l i (omega arith))

  get_or_last : (l : List A) (k : ℕ) → get_or (l ++ (d ∷ [])) k d ≡ get_or l k d
  get_or_last [] zero = refl
  get_or_last [] (suc k) = refl
  get_or_last (a ∷ l) zero = refl
  get_or_last (a ∷ l) (suc k) = get_or_last l k

  pub without_before : (l : List A) (i k : ℕ) → k < i → get_or (without d l i) k d ≡ get_or l k d
  unfolding without
  without_before [] i k h = refl
  without_before (a ∷ l) zero k h = absurd (let z : ⊥ = omega arith in z)
  without_before (a ∷ l) (suc i) zero h = refl
  without_before (a ∷ l) (suc i) (suc k) h = without_before l i k (omega arith)

  pub without_after : (l : List A) (i k : ℕ) → i ≤ k → get_or (without d l i) k d ≡ get_or l (suc k) d
  unfolding without
  without_after [] i k h = refl
  without_after (a ∷ l) zero k h = get_or_last l k
  without_after (a ∷ l) (suc i) zero h = absurd (let z : ⊥ = omega arith in z)
  without_after (a ∷ l) (suc i) (suc k) h = without_after l i k (omega arith)

  pub without_at : (l : List A) (i k : ℕ) → get_or (without d l i) k d ≡ get_or l (skip i k) d
  without_at l i k =
      by_lt k i (λ h. without_before l i k h ∙ ap (λ (j : ℕ). get_or l j d) (sym (skip_before i k h)))
      (λ h. without_after l i k h ∙ ap (λ (j : ℕ). get_or l j d) (sym (skip_after i k h)))
