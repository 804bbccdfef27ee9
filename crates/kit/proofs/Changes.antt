-- Lists changed place by place: `changed n f l`, one place more, what stands where, and a store at one place.
use mathlib.Core.Path.{◌≡◌, refl, ap}
use mathlib.Core.Bool.{Bool, true, false, cond}
use mathlib.Core.List.{List, [], ◌∷◌}
use Prim.Native.Nat.{ℕ, zero, suc, ◌+◌, ◌≤◌, ◌<◌}
use native.Mathlib.Decide.{ℕ_discrete}
use native.Mathlib.Numerals.{add-one}
use native.Mathlib.Omega.{arith}
use lib.ListN.{length, get_or, set}
use lib.Seq.{set-get_or, get_or-set_same, get_or-set_other}
use Rattle.kit.specs.Lists.{changed}

module _ {A : Type 0} where
  pub changed_none : (f : ℕ → A → A) (l : List A) → changed 0 f l ≡ l
  unfolding changed
  changed_none f l = refl

  pub length_changed : (n : ℕ) (f : ℕ → A → A) (l : List A) → length (changed n f l) ≡ length l
  unfolding changed
  length_changed zero f l = refl
  length_changed (suc n) f [] = refl
  length_changed (suc n) f (a ∷ l) = ap suc (length_changed n (λ i. f (suc i)) l)

  -- ---- what stands where

  pub changed_at : (n : ℕ) (f : ℕ → A → A) (l : List A) (d : A) (i : ℕ) → i < n → i < length l → get_or (changed n f l) i d ≡ f i (get_or l i d)
  unfolding changed
  changed_at zero f l d i h k = absurd (let z : ⊥ = omega arith in z)
  changed_at (suc n) f [] d i h k = absurd (let z : ⊥ = omega arith in z)
  changed_at (suc n) f (a ∷ l) d zero h k = refl
  changed_at (suc n) f (a ∷ l) d (suc i) h k = changed_at n (λ j. f (suc j)) l d i (omega arith) (omega arith)

  -- from place n on all is as it was
  pub changed_rest : (n : ℕ) (f : ℕ → A → A) (l : List A) (d : A) (i : ℕ) → n ≤ i → get_or (changed n f l) i d ≡ get_or l i d
  unfolding changed
  changed_rest zero f l d i h = refl
  changed_rest (suc n) f [] d i h = refl
  changed_rest (suc n) f (a ∷ l) d zero h = absurd (let z : ⊥ = omega arith in z)
  changed_rest (suc n) f (a ∷ l) d (suc i) h = changed_rest n (λ j. f (suc j)) l d i (omega arith)

  -- ---- one place more

  changed_suc : (n : ℕ) (f : ℕ → A → A) (l : List A) (d : A) → changed (suc n) f l ≡ set (changed n f l) n (f n (get_or l n d))
  unfolding changed
  changed_suc zero f [] d = refl
  changed_suc zero f (a ∷ l) d = refl
  changed_suc (suc n) f [] d = refl
  changed_suc (suc n) f (a ∷ l) d = ap (λ (m : List A). f 0 a ∷ m) (changed_suc n (λ i. f (suc i)) l d)

  -- as a store
  pub changed_more : (n : ℕ) (f : ℕ → A → A) (l : List A) (d : A) → changed (n + 1) f l ≡ set (changed n f l) n (f n (get_or l n d))
  changed_more n f l d = rw (add-one, changed_suc n f l d)

  -- a turn of a loop that changes place n of a list w
  pub changed_turn : (n : ℕ) (f : ℕ → A → A) (l : List A) (d : A) {w : List A} → w ≡ changed n f l → set w n (f n (get_or w n d)) ≡ changed (n + 1) f l
  changed_turn n f l d {w} e = rw (e, changed_rest n f l d n (omega arith), changed_more n f l d)

  -- a place that the change leaves as it was
  pub changed_keep : (n : ℕ) (f : ℕ → A → A) (l : List A) (d : A) → f n (get_or l n d) ≡ get_or l n d → changed (n + 1) f l ≡ changed n f l
  changed_keep n f l d e = rw (changed_more n f l d, e, ← changed_rest n f l d n (omega arith), set-get_or (changed n f l) n d)

  -- a turn that stores a there, or leaves the place as it was
  pub changed_if
      : (n : ℕ) (f : ℕ → A → A) (l : List A) (d : A) (b : Bool) (a : A) → f n (get_or l n d) ≡ cond b a (get_or l n d)
      → cond b (set (changed n f l) n a) (changed n f l) ≡ changed (n + 1) f l
  changed_if n f l d true a e = rw (changed_more n f l d, e)
  changed_if n f l d false a e = rw (changed_keep n f l d e)

  -- ---- a store at one place: what holds of what was put, and of each that was there, holds of each

  pub each_set : (P : ℕ → A → Type 0) (l : List A) (k j : ℕ) (a d : A) → k < length l → P k a → ((j ≡ k → ⊥) → P j (get_or l j d)) → P j (get_or (set l k a) j d)
  each_set P l k j a d h new old = go (ℕ_discrete j k)
    where
      go : Dec (j ≡ k) → P j (get_or (set l k a) j d)
      go (yes e) = rw (e, get_or-set_same l k a d h) new
      go (no e) = rw (get_or-set_other l k j a d e) (old e)
