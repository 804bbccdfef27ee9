-- What a chain over the numbers below n, or over a row, computes: `any` of document 01's items and entries.
use mathlib.Core.Path.{◌≡◌, refl, sym, ap, ◌∙◌}
use mathlib.Core.Bool.{Bool, true, false, ◌||◌, or_assoc}
use mathlib.Core.List.{List, [], ◌∷◌}
use Prim.Native.Nat.{ℕ, zero, suc}
use native.Mathlib.Nat.{zero-add}
use native.Mathlib.Omega.{arith}
use lib.ListN.{length, get_or}
use Rattle.std.specs.List.{list_any, range_with_len, zip}
use Rattle.std.proofs.lemmas.List.FromFn.{length-range_with_len, get_or-range_with_len}
use Rattle.std.proofs.lemmas.Slice.Zip.{get_or-zip, length-zip}
use Rattle.kit.specs.Range.{any}
use Rattle.kit.proofs.Ranges.{any_same}

any_low : (n : ℕ) (p : ℕ → Bool) → any (suc n) p ≡ (p 0 || any n (λ i. p (suc i)))
unfolding any
any_low zero p = swap (p 0)
  where
    swap : (b : Bool) → (false || b) ≡ (b || false)
    swap true = refl
    swap false = refl
any_low (suc n) p = ap (λ (b : Bool). b || p (suc n)) (any_low n p) ∙ or_assoc (p 0) (any n (λ i. p (suc i))) (p (suc n))

module _ {X : Type 0} (p : X → Bool) (d : X) where
  list_any_is : (xs : List X) → list_any p xs ≡ any (length xs) (λ i. p (get_or xs i d))
  unfolding any
  list_any_is [] = refl
  list_any_is (x ∷ xs) = ap (λ (b : Bool). p x || b) (list_any_is xs) ∙ sym (any_low (length xs) (λ i. p (get_or (x ∷ xs) i d)))

-- `(0..n).any(p)`
pub any_below : (n : ℕ) (p : ℕ → Bool) → list_any p (range_with_len 0 n) ≡ any n p
any_below n p = list_any_is p 0 (range_with_len 0 n) ∙ rw length-range_with_len (any_same _ p n (λ i h. ap p (get_or-range_with_len 0 n i 0 h ∙ zero-add i)))

-- `xs.iter().zip(ys).any(p)`
pub any_both : {A B : Type 0} (n : ℕ) (p : A × B → Bool) (xs : List A) (ys : List B) (a : A) (b : B) → length xs ≡ n → length ys ≡ n
    → list_any p (zip xs ys) ≡ any n (λ i. p (get_or xs i a, get_or ys i b))
any_both n p xs ys a b lx ly =
    list_any_is p (a, b) (zip xs ys)
    ∙ rw (let l : length (zip xs ys) ≡ n = omega (arith, length-zip xs ys) in l) (any_same _ _ n (λ i h. ap p (get_or-zip xs ys i (a, b) (omega arith) (omega arith))))
