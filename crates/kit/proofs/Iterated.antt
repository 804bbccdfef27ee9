-- What the library's iterators answer over a list, said over its places: the kit's `all`, `any` and `number`.
use mathlib.Core.Path.{◌≡◌, refl, sym, ap, ◌∙◌}
use mathlib.Core.Bool.{Bool}
use mathlib.Core.List.{List, map}
use Prim.Native.Nat.{ℕ, zero, suc, ◌≤◌, ◌<◌}
use native.Mathlib.Numerals.{add-one}
use native.Mathlib.Omega.{arith}
use lib.ListN.{length, get_or, take}
use Rattle.std.proofs.lemmas.List.{take_all}
use Rattle.std.specs.List.{list_all, list_any, count_by, range_with_len, zip}
use Rattle.std.proofs.lemmas.List.FromFn.{length-range_with_len, get_or-range_with_len, length-map-range_with_len, get_or-map-range_with_len}
use Rattle.std.proofs.lemmas.Slice.Zip.{length-zip, get_or-zip}
use Rattle.std.proofs.lemmas.List.Folds.{list_all_more, list_any_more}
use Rattle.std.proofs.lemmas.List.Sums.{count_by_more_yes, count_by_more_no}
use Rattle.kit.specs.Range.{any, all, number}
use Rattle.kit.proofs.Bools.{by_test}
use Rattle.kit.specs.Lists.{listed}
use Rattle.kit.proofs.Listings.{listed_of, listed_same}
use Rattle.kit.proofs.Ranges.{all_same}

module _ {X : Type 0} (p : X → Bool) (xs : List X) (d : X) where
  all_taken : (i : ℕ) → i ≤ length xs → list_all p (take i xs) ≡ all i (λ k. p (get_or xs k d))
  unfolding all
  all_taken zero h = refl
  all_taken (suc i) h = rw (← add-one i, list_all_more p xs i d (omega arith), all_taken i (omega arith))

  any_taken : (i : ℕ) → i ≤ length xs → list_any p (take i xs) ≡ any i (λ k. p (get_or xs k d))
  unfolding any
  any_taken zero h = refl
  any_taken (suc i) h = rw (← add-one i, list_any_more p xs i d (omega arith), any_taken i (omega arith))

  count_taken : (i : ℕ) → i ≤ length xs → count_by p (take i xs) ≡ number i (λ k. p (get_or xs k d))
  unfolding number
  count_taken zero h = refl
  count_taken (suc i) h =
      rw (← count_taken i (omega arith), ← add-one i)
      (by_test (p (get_or xs i d)) (λ e. rw (count_by_more_yes p xs i d (omega arith) e, e)) (λ e. rw (count_by_more_no p xs i d (omega arith) e, e) (omega arith)))

  module _ {n : ℕ} (e : length xs ≡ n) where
    pub all_elements : list_all p xs ≡ all n (λ k. p (get_or xs k d))
    all_elements = ap (list_all p) (sym (take_all n xs (omega arith))) ∙ all_taken n (omega arith)

    pub any_elements : list_any p xs ≡ any n (λ k. p (get_or xs k d))
    any_elements = ap (list_any p) (sym (take_all n xs (omega arith))) ∙ any_taken n (omega arith)

    pub count_elements : count_by p xs ≡ number n (λ k. p (get_or xs k d))
    count_elements = ap (count_by p) (sym (take_all n xs (omega arith))) ∙ count_taken n (omega arith)

-- the numbers below n, one by one
pub all_numbers : (p : ℕ → Bool) (n : ℕ) → list_all p (range_with_len 0 n) ≡ all n p
all_numbers p n =
    all_elements p (range_with_len 0 n) 0 (length-range_with_len 0 n)
    ∙ all_same (λ k. p (get_or (range_with_len 0 n) k 0)) p n (λ k h. ap p (get_or-range_with_len 0 n k 0 h ∙ omega arith))

-- two lists side by side
pub all_pairs
    : {X Y : Type 0} (p : X × Y → Bool) (xs : List X) (ys : List Y) (d : X) (e : Y) (n : ℕ) → length xs ≡ n → length ys ≡ n
    → list_all p (zip xs ys) ≡ all n (λ k. p (get_or xs k d, get_or ys k e))
all_pairs p xs ys d e n a b =
    all_elements p (zip xs ys) (d, e) (length-zip xs ys ∙ omega arith)
    ∙ all_same (λ k. p (get_or (zip xs ys) k (d, e))) (λ k. p (get_or xs k d, get_or ys k e)) n (λ k h. ap p (get_or-zip xs ys k (d, e) (omega arith) (omega arith)))

-- a list made from its places
pub listed_map : {X : Type 0} (f : ℕ → X) (d : X) (n : ℕ) → map f (range_with_len 0 n) ≡ listed n f
listed_map f d n =
    listed_of n (map f (range_with_len 0 n)) d (length-map-range_with_len f 0 n)
    ∙ listed_same n (λ i. get_or (map f (range_with_len 0 n)) i d) f (λ i h. get_or-map-range_with_len f 0 n i i d h (omega arith))

-- a list of n elements, of each of which it is known what it is
pub listed_by : {X : Type 0} (xs : List X) (n : ℕ) (f : ℕ → X) (d : X) → length xs ≡ n → ((i : ℕ) → i < n → get_or xs i d ≡ f i) → xs ≡ listed n f
listed_by xs n f d e h = listed_of n xs d e ∙ listed_same n (λ i. get_or xs i d) f h
