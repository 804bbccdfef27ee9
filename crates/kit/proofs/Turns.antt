-- Loops that change a list place by place, and loops that put each place anew.
use Prim.Native.Nat.{ℕ, ◌+◌, ◌<◌, ◌≤◌}
use mathlib.Core.List.{List}
use mathlib.Core.Path.{◌≡◌, sym, ap, ◌∙◌}
use native.Mathlib.Omega.{arith}
use lib.ListN.{length, get_or, set, length-set}
use Rattle.kit.proofs.Changes.{changed_none, changed_turn, changed_at, length_changed, each_set}
use Rattle.kit.proofs.Listings.{length_listed, listed_at, listed_same, listed_of}
use Rattle.kit.specs.Lists.{listed, changed}

module _ {A : Type 0} (n : ℕ) (f : ℕ → A → A) (d : A) (l : List A) where
  -- after k turns of n the first k of the list are changed
  pub record Turned (k : ℕ) (w : List A) : Type 0 where
    pub in_reach : k ≤ n
    pub so_far : w ≡ changed k f l

  pub turned_none : Turned 0 l
  turned_none = record { in_reach = omega arith; so_far = sym (changed_none f l) }

  pub turned_more : {k : ℕ} {w : List A} {a : A} → Turned k w → k < n → a ≡ f k (get_or w k d) → Turned (k + 1) (set w k a)
  turned_more {k} {w} {a} t h e = record { in_reach = omega arith; so_far = ap (set w k) e ∙ changed_turn k f l d t.so_far }

  pub turned_all : {k : ℕ} {w : List A} → Turned k w → n ≤ k → w ≡ changed n f l
  turned_all {k} t h = let e : n ≡ k = omega (arith, t.in_reach) in rw e t.so_far

module _ {A : Type 0} (n : ℕ) (f : ℕ → A) where
  -- ---- a list by its elements

  -- one that has them
  pub listed_is : (d : A) (l : List A) → length l ≡ n → ((i : ℕ) → i < n → f i ≡ get_or l i d) → listed n f ≡ l
  listed_is d l e h = listed_same n f (λ i. get_or l i d) h ∙ sym (listed_of n l d e)

  -- one of them is another
  pub listed_set : (g : ℕ → A) (k : ℕ) (a : A) → k < n → f k ≡ a → ((i : ℕ) → (i ≡ k → ⊥) → f i ≡ g i) → listed n f ≡ set (listed n g) k a
  listed_set g k a h e o =
      listed_is a (set (listed n g) k a) (length-set (listed n g) k a ∙ length_listed n g)
      (λ i l. each_set (λ j x. f j ≡ x) (listed n g) k i a a (rw (length_listed n g) h) e (λ ne. o i ne ∙ sym (listed_at n i g a l)))

  -- ---- each place is put anew, whatever stood there

  -- after k turns of n the first k of the list are put
  pub record Laid (d : A) (l : List A) (k : ℕ) (w : List A) : Type 0 where
    pub long : length l ≡ n
    pub turned : Turned n (λ i a. f i) d l k w

  module _ (d : A) (l : List A) where
    pub laid_none : length l ≡ n → Laid d l 0 l
    laid_none e = record { long = e; turned = turned_none n (λ i a. f i) d l }

    pub laid_more : {k : ℕ} {w : List A} {a : A} → Laid d l k w → k < n → a ≡ f k → Laid d l (k + 1) (set w k a)
    laid_more t h e = record { long = t.long; turned = turned_more n (λ i a. f i) d l t.turned h e }

    pub laid_all : {k : ℕ} {w : List A} → Laid d l k w → n ≤ k → w ≡ listed n f
    laid_all t h =
        turned_all n (λ i a. f i) d l t.turned h
        ∙ sym (listed_is d (changed n (λ i a. f i) l) (length_changed n (λ i a. f i) l ∙ t.long) (λ i m. sym (changed_at n (λ j a. f j) l d i m (rw t.long m))))
