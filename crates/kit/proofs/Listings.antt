-- Lists made from their elements: `listed n f`, and the loop that fills an array of n elements from the front, all of them d at first.
use mathlib.Core.Path.{◌≡◌, refl, sym, ap, ◌∙◌, subst}
use mathlib.Core.List.{List, [], ◌∷◌, ◌++◌, map}
use Prim.Native.Nat.{ℕ, zero, suc, ◌+◌, ◌≤◌, ◌<◌}
use native.Mathlib.Nat.{not-suc-le-zero, le_of_suc-le-suc, lt_irrefl, lt_of_lt_of_le}
use native.Mathlib.Omega.{arith}
use borrow.Author.Count.{below_more}
use lib.ListN.{length, get_or, set, replicate, length-set, length-replicate, length-map}
use lib.Seq.{get_or-set_same, get_or-set_other, ext_get_or}
use Rattle.kit.specs.Lists.{listed}

-- a list of images: as long as the list, and of `listed n g` the images of its elements
pub length_mapped : (X Y : Type 0) (f : X → Y) (l : List X) (n : ℕ) → length (map f l) ≡ n → length l ≡ n
length_mapped X Y f l n e = sym (length-map l f) ∙ e

pub map_listed : {X Y : Type 0} (f : X → Y) (n : ℕ) (g : ℕ → X) → map f (listed n g) ≡ listed n (λ i. f (g i))
unfolding listed
map_listed f zero g = refl
map_listed f (suc n) g = ap (λ (l : List _). f (g 0) ∷ l) (map_listed f n (λ i. g (suc i)))

module _ {A : Type 0} where
  pub length_listed : (n : ℕ) (f : ℕ → A) → length (listed n f) ≡ n
  unfolding listed
  length_listed zero f = refl
  length_listed (suc n) f = ap suc (length_listed n (λ i. f (suc i)))

  pub listed_at : (n i : ℕ) (f : ℕ → A) (d : A) → i < n → get_or (listed n f) i d ≡ f i
  unfolding listed
  listed_at zero i f d h = absurd (not-suc-le-zero h)
  listed_at (suc n) zero f d h = refl
  listed_at (suc n) (suc i) f d h = listed_at n i (λ j. f (suc j)) d (le_of_suc-le-suc h)

  -- the same elements
  pub listed_same : (n : ℕ) (f g : ℕ → A) → ((i : ℕ) → i < n → f i ≡ g i) → listed n f ≡ listed n g
  unfolding listed
  listed_same zero f g h = refl
  listed_same (suc n) f g h = rw (h 0 (omega arith), listed_same n (λ i. f (suc i)) (λ i. g (suc i)) (λ i l. h (suc i) (omega arith)))

  -- a list is what its elements say
  pub listed_of : (n : ℕ) (l : List A) (d : A) → length l ≡ n → l ≡ listed n (λ i. get_or l i d)
  listed_of n l d e =
      ext_get_or d l (listed n (λ i. get_or l i d)) (e ∙ sym (length_listed n _)) (λ i h. sym (listed_at n i (λ j. get_or l j d) d (omega arith)))

  -- one more at the end
  pub listed_snoc : (n : ℕ) (f : ℕ → A) → listed (suc n) f ≡ listed n f ++ (f n ∷ [])
  unfolding listed
  listed_snoc zero f = refl
  listed_snoc (suc n) f = ap (λ (l : List A). f 0 ∷ l) (listed_snoc n (λ i. f (suc i)))

  -- what stands in a list of n times d
  pub replicate_at : (n i : ℕ) (d : A) → get_or (replicate n d) i d ≡ d
  replicate_at zero i d = refl
  replicate_at (suc n) zero d = refl
  replicate_at (suc n) (suc i) d = replicate_at n i d

  module _ (d : A) (n : ℕ) (f : ℕ → A) where
    -- after i turns each element below i is what f says, and the others are d
    pub record Filled (i : ℕ) (r : List A) : Type 0 where
      pub long : length r ≡ n
      pub done : (k : ℕ) → k < i → get_or r k d ≡ f k
      pub left : (k : ℕ) → i ≤ k → get_or r k d ≡ d

    pub filled_start : Filled 0 (replicate n d)
    filled_start = record { long = length-replicate n d; done = λ k h. absurd (not-suc-le-zero h); left = λ k h. replicate_at n k d }

    -- a turn that stores, and one that leaves the element as it was
    pub filled_put : (i : ℕ) (r : List A) (v : A) → i < n → v ≡ f i → Filled i r → Filled (i + 1) (set r i v)
    filled_put i r v h e w = record {
      long = length-set r i v ∙ w.long;
      done =
          below_more (λ (k : ℕ). get_or (set r i v) k d ≡ f k) i
          (λ k l. get_or-set_other r i k v d (λ q. lt_irrefl i (subst (λ (j : ℕ). j < i) q l)) ∙ w.done k l)
          (get_or-set_same r i v d (subst (λ (j : ℕ). i < j) (sym w.long) h) ∙ e);
      left = λ k l. get_or-set_other r i k v d (λ q. lt_irrefl i (lt_of_lt_of_le (omega arith) (subst (λ (j : ℕ). i + 1 ≤ j) q l))) ∙ w.left k (omega arith);
    }

    pub filled_skip : (i : ℕ) (r : List A) → d ≡ f i → Filled i r → Filled (i + 1) r
    filled_skip i r e w = record {
      long = w.long;
      done = below_more (λ (k : ℕ). get_or r k d ≡ f k) i w.done (w.left i (omega arith) ∙ e);
      left = λ k l. w.left k (omega arith);
    }

    pub filled_end : (i : ℕ) (r : List A) → n ≤ i → Filled i r → r ≡ listed n f
    filled_end i r h w =
        ext_get_or d r (listed n f) (w.long ∙ sym (length_listed n f))
        (λ k l. let kn : k < n = subst (λ (j : ℕ). k < j) w.long l in w.done k (omega arith) ∙ sym (listed_at n k f d kn))
