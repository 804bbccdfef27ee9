-- What the definitions say of each item: with one more, in either, in both, inside, how many, and items only.
use mathlib.Core.Path.{◌≡◌, refl, sym, ap, ◌∙◌}
use mathlib.Core.Bool.{true, false, not, ◌&&◌, ◌||◌}
use Prim.Native.Nat.{ℕ, ◌^◌, ◌≤◌, ◌<◌}
use native.Mathlib.Omega.{arith}
use borrow.Author.Tests.{ne_eqb, lt-ltb, ltb-true, not-true}
use lib.Dec.{eqb, leb}
use Rattle.kit.specs.Range.{any, implies, number}
use Rattle.kit.proofs.Bools.{clash, by_test, by_lt, and_left, and_right, both_true, implied, implying}
use Rattle.kit.proofs.Ranges.{Common, any_hit, any_at, any_one, none_of, all_at, all_of, number_le, number_grows}
use Rattle.sets.specs.Sets.{member, with_item, union, meets, inside, size, of_items}
use Rattle.sets.proofs.Laws.{above, member_set_of, set_of_lt, empty_law, high_law, number_narrow}

-- ---- with one item more; in either

pub with_lt : (s i : ℕ) → with_item s i < 2 ^ 32
unfolding with_item
with_lt s i = set_of_lt 32 (λ j. member s j || eqb i j)

pub member_with : (s i j : ℕ) → j < 32 → member (with_item s i) j ≡ (member s j || eqb i j)
unfolding with_item
member_with s i j h = member_set_of 32 (λ j. member s j || eqb i j) j h

pub union_lt : (a b : ℕ) → union a b < 2 ^ 32
unfolding union
union_lt a b = set_of_lt 32 (λ j. member a j || member b j)

pub member_union : (a b j : ℕ) → j < 32 → member (union a b) j ≡ (member a j || member b j)
unfolding union
member_union a b j h = member_set_of 32 (λ j. member a j || member b j) j h

-- ---- in both

-- an item in both
pub meets_item : (a b : ℕ) → meets a b ≡ true → Common 32 (member a) (member b)
unfolding meets
meets_item a b e =
    let r = any_one 32 (λ j. member a j && member b j) e in
    let i = r.0 in
    (i, r.1, and_left (member a i) (member b i) r.2, and_right (member a i) (member b i) r.2)

pub meets_of : (a b i : ℕ) → i < 32 → member a i ≡ true → member b i ≡ true → meets a b ≡ true
unfolding meets
meets_of a b i h p q = any_hit 32 i (λ j. member a j && member b j) h (both_true p q)

-- sets that do not meet
pub apart_at : (a b i : ℕ) → meets a b ≡ false → i < 32 → member a i ≡ true → member b i ≡ false
apart_at a b i e h p = by_test (member b i) (λ q. clash (meets_of a b i h p q) e) (λ q. q)

-- ---- inside

pub inside_at : (a b i : ℕ) → inside a b ≡ true → i < 32 → member a i ≡ true → member b i ≡ true
unfolding inside
inside_at a b i e h p = implied (member a i) (member b i) (all_at (λ j. implies (member a j) (member b j)) 32 i e h) p

pub inside_of : (a b : ℕ) → ((i : ℕ) → i < 32 → member a i ≡ true → member b i ≡ true) → inside a b ≡ true
unfolding inside
inside_of a b f = all_of 32 (λ j. implies (member a j) (member b j)) (λ i h. implying (member a i) (f i h))

-- ---- a word that is not 0 has an item in it

pub some_item : (s : ℕ) → s < 2 ^ 32 → (s ≡ 0 → ⊥) → (i : ℕ) × (i < 32) × (member s i ≡ true)
some_item s h ne = any_one 32 (member s) (sym (empty_law 32 s (member s) h (λ i. refl)) ∙ ap not (ne_eqb s 0 ne))

-- ---- items only: no item above 23

pub items_lt : (s : ℕ) → s < 2 ^ 32 → of_items s ≡ true → s < 2 ^ 24
unfolding of_items
items_lt s h e = ltb-true s (2 ^ 24) (high_law 32 24 s h ∙ e)

pub items_of : (s : ℕ) → s < 2 ^ 24 → of_items s ≡ true
unfolding of_items
items_of s h = sym (high_law 32 24 s (omega arith)) ∙ lt-ltb s (2 ^ 24) h

pub items_above : (s i : ℕ) → s < 2 ^ 32 → of_items s ≡ true → 24 ≤ i → member s i ≡ false
items_above s i h e l = above 24 s i (items_lt s h e) l

pub items_below : (s i : ℕ) → s < 2 ^ 32 → of_items s ≡ true → member s i ≡ true → i < 24
items_below s i h e m = by_lt i 24 (λ l. l) (λ l. clash m (items_above s i h e l))

pub items_size : (s : ℕ) → s < 2 ^ 32 → of_items s ≡ true → size s ≡ number 24 (member s)
unfolding size
items_size s h e = number_narrow 32 24 s (items_lt s h e) (omega arith)

pub items_few : (s : ℕ) → s < 2 ^ 32 → of_items s ≡ true → size s ≤ 24
items_few s h e = rw (items_size s h e) (number_le 24 (member s))

-- what lies inside a set of items is one
pub items_inside : (a b : ℕ) → inside a b ≡ true → of_items b ≡ true → of_items a ≡ true
unfolding of_items
items_inside a b i e =
    ap not
    (none_of 32 (λ j. leb 24 j && member a j)
    (λ j h. by_test (leb 24 j && member a j)
    (λ t. let m : member b j ≡ true = inside_at a b j i h (and_right (leb 24 j) (member a j) t) in
    clash (both_true (and_left (leb 24 j) (member a j) t) m) (any_at (λ k. leb 24 k && member b k) 32 j (not-true (any 32 (λ k. leb 24 k && member b k)) e) h))
    (λ f. f)))

-- and has no more items
pub inside_size : (a b : ℕ) → inside a b ≡ true → size a ≤ size b
unfolding size
inside_size a b i = number_grows 32 (member a) (member b) (λ j h m. inside_at a b j i h m)
