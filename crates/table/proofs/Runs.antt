-- Stamps and values asked one behind the other: a stamp that stands behind the same stamp needs no test, tests that are all made, and the items
-- of a set.
use mathlib.Core.Path.{◌≡◌, refl, sym, ap, ◌∙◌}
use mathlib.Core.Bool.{Bool, true, false, not, ◌&&◌, ◌||◌, and-true}
use mathlib.Core.List.{List}
use Prim.Native.Nat.{ℕ, zero, suc, ◌+◌, ◌-◌, ◌^◌, ◌≤◌, ◌<◌}
use native.Mathlib.Numerals.{add-one}
use native.Mathlib.Omega.{arith}
use borrow.Author.Tests.{eq-eqb, ne_eqb, le-leb, not-true, not-false}
use lib.Bits.{bit_and}
use lib.Count.{count_trailing_zeros}
use lib.Dec.{eqb}
use lib.IntN.{ℤ, pos}
use lib.ListN.{length, get_or, take}
use Rattle.kit.specs.Range.{any, all, implies}
use Rattle.std.specs.List.{list_any}
use Rattle.std.specs.Ordering.{int_eq}
use Rattle.std.proofs.lemmas.List.{length-take, get_or-take}
use Rattle.kit.proofs.Iterated.{any_elements}
use Rattle.kit.proofs.Bools.{and_left, and_right, both_true, by_test, by_eq, same_test}
use Rattle.kit.proofs.Loops.{Held, held_more}
use Rattle.kit.proofs.Ranges.{any_at, any_same, all_suc, all_at, all_of, all_miss}
use Rattle.readings.specs.Readings.{in_range, is_zero}
use Rattle.readings.proofs.Orders.{zero_is}
use Rattle.sets.specs.Sets.{member}
use Rattle.sets.proofs.Lowest.{Sought, sought_start, sought_item, sought_less, sought_over, sought_past, sought_more, item_in}
use Rattle.stamps.specs.Stamps.{well_formed}
use Rattle.vote.specs.declared.data.Site.{Site}
use Rattle.table.proofs.Blanks.{zero_test}
use Rattle.table.specs.Parts.{stamp_new, time_right, value_right, reading_sound}
use Rattle.table.specs.Sound.{reading_allowed}

-- ---- tests that are all made

pub made_none : (p : ℕ → Bool) → true ≡ all 0 p
unfolding all
made_none p = refl

pub made_more : {good r : Bool} (p : ℕ → Bool) (i : ℕ) {n : ℕ} → n ≡ i + 1 → good ≡ all i p → r ≡ p i → (good && r) ≡ all n p
made_more p i e f g = rw (e, add-one i, all_suc i p, f, g)

-- ---- a stamp that is sought among those before it

not_any : (p : ℕ → Bool) (n : ℕ) → not (any n p) ≡ all n (λ i. not (p i))
unfolding any all
not_any p zero = refl
not_any p (suc n) = de_morgan (any n p) (p n) ∙ rw (not_any p n)
  where
    de_morgan : (a b : Bool) → not (a || b) ≡ (not a && not b)
    de_morgan true b = refl
    de_morgan false b = refl

pub stamp_sought
    : {r : Bool} {x : ℕ} (stamps : List ℕ) (p : ℕ) → length stamps ≡ 16 → p < 16 → x ≡ get_or stamps p 0 → r ≡ list_any (λ y. eqb y x) (take p stamps)
    → not r ≡ stamp_new stamps p
unfolding stamp_new
stamp_sought {x = x} stamps p l h e f =
    ap not (f ∙ any_elements (λ y. eqb y x) (take p stamps) 0 (length-take p stamps ∙ omega arith)
    ∙ any_same (λ q. eqb (get_or (take p stamps) q 0) x) (λ q. eqb (get_or stamps q 0) (get_or stamps p 0)) p (λ q k. rw (get_or-take p stamps q 0 k, e)))
    ∙ not_any (λ q. eqb (get_or stamps q 0) (get_or stamps p 0)) p

-- ---- a value beside its stamp

pub value_none : {r : Bool} {stamp : ℕ} (v : ℤ) → stamp ≡ 0 → r ≡ int_eq v (pos 0) → r ≡ value_right stamp v
unfolding value_right
value_none {stamp = stamp} v e f = rw (eq-eqb stamp 0 e) (f ∙ zero_test v)

pub value_some : {r : Bool} {stamp : ℕ} (v : ℤ) → (stamp ≡ 0 → ⊥) → r ≡ in_range v → r ≡ value_right stamp v
unfolding value_right
value_some {stamp = stamp} v ne f = rw (ne_eqb stamp 0 ne) f

-- ---- a stamp behind one that has passed

pub passes : {r a : Bool} → r ≡ a → not r ≡ false → a ≡ true
passes {r} e f = sym e ∙ not-false r f

abbrev pub stamp_right : ℕ → List ℕ → ℕ → Bool
stamp_right n lasts stamp = well_formed n stamp && time_right lasts stamp

pub blank_right : (n : ℕ) (lasts : List ℕ) → stamp_right n lasts 0 ≡ true
unfolding well_formed time_right
blank_right n lasts = le-leb 0 (get_or lasts 0 0) (omega arith)

pub stamp_more
    : (n : ℕ) (lasts copied : List ℕ) {i stamp : ℕ} → Held 24 (λ k. stamp_right n lasts (get_or copied k 0)) i → i < 24 → stamp ≡ get_or copied i 0
    → stamp_right n lasts stamp ≡ true → Held 24 (λ k. stamp_right n lasts (get_or copied k 0)) (i + 1) × (stamp_right n lasts stamp ≡ true)
stamp_more n lasts copied held h e t = (held_more {r = true} held h (rw (← e) (sym t)) refl, t)

-- ---- `if !g(item) { return false; }` for the items of a set, lowest first, computes `all n (λ i. implies (member s i) (g i))`

unfailed : (a b : Bool) → (a && not b) ≡ false → implies a b ≡ true
unfailed true true e = refl
unfailed true false e = sym e
unfailed false b e = refl

module _ (s : ℕ) (g : ℕ → Bool) where
  -- none fails
  all_asked : (n : ℕ) → false ≡ any n (λ i. member s i && not (g i)) → true ≡ all n (λ i. implies (member s i) (g i))
  all_asked n e =
      sym (all_of n (λ i. implies (member s i) (g i)) (λ i h. unfailed (member s i) (g i) (any_at (λ k. member s k && not (g k)) n i (sym e) h)))

  -- no item that is gone fails
  pub record Passed (left : ℕ) : Type 0 where
    pub sought : Sought s (λ i. not (g i)) left

  pub passed_start : s < 2 ^ 32 → Passed s
  passed_start h = record { sought = sought_start s (λ i. not (g i)) h }

  pub passed_over : (n left : ℕ) → Passed left → left ≡ 0 → true ≡ all n (λ i. implies (member s i) (g i))
  passed_over n left v z = all_asked n (sought_over s (λ i. not (g i)) n left v.sought z)

  module _ (left : ℕ) (v : Passed left) (ne : left ≡ 0 → ⊥) where
    pub passed_item : count_trailing_zeros 32 left < 32
    passed_item = sought_item s (λ i. not (g i)) left v.sought ne

    pub passed_less : bit_and left (left - 1) < left
    passed_less = sought_less s (λ i. not (g i)) left v.sought ne

    -- the first that is left stands behind the n that are asked for
    pub passed_past : (n : ℕ) → n ≤ count_trailing_zeros 32 left → true ≡ all n (λ i. implies (member s i) (g i))
    passed_past n h = all_asked n (sought_past s (λ i. not (g i)) left v.sought ne n h)

    module _ {r : Bool} (e : r ≡ g (count_trailing_zeros 32 left)) where
      pub passed_failed : (n : ℕ) → count_trailing_zeros 32 left < n → not r ≡ true → false ≡ all n (λ i. implies (member s i) (g i))
      passed_failed n h f =
          sym (all_miss n (count_trailing_zeros 32 left) (λ i. implies (member s i) (g i)) h
          (rw (item_in s v.sought.from left ne v.sought.fits v.sought.left_is) (sym e ∙ not-true r f)))

      pub passed_more : not r ≡ false → Passed (bit_and left (left - 1))
      passed_more f = record { sought = sought_more s (λ i. not (g i)) left v.sought ne (rw (← e) f) }

-- ---- a copy: its stamps, and its values beside them

zero_in_range : (v : ℤ) → is_zero v ≡ (in_range v && is_zero v)
unfolding in_range
zero_in_range v = by_test (is_zero v) (λ t. rw (zero_is v t)) (λ f. rw f (sym (and_false_of (in_range v))))
  where
    and_false_of : (b : Bool) → (b && false) ≡ false
    and_false_of true = refl
    and_false_of false = refl

value_allowed : (stamp : ℕ) (v : ℤ) → value_right stamp v ≡ (in_range v && implies (eqb stamp 0) (is_zero v))
unfolding value_right
value_allowed stamp v =
    by_eq stamp 0
    (λ e. rw (eq-eqb stamp 0 e) (zero_in_range v))
    (λ ne. rw (ne_eqb stamp 0 ne) (sym (and-true (in_range v))))

module _ (n : ℕ) (lasts : List ℕ) (s : Site) where
  abbrev stamp_at : ℕ → Bool
  stamp_at i = stamp_right n lasts (get_or s.stamps i 0)

  abbrev value_at : ℕ → Bool
  value_at i = value_right (get_or s.stamps i 0) (get_or s.values i (pos 0))

  reading_parts : (i : ℕ) → reading_sound n lasts s i ≡ (stamp_at i && value_at i)
  unfolding reading_sound reading_allowed
  reading_parts i =
      rw (value_allowed (get_or s.stamps i 0) (get_or s.values i (pos 0)))
      (turned (well_formed n (get_or s.stamps i 0)) (in_range (get_or s.values i (pos 0)) && implies (eqb (get_or s.stamps i 0) 0) (is_zero (get_or s.values i (pos 0)))) (time_right lasts (get_or s.stamps i 0)))
    where
      turned : (a b d : Bool) → ((a && b) && d) ≡ ((a && d) && b)
      turned true true d = sym (and-true d)
      turned true false true = refl
      turned true false false = refl
      turned false b d = refl

  pub reading_of : (i : ℕ) → stamp_at i ≡ true → value_at i ≡ true → reading_sound n lasts s i ≡ true
  reading_of i a b = reading_parts i ∙ both_true a b

  pub copy_means : {r : Bool} → r ≡ (all 24 stamp_at && all 24 value_at) → r ≡ all 24 (reading_sound n lasts s)
  copy_means e =
      e ∙ same_test (all 24 stamp_at && all 24 value_at) (all 24 (reading_sound n lasts s))
      (λ t. all_of 24 (reading_sound n lasts s) (λ i l. reading_parts i ∙ both_true (all_at stamp_at 24 i (and_left (all 24 stamp_at) (all 24 value_at) t) l) (all_at value_at 24 i (and_right (all 24 stamp_at) (all 24 value_at) t) l)))
      (λ t. both_true
      (all_of 24 stamp_at (λ i l. and_left (stamp_at i) (value_at i) (sym (reading_parts i) ∙ all_at (reading_sound n lasts s) 24 i t l)))
      (all_of 24 value_at (λ i l. and_right (stamp_at i) (value_at i) (sym (reading_parts i) ∙ all_at (reading_sound n lasts s) 24 i t l))))
