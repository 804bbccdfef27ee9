-- The set of the free message places: what is in it, and how a place is taken from it and given to it.
use Prim.Native.Nat.{ℕ, zero, suc, ◌+◌, ◌-◌, ◌*◌, ◌/◌, ◌%◌, ◌^◌, ◌≤◌, ◌<◌}
use mathlib.Core.Bool.{Bool, true, false, not, ◌||◌, or-true, or-false}
use mathlib.Core.List.{List}
use mathlib.Core.Path.{◌≡◌, refl, sym, ap, ◌∙◌, subst}
use native.Mathlib.Nat.{one-mul, mod-eq_of_lt}
use native.Mathlib.Omega.{arith}
use lib.Pow.{pow-lt}
use borrow.Author.Tests.{eq-eqb, ne_eqb, lt-ltb, le-ltb, not-true}
use lib.Dec.{eqb, ltb}
use lib.Count.{count_trailing_zeros}
use lib.ListN.{length, get_or, set}
use lib.Seq.{get_or-set_same, get_or-set_other}
use Rattle.std.specs.Prelude.{Some, None}
use Rattle.kit.specs.Range.{any, one, first}
use Rattle.kit.proofs.Bools.{by_le, by_lt, by_test, clash}
use Rattle.kit.proofs.Ranges.{none_of, first_is, first_hit, first_none, first_same}
use Rattle.sets.specs.Sets.{member, set_of}
use Rattle.sets.proofs.Laws.{above, member_none, member_set_of, set_of_same, set_of_lt, set_of_members}
use Rattle.sets.proofs.Lowest.{lower, lowest}
use Rattle.table.specs.Places.{no_message}
use Rattle.table.specs.declared.data.Message.{Message}
use Rattle.plans.specs.Pieces.{found}
use Rattle.plans.specs.Free.{free_set, free_among, free_message_in, free_without, free_with, lowest_in, without_place, with_place}
use Rattle.plans.specs.declared.free.FreePlaces.{FreePlaces}

-- ---- a set with one place more

swapped_sum : (a b c : ℕ) → (a + b) + c ≡ (a + c) + b
swapped_sum a b c = omega arith

-- where p passes j besides what q passes
set_more : (n j : ℕ) (p q : ℕ → Bool) → j < n → p j ≡ true → q j ≡ false → ((i : ℕ) → (i ≡ j → ⊥) → p i ≡ q i) → set_of n p ≡ set_of n q + 2 ^ j
unfolding set_of
set_more zero j p q h t f o = absurd (let z : ⊥ = omega arith in z)
set_more (suc n) j p q h t f o =
    by_lt j n (λ l. rw (set_more n j p q l t f o, o n (λ e. omega arith)) (swapped_sum (set_of n q) (2 ^ j) (one (q n) * 2 ^ n)))
    (λ l. let e : j ≡ n = omega arith in
    let s : set_of n p ≡ set_of n q = set_of_same n p q (λ i k. o i (λ x. omega arith)) in
    let pt : p n ≡ true = subst (λ (x : ℕ). p x ≡ true) e t in
    let qf : q n ≡ false = subst (λ (x : ℕ). q x ≡ false) e f in
    rw (e, s, pt, qf) (omega arith))

-- ---- the free places

module _ (l : List Message) where
  abbrev is_free : ℕ → Bool
  is_free j = not (get_or l j no_message).used

  free_member : (j : ℕ) → j < 64 → member (free_set l) j ≡ is_free j
  unfolding free_set
  free_member j h = member_set_of 64 is_free j h

  pub free_message_is : free_message_in (free_set l) ≡ first 64 is_free
  unfolding free_message_in
  free_message_is = first_same (member (free_set l)) is_free 64 free_member

  module _ {j : ℕ} (h : j < 64) (e : length l ≡ 64) (m : Message) where
    there : (get_or (set l j m) j no_message).used ≡ m.used
    there = ap (λ (x : Message). x.used) (get_or-set_same l j m no_message (rw e h))

    elsewhere : (i : ℕ) → (i ≡ j → ⊥) → is_free i ≡ not (get_or (set l j m) i no_message).used
    elsewhere i ne = ap (λ (x : Message). not x.used) (sym (get_or-set_other l j i m no_message ne))

    one_less : (get_or l j no_message).used ≡ false → m.used ≡ true → free_set l ≡ free_set (set l j m) + 2 ^ j
    unfolding free_set
    one_less was is = set_more 64 j is_free (λ i. not (get_or (set l j m) i no_message).used) h (ap not was) (ap not (there ∙ is)) elsewhere

    one_more : (get_or l j no_message).used ≡ true → m.used ≡ false → free_set (set l j m) ≡ free_set l + 2 ^ j
    unfolding free_set
    one_more was is =
        set_more 64 j (λ i. not (get_or (set l j m) i no_message).used) is_free h (ap not (there ∙ is)) (ap not was) (λ i ne. sym (elsewhere i ne))

    -- a message is put at a free place
    pub free_taken : (get_or l j no_message).used ≡ false → m.used ≡ true → without_place (free_set l) j ≡ free_set (set l j m)
    unfolding without_place
    free_taken was is = let s = one_less was is in rw (free_member j h, was) (omega arith)

    -- a message is taken from its place
    pub free_given : (get_or l j no_message).used ≡ true → m.used ≡ false → with_place (free_set l) j ≡ free_set (set l j m)
    unfolding with_place
    free_given was is = rw (free_member j h, was) (sym (one_more was is))

-- ---- the free places of a table as it changes

module _ (f : FreePlaces) (l : List Message) (e : f ≡ free_among l) {j : ℕ} (h : j < 64) (k : length l ≡ 64) (m : Message) where
  pub taken_among : (get_or l j no_message).used ≡ false → m.used ≡ true → free_without f j ≡ free_among (set l j m)
  taken_among was is = rw (e, lt-ltb j 64 h) (λ i. record { set = free_taken l h k m was is i })

  pub given_among : (get_or l j no_message).used ≡ true → m.used ≡ false → free_with f j ≡ free_among (set l j m)
  given_among was is = rw (e, lt-ltb j 64 h) (λ i. record { set = free_given l h k m was is i })

-- the lowest free place is free
pub lowest_free : (l : List Message) {j : ℕ} → j ≡ first 64 (λ i. not (get_or l i no_message).used) → j < 64 → (get_or l j no_message).used ≡ false
lowest_free l {j} e h =
    by_test (any 64 free) (λ t. let w = first_hit 64 free t in not-true (get_or l j no_message).used (rw (← e) at w.1)) (λ f. absurd (let n = first_none 64 free f in omega arith))
  where
    free : ℕ → Bool
    free i = not (get_or l i no_message).used

-- ---- a place taken from a set, or given to it, by the code

abbrev pub free_at : ℕ → FreePlaces
free_at s = record { set = s }

digit_one : (n : ℕ) → (n % 2 ≡ 0 → ⊥) → n % 2 ≡ 1
digit_one n ne = omega arith

digit_zero : (n : ℕ) → n % 2 ≡ 0 → n % 2 ≡ 1 → ⊥
digit_zero n z o = omega arith

module _ (f : FreePlaces) (x : ℕ) (h : x ≤ 63) where
  -- the digit of a place
  digit_of : (1 * 2 ^ x) % 2 ^ 64 ≡ 2 ^ x
  digit_of = let l : x < 64 = omega arith in ap (λ (y : ℕ). y % 2 ^ 64) (one-mul (2 ^ x)) ∙ mod-eq_of_lt (pow-lt l)

  in_range : ltb x 64 ≡ true
  in_range = lt-ltb x 64 (omega arith)

  -- it is in the set
  module _ (t : (f.set / 2 ^ x) % 2 ≡ 1) where
    inside : member f.set x ≡ true
    unfolding member
    inside = eq-eqb ((f.set / 2 ^ x) % 2) 1 t

    pub digit_below : (1 * 2 ^ x) % 2 ^ 64 ≤ f.set
    digit_below = rw digit_of (by_le (2 ^ x) f.set (λ l. l) (λ l. clash inside (above x f.set x l (let e : x ≤ x = omega arith in e))))

    pub place_taken : free_at (f.set - (1 * 2 ^ x) % 2 ^ 64) ≡ free_without f x
    unfolding without_place
    place_taken = rw (in_range, inside, digit_of) refl

  -- it is not
  module _ (t : (f.set / 2 ^ x) % 2 ≡ 1 → ⊥) where
    outside : member f.set x ≡ false
    unfolding member
    outside = ne_eqb ((f.set / 2 ^ x) % 2) 1 t

    pub place_left : f ≡ free_without f x
    unfolding without_place
    place_left = rw (in_range, outside) refl

  -- given, where it is in the set and where it is not
  pub place_kept : ((f.set / 2 ^ x) % 2 ≡ 0 → ⊥) → f ≡ free_with f x
  unfolding with_place
  place_kept t = rw (in_range, inside (digit_one (f.set / 2 ^ x) t)) refl

  module _ (t : (f.set / 2 ^ x) % 2 ≡ 0) where
    absent : member f.set x ≡ false
    absent = outside (digit_zero (f.set / 2 ^ x) t)

    pub place_given : free_at (f.set + (1 * 2 ^ x) % 2 ^ 64) ≡ free_with f x
    unfolding with_place
    place_given = rw (in_range, absent, digit_of) refl

    -- with it the set is one of 64 places still
    pub place_fits : f.set < 2 ^ 64 → f.set + (1 * 2 ^ x) % 2 ^ 64 < 2 ^ 64
    place_fits k =
        let p : ℕ → Bool = λ i. member f.set i || eqb i x in
        let w : set_of 64 p ≡ set_of 64 (member f.set) + 2 ^ x =
        set_more 64 x p (member f.set) (omega arith) (rw (eq-eqb x x refl, or-true)) absent (λ i ne. rw (ne_eqb i x ne, or-false)) in
        rw (digit_of, ← set_of_members 64 f.set k, ← w) (set_of_lt 64 p)

module _ (f : FreePlaces) (x : ℕ) (h : 63 < x) where
  pub take_out : f ≡ free_without f x
  unfolding without_place
  take_out = rw (le-ltb x 64 h) refl

  pub give_out : f ≡ free_with f x
  unfolding with_place
  give_out = rw (le-ltb x 64 h) refl

-- ---- the lowest place

module _ (s : ℕ) (h : s < 2 ^ 64) where
  found_low : (s ≡ 0 → ⊥) → count_trailing_zeros 64 s < 64
  found_low ne = by_lt (count_trailing_zeros 64 s) 64 (λ l. l) (λ l. clash (lowest 64 s ne h) (above 64 s (count_trailing_zeros 64 s) h l))

  -- the zeros below the lowest digit of a set are as many as the first that is in it
  zeros_first : (s ≡ 0 → ⊥) → count_trailing_zeros 64 s ≡ first 64 (member s)
  zeros_first ne = sym (first_is 64 (count_trailing_zeros 64 s) (member s) (none_of (count_trailing_zeros 64 s) (member s) (lower 64 s)) (found_low ne) (lowest 64 s ne h))

  pub lowest_is : (s ≡ 0 → ⊥) → Some (count_trailing_zeros 64 s) ≡ lowest_in (record { set = s })
  unfolding free_message_in found
  lowest_is ne = let l = found_low ne in rw (← zeros_first ne, lt-ltb (count_trailing_zeros 64 s) 64 l) refl

pub lowest_none : None ≡ lowest_in (record { set = 0 })
unfolding free_message_in found
lowest_none = rw (first_none 64 (member 0) (none_of 64 (member 0) (λ i l. member_none i))) refl
