-- A loop over the items of a set, lowest first: what is left of the set gives up its lowest item at each turn. The lowest item of a number
-- that is not 0 is the count of the zeros below it, and `n & (n - 1)` is n without it; each over the width k.
use mathlib.Core.Path.{◌≡◌, refl, sym, ap, ◌∙◌}
use mathlib.Core.Bool.{Bool, true, false, not, ◌&&◌, and-true, and-false}
use Prim.Native.Nat.{ℕ, zero, suc, ◌+◌, ◌-◌, ◌*◌, ◌/◌, ◌%◌, ◌^◌, ◌≤◌, ◌<◌}
use native.Mathlib.Nat.{mod-lt, zero-lt-suc, add-zero, mul-div_cancel, mul-mod_left, lt_of_le_of_lt}
use native.Mathlib.Numerals.{add-one}
use native.Mathlib.Omega.{arith}
use borrow.Author.Tests.{eq-eqb, ne_eqb}
use lib.Arith.{lt-one}
use lib.Bits.{bit_and, and_step, and_self, and_le_l, and_le_r}
use lib.Count.{count_trailing_zeros, under}
use lib.Dec.{eqb, eqb-suc-suc, eqb-suc-zero}
use Rattle.kit.specs.Range.{any}
use Rattle.kit.proofs.Bools.{clash, by_lt, by_eq, by_le, both_true}
use Rattle.kit.proofs.Ranges.{any_hit, none_of}
use Rattle.sets.specs.Sets.{member}
use Rattle.sets.proofs.Laws.{member_half, member_none, above, half_lt, low_bit}

-- ---- the lowest item

-- no item below it is in the set
pub lower : (k n i : ℕ) → i < count_trailing_zeros k n → member n i ≡ false
unfolding count_trailing_zeros
lower zero n i h = absurd (let z : ⊥ = omega arith in z)
lower (suc k) n i h = go (n % 2) refl i h (lower k (n / 2))
  where
    go : (d : ℕ) → n % 2 ≡ d → (i : ℕ) → i < under d (count_trailing_zeros k (n / 2))
        → ((j : ℕ) → j < count_trailing_zeros k (n / 2) → member (n / 2) j ≡ false) → member n i ≡ false
    go zero e zero h below = low_bit n ∙ ap (λ (x : ℕ). eqb x 1) e
    go zero e (suc i) h below = member_half n i ∙ below i (omega arith)
    go (suc d) e i h below = absurd (let z : ⊥ = omega arith in z)

-- it is in the set
pub lowest : (k n : ℕ) → (n ≡ 0 → ⊥) → n < 2 ^ k → member n (count_trailing_zeros k n) ≡ true
unfolding count_trailing_zeros
lowest zero n ne h = absurd (ne (lt-one h))
lowest (suc k) n ne h = go (n % 2) refl (mod-lt n (zero-lt-suc 1)) (λ z. lowest k (n / 2) z (half_lt k h))
  where
    go : (d : ℕ) → n % 2 ≡ d → n % 2 < 2 → ((n / 2 ≡ 0 → ⊥) → member (n / 2) (count_trailing_zeros k (n / 2)) ≡ true)
        → member n (under d (count_trailing_zeros k (n / 2))) ≡ true
    go zero e l half = member_half n (count_trailing_zeros k (n / 2)) ∙ half (λ z. ne (omega arith))
    go (suc zero) e l half = low_bit n ∙ ap (λ (x : ℕ). eqb x 1) e
    go (suc (suc d)) e l half = absurd (let z : ⊥ = omega arith in z)

-- `n & (n - 1)` is the set without it
pub without_lowest : (k n i : ℕ) → (n ≡ 0 → ⊥) → n < 2 ^ k → member (bit_and n (n - 1)) i ≡ (member n i && not (eqb i (count_trailing_zeros k n)))
unfolding count_trailing_zeros
without_lowest zero n i ne h = absurd (ne (lt-one h))
without_lowest (suc k) n i ne h = go (n % 2) refl (mod-lt n (zero-lt-suc 1)) i (λ j z. without_lowest k (n / 2) j z (half_lt k h))
  where
    even : n % 2 ≡ 0 → bit_and n (n - 1) ≡ bit_and (n / 2) (n / 2 - 1) * 2
    even e = let p : (n - 1) / 2 ≡ n / 2 - 1 = omega arith in let q : (n - 1) % 2 ≡ 1 = omega arith in rw (and_step n (n - 1), p, q, e, add-zero)

    odd : n % 2 ≡ 1 → bit_and n (n - 1) ≡ n / 2 * 2
    odd e = let p : (n - 1) / 2 ≡ n / 2 = omega arith in let q : (n - 1) % 2 ≡ 0 = omega arith in rw (and_step n (n - 1), p, q, e, and_self, add-zero)

    twice_low : (m : ℕ) → member (m * 2) 0 ≡ false
    twice_low m = low_bit (m * 2) ∙ ap (λ (x : ℕ). eqb x 1) (mul-mod_left m 2)

    twice : (m i : ℕ) → member (m * 2) (suc i) ≡ member m i
    twice m i = member_half (m * 2) i ∙ ap (λ (x : ℕ). member x i) (mul-div_cancel m (zero-lt-suc 1))

    go : (d : ℕ) → n % 2 ≡ d → n % 2 < 2 → (i : ℕ)
        → ((j : ℕ) → (n / 2 ≡ 0 → ⊥) → member (bit_and (n / 2) (n / 2 - 1)) j ≡ (member (n / 2) j && not (eqb j (count_trailing_zeros k (n / 2)))))
        → member (bit_and n (n - 1)) i ≡ (member n i && not (eqb i (under d (count_trailing_zeros k (n / 2)))))
    go zero e l zero half = rw (even e, twice_low (bit_and (n / 2) (n / 2 - 1)), low_bit n, e)
    go zero e l (suc i) half =
        rw (even e, twice (bit_and (n / 2) (n / 2 - 1)) i, member_half n i, eqb-suc-suc i (count_trailing_zeros k (n / 2))) (half i (λ z. ne (omega arith)))
    go (suc zero) e l zero half = rw (odd e, twice_low (n / 2), and-false)
    go (suc zero) e l (suc i) half = rw (odd e, twice (n / 2) i, member_half n i, eqb-suc-zero i, and-true)
    go (suc (suc d)) e l i half = absurd (let z : ⊥ = omega arith in z)

-- ---- the loop

-- `left` is what is left of the set s from the item `from` on
pub record Left (s from left : ℕ) : Type 0 where
  pub behind : (i : ℕ) → from ≤ i → member left i ≡ member s i
  pub gone : (i : ℕ) → i < from → member left i ≡ false

pub left_all : (s : ℕ) → Left s 0 s
left_all s = record { behind = λ i h. refl; gone = λ i h. absurd (let z : ⊥ = omega arith in z) }

-- a turn's item is in the set, those that it passes over are not, and the item goes
module _ (s from left : ℕ) (ne : left ≡ 0 → ⊥) (fits : left < 2 ^ 32) (l : Left s from left) where
  pub item_behind : from ≤ count_trailing_zeros 32 left
  item_behind = by_le from (count_trailing_zeros 32 left) (λ h. h) (λ h. clash (lowest 32 left ne fits) (l.gone _ h))

  pub item_in : member s (count_trailing_zeros 32 left) ≡ true
  item_in = sym (l.behind _ item_behind) ∙ lowest 32 left ne fits

  pub passed_over : (i : ℕ) → from ≤ i → i < count_trailing_zeros 32 left → member s i ≡ false
  passed_over i h k = sym (l.behind i h) ∙ lower 32 left i k

  pub left_less : Left s (count_trailing_zeros 32 left + 1) (bit_and left (left - 1))
  left_less = record {
    behind = λ i h. let e : eqb i (count_trailing_zeros 32 left) ≡ false = ne_eqb i (count_trailing_zeros 32 left) (λ q. omega arith) in
        rw (without_lowest 32 left i ne fits, e, and-true) (l.behind i (omega (arith, item_behind)));
    gone = λ i h. rw (without_lowest 32 left i ne fits)
        (by_eq i (count_trailing_zeros 32 left) (λ q. rw (eq-eqb i (count_trailing_zeros 32 left) q, and-false)) (λ q. rw (lower 32 left i (omega arith))));
  }

  pub item_small : count_trailing_zeros 32 left < 32
  item_small = by_lt (count_trailing_zeros 32 left) 32 (λ h. h) (λ h. clash (lowest 32 left ne fits) (above 32 left (count_trailing_zeros 32 left) fits h))

  -- where all items of the set are below k, it is
  pub item_below : (k : ℕ) → s < 2 ^ k → count_trailing_zeros 32 left < k
  item_below k h = by_lt (count_trailing_zeros 32 left) k (λ l. l) (λ l. clash item_in (above k s (count_trailing_zeros 32 left) h l))

  pub left_falls : bit_and left (left - 1) < left
  left_falls = let h : bit_and left (left - 1) ≤ left - 1 = and_le_r left (left - 1) in omega (arith, ne)

-- ---- `if t(item) { return true; }` in it computes `any n (λ i. member s i && t i)`

module _ (s : ℕ) (t : ℕ → Bool) where
  -- no item that is gone passes
  pub record Sought (left : ℕ) : Type 0 where
    pub from : ℕ
    pub fits : left < 2 ^ 32
    pub left_is : Left s from left
    pub none : (i : ℕ) → i < from → (member s i && t i) ≡ false

  pub sought_start : s < 2 ^ 32 → Sought s
  sought_start h = record { from = 0; fits = h; left_is = left_all s; none = λ i l. absurd (let z : ⊥ = omega arith in z) }

  -- at the end none passes
  pub sought_over : (n left : ℕ) → Sought left → left ≡ 0 → false ≡ any n (λ i. member s i && t i)
  sought_over n left v e =
      sym (none_of n (λ i. member s i && t i)
      (λ i h. by_lt i v.from (v.none i) (λ l. rw (← v.left_is.behind i l, e, member_none i))))

  module _ (left : ℕ) (v : Sought left) (ne : left ≡ 0 → ⊥) where
    pub sought_item : count_trailing_zeros 32 left < 32
    sought_item = item_small s v.from left ne v.fits v.left_is

    pub sought_below : (k : ℕ) → s < 2 ^ k → count_trailing_zeros 32 left < k
    sought_below k h = item_below s v.from left ne v.fits v.left_is k h

    pub sought_less : bit_and left (left - 1) < left
    sought_less = left_falls s v.from left ne v.fits v.left_is

    -- the items that a turn passes over are not in the set
    before_item : (i : ℕ) → i < count_trailing_zeros 32 left → (member s i && t i) ≡ false
    before_item i h = by_lt i v.from (v.none i) (λ l. rw (passed_over s v.from left ne v.fits v.left_is i l h))

    pub sought_more : t (count_trailing_zeros 32 left) ≡ false → Sought (bit_and left (left - 1))
    sought_more e = record {
      from = count_trailing_zeros 32 left + 1;
      fits = lt_of_le_of_lt (and_le_l left (left - 1)) v.fits;
      left_is = left_less s v.from left ne v.fits v.left_is;
      none = λ i h. by_lt i (count_trailing_zeros 32 left) (before_item i) (λ l. let q : i ≡ count_trailing_zeros 32 left = omega arith in rw (q, e, and-false));
    }

    pub sought_found : (n : ℕ) → count_trailing_zeros 32 left < n → t (count_trailing_zeros 32 left) ≡ true → true ≡ any n (λ i. member s i && t i)
    sought_found n h e =
        sym (any_hit n (count_trailing_zeros 32 left) (λ i. member s i && t i) h (both_true (item_in s v.from left ne v.fits v.left_is) e))

    -- the first that is left stands behind the n that are asked for
    pub sought_past : (n : ℕ) → n ≤ count_trailing_zeros 32 left → false ≡ any n (λ i. member s i && t i)
    sought_past n h = sym (none_of n (λ i. member s i && t i) (λ i l. before_item i (omega arith)))

-- ---- in it something is done at each item: P i says that the first i numbers are done, of n; for one that is no item there is nothing to do

-- those that are gone are done
pub record Done (n s : ℕ) (P : ℕ → Type 0) (left : ℕ) : Type 0 where
  pub from : ℕ
  pub in_reach : from ≤ n
  pub fits : left < 2 ^ 32
  pub left_is : Left s from left
  pub so_far : P from

pub done_start : {n s : ℕ} {P : ℕ → Type 0} → s < 2 ^ 32 → P 0 → Done n s P s
done_start {s = s} h p = record { from = 0; in_reach = omega arith; fits = h; left_is = left_all s; so_far = p }

module _ {n s : ℕ} {P : ℕ → Type 0} {left : ℕ} (v : Done n s P left) (ne : left ≡ 0 → ⊥) where
  pub done_in : member s (count_trailing_zeros 32 left) ≡ true
  done_in = item_in s v.from left ne v.fits v.left_is

  pub done_below : (k : ℕ) → s < 2 ^ k → count_trailing_zeros 32 left < k
  done_below k h = item_below s v.from left ne v.fits v.left_is k h

  pub done_less : bit_and left (left - 1) < left
  done_less = left_falls s v.from left ne v.fits v.left_is

  -- a turn: Q is what P became
  pub done_more : {Q : ℕ → Type 0} → count_trailing_zeros 32 left < n → Q (count_trailing_zeros 32 left + 1) → Done n s Q (bit_and left (left - 1))
  done_more h q = record {
    from = count_trailing_zeros 32 left + 1;
    in_reach = omega arith;
    fits = lt_of_le_of_lt (and_le_l left (left - 1)) v.fits;
    left_is = left_less s v.from left ne v.fits v.left_is;
    so_far = q;
  }

-- none from a to b is an item
gap
    : (s : ℕ) {P : ℕ → Type 0} → ((i : ℕ) → member s i ≡ false → P i → P (i + 1)) → (a b : ℕ) → a ≤ b → ((i : ℕ) → a ≤ i → i < b → member s i ≡ false)
    → P a → P b
gap s skips a zero h none p = let e : a ≡ 0 = omega arith in rw e at p
gap s skips a (suc b) h none p =
    by_le a b (λ l. rw (add-one b) at (skips b (none b l (omega arith)) (gap s skips a b l (λ i x y. none i x (omega arith)) p)))
    (λ l. let e : a ≡ suc b = omega arith in rw e at p)

module _ {n s : ℕ} {P : ℕ → Type 0} {left : ℕ} (skips : (i : ℕ) → member s i ≡ false → P i → P (i + 1)) (v : Done n s P left) where
  -- at the end all are done
  pub done_over : left ≡ 0 → P n
  done_over z =
      gap s skips v.from n v.in_reach (λ i x y. sym (v.left_is.behind i x) ∙ ap (λ (k : ℕ). member k i) z ∙ member_none i) v.so_far

  module _ (ne : left ≡ 0 → ⊥) where
    none_before : (i : ℕ) → v.from ≤ i → i < count_trailing_zeros 32 left → member s i ≡ false
    none_before = passed_over s v.from left ne v.fits v.left_is

    -- those before a turn's item are done
    pub done_before : P (count_trailing_zeros 32 left)
    done_before = gap s skips v.from (count_trailing_zeros 32 left) (item_behind s v.from left ne v.fits v.left_is) none_before v.so_far

    -- the first that is left stands behind the n
    pub done_past : n ≤ count_trailing_zeros 32 left → P n
    done_past h = gap s skips v.from n v.in_reach (λ i x y. none_before i x (omega arith)) v.so_far
