-- The laws of sets held in numbers, each stated once over the width k: what is in a mask, that the members decide the set, what the tests
-- on masks say, and that the count of ones is the number of members.
use mathlib.Core.Path.{◌≡◌, refl, sym, ap, ap₂, ◌∙◌, subst}
use mathlib.Core.Bool.{Bool, true, false, not, ◌&&◌, ◌||◌, and-false, or-false}
use Prim.Native.Nat.{ℕ, zero, suc, ◌+◌, ◌-◌, ◌*◌, ◌/◌, ◌%◌, ◌^◌, ◌≤◌, ◌<◌}
use native.Mathlib.Nat.{div-div-eq-div-mul, mul_comm, pow-suc, mod-lt, zero-lt-suc, div-one, div-add-mod', not-suc-le-zero, le_of_suc-le-suc, add_comm, lt_of_le_of_lt, mul-div_cancel, mul-mod_left, one-mul, mod-eq_of_lt, div-eq_of_lt, lt_of_lt_of_le, mod-le}
use native.Mathlib.Numerals.{add-one}
use native.Mathlib.Omega.{arith}
use borrow.Author.Tests.{eqb-true, eqb-false, eq-eqb, ne_eqb, le-leb, lt-leb, ltb-true, lt-ltb, not-true}
use lib.Arith.{lt-one}
use lib.Bits.{bit_and, bit_or, and_shr, and_mod, and_le_l, or_shr, or_mod, or_lt}
use lib.Count.{ones, ones_step}
use lib.Dec.{eqb, leb, ltb, lit<, eqb-zero-suc, eqb-suc-zero, eqb-suc-suc}
use lib.Pow.{shr_lt, pow_pos, pow-lt, pow_mono, field, mod-mod-pow, low, high}
use Rattle.kit.specs.Range.{any, all, one, number, implies}
use Rattle.kit.proofs.Bools.{clash, same_test, by_test, by_lt, by_le, implied_and, and_implied}
use Rattle.kit.proofs.Ranges.{all_of, all_at, any_at, any_one, none_of, number_same, number_low}
use Rattle.sets.specs.Sets.{member, set_of}

-- ---- one digit

-- a digit is 0 or 1
digit : (P : ℕ → Type 0) → P 0 → P 1 → (d : ℕ) → d < 2 → P d
digit P p0 p1 zero h = p0
digit P p0 p1 (suc zero) h = p1
digit P p0 p1 (suc (suc d)) h = absurd (not-suc-le-zero (le_of_suc-le-suc (le_of_suc-le-suc h)))

bit_lt : (s i : ℕ) → s / 2 ^ i % 2 < 2
bit_lt s i = mod-lt (s / 2 ^ i) (zero-lt-suc 1)

and_digits : (x y : ℕ) → x < 2 → y < 2 → eqb (bit_and x y) 1 ≡ (eqb x 1 && eqb y 1)
and_digits x y hx hy =
    digit (λ (d : ℕ). eqb (bit_and d y) 1 ≡ (eqb d 1 && eqb y 1)) refl
    (digit (λ (d : ℕ). eqb (bit_and 1 d) 1 ≡ (eqb 1 1 && eqb d 1)) refl refl y hy) x hx

or_digits : (x y : ℕ) → x < 2 → y < 2 → eqb (bit_or x y) 1 ≡ (eqb x 1 || eqb y 1)
or_digits x y hx hy =
    digit (λ (d : ℕ). eqb (bit_or d y) 1 ≡ (eqb d 1 || eqb y 1)) refl
    (digit (λ (d : ℕ). eqb (bit_or 1 d) 1 ≡ (eqb 1 1 || eqb d 1)) refl refl y hy) x hx

digit_same : (x y : ℕ) → x < 2 → y < 2 → eqb x 1 ≡ eqb y 1 → x ≡ y
digit_same x y hx hy =
    digit (λ (d : ℕ). eqb d 1 ≡ eqb y 1 → d ≡ y)
    (digit (λ (d : ℕ). eqb 0 1 ≡ eqb d 1 → 0 ≡ d) (λ e. refl) (λ e. absurd (eqb-false 1 1 (sym e) refl)) y hy)
    (digit (λ (d : ℕ). eqb 1 1 ≡ eqb d 1 → 1 ≡ d) (λ e. absurd (eqb-false 1 1 e refl)) (λ e. refl) y hy) x hx

one_digit : (d : ℕ) → d < 2 → d ≡ one (eqb d 1)
one_digit d h = digit (λ (x : ℕ). x ≡ one (eqb x 1)) refl refl d h

digit_one : (b : Bool) → eqb (one b % 2) 1 ≡ b
digit_one true = refl
digit_one false = refl

-- ---- members of a meet, of a union, of a half, of nothing, of one item

pub member_and : (a b i : ℕ) → member (bit_and a b) i ≡ (member a i && member b i)
unfolding member
member_and a b i =
    ap (λ (x : ℕ). eqb (x % 2) 1) (and_shr a b i) ∙ ap (λ (x : ℕ). eqb x 1) (and_mod (a / 2 ^ i) (b / 2 ^ i) 1)
    ∙ and_digits (a / 2 ^ i % 2) (b / 2 ^ i % 2) (bit_lt a i) (bit_lt b i)

pub member_or : (a b i : ℕ) → member (bit_or a b) i ≡ (member a i || member b i)
unfolding member
member_or a b i =
    ap (λ (x : ℕ). eqb (x % 2) 1) (or_shr a b i) ∙ ap (λ (x : ℕ). eqb x 1) (or_mod (a / 2 ^ i) (b / 2 ^ i) 1)
    ∙ or_digits (a / 2 ^ i % 2) (b / 2 ^ i % 2) (bit_lt a i) (bit_lt b i)

pub member_half : (s i : ℕ) → member s (suc i) ≡ member (s / 2) i
unfolding member
member_half s i =
    ap (λ (x : ℕ). eqb (s / x % 2) 1) (pow-suc 2 i ∙ mul_comm (2 ^ i) 2) ∙ ap (λ (x : ℕ). eqb (x % 2) 1) (sym (div-div-eq-div-mul s 2 (2 ^ i)))

pub member_none : (i : ℕ) → member 0 i ≡ false
unfolding member
member_none zero = refl
member_none (suc i) = member_half 0 i ∙ member_none i

pub member_one : (i j : ℕ) → member (2 ^ i) j ≡ eqb i j
unfolding member
member_one zero zero = refl
member_one zero (suc j) = member_half 1 j ∙ member_none j ∙ sym (eqb-zero-suc j)
member_one (suc i) zero =
    ap (λ (x : ℕ). eqb (x % 2) 1) (div-one (2 ^ suc i) ∙ pow-suc 2 i) ∙ ap (λ (x : ℕ). eqb x 1) (mul-mod_left (2 ^ i) 2) ∙ sym (eqb-suc-zero i)
member_one (suc i) (suc j) =
    member_half (2 ^ suc i) j ∙ ap (λ (x : ℕ). member x j) (ap (λ (x : ℕ). x / 2) (pow-suc 2 i) ∙ mul-div_cancel (2 ^ i) (zero-lt-suc 1))
    ∙ member_one i j ∙ sym (eqb-suc-suc i j)

-- ---- the members decide the set

-- half of a number of one bit more
pub half_lt : {s : ℕ} (k : ℕ) → s < 2 ^ suc k → s / 2 < 2 ^ k
half_lt {s} k h = shr_lt k 1 (subst (λ (x : ℕ). s < 2 ^ x) (sym (add_comm k 1 ∙ omega arith)) h)

-- item 0 is the lowest bit
pub low_bit : (s : ℕ) → member s 0 ≡ eqb (s % 2) 1
unfolding member
low_bit s = ap (λ (x : ℕ). eqb (x % 2) 1) (div-one s)

-- two sets of width k with the same members are one number
pub same_members : (k a b : ℕ) → a < 2 ^ k → b < 2 ^ k → ((i : ℕ) → i < k → member a i ≡ member b i) → a ≡ b
same_members zero a b ha hb e = lt-one ha ∙ sym (lt-one hb)
same_members (suc k) a b ha hb e =
    sym (div-add-mod' a 2)
    ∙ ap₂ (λ (x y : ℕ). x * 2 + y)
    (same_members k (a / 2) (b / 2) (half_lt k ha) (half_lt k hb) (λ i h. sym (member_half a i) ∙ e (suc i) (omega arith) ∙ member_half b i))
    (digit_same (a % 2) (b % 2) (mod-lt a (zero-lt-suc 1)) (mod-lt b (zero-lt-suc 1)) (sym (low_bit a) ∙ e 0 (omega arith) ∙ low_bit b))
    ∙ div-add-mod' b 2

-- ---- what lies above a width

-- the low k digits keep the members below k
low_member : (k s i : ℕ) → i < k → member (s % 2 ^ k) i ≡ member s i
unfolding member
low_member k s i h =
    ap (λ (x : ℕ). eqb (s % 2 ^ x / 2 ^ i % 2) 1) (let e : k ≡ ((k - suc i) + 1) + i = omega arith in e)
    ∙ ap (λ (x : ℕ). eqb (x % 2) 1) (field s ((k - suc i) + 1) i)
    ∙ ap (λ (x : ℕ). eqb x 1) (mod-mod-pow (s / 2 ^ i) (k - suc i) 1)

-- a set of width k has no member from k on
pub above : (k s i : ℕ) → s < 2 ^ k → k ≤ i → member s i ≡ false
unfolding member
above k s i hs h = ap (λ (x : ℕ). eqb (x % 2) 1) (div-eq_of_lt (lt_of_lt_of_le hs (pow_mono h)))

-- ---- the set of those that pass a test

pub set_of_lt : (n : ℕ) (p : ℕ → Bool) → set_of n p < 2 ^ n
unfolding set_of
set_of_lt zero p = lit< tt
set_of_lt (suc n) p = rw pow-suc (go (p n) (set_of_lt n p))
  where
    go : (b : Bool) → set_of n p < 2 ^ n → set_of n p + one b * 2 ^ n < 2 ^ n * 2
    go true h = omega arith
    go false h = omega arith

pub member_set_of : (n : ℕ) (p : ℕ → Bool) (i : ℕ) → i < n → member (set_of n p) i ≡ p i
unfolding set_of member
member_set_of zero p i h = absurd (not-suc-le-zero h)
member_set_of (suc n) p i h = by_lt i n (λ l. below l ∙ member_set_of n p i l) (λ l. let e : i ≡ n = omega arith in rw e here)
  where
    turned : set_of n p + one (p n) * 2 ^ n ≡ one (p n) * 2 ^ n + set_of n p
    turned = add_comm (set_of n p) (one (p n) * 2 ^ n)

    below : i < n → member (set_of n p + one (p n) * 2 ^ n) i ≡ member (set_of n p) i
    below l =
        sym (low_member n (set_of n p + one (p n) * 2 ^ n) i l)
        ∙ ap (λ (x : ℕ). member x i) (ap (λ (x : ℕ). x % 2 ^ n) turned ∙ low (one (p n)) n (set_of_lt n p))

    here : member (set_of n p + one (p n) * 2 ^ n) n ≡ p n
    here = ap (λ (x : ℕ). eqb (x % 2) 1) (ap (λ (x : ℕ). x / 2 ^ n) turned ∙ high (one (p n)) n (set_of_lt n p)) ∙ digit_one (p n)

pub member_set_of_above : (n : ℕ) (p : ℕ → Bool) (i : ℕ) → n ≤ i → member (set_of n p) i ≡ false
member_set_of_above n p i h = above n (set_of n p) i (set_of_lt n p) h

-- a number of width n is the set of those that pass p if its members are
pub set_is : (n s : ℕ) (p : ℕ → Bool) → s < 2 ^ n → ((i : ℕ) → i < n → member s i ≡ p i) → s ≡ set_of n p
set_is n s p hs e = same_members n s (set_of n p) hs (set_of_lt n p) (λ i h. e i h ∙ sym (member_set_of n p i h))

pub set_of_members : (n s : ℕ) → s < 2 ^ n → set_of n (member s) ≡ s
set_of_members n s hs = sym (set_is n s (member s) hs (λ i h. refl))

pub set_of_same : (n : ℕ) (p q : ℕ → Bool) → ((i : ℕ) → i < n → p i ≡ q i) → set_of n p ≡ set_of n q
set_of_same n p q e = set_is n (set_of n p) q (set_of_lt n p) (λ i h. member_set_of n p i h ∙ e i h)

-- ---- how many

-- the language's count of ones is the number of members
pub ones_members : (k s : ℕ) → s < 2 ^ k → ones s ≡ number k (member s)
unfolding ones number
ones_members zero s h = ap ones (lt-one h)
ones_members (suc k) s h =
    ones_step s
    ∙ ap₂ (λ (x y : ℕ). x + y) (one_digit (s % 2) (mod-lt s (zero-lt-suc 1)) ∙ ap one (sym (low_bit s)))
    (ones_members k (s / 2) (half_lt k h) ∙ number_same (member (s / 2)) (λ i. member s (suc i)) k (λ i l. sym (member_half s i)))
    ∙ sym (number_low k (member s))

-- a set of width k has no member above it, so a wider count is the same
pub number_narrow : (w k s : ℕ) → s < 2 ^ k → k ≤ w → number w (member s) ≡ number k (member s)
number_narrow w k s h l = sym (ones_members w s (lt_of_lt_of_le h (pow_mono l))) ∙ ones_members k s h

-- ---- the tests on masks

and_lt_left : (k a b : ℕ) → a < 2 ^ k → bit_and a b < 2 ^ k
and_lt_left k a b ha = lt_of_le_of_lt (and_le_l a b) ha

-- a set of width k is 0 if and only if no number below k is in it
pub empty_law : (k s : ℕ) (p : ℕ → Bool) → s < 2 ^ k → ((i : ℕ) → member s i ≡ p i) → not (eqb s 0) ≡ any k p
empty_law k s p hs same =
    same_test (not (eqb s 0)) (any k p)
    (λ e. by_test (any k p) (λ t. t)
    (λ f. clash e (ap not (eq-eqb s 0 (same_members k s 0 hs (pow_pos k) (λ i h. same i ∙ any_at p k i f h ∙ sym (member_none i)))))))
    (λ e. let r = any_one k p e in ap not (ne_eqb s 0 (λ z. clash r.2 (sym (same r.0) ∙ ap (λ (x : ℕ). member x r.0) z ∙ member_none r.0))))

-- `a & b != 0`
pub meets_law : (k a b : ℕ) → a < 2 ^ k → not (eqb (bit_and a b) 0) ≡ any k (λ i. member a i && member b i)
meets_law k a b ha = empty_law k (bit_and a b) (λ i. member a i && member b i) (and_lt_left k a b ha) (member_and a b)

-- `a & b == a`
pub inside_law : (k a b : ℕ) → a < 2 ^ k → eqb (bit_and a b) a ≡ all k (λ i. implies (member a i) (member b i))
inside_law k a b ha =
    same_test (eqb (bit_and a b) a) (all k q)
    (λ e. all_of k q (λ i h. and_implied (member a i) (member b i) (sym (member_and a b i) ∙ ap (λ (x : ℕ). member x i) (eqb-true (bit_and a b) a e))))
    (λ e. eq-eqb (bit_and a b) a
    (same_members k (bit_and a b) a (and_lt_left k a b ha) ha (λ i h. member_and a b i ∙ implied_and (member a i) (member b i) (all_at q k i e h))))
  where
    q : ℕ → Bool
    q i = implies (member a i) (member b i)

-- `s < 2 ^ k`, of a set of width w: no number from k on is in it
pub high_law : (w k s : ℕ) → s < 2 ^ w → ltb s (2 ^ k) ≡ not (any w (λ i. leb k i && member s i))
high_law w k s hs =
    same_test (ltb s (2 ^ k)) (not (any w p)) (λ e. ap not (none_of w p (λ i h. none (ltb-true s (2 ^ k) e) i)))
    (λ e. lt-ltb s (2 ^ k) (subst (λ (x : ℕ). x < 2 ^ k) (sym (same (not-true (any w p) e))) (mod-lt s (pow_pos k))))
  where
    p : ℕ → Bool
    p i = leb k i && member s i

    none : s < 2 ^ k → (i : ℕ) → p i ≡ false
    none h i = by_le k i (λ l. rw (above k s i h l, and-false)) (λ l. rw (lt-leb k i l))

    at : any w p ≡ false → (i : ℕ) → i < w → member s i ≡ member (s % 2 ^ k) i
    at e i h =
        by_le k i (λ l. (rw (le-leb k i l) at (any_at p w i e h)) ∙ sym (above k (s % 2 ^ k) i (mod-lt s (pow_pos k)) l))
        (λ l. sym (low_member k s i l))

    same : any w p ≡ false → s ≡ s % 2 ^ k
    same e = same_members w s (s % 2 ^ k) hs (lt_of_le_of_lt (mod-le s (2 ^ k)) hs) (at e)

-- ---- masks that are made, of a word of w digits

-- `a | b`
pub join_law : (w a b : ℕ) → a < 2 ^ w → b < 2 ^ w → bit_or a b ≡ set_of w (λ j. member a j || member b j)
join_law w a b ha hb = set_is w (bit_or a b) (λ j. member a j || member b j) (or_lt w a b ha hb) (λ j h. member_or a b j)

-- `s | 1 << i`
pub with_law : (w s i : ℕ) → s < 2 ^ w → i < w → bit_or s (1 * 2 ^ i % 2 ^ w) ≡ set_of w (λ j. member s j || eqb i j)
with_law w s i hs h =
    ap (bit_or s) (ap (λ (x : ℕ). x % 2 ^ w) (one-mul (2 ^ i)) ∙ mod-eq_of_lt (pow-lt h)) ∙ join_law w s (2 ^ i) hs (pow-lt h)
    ∙ set_of_same w (λ j. member s j || member (2 ^ i) j) (λ j. member s j || eqb i j) (λ j l. ap (λ (b : Bool). member s j || b) (member_one i j))

-- a number that has no place in the word changes nothing
pub with_none : (w s i : ℕ) → s < 2 ^ w → w ≤ i → s ≡ set_of w (λ j. member s j || eqb i j)
with_none w s i hs h = set_is w s (λ j. member s j || eqb i j) hs (λ j l. let ne : eqb i j ≡ false = ne_eqb i j (λ e. omega arith) in rw (ne, or-false))

-- `s + (t << j)`, where t is 1 or 0: one place more of a set that is made from place 0 on
module _ (w j : ℕ) (p : ℕ → Bool) {s d : ℕ} (h : j < w) (e : s ≡ set_of j p) (f : d ≡ one (p j)) where
  pub made_more : s + d * 2 ^ j % 2 ^ w ≡ set_of (j + 1) p
  unfolding set_of
  made_more = rw (e, f, add-one j) (ap (λ (x : ℕ). set_of j p + x) (mod-eq_of_lt (go (p j) (pow-lt h))))
    where
      go : (b : Bool) → 2 ^ j < 2 ^ w → one b * 2 ^ j < 2 ^ w
      go true l = rw (one-mul (2 ^ j)) l
      go false l = omega arith

  pub made_lt : s + d * 2 ^ j % 2 ^ w < 2 ^ w
  made_lt = rw made_more (lt_of_lt_of_le (set_of_lt (j + 1) p) (pow_mono (let l : j + 1 ≤ w = omega arith in l)))
