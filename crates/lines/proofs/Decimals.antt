-- The digits of a number: one digit, one digit more, and how many there are.
use mathlib.Core.Path.{◌≡◌, refl}
use mathlib.Core.List.{[], ◌∷◌, ◌++◌}
use Prim.Native.Nat.{ℕ, zero, suc, ◌+◌, ◌*◌, ◌/◌, ◌%◌, ◌^◌, ◌≤◌, ◌<◌}
use native.Mathlib.Nat.{le_refl, not-suc-le-zero, pow-suc, one-le-pow}
use native.Mathlib.Omega.{arith}
use borrow.Author.Tests.{lt-ltb, le-ltb}
use lib.Dec.{lit<}
use lib.ListN.{length, length-append}
use Rattle.kit.proofs.Bools.{by_lt}
use Rattle.lines.specs.Lines.{digit, digits_of, decimal_of}

-- ---- one digit, and one more

-- n + 1 digits are enough for n
enough : (k j n : ℕ) → n ≤ k → n ≤ j → digits_of k n ≡ digits_of j n
unfolding digits_of
enough zero zero n h i = refl
enough zero (suc j) n h i = rw (lt-ltb n 10 (omega arith))
enough (suc k) zero n h i = rw (lt-ltb n 10 (omega arith))
enough (suc k) (suc j) n h i = by_lt n 10 (λ l. rw (lt-ltb n 10 l)) (λ l. rw (le-ltb n 10 l, enough k j (n / 10) (omega arith) (omega arith)))

pub decimal_small : (n : ℕ) → n < 10 → decimal_of n ≡ (digit n ∷ [])
unfolding decimal_of digits_of
decimal_small zero h = refl
decimal_small (suc n) h = rw (lt-ltb (suc n) 10 h)

pub decimal_more : (n : ℕ) → 10 ≤ n → decimal_of n ≡ decimal_of (n / 10) ++ (digit (n % 10) ∷ [])
unfolding decimal_of digits_of
decimal_more zero h = absurd (not-suc-le-zero h)
decimal_more (suc n) h = rw (le-ltb (suc n) 10 h, enough n (suc n / 10) (suc n / 10) (omega arith) (omega arith))

-- what holds of one digit, and with one digit more, holds of every number
pub by_digits : (P : ℕ → Type 0) → ((n : ℕ) → n < 10 → P n) → ((n : ℕ) → 10 ≤ n → P (n / 10) → P n) → (n : ℕ) → P n
by_digits P f g n = go n n (le_refl n)
  where
    go : (k m : ℕ) → m ≤ k → P m
    go zero m h = f m (omega arith)
    go (suc k) m h = by_lt m 10 (f m) (λ l. g m l (go k (m / 10) (omega arith)))

-- ---- how many

pub length_small : (n : ℕ) → n < 10 → 1 ≡ length (decimal_of n)
length_small n h = rw (decimal_small n h)

pub length_more : (n : ℕ) → 10 ≤ n → length (decimal_of n) ≡ length (decimal_of (n / 10)) + 1
length_more n h = rw (decimal_more n h) (length-append (decimal_of (n / 10)) (digit (n % 10) ∷ []))

pub length_some : (n : ℕ) → 1 ≤ length (decimal_of n)
length_some n = by_lt n 10 (λ l. omega (arith, length_small n l)) (λ l. omega (arith, length_more n l))

-- k + 1 digits, as few as hold n
pub length_is : (k n : ℕ) → 10 ^ k ≤ n → n < 10 ^ suc k → suc k ≡ length (decimal_of n)
length_is zero n l h = length_small n h
length_is (suc k) n l h =
    let p : 10 ^ suc k ≡ 10 ^ k * 10 = pow-suc 10 k in
    let q : 10 ^ suc (suc k) ≡ 10 ^ suc k * 10 = pow-suc 10 (suc k) in
    let some : 1 ≤ 10 ^ k = one-le-pow k 10 (lit< tt) in
    let ih : suc k ≡ length (decimal_of (n / 10)) = length_is k (n / 10) (omega arith) (omega arith) in
    omega (arith, length_more n (omega arith))

-- the same as the library's logarithm has it
pub length_log : (k n : ℕ) → 10 ^ k ≤ n → n < 10 * 10 ^ k → k + 1 ≡ length (decimal_of n)
length_log k n l h = let p : 10 ^ suc k ≡ 10 ^ k * 10 = pow-suc 10 k in omega (arith, length_is k n l (omega arith))

-- k + 1 digits at most
pub length_le : (k n : ℕ) → n < 10 ^ suc k → length (decimal_of n) ≤ suc k
length_le zero n h = omega (arith, length_small n h)
length_le (suc k) n h =
    by_lt n 10 (λ l. omega (arith, length_small n l)) (λ l.
    let q : 10 ^ suc (suc k) ≡ 10 ^ suc k * 10 = pow-suc 10 (suc k) in
    let ih : length (decimal_of (n / 10)) ≤ suc k = length_le k (n / 10) (omega arith) in
    omega (arith, length_more n l))
