-- Questions over the numbers below n: does some one pass, does each, how many do, which is the first?
use Rattle.std.specs.Prelude.{ℕ, zero, suc, ◌+◌, max, Bool, true, false, ◌&&◌, ◌||◌, cond, List, [], ◌∷◌, ◌++◌}

-- some number below n passes p
unfoldable pub any : ℕ → (ℕ → Bool) → Bool
any zero p = false
any (suc n) p = any n p || p n

-- every number below n passes p
unfoldable pub all : ℕ → (ℕ → Bool) → Bool
all zero p = true
all (suc n) p = all n p && p n

-- 1 for true, 0 for false
abbrev pub one : Bool → ℕ
one true = 1
one false = 0

-- how many numbers below n pass p
unfoldable pub number : ℕ → (ℕ → Bool) → ℕ
number zero p = 0
number (suc n) p = number n p + one (p n)

-- the lowest number below n that passes p, and n where none does
unfoldable pub first : ℕ → (ℕ → Bool) → ℕ
first zero p = 0
first (suc n) p = cond (any n p) (first n p) (cond (p n) n (suc n))

-- the largest f i of the numbers i below n that pass p, and 0 where none does
unfoldable pub largest : ℕ → (ℕ → Bool) → (ℕ → ℕ) → ℕ
largest zero p f = 0
largest (suc n) p f = cond (p n) (max (largest n p f) (f n)) (largest n p f)

-- the numbers below n that pass p, rising
unfoldable pub passing : ℕ → (ℕ → Bool) → List ℕ
passing zero p = []
passing (suc n) p = passing n p ++ cond (p n) (n ∷ []) []

-- a implies b
abbrev pub implies : Bool → Bool → Bool
implies true b = b
implies false b = true
