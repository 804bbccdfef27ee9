-- Numbers and answers as text: document 01, "Step records and the bench program".
use Rattle.std.specs.Prelude.{◌≡◌, Bool, true, false, cond, List, [], ◌∷◌, ◌++◌, ℕ, zero, suc, ◌+◌, ◌/◌, ◌%◌, ltb, leb, ℤ, pos, negsuc, length}
use Rattle.kit.specs.Lists.{put}

-- the byte of a digit, `0` to `9`
abbrev pub digit : ℕ → ℕ
digit d = 48 + d

-- one digit where n is below 10, else those of n / 10 and one more
abbrev pub grown : Bool → ℕ → (ℕ → List ℕ) → List ℕ
grown true n digits = digit n ∷ []
grown false n digits = digits (n / 10) ++ (digit (n % 10) ∷ [])

-- the digits of n, the first one first, at most k + 1 of them
unfoldable pub digits_of : ℕ → ℕ → List ℕ
digits_of zero n = digit n ∷ []
digits_of (suc k) n = grown (ltb n 10) n (digits_of k)

-- document 01 prints `8001`, `350` and `0`: the digits of n and no more, for which k = n is enough
unfoldable pub decimal_of : ℕ → List ℕ
decimal_of n = digits_of n n

-- document 01 prints `-350`: a negative number has a `-` in front
unfoldable pub signed_of : ℤ → List ℕ
signed_of (pos n) = decimal_of n
signed_of (negsuc n) = 45 ∷ decimal_of (suc n)

-- a field, and the byte that ends it
unfoldable pub field : List ℕ → ℕ → List ℕ
field text end = text ++ (end ∷ [])

-- "It prints a line for each: record number from 1, number given back, the two results, accepted, rejected." A space ends each field but the last, a newline the last
unfoldable pub line_of : ℕ → ℕ → ℤ → ℕ → ℕ → ℕ → List ℕ
line_of nth number first second accepted rejected =
    field (decimal_of nth) 32
    ++ field (decimal_of number) 32
    ++ field (signed_of first) 32
    ++ field (decimal_of second) 32
    ++ field (decimal_of accepted) 32
    ++ field (decimal_of rejected) 10

-- its last three fields
abbrev pub back_of : ℕ → ℕ → ℕ → List ℕ
back_of second accepted rejected = field (decimal_of second) 32 ++ field (decimal_of accepted) 32 ++ field (decimal_of rejected) 10

-- how many bytes `placed d at e` changes: the length of e where it ends inside d, else 0
unfoldable pub fitted : List ℕ → ℕ → List ℕ → ℕ
fitted d at e = cond (leb (at + length e) (length d)) (length e) 0

-- e was written into d at a place, which made it d', and the place behind it is p
pub record Wrote (d : List ℕ) (at : ℕ) (e : List ℕ) (p : ℕ) (d' : List ℕ) : Type 0 where
  pub place : p ≡ at + length e
  pub bytes : d' ≡ put d at e
