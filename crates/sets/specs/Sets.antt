-- Sets of items held in a number: item i is in the set s if binary digit i of s is 1. A word has 32 digits; there are 24 items, 0 to 23.
use Rattle.std.specs.Prelude.{ℕ, zero, suc, ◌+◌, ◌*◌, ◌/◌, ◌%◌, ◌^◌, Bool, ◌&&◌, ◌||◌, not, eqb, leb}
use Rattle.kit.specs.Range.{any, all, one, number, implies}

-- i is in s
unfoldable pub member : ℕ → ℕ → Bool
member s i = eqb (s / 2 ^ i % 2) 1

-- the set of the numbers below n that pass p
unfoldable pub set_of : ℕ → (ℕ → Bool) → ℕ
set_of zero p = 0
set_of (suc n) p = set_of n p + one (p n) * 2 ^ n

-- the set with item i in it; no word holds an item above 31
unfoldable pub with_item : ℕ → ℕ → ℕ
with_item s i = set_of 32 (λ j. member s j || eqb i j)

-- what is in a or in b
unfoldable pub union : ℕ → ℕ → ℕ
union a b = set_of 32 (λ j. member a j || member b j)

-- some item is in both
unfoldable pub meets : ℕ → ℕ → Bool
meets a b = any 32 (λ j. member a j && member b j)

-- each item of a is in b
unfoldable pub inside : ℕ → ℕ → Bool
inside a b = all 32 (λ j. implies (member a j) (member b j))

-- how many items are in s
unfoldable pub size : ℕ → ℕ
size s = number 32 (member s)

-- no item above 23 is in s
unfoldable pub of_items : ℕ → Bool
of_items s = not (any 32 (λ j. leb 24 j && member s j))
