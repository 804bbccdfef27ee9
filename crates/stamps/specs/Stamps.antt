-- Document 01, "Stamps", and priority.
use Rattle.std.specs.Prelude.{ℕ, ◌+◌, ◌*◌, ◌/◌, ◌%◌, max, Bool, ◌&&◌, ◌||◌, cond, List, eqb, leb, ltb, get_or}
use Rattle.kit.specs.Range.{largest}
use Rattle.sets.specs.Sets.{member}

-- "t runs from 1 to 4,294,967,295"
abbrev pub last_time : ℕ
last_time = 4294967295

-- "Stamp = 8 × t + site."
abbrev pub stamp_of : ℕ → ℕ → ℕ
stamp_of t site = 8 * t + site

-- the t of a stamp ("stamp 0 has t 0")
abbrev pub time_of : ℕ → ℕ
time_of stamp = stamp / 8

-- the site digit of a stamp
abbrev pub digit_of : ℕ → ℕ
digit_of stamp = stamp % 8

-- a stamp that some site of n may have issued: "t in range and a site digit from 1 to the site count"
unfoldable pub issued_form : ℕ → ℕ → Bool
issued_form n stamp = (leb 1 (time_of stamp) && leb (time_of stamp) last_time) && (leb 1 (digit_of stamp) && leb (digit_of stamp) n)

-- "A base stamp is well formed if it is 0, or has t in range and a site digit from 1 to the site count."
unfoldable pub well_formed : ℕ → ℕ → Bool
well_formed n stamp = eqb stamp 0 || issued_form n stamp

-- the largest t in the base stamps of the base items
unfoldable pub largest_time : ℕ → List ℕ → ℕ
largest_time base stamps = largest 24 (member base) (λ i. time_of (get_or stamps i 0))

-- "t = the largest of: the clock given; 1 + the largest t in the base stamps; 1 + the last t this site issued"
unfoldable pub next_time : ℕ → ℕ → ℕ → List ℕ → ℕ
next_time clock last base stamps = max clock (max (1 + largest_time base stamps) (1 + last))

-- "Priority: the lower site digit is higher; for equal digits the smaller stamp is higher"
unfoldable pub higher : ℕ → ℕ → Bool
higher a b = cond (eqb (digit_of a) (digit_of b)) (ltb a b) (ltb (digit_of a) (digit_of b))
