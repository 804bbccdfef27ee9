-- The number of a record kept as digits from one line to the next, and the line that begins with them.
use Rattle.std.specs.Prelude.{Bool, true, false, ◌&&◌, cond, List, ◌∷◌, ◌++◌, ℕ, zero, suc, ◌+◌, ltb, leb, ℤ, length, take, get_or, set}
use Rattle.kit.specs.Lists.{put}
use Rattle.lines.specs.declared.Told.{Told}
use Rattle.lines.specs.Lines.{decimal_of, signed_of, field, back_of}

-- a number is kept in the first `len` of so many bytes: 1 to 8 digits, and 8 bytes to keep them in
unfoldable pub is_kept : ℕ → ℕ → Bool
is_kept size len = (leb 1 len && leb len 8) && leb 8 size

-- the digits that are kept, else those of n
unfoldable pub counted : List ℕ → ℕ → ℕ → List ℕ
counted digits len n = cond (is_kept (length digits) len) (take len digits) (decimal_of n)

-- n can be kept: it has at most 8 digits, and there are 8 bytes
unfoldable pub is_keepable : ℕ → ℕ → Bool
is_keepable size n = ltb n 100000000 && leb 8 size

-- the digits of n at the front, and how many; where n cannot be kept, nothing changes and they are none
unfoldable pub counted_digits : List ℕ → ℕ → List ℕ
counted_digits digits n = cond (is_keepable (length digits) n) (put digits 0 (decimal_of n)) digits

unfoldable pub counted_length : List ℕ → ℕ → ℕ
counted_length digits n = cond (is_keepable (length digits) n) (length (decimal_of n)) 0

-- the first k digits with one more: the last of them grows where it is below `9`, else it is `0` and the one goes to those before it
unfoldable pub one_more : ℕ → List ℕ → List ℕ
one_more zero digits = digits
one_more (suc k) digits = cond (ltb (get_or digits k 0) 57) (set digits k (get_or digits k 0 + 1)) (one_more k (set digits k 48))

-- and whether one of them grows: where all are `9`, none does
unfoldable pub is_grown : ℕ → List ℕ → Bool
is_grown zero digits = false
is_grown (suc k) digits = cond (ltb (get_or digits k 0) 57) true (is_grown k (set digits k 48))

-- from the digits of the number before n to those of n: one more, and where all were `9`, all are made anew; where none are kept, none are
unfoldable pub digits_on : List ℕ → ℕ → ℕ → List ℕ
digits_on digits len n = cond (is_kept (length digits) len) (cond (is_grown len digits) (one_more len digits) (counted_digits (one_more len digits) n)) digits

unfoldable pub length_on : List ℕ → ℕ → ℕ → ℕ
length_on digits len n = cond (is_kept (length digits) len) (cond (is_grown len digits) len (counted_length (one_more len digits) n)) 0

-- the bytes that are written for the first field of a line: all eight where digits are kept, of which the rest of the line covers those behind the number
unfoldable pub first_written : List ℕ → ℕ → ℕ → List ℕ
first_written digits len n = cond (is_kept (length digits) len) (take 8 digits) (decimal_of n)

-- a line whose first field has these bytes
unfoldable pub line_with : List ℕ → ℕ → ℤ → ℕ → ℕ → ℕ → List ℕ
line_with bytes number first second accepted rejected =
    field bytes 32
    ++ field (decimal_of number) 32
    ++ field (signed_of first) 32
    ++ field (decimal_of second) 32
    ++ field (decimal_of accepted) 32
    ++ field (decimal_of rejected) 10

-- the same of what it tells
abbrev pub told_line : List ℕ → Told → List ℕ
told_line bytes w = line_with bytes w.number w.first w.second w.accepted w.rejected

-- what stands behind those bytes: the space, and the other fields
abbrev pub tail_of : ℕ → ℤ → ℕ → ℕ → ℕ → List ℕ
tail_of number first second accepted rejected = 32 ∷ (field (decimal_of number) 32 ++ (field (signed_of first) 32 ++ back_of second accepted rejected))

-- a line put into d where the longest line, of 89 bytes, would end inside d; else d as it is
unfoldable pub ample_placed : List ℕ → ℕ → List ℕ → List ℕ
ample_placed d at line = cond (leb (at + 89) (length d)) (put d at line) d

-- and how many bytes that changes
unfoldable pub ample_fitted : List ℕ → ℕ → List ℕ → ℕ
ample_fitted d at line = cond (leb (at + 89) (length d)) (length line) 0
