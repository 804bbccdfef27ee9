-- Little-endian numbers of n bytes.
use Rattle.std.specs.Prelude.{ℕ, zero, suc, ◌+◌, ◌*◌, ◌/◌, ◌%◌, ◌&&◌, cond, List, [], ◌∷◌, leb, length, drop}

-- the number that the first n bytes stand for, the low byte first; a byte past the end counts as 0
unfoldable pub le : ℕ → List ℕ → ℕ
le zero s = 0
le (suc n) [] = 0
le (suc n) (b ∷ s) = b + 256 * le n s

-- the n low bytes of v, the low byte first
unfoldable pub bytes_of : ℕ → ℕ → List ℕ
bytes_of zero v = []
bytes_of (suc n) v = v % 256 ∷ bytes_of n (v / 256)

-- the number of n bytes at a place, and 0 where they are more than 8 or do not end inside s
unfoldable pub field_at : List ℕ → ℕ → ℕ → ℕ
field_at s at n = cond (leb n 8 && leb (at + n) (length s)) (le n (drop at s)) 0
