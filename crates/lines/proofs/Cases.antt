-- The lines of document 01, byte by byte.
use mathlib.Core.Path.{◌≡◌, refl}
use mathlib.Core.List.{[], ◌∷◌, ◌++◌}
use lib.IntN.{pos, negsuc}
use Rattle.lines.specs.Lines.{digits_of, decimal_of, signed_of, field, line_of}

-- the worked example:
--     1 0 8001 0 0 0
--     2 0 8002 1 0 0
--     3 0 0 0 0 0
--     4 0 0 0 1 0
--     5 0 1 0 0 0
--     6 0 0 0 0 0
--     7 0 -350 8001 0 0
pub worked :
    line_of 1 0 (pos 8001) 0 0 0
    ++ line_of 2 0 (pos 8002) 1 0 0
    ++ line_of 3 0 (pos 0) 0 0 0
    ++ line_of 4 0 (pos 0) 0 1 0
    ++ line_of 5 0 (pos 1) 0 0 0
    ++ line_of 6 0 (pos 0) 0 0 0
    ++ line_of 7 0 (negsuc 349) 8001 0 0
    ≡ (49 ∷ 32 ∷ 48 ∷ 32 ∷ 56 ∷ 48 ∷ 48 ∷ 49 ∷ 32 ∷ 48 ∷ 32 ∷ 48 ∷ 32 ∷ 48 ∷ 10
    ∷ 50 ∷ 32 ∷ 48 ∷ 32 ∷ 56 ∷ 48 ∷ 48 ∷ 50 ∷ 32 ∷ 49 ∷ 32 ∷ 48 ∷ 32 ∷ 48 ∷ 10
    ∷ 51 ∷ 32 ∷ 48 ∷ 32 ∷ 48 ∷ 32 ∷ 48 ∷ 32 ∷ 48 ∷ 32 ∷ 48 ∷ 10
    ∷ 52 ∷ 32 ∷ 48 ∷ 32 ∷ 48 ∷ 32 ∷ 48 ∷ 32 ∷ 49 ∷ 32 ∷ 48 ∷ 10
    ∷ 53 ∷ 32 ∷ 48 ∷ 32 ∷ 49 ∷ 32 ∷ 48 ∷ 32 ∷ 48 ∷ 32 ∷ 48 ∷ 10
    ∷ 54 ∷ 32 ∷ 48 ∷ 32 ∷ 48 ∷ 32 ∷ 48 ∷ 32 ∷ 48 ∷ 32 ∷ 48 ∷ 10
    ∷ 55 ∷ 32 ∷ 48 ∷ 32 ∷ 45 ∷ 51 ∷ 53 ∷ 48 ∷ 32 ∷ 56 ∷ 48 ∷ 48 ∷ 49 ∷ 32 ∷ 48 ∷ 32 ∷ 48 ∷ 10 ∷ [])
unfolding line_of field signed_of decimal_of digits_of
worked = refl

-- "A bad site count prints `0 3 0 0 0 0`, empty input `0 17 0 0 0 0`"
pub bad_count : line_of 0 3 (pos 0) 0 0 0 ≡ (48 ∷ 32 ∷ 51 ∷ 32 ∷ 48 ∷ 32 ∷ 48 ∷ 32 ∷ 48 ∷ 32 ∷ 48 ∷ 10 ∷ [])
unfolding line_of field signed_of decimal_of digits_of
bad_count = refl

pub empty_input : line_of 0 17 (pos 0) 0 0 0 ≡ (48 ∷ 32 ∷ 49 ∷ 55 ∷ 32 ∷ 48 ∷ 32 ∷ 48 ∷ 32 ∷ 48 ∷ 32 ∷ 48 ∷ 10 ∷ [])
unfolding line_of field signed_of decimal_of digits_of
empty_input = refl

-- the longest line: the largest number of each field, and the smallest signed one
pub longest : line_of 18446744073709551615 255 (negsuc 9223372036854775807) 18446744073709551615 4294967295 4294967295
    ≡ (49 ∷ 56 ∷ 52 ∷ 52 ∷ 54 ∷ 55 ∷ 52 ∷ 52 ∷ 48 ∷ 55 ∷ 51 ∷ 55 ∷ 48 ∷ 57 ∷ 53 ∷ 53 ∷ 49 ∷ 54 ∷ 49 ∷ 53 ∷ 32 ∷ 50 ∷ 53 ∷ 53 ∷ 32 ∷ 45 ∷ 57 ∷ 50 ∷ 50 ∷ 51 ∷ 51 ∷ 55 ∷ 50 ∷ 48 ∷ 51 ∷ 54 ∷ 56 ∷ 53 ∷ 52 ∷ 55 ∷ 55 ∷ 53 ∷ 56 ∷ 48 ∷ 56 ∷ 32 ∷ 49 ∷ 56 ∷ 52 ∷ 52 ∷ 54 ∷ 55 ∷ 52 ∷ 52 ∷ 48 ∷ 55 ∷ 51 ∷ 55 ∷ 48 ∷ 57 ∷ 53 ∷ 53 ∷ 49 ∷ 54 ∷ 49 ∷ 53 ∷ 32 ∷ 52 ∷ 50 ∷ 57 ∷ 52 ∷ 57 ∷ 54 ∷ 55 ∷ 50 ∷ 57 ∷ 53 ∷ 32 ∷ 52 ∷ 50 ∷ 57 ∷ 52 ∷ 57 ∷ 54 ∷ 55 ∷ 50 ∷ 57 ∷ 53 ∷ 10 ∷ [])
unfolding line_of field signed_of decimal_of digits_of
longest = refl
