-- A turn and the end of the loop over the bytes, the product of two numbers of 32 bits, and that every check is one.
use mathlib.Core.Path.{◌≡◌, sym, ap, ◌∙◌}
use mathlib.Core.List.{List, [], ◌∷◌}
use Prim.Native.Nat.{ℕ, ◌+◌, ◌*◌, ◌^◌, ◌≤◌, ◌<◌}
use native.Mathlib.Nat.{lt_of_le_of_lt, mul-le-mul_left, le_of_lt, mod-lt}
use native.Mathlib.Numerals.{add-one}
use native.Mathlib.Omega.{arith}
use lib.Bits.{bit_xor}
use lib.Dec.{lit<}
use lib.ListN.{length, get_or, drop, drop_of_length-le}
use lib.Seq.{drop-cons}
use Rattle.fnv.specs.Fnv.{cut_product, fnv_step, fnv_from, fnv_of}

-- the product of two numbers of 32 bits is one of 64
pub product : {a b : ℕ} → a < 2 ^ 32 → b < 2 ^ 32 → a * b < 2 ^ 64
product {a} {b} ha hb = lt_of_le_of_lt (mul-le-mul_left a (le_of_lt hb)) (omega arith)

-- ---- the loop: h stands before the byte i, and the check of the bytes from i on is r

pub turn : (s : List ℕ) (h i : ℕ) {r : ℕ} → i < length s → fnv_from h (drop i s) ≡ r → fnv_from (fnv_step h (get_or s i 0)) (drop (i + 1) s) ≡ r
unfolding fnv_from
turn s h i {r} l e = ap (λ (n : ℕ). fnv_from (fnv_step h (get_or s i 0)) (drop n s)) (add-one i) ∙ ap (fnv_from h) (sym (drop-cons s i 0 l)) ∙ e

pub end : (s : List ℕ) (h i : ℕ) {r : ℕ} → length s ≤ i → fnv_from h (drop i s) ≡ r → h ≡ r
unfolding fnv_from
end s h i {r} l e = ap (fnv_from h) (sym (drop_of_length-le s l)) ∙ e

-- ---- every check has 32 bits

from_lt : (s : List ℕ) (h : ℕ) → h < 2 ^ 32 → fnv_from h s < 2 ^ 32
unfolding fnv_from fnv_step cut_product
from_lt [] h l = l
from_lt (b ∷ s) h l = from_lt s (fnv_step h b) (mod-lt (bit_xor h b * 16777619) (lit< tt))

pub fnv_lt : (s : List ℕ) → fnv_of s < 2 ^ 32
unfolding fnv_of
fnv_lt s = from_lt s 2166136261 (lit< tt)
