-- The rate 0.
use mathlib.Core.Path.{◌≡◌, refl, ap}
use mathlib.Core.Bool.{true}
use borrow.Author.Tests.{leb-true}
use lib.Dec.{leb}
use lib.IntN.{ℤ, pos, negsuc}
use native.Mathlib.Omega.{arith}
use Rattle.kit.proofs.Bools.{clash, and_right}
use Rattle.readings.specs.Readings.{in_range, is_zero}

-- a rate that is 0 is 0
pub zero_is : (z : ℤ) → is_zero z ≡ true → z ≡ pos 0
unfolding is_zero
zero_is (pos n) e = let h = leb-true n 0 (and_right (leb 0 n) (leb n 0) e) in ap pos (let q : n ≡ 0 = omega arith in q)
zero_is (negsuc n) e = clash e refl

pub zero_of : is_zero (pos 0) ≡ true
unfolding is_zero
zero_of = refl

-- and it is in range
pub zero_in_range : in_range (pos 0) ≡ true
unfolding in_range
zero_in_range = refl
