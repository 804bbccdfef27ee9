-- Two's complement of 32 bits: the bits of a number that is not negative, and of one that is.
use mathlib.Core.Path.{◌≡◌, refl, ap, ◌∙◌}
use mathlib.Core.Bool.{true, false}
use Prim.Native.Nat.{suc, ◌-◌, ◌<◌}
use native.Mathlib.Omega.{arith}
use lib.Dec.{leb-zero}
use lib.IntN.{ℤ, pos, negsuc}
use lib.Signed.{mag, le_z}
use mir.Facts.{to_z_pos}
use mir.Syntax.{w32}
use mir.Val.{SFits, to_z, of_z}
use Rattle.kit.proofs.Bools.{clash}

pub pos_mag : (z : ℤ) → le_z (pos 0) z ≡ true → z ≡ pos (mag z)
pos_mag (pos n) e = refl
pos_mag (negsuc n) e = clash e refl

pub pos_bits : (z : ℤ) → le_z (pos 0) z ≡ true → mag z ≡ of_z w32 z
pos_bits (pos n) e = refl
pos_bits (negsuc n) e = clash e refl

pub neg_bits : (z : ℤ) → le_z (pos 0) z ≡ false → of_z w32 z ≡ 4294967295 - mag z
neg_bits (pos n) e = clash (leb-zero n) e
neg_bits (negsuc n) e = let q : 4294967296 - suc n ≡ 4294967295 - n = omega arith in q

-- the bits of a negative number, turned over, are its magnitude's
pub not_bits : (z : ℤ) → SFits w32 z → le_z (pos 0) z ≡ false → to_z w32 (4294967295 - of_z w32 z) ≡ pos (mag z)
not_bits (pos n) f e = clash (leb-zero n) e
not_bits (negsuc n) f e =
    let l : n < 2147483648 = f.sfits in
    ap (to_z w32) (let q : 4294967295 - (4294967296 - suc n) ≡ n = omega arith in q) ∙ to_z_pos w32 f.sfits
