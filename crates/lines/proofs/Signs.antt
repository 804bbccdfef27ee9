-- A number of 64 bits with its sign: how far it is from 0, and its text.
use mathlib.Core.Path.{◌≡◌, refl, sym, ap, ◌∙◌}
use mathlib.Core.Bool.{true, false}
use mathlib.Core.List.{◌∷◌}
use Prim.Native.Nat.{ℕ, suc, ◌^◌, ◌≤◌}
use native.Mathlib.Omega.{arith}
use lib.Dec.{leb-zero}
use lib.IntN.{ℤ, pos, negsuc, nat_abs}
use lib.Signed.{le_z}
use lib.ListN.{length}
use mir.Syntax.{w64}
use mir.Val.{SFits, to_z, of_z}
use mir.Facts.{to_z-of_z}
use Rattle.kit.proofs.Bools.{clash}
use Rattle.lines.specs.Lines.{decimal_of, signed_of}
use Rattle.lines.proofs.Decimals.{length_le}

plus_text : (z : ℤ) → le_z (pos 0) z ≡ true → signed_of z ≡ decimal_of (nat_abs z)
unfolding signed_of
plus_text (pos n) e = refl
plus_text (negsuc n) e = clash e refl

minus_text : (z : ℤ) → le_z (pos 0) z ≡ false → signed_of z ≡ (45 ∷ decimal_of (nat_abs z))
unfolding signed_of
minus_text (pos n) e = clash (leb-zero n) e
minus_text (negsuc n) e = refl

-- the code tests the bits of z, and m is how far z is from 0
module _ (z : ℤ) (f : SFits w64 z) where
  pub signed_plus : (m : ℕ) → m ≡ nat_abs (to_z w64 (of_z w64 z)) → le_z (pos 0) (to_z w64 (of_z w64 z)) ≡ true → signed_of z ≡ decimal_of m
  signed_plus m e t = plus_text z (rw (to_z-of_z f) at t) ∙ ap decimal_of (sym (rw (to_z-of_z f) at e))

  pub signed_minus : (m : ℕ) → m ≡ nat_abs (to_z w64 (of_z w64 z)) → le_z (pos 0) (to_z w64 (of_z w64 z)) ≡ false → signed_of z ≡ (45 ∷ decimal_of m)
  signed_minus m e t = minus_text z (rw (to_z-of_z f) at t) ∙ ap (λ (k : ℕ). 45 ∷ decimal_of k) (sym (rw (to_z-of_z f) at e))

-- ---- the sign is one byte more

pub signed_le : (z : ℤ) → nat_abs z ≤ 2 ^ 63 → length (signed_of z) ≤ 20
unfolding signed_of
signed_le (pos n) h = omega (arith, length_le 18 n (omega arith))
signed_le (negsuc n) h = omega (arith, length_le 18 (suc n) (omega arith))
