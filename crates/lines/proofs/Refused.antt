-- The line of a record that gave a number and no more: two numbers and four zeros, written one behind the other.
use mathlib.Core.Path.{◌≡◌, sym, ◌∙◌}
use mathlib.Core.Bool.{Bool, true, false, not}
use mathlib.Core.List.{List, [], ◌∷◌, ◌++◌, append_assoc}
use Prim.Native.Nat.{ℕ, ◌+◌, ◌-◌, ◌≤◌, ◌<◌}
use native.Mathlib.Omega.{arith}
use lib.Dec.{leb}
use lib.IntN.{pos}
use lib.ListN.{length}
use Rattle.kit.specs.Lists.{placed}
use Rattle.kit.proofs.Fields.{ends_in, ends_out}
use Rattle.kit.proofs.Puts.{placed_in, placed_out}
use Rattle.lines.specs.Lines.{digits_of, decimal_of, signed_of, field, line_of, fitted, Wrote}
use Rattle.lines.proofs.Writes.{room_one, room_two, room_three, wrote_three, fitted_in, fitted_out, length_line}

-- ---- four zeros

-- `0 0 0 0`
abbrev four_zeros : List ℕ
four_zeros = 48 ∷ 32 ∷ 48 ∷ 32 ∷ 48 ∷ 32 ∷ 48 ∷ []

-- ---- the line

module _ (nth number : ℕ) where
  line : List ℕ
  line = line_of nth number (pos 0) 0 0 0

  -- it is two fields and the four zeros, and so long
  line_parts : line ≡ field (decimal_of nth) 32 ++ field (decimal_of number) 32 ++ field four_zeros 10
  unfolding line line_of field signed_of decimal_of digits_of
  line_parts = simp append_assoc

  pub refused_sum : (x y : ℕ) → x ≡ length (decimal_of nth) → y ≡ length (decimal_of number) → x + y + 10 ≡ length (line_of nth number (pos 0) 0 0 0)
  unfolding signed_of decimal_of digits_of
  refused_sum x y e f = omega (arith, length_line nth number (pos 0) 0 0 0)

  -- the code asked for room for its n bytes, r
  module _ (d : List ℕ) (at n : ℕ) (long : n ≡ length (line_of nth number (pos 0) 0 0 0)) (r : Bool) (asked : r ≡ leb (at + n) (length d)) where
    -- there is none: nothing is written
    module _ (t : not r ≡ true) where
      outside : length d < at + length line
      unfolding line
      outside = omega (arith, ends_out r at n (length d) asked t)

      pub refused_answer : 0 ≡ fitted d at (line_of nth number (pos 0) 0 0 0)
      unfolding line
      refused_answer = sym (fitted_out d at line outside)

      pub refused_bytes : d ≡ placed d at (line_of nth number (pos 0) 0 0 0)
      unfolding line
      refused_bytes = sym (placed_out d at line outside)

    -- there is: the fields are written one behind the other
    module _ (t : not r ≡ false) where
      inside : at + length line ≤ length d
      unfolding line
      inside = omega (arith, ends_in r at n (length d) asked t)

      parts_inside : at + length (field (decimal_of nth) 32 ++ field (decimal_of number) 32 ++ field four_zeros 10) ≤ length d
      parts_inside = rw line_parts at inside

      pub first_inside : at + length (decimal_of nth) < length d
      first_inside = room_one d at (decimal_of nth) (decimal_of number) four_zeros 32 32 10 parts_inside

      pub second_inside : (p : ℕ) (d₁ : List ℕ) → Wrote d at (field (decimal_of nth) 32) p d₁ → p + length (decimal_of number) < length d₁
      second_inside = room_two d at (decimal_of nth) (decimal_of number) four_zeros 32 32 10 parts_inside 32

      module _ (p : ℕ) (d₁ : List ℕ) (u : Wrote d at (field (decimal_of nth) 32) p d₁) (q : ℕ) (d₂ : List ℕ) (v : Wrote d₁ p (field (decimal_of number) 32) q d₂) where
        pub zeros_inside : q + 8 ≤ length d₂
        zeros_inside = omega (arith, room_three d at (decimal_of nth) (decimal_of number) four_zeros 32 32 10 parts_inside 32 p d₁ u 32 q d₂ v)

        module _ (end : ℕ) (d₃ : List ℕ) (w : Wrote d₂ q (48 ∷ 32 ∷ 48 ∷ 32 ∷ 48 ∷ 32 ∷ 48 ∷ 10 ∷ []) end d₃) where
          line_wrote : Wrote d at line end d₃
          unfolding field
          line_wrote = rw line_parts (wrote_three d at (decimal_of nth) (decimal_of number) four_zeros 32 32 10 parts_inside p d₁ u q d₂ v end d₃ w)

          pub done_answer : end - at ≡ fitted d at (line_of nth number (pos 0) 0 0 0)
          unfolding line
          done_answer = let l : end - at ≡ length line = omega (arith, line_wrote.place) in l ∙ sym (fitted_in d at line inside)

          pub done_bytes : d₃ ≡ placed d at (line_of nth number (pos 0) 0 0 0)
          unfolding line
          done_bytes = line_wrote.bytes ∙ sym (placed_in d at line inside)
