-- Document 01, "The table": items and readings.
use Rattle.std.specs.Prelude.{ℕ, ◌/◌, ◌%◌, Bool, ◌&&◌, ℤ, pos, negsuc}
use Rattle.std.specs.Int.Signed.{le_z}

-- "Item number = 6 × movement + position"
abbrev pub movement_of : ℕ → ℕ
movement_of item = item / 6

-- "position 0 dial up, 1 dial down, 2 to 5 the four crown positions"
abbrev pub position_of : ℕ → ℕ
position_of item = item % 6

-- "A reading is a daily rate in hundredths of a second, -8,640,000 to 8,640,000"
unfoldable pub in_range : ℤ → Bool
in_range value = le_z (negsuc 8639999) value && le_z value (pos 8640000)

-- the rate is 0
unfoldable pub is_zero : ℤ → Bool
is_zero value = le_z (pos 0) value && le_z value (pos 0)
