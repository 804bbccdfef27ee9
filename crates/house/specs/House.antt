-- A night from bytes to bytes, as the other houses call for it: how long its lines are, what is answered, and the output afterwards.
use Rattle.std.specs.Prelude.{ℕ, ◌-◌, min, Bool, true, false, cond, List, ◌++◌, leb, length, drop, Option, None, Some, Result, Ok, Err}
use Rattle.refusals.specs.Numbers.{number_of}
use Rattle.refusals.specs.declared.Refusal.{Refusal}
use Rattle.steps.specs.Night.{night_of}

-- whether some bytes fit into a room, and how many bytes are left behind them, 0 where they do not
pub record Room : Type 0 where
  pub enough : Bool
  pub left : ℕ

-- what n bytes leave of some room: whether they fit, and how many bytes are left behind them
unfoldable pub room_after : ℕ → ℕ → Room
room_after room n = cond (leb n room) (record { enough = true; left = room - n }) (record { enough = false; left = 0 })

-- how many bytes the lines of a night are, as a number of 64 bits: its largest, where they are more
unfoldable pub night_length : List ℕ → ℕ
night_length s = min (length (night_of s)) 18446744073709551615

-- document 01's number, 0 or 19, and the length of the lines, 0 beside 19
pub record Printed : Type 0 where
  pub number : ℕ
  pub length : ℕ

-- what is answered, for an output of so many bytes: "19: output buffer too short", with 0 beside it
unfoldable pub night_printed : List ℕ → ℕ → Printed
night_printed s room = cond (leb (length (night_of s)) room) (record { number = 0; length = length (night_of s) }) (record { number = 19; length = 0 })

-- the output after it: the lines at its front, the bytes behind them as they came; all of it as it came where it is too short
unfoldable pub night_into : List ℕ → List ℕ → List ℕ
night_into s out = cond (leb (length (night_of s)) (length out)) (night_of s ++ drop (length (night_of s)) out) out

-- what the code answers, so told
abbrev pub room_answer : Option ℕ → Room
room_answer (Some n) = record { enough = true; left = n }
room_answer None = record { enough = false; left = 0 }

abbrev pub print_answer : Result ℕ Refusal → Printed
print_answer (Ok n) = record { number = 0; length = n }
print_answer (Err r) = record { number = number_of r; length = 0 }
