-- Document 01, "The site file": what the writer refuses as 19, its answer and the buffer it leaves.
use Rattle.std.specs.Prelude.{ℕ, Bool, not, ◌||◌, cond, List, ◌++◌, eqb, ltb, ℤ, pos, length, get_or, drop, Result, Ok, Err}
use Rattle.kit.specs.Range.{any}
use Rattle.readings.specs.Readings.{is_zero}
use Rattle.sitefile.specs.Entries.{file_of}
use Rattle.sitefile.specs.Read.{wrong_site, wrong_reading}
use Rattle.refusals.specs.Numbers.{number_of}
use Rattle.refusals.specs.declared.Refusal.{Refusal}

-- "its readings would be refused so, or an item of stamp 0 is not blank"
unfoldable pub wrong_item : ℕ → ℤ → Bool
wrong_item stamp value = cond (eqb stamp 0) (not (is_zero value)) (wrong_reading stamp value)

-- "The writer gives 19 exactly if the buffer is too short, its site or readings would be refused so, or an item of stamp 0 is not blank."
unfoldable pub not_written : ℕ → ℕ → List ℕ → List ℤ → Bool
not_written room site stamps values =
    ltb room (length (file_of site stamps values)) || (wrong_site site || any 24 (λ i. wrong_item (get_or stamps i 0) (get_or values i (pos 0))))

-- what the writer answers: document 01's number, 0 or 19, and the length of the file, 0 beside 19
pub record Written : Type 0 where
  pub number : ℕ
  pub length : ℕ

-- the same, for a buffer of so many bytes
unfoldable pub file_written : ℕ → ℕ → List ℕ → List ℤ → Written
file_written room site stamps values =
    cond (not_written room site stamps values) (record { number = 19; length = 0 }) (record { number = 0; length = length (file_of site stamps values) })

-- the buffer d after it: "Bytes behind the file are not touched", and a refusal changes nothing
unfoldable pub buffer_after : List ℕ → ℕ → List ℕ → List ℤ → List ℕ
buffer_after d site stamps values =
    cond (not_written (length d) site stamps values) d (file_of site stamps values ++ drop (length (file_of site stamps values)) d)

-- what the code answers, so told: a length stands beside 0, and a refusal beside a 0
abbrev pub write_answer : Result ℕ Refusal → Written
write_answer (Ok n) = record { number = 0; length = n }
write_answer (Err r) = record { number = number_of r; length = 0 }
