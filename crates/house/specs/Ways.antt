-- Where the way through the records of a night stands, and what one run of it does.
use Rattle.std.specs.Prelude.{ℕ, ◌+◌, ◌*◌, ◌≤◌, ◌≡◌, List, ◌++◌, length, take, Option, None, Some}
use Rattle.table.specs.declared.data.Table.{Table}
use Rattle.steps.specs.Night.{last_line, lines_from}
use Rattle.steps.proofs.Upkeep.{Well}

-- `rest` is left, begins with record `next`, and lines are written into a buffer of so many bytes
pub record Ready (t : Table) (next : ℕ) (rest : List ℕ) (room : ℕ) : Type 0 where
  pub long : room ≡ 4096
  pub well : Well t
  pub numbered : 3 * next + length rest ≤ 18446744073709551618

-- of the lines l, n bytes stand at the front of a buffer and the others are left; or there are only those of a record that is cut
abbrev pub Led : List ℕ → Option ℕ → List ℕ → Table → ℕ → List ℕ → Type 0
Led l (Some n) buf t next rest = (n ≤ length buf) × (l ≡ take n buf ++ lines_from t next rest)
Led l None buf t next rest = l ≡ last_line next rest
