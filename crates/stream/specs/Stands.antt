-- Where a night stands between two reads.
use Rattle.std.specs.Prelude.{ℕ, ◌≤◌, true, ◌≡◌}
use Rattle.table.specs.Meaning.{ShapedTable}
use Rattle.table.specs.Sound.{sound_table}
use Rattle.table.specs.declared.data.Table.{Table}

-- the table is sound, and the bytes that wait, from one place to another, lie inside a buffer of that length
pub record Stands (t : Table) (at end room : ℕ) : Type 0 where
  pub sound : sound_table t ≡ true
  pub shaped : ShapedTable t
  pub inside : at ≤ end
  pub fits : end ≤ room
