-- The own marks of all sites, as the code of soundness has gathered them.
use Rattle.std.specs.Prelude.{List}
use Rattle.table.specs.Parts.{Marks, rows_of}
use Rattle.table.specs.declared.parts.Gathered.{Gathered}

abbrev pub marks_by : Gathered → List Marks
marks_by g = rows_of g.marked.oks g.marked.others
