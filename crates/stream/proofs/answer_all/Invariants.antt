-- Turn after turn the table is sound, and what waits lies inside the buffer.
use Rattle.std.proofs.Common.{length}
use Rattle.stream.specs.Stands.{Stands}
use Rattle.stream.proofs.answer_all.Given as goal

abbrev pub invariant-loop : goal.invariant-loop
invariant-loop l = Stands l.s.table l.s.at l.s.end (length l.buf)
