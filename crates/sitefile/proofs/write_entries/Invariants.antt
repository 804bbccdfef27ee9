-- `sitefile::write_entries` meets its contract: the entries of the items before the i-th stand at the front.
use Rattle.sitefile.proofs.Writes.{WrittenTo}
use Rattle.sitefile.proofs.write_entries.Given as goal

abbrev pub invariant-loop-i : goal.invariant-loop-i
invariant-loop-i l = WrittenTo l.initial.d l.stamps l.values l.i l.at l.d
