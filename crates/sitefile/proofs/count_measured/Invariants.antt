-- `sitefile::count_measured` meets its contract: a loop that counts.
use Rattle.kit.proofs.Loops.{Counted}
use Rattle.sitefile.specs.Entries.{measured}
use Rattle.sitefile.proofs.count_measured.Given as goal

abbrev pub invariant-loop-stamp : goal.invariant-loop-stamp
invariant-loop-stamp l = Counted 24 (measured l.stamps) l.stamp-index l.count
