-- `sitefile::count_measured` meets its contract: a loop that counts.
use mathlib.Core.Path.{refl}
use Rattle.kit.proofs.Loops.{counted_none, counted_more}
use Rattle.sitefile.specs.Entries.{measured}
use Rattle.sitefile.proofs.count_measured.Goals as goal

pub loop-stamp-init : goal.loop-stamp-init
loop-stamp-init c = counted_none

pub loop-stamp-preserved : goal.loop-stamp-preserved
unfolding measured
loop-stamp-preserved c = counted_more c.loop-stamp.invariant c.loop-stamp-test.true refl c.from-count.ensures
