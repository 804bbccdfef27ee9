-- `sets::of_items` meets its contract: a word below 2 ^ 24 has no member from 24 on.
use Rattle.sets.specs.Sets.{of_items}
use Rattle.sets.proofs.Laws.{high_law}
use Rattle.sets.proofs.of_items.Goals as goal

pub returns : goal.returns
unfolding of_items
returns c = high_law 32 24 c.args.s c.ranges.s.fits
