-- `sets::with` meets its contract: one digit is set.
use Rattle.sets.specs.Sets.{with_item}
use Rattle.sets.proofs.Laws.{with_law}
use Rattle.sets.proofs.with.Goals as goal

pub returns-then-i-lt32 : goal.returns-then-i-lt32
unfolding with_item
returns-then-i-lt32 c = with_law 32 c.args.s c.args.i c.ranges.s.fits c.if-i-lt32.true
