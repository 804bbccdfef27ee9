-- `sets::has` meets its contract: no item above 31 is in a word.
use mathlib.Core.Path.{sym, ◌∙◌}
use borrow.Author.Tests.{le-ltb}
use Rattle.sets.proofs.Laws.{above}
use Rattle.sets.proofs.has.Goals as goal

pub returns-else-i-lt32 : goal.returns-else-i-lt32
returns-else-i-lt32 c = le-ltb c.args.i 32 c.if-i-lt32.false ∙ sym (above 32 c.args.s c.args.i c.ranges.s.fits c.if-i-lt32.false)
