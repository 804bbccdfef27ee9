-- `lines::add_one` meets its contract: a turn of the loop is a turn of `one_more`.
use Rattle.lines.proofs.Growing.{growing_grew, growing_digits, growing_on, growing_none, growing_over}
use Rattle.lines.proofs.add_one.Goals as goal

pub returns-then-digits-i-lt57 : goal.returns-then-digits-i-lt57
returns-then-digits-i-lt57 c = search (growing_grew, growing_digits)

pub loop-i-preserved : goal.loop-i-preserved
loop-i-preserved c = search growing_on

pub returns : goal.returns
returns c = search (growing_none, growing_over)
