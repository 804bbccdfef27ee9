-- `plans::retire::is_open_somewhere` meets its contract: a loop that returns at the first hit computes `any`.
use Rattle.kit.proofs.Loops.{somes}
use Rattle.plans.proofs.retire.is_open_somewhere.Goals as goal

pub loop-k-init : goal.loop-k-init
loop-k-init c = search somes

pub returns-then-is_open_at : goal.returns-then-is_open_at
returns-then-is_open_at c = search somes

pub loop-k-preserved : goal.loop-k-preserved
loop-k-preserved c = search somes

pub returns : goal.returns
returns c = search somes
