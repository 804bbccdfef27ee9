-- `vote::voters::count_in` meets its contract: a loop that counts.
use mathlib.Core.Path.{sym, ◌∙◌}
use mathlib.Core.Bool.{false}
use native.Mathlib.Omega.{arith}
use lib.ListN.{get_or}
use Rattle.kit.proofs.Loops.{counted_none, counted_more, counted_over}
use Rattle.kit.proofs.Ranges.{one_le}
use Rattle.vote.proofs.Rows.{row_in, row_number}
use Rattle.vote.proofs.voters.count_in.Goals as goal

pub loop-voter-init : goal.loop-voter-init
loop-voter-init c = counted_none

pub overflow_add-count : goal.overflow_add-count
overflow_add-count c = record { fits = omega (arith, c.loop-voter.invariant.few, c.from-count.ensures, one_le (get_or c.args.row.now c.loop-voter.voter-index false)) }

pub loop-voter-preserved : goal.loop-voter-preserved
loop-voter-preserved c = counted_more c.loop-voter.invariant (omega arith) (row_in c.args.row.now c.loop-voter.voter-index (omega arith)) c.from-count.ensures

pub returns : goal.returns
returns c = counted_over c.loop-voter.invariant (omega arith) ∙ sym (row_number c.args.row.now)
