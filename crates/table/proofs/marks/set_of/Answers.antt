-- `table::marks::set_of` meets its contract: after u turns the first u voters are in the set.
use Rattle.table.proofs.RowSets.{no_row_set, one_more_row, row_fits, row_is}
use Rattle.table.proofs.marks.set_of.Goals as goal

pub loop-u-init : goal.loop-u-init
loop-u-init c = no_row_set c.args.row.now

pub overflow_add-set : goal.overflow_add-set
overflow_add-set c = row_fits c.args.row.now c.loop-u.u c.loop-u-test.true c.from.ensures c.loop-u.invariant

pub loop-u-preserved : goal.loop-u-preserved
loop-u-preserved c = one_more_row c.args.row.now c.loop-u.u c.loop-u-test.true c.from.ensures c.loop-u.invariant

pub returns : goal.returns
returns c = row_is c.args.row.now c.loop-u.u c.loop-u.auto.u-end c.loop-u-test.false c.loop-u.invariant
