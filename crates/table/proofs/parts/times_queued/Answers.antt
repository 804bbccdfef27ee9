-- `table::parts::times_queued` meets its contract: a loop that counts each place where it meets it.
use native.Mathlib.Omega.{arith}
use Rattle.table.proofs.Marked.{tallied_none, tallied_few, tallied_more, tallied_skip, tallied_over}
use Rattle.table.proofs.parts.times_queued.Goals as goal
use Rattle.table.proofs.parts.times_queued.Goals.{then-place-lt16, else-place-lt16}

pub loop-place-init : goal.loop-place-init
loop-place-init c = tallied_none

pub overflow_add-times : goal.overflow_add-times
overflow_add-times c = rw c.from.ensures (omega (arith, tallied_few c.loop-place.invariant c.if-place-lt16.true))

pub loop-place-preserved : goal.loop-place-preserved
loop-place-preserved c =
    elim c.if-place-lt16.branch [ then-place-lt16 w ↦ rw (w.times-is, w.from.ensures) (search (tallied_more, arith)) | else-place-lt16 w ↦ rw w.times-is (search (tallied_skip, arith)) ]

pub returns : goal.returns
returns c = tallied_over c.loop-place.invariant c.loop-place.auto.place-index-end c.loop-place-test.false
