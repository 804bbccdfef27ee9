-- `table::parts::are_copied_in_time` meets its contract: a loop that returns at the first that fails, and knows that the last one passed.
use Rattle.kit.proofs.Loops.{held_none, alls}
use mathlib.Core.Path.{refl, sym, ◌∙◌}
use Rattle.table.proofs.Runs.{blank_right, stamp_more}
use Rattle.table.proofs.parts.are_copied_in_time.Goals as goal
use Rattle.table.proofs.parts.are_copied_in_time.Goals.{else-stamp-last-via-then-stamp-last+else-not-is_stamp_right, else-stamp-last-via-else-stamp-last}

pub loop-stamp-init : goal.loop-stamp-init
loop-stamp-init c = (held_none, blank_right c.args.n c.args.lasts.now)

pub returns-then-not-is_stamp_right : goal.returns-then-not-is_stamp_right
returns-then-not-is_stamp_right c = search alls

pub loop-stamp-preserved : goal.loop-stamp-preserved
loop-stamp-preserved c =
    elim c.else-stamp-last.branch [
      | else-stamp-last-via-then-stamp-last+else-not-is_stamp_right w ↦
          stamp_more c.args.n c.args.lasts.now c.args.copied.now c.loop-stamp.invariant.0 c.loop-stamp-test.true refl (sym w.is_stamp_right.ensures ∙ w.if-not-is_stamp_right.false)
      | else-stamp-last-via-else-stamp-last w ↦
          stamp_more c.args.n c.args.lasts.now c.args.copied.now c.loop-stamp.invariant.0 c.loop-stamp-test.true refl (rw w.if-stamp-last.false c.loop-stamp.invariant.1)
    ]
