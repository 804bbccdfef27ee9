-- `vote::verdicts::write_items` meets its contract. The loop's invariant: the update items that are gone are written.
use Rattle.std.proofs.Common.{arith, rules, w32}
use mir.Facts.{to_z-of_z}
use Rattle.sets.proofs.Lowest.{done_start, done_in, done_more, done_before, done_past, done_over}
use Rattle.vote.proofs.WrittenItems.{written_none, written_more, written_late, written_other, written_all}
use Rattle.vote.proofs.verdicts.write_items.Goals as goal
use Rattle.vote.proofs.verdicts.write_items.Goals.{then-stamps-item, else-stamps-item}

pub loop-left-init : goal.loop-left-init
loop-left-init c = done_start (omega arith) (written_none _ _ _)

pub returns-then-item-gt23 : goal.returns-then-item-gt23
returns-then-item-gt23 c = let h = written_all (done_past written_other c.loop-left.invariant c.loop-left-test.true c.if-item-gt23.true) in record { stamps = h.0; values = h.1 }

pub loop-left-preserved : goal.loop-left-preserved
loop-left-preserved c = let v = c.loop-left.invariant in
    let ne = c.loop-left-test.true in
    let b = done_before written_other v ne in
    done_more v ne (omega arith)
    (elim c.if-stamps-item.branch [
      | then-stamps-item w ↦ written_more _ b (done_in v ne) (omega arith) w.stamps-is w.values-is (to_z-of_z {w = w32} (search rules))
      | else-stamps-item w ↦ written_late _ b (omega arith) w.stamps-is w.values-is
    ])

pub returns : goal.returns
returns c = let h = written_all (done_over written_other c.loop-left.invariant c.loop-left-test.false) in record { stamps = h.0; values = h.1 }
