-- `house::night::write_records` meets its contract: what is written, and the lines that are left behind it, are all lines.
use Rattle.std.proofs.Common.{◌∙◌, ◌≤◌, ◌+◌, arith, length}
use lib.ListN.{length-drop}
use lib.Seq.{length-take-le}
use Rattle.house.proofs.Rooms.{copied_in}
use Rattle.house.proofs.Going.{writing_end, writing_room, writing_on}
use Rattle.house.proofs.night.write_records.Goals as goal

pub loop-n-preserved : goal.loop-n-preserved
loop-n-preserved c =
    let led = c.in-Some.ensures.lines in
    let w = c.loop-n.invariant.writing in
    let room : c.loop-n.to + c.in-Some.n ≤ length c.loop-n.output = writing_room w _ _ _ led.0 led.1 in
    record {
      ready = c.answer.ensures.ready;
      writing = writing_on w _ _ _ led.0 led.1 _ (copied_in _ _ _ _ _ c.copy_from_slice.ensures.after (c.copy_from_slice.ensures.len ∙ length-take-le _ _ (rw length-drop (omega (arith, room)))));
    }

pub returns : goal.returns
returns c = writing_end c.loop-n.invariant.writing _ _ c.in_default.ensures.lines c.write_last.ensures
