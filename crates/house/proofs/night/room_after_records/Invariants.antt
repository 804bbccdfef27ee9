-- `house::night::room_after_records` meets its contract: what is left of the room, for the lines that are left, is all of it for all lines.
use Rattle.std.proofs.Common.{◌≡◌, length}
use Rattle.steps.specs.Night.{lines_from}
use Rattle.house.specs.House.{room_after}
use Rattle.house.specs.Ways.{Ready}
use Rattle.house.proofs.night.room_after_records.Given as goal

abbrev pub invariant-loop-n : goal.invariant-loop-n
invariant-loop-n l = record {
  ready : Ready l.records.table l.records.next l.records.rest.now (length l.lines);
  same : room_after l.left (length (lines_from l.records.table l.records.next l.records.rest.now)) ≡ room_after l.fn.room (length (lines_from l.fn.fresh 1 l.fn.input));
}

abbrev pub decreases-loop-n : goal.decreases-loop-n
decreases-loop-n l = length l.records.rest.now
