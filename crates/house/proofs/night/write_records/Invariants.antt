-- `house::night::write_records` meets its contract: what is written, and the lines that are left behind it, are all lines.
use Rattle.std.proofs.Common.{length}
use Rattle.steps.specs.Night.{lines_from}
use Rattle.house.specs.Ways.{Ready}
use Rattle.house.proofs.Going.{Writing}
use Rattle.house.proofs.night.write_records.Given as goal

abbrev pub invariant-loop-n : goal.invariant-loop-n
invariant-loop-n l = record {
  ready : Ready l.records.table l.records.next l.records.rest.now (length l.lines);
  writing : Writing (lines_from l.fn.fresh 1 l.fn.input) l.initial.output (lines_from l.records.table l.records.next l.records.rest.now) l.output l.to;
}

abbrev pub decreases-loop-n : goal.decreases-loop-n
decreases-loop-n l = length l.records.rest.now
