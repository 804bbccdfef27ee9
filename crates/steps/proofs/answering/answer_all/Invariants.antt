-- `steps::answering::answer_all` meets its contract: what is left to do behind the records that were answered is all that was to do.
use Rattle.std.proofs.Common.{◌-◌, ◌≡◌, length}
use Rattle.plans.specs.Free.{free_among}
use Rattle.steps.proofs.Turning.{Turning}
use Rattle.steps.proofs.answering.answer_all.Given as goal

abbrev pub invariant-loop-r : goal.invariant-loop-r
invariant-loop-r l = (l.free ≡ free_among l.t.messages) × Turning l.fn.t l.fn.nth l.input l.fn.output (length l.input) l.room l.t l.digits l.len l.output l.taken l.written l.next

abbrev pub decreases-loop-r : goal.decreases-loop-r
decreases-loop-r l = length l.input - l.taken
