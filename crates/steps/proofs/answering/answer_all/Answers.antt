-- `steps::answering::answer_all` meets its contract: what is left to do behind the records that were answered is all that was to do.
use Rattle.std.proofs.Common.{◌+◌, length, refl, ap, rules, arith}
use Rattle.lines.proofs.Counting.{counted_start}
use Rattle.steps.specs.Night.{part_from}
use Rattle.steps.proofs.Running.{Going}
use Rattle.steps.proofs.Turning.{turning_start, turning_over, is_next, turning_room, turning_number, turning_wrote, turning_on, count_kept}
use Rattle.steps.proofs.answering.answer_all.Goals as goal
use Rattle.steps.proofs.answering.answer_all.Goals.{After-write_answer-written}

-- its line has room and is written
written
    : (c : After-write_answer-written)
    → Going (part_from c.args.t.now c.args.nth c.args.input.now (length c.args.output.now)) c.args.input.now c.args.output.now (length c.args.input.now) (length c.args.output.now)
    c.answer-answer.new.t c.write_answer-written.new.output (c.loop-r.taken + (3 + c.in-Some.r.length)) (c.loop-r.written + c.write_answer-written.result) (c.loop-r.next + 1)
written c =
    let e = c.write_answer-written.ensures in
    turning_wrote c.loop-r.invariant.1 _ c.read_next.ensures c.in-Some.is c.answer-answer.ensures.answer e.answer e.bytes e.short

pub loop-r-init : goal.loop-r-init
loop-r-init c = (c.among-free.ensures, turning_start refl refl c.requires (rw (c.count_from-len.ensures.answer, c.count_from-len.ensures.bytes) (counted_start _ c.args.nth)))

pub answer-answer-requires-clause-read : goal.answer-answer-requires-clause-read
answer-answer-requires-clause-read c = is_next c.loop-r.invariant.1 _ c.read_next.ensures c.in-Some.is

pub write_answer-written-requires-clause-room : goal.write_answer-written-requires-clause-room
write_answer-written-requires-clause-room c = turning_room c.loop-r.invariant.1 _ c.read_next.ensures c.in-Some.is

pub overflow_add-written : goal.overflow_add-written
overflow_add-written c = let g = written (goal.at.overflow_add-written c).After-write_answer-written in search (rules, g.ends, arith)

pub overflow_add-next : goal.overflow_add-next
overflow_add-next c = let h = turning_number c.loop-r.invariant.1 _ c.read_next.ensures c.in-Some.is in omega (arith, h)

pub loop-r-smaller : goal.loop-r-smaller
loop-r-smaller c = let g = written (goal.at.loop-r-smaller c).After-write_answer-written in omega (arith, g.inside, g.all)

pub loop-r-preserved : goal.loop-r-preserved
loop-r-preserved c =
    let e = c.write_answer-written.ensures in
    let d = c.count_on-len.ensures in
    rw c.size-taken.ensures
    (c.answer-answer.ensures.free, turning_on c.loop-r.invariant.1 _ c.read_next.ensures c.in-Some.is c.answer-answer.ensures.answer e.answer e.bytes e.short (count_kept c.loop-r.t _ c.answer-answer.ensures.answer c.loop-r.invariant.1.few) d.answer d.bytes)

pub returns-clause-answer : goal.returns-clause-answer
returns-clause-answer c = let h = turning_over c.loop-r.invariant.1 _ c.read_next.ensures c.in_default.is in h.0

pub returns-clause-bytes : goal.returns-clause-bytes
returns-clause-bytes c = let h = turning_over c.loop-r.invariant.1 _ c.read_next.ensures c.in_default.is in h.1.0
