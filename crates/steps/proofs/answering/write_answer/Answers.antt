-- `steps::answering::write_answer` meets its contract: the digits are those of the number, and there is room.
use Rattle.std.proofs.Common.{◌≤◌, ◌<◌, length, rules, arith, w64}
use mathlib.Core.Path.{◌∙◌}
use mir.Val.{SFits}
use Rattle.lines.proofs.Laws.{line_short}
use Rattle.lines.specs.Lines.{line_of}
use Rattle.lines.specs.declared.Told.{Told}
use Rattle.plans.specs.Answers.{answer_from}
use Rattle.steps.specs.Night.{line_for}
use Rattle.steps.proofs.Running.{abs_fits, line_fitted, line_placed}
use Rattle.steps.proofs.answering.write_answer.Goals as goal

pub returns : goal.returns
returns c =
    let a = c.args in
    let q : Told = c.told_of.result in
    let e = c.told_of.ensures in
    let f : SFits w64 q.first = search rules in
    let n₁ : q.number < 256 = search rules in
    let n₂ : q.second < 18446744073709551616 = search rules in
    let n₃ : q.accepted < 4294967296 = search rules in
    let n₄ : q.rejected < 4294967296 = search rules in
    let n₅ : a.nth < 18446744073709551616 = search rules in
    let s : length (line_of a.nth q.number q.first q.second q.accepted q.rejected) ≤ 89 =
    line_short _ _ _ _ _ _ (omega arith) (omega arith) (abs_fits _ f) (omega arith) (omega arith) (omega arith) in
    let short : length (line_for a.nth (answer_from a.answer)) ≤ 89 = rw e at s in
    let p = c.requires in
    let w = rw e at c.write_counted.ensures in
    record { answer = w.answer ∙ line_fitted _ _ _ (answer_from a.answer) _ _ p.room p.digits short; bytes = w.bytes ∙ line_placed _ _ _ (answer_from a.answer) _ _ p.room p.digits short; short = short }
