-- `steps::answering::answer` meets its contract: refused when it was read, or its step taken.
use Rattle.std.proofs.Common.{rules}
use mathlib.Core.Path.{◌∙◌}
use Rattle.steps.proofs.Turning.{read_refused, read_stepped}
use Rattle.steps.proofs.answering.answer.Goals as goal
use Rattle.steps.proofs.answering.answer.Goals.{then-brief-eq1, else-brief-eq1}

pub returns-in_err-brief-clause-answer : goal.returns-in_err-brief-clause-answer
returns-in_err-brief-clause-answer c = read_refused _ _ _ _ (rw c.in_err-brief.was at c.requires.read) (search rules)

pub returns-clause-answer : goal.returns-clause-answer
returns-clause-answer c =
    read_stepped _ _ _ (rw c.in_ok-brief.was at c.requires.read)
    (λ q. elim c.if-brief-eq1.branch [
      | then-brief-eq1 w ↦ (w.stamps-is ∙ w.read_numbers.ensures.stamps, w.values-is ∙ w.read_numbers.ensures.values)
      | else-brief-eq1 w ↦ absurd (w.if-brief-eq1.false q)
    ])
    c.take_step.ensures.answer
