-- `house::night::print_night` meets its contract: refused before anything is written, or all of it.
use Rattle.std.proofs.Common.{◌≡◌, ◌∙◌, sym, ap, length, rules}
use Rattle.std.specs.Prelude.{None, Some, Err}
use Rattle.refusals.specs.declared.Refusal.TheVariants as refusal
use Rattle.steps.specs.Night.{night_of}
use Rattle.house.specs.House.{room_after, room_answer}
use Rattle.house.proofs.Whole.{fits_in, left_inside, print_refused, print_done}
use Rattle.house.proofs.night.print_night.Goals as goal
use Rattle.house.proofs.night.print_night.Goals.{After-room_after_night}

-- what is measured is the room of the output
measured : (c : After-room_after_night) → room_answer c.room_after_night.result ≡ room_after (length c.args.output.now) (length (night_of c.args.input.now))
measured c = search rules

pub returns-in_err-left-clause-answer : goal.returns-in_err-left-clause-answer
returns-in_err-left-clause-answer c =
    let n : c.room_after_night.result ≡ None = search rules in
    let r : c.from_residual.result ≡ Err refusal.NotWritten = search rules in
    rw r (print_refused _ _ (ap room_answer (sym n) ∙ measured (goal.at.returns-in_err-left-clause-answer c).After-room_after_night)).0

pub returns-in_err-left-clause-bytes : goal.returns-in_err-left-clause-bytes
returns-in_err-left-clause-bytes c =
    let n : c.room_after_night.result ≡ None = search rules in (print_refused _ _ (ap room_answer (sym n) ∙ measured (goal.at.returns-in_err-left-clause-bytes c).After-room_after_night)).1

pub write_night-requires : goal.write_night-requires
write_night-requires c =
    let n : c.room_after_night.result ≡ Some c.in_ok-left.left = search rules in fits_in _ _ _ (ap room_answer (sym n) ∙ measured (goal.at.write_night-requires c).After-room_after_night)

pub overflow_sub-result : goal.overflow_sub-result
overflow_sub-result c =
    let n : c.room_after_night.result ≡ Some c.in_ok-left.left = search rules in left_inside c.args.input.now c.args.output.now _ (ap room_answer (sym n) ∙ measured (goal.at.overflow_sub-result c).After-room_after_night)

pub returns-clause-answer : goal.returns-clause-answer
returns-clause-answer c =
    let n : c.room_after_night.result ≡ Some c.in_ok-left.left = search rules in (print_done _ _ _ (ap room_answer (sym n) ∙ measured (goal.at.returns-clause-answer c).After-room_after_night) c.write_night.ensures).0

pub returns-clause-bytes : goal.returns-clause-bytes
returns-clause-bytes c =
    let n : c.room_after_night.result ≡ Some c.in_ok-left.left = search rules in (print_done _ _ _ (ap room_answer (sym n) ∙ measured (goal.at.returns-clause-bytes c).After-room_after_night) c.write_night.ensures).1
