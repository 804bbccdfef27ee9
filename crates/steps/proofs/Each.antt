-- What holds of the table behind a step: by the step that it is. A refused one, a read and what is no step leave the table as it came.
use mathlib.Core.Bool.{true, false}
use mathlib.Core.Path.{◌≡◌}
use Prim.Native.Nat.{ℕ}
use borrow.Author.Tests.{eqb-true}
use lib.Dec.{eqb}
use Rattle.kit.proofs.Bools.{of_cond}
use Rattle.record.specs.declared.Step.{Step}
use Rattle.table.specs.declared.data.Table.{Table}
use Rattle.steps.specs.Answers.{Done}
use Rattle.steps.specs.Numbers.{begin_number, tell_number, deliver_number, drop_number, down_number, up_number, retire_number, read_number}
use Rattle.steps.specs.Steps.{begun, told, delivered, dropped, put_up, retired, readings, unless_refused, advanced}
use Rattle.steps.specs.Answers.{Stepped}

-- P holds before the step, and behind each that is not refused; of the two steps at which sites speak, begin and deliver, by their code too
pub record EachStep (t : Table) (a : Step) (P : Table → Type 0) : Type 0 where
  pub stays : P t
  pub begins : eqb a.code 1 ≡ true → begin_number t a ≡ 0 → P (begun t a).table
  pub tells : tell_number t a ≡ 0 → P (told t a).table
  pub delivers : eqb a.code 3 ≡ true → deliver_number t a ≡ 0 → P (delivered t a).table
  pub drops : drop_number t a ≡ 0 → P (dropped t a).table
  pub downs : down_number t a ≡ 0 → P (put_up false t a).table
  pub ups : up_number t a ≡ 0 → P (put_up true t a).table
  pub retires : retire_number t a ≡ 0 → P (retired t a).table

pub each_step : (t : Table) (a : Step) (P : Table → Type 0) → EachStep t a P → P (advanced t a).table
unfolding advanced readings
each_step t a P s =
    of_cond Holds (eqb a.code 1) (λ e. unless (begin_number t a) (begun t a) (s.begins e))
    (λ _. of_cond Holds (eqb a.code 2) (λ e. unless (tell_number t a) (told t a) s.tells)
    (λ _. of_cond Holds (eqb a.code 3) (λ e. unless (deliver_number t a) (delivered t a) (s.delivers e))
    (λ _. of_cond Holds (eqb a.code 4) (λ e. unless (drop_number t a) (dropped t a) s.drops)
    (λ _. of_cond Holds (eqb a.code 5) (λ e. unless (down_number t a) (put_up false t a) s.downs)
    (λ _. of_cond Holds (eqb a.code 6) (λ e. unless (up_number t a) (put_up true t a) s.ups)
    (λ _. of_cond Holds (eqb a.code 7) (λ e. unless (retire_number t a) (retired t a) s.retires)
    (λ _. of_cond Holds (eqb a.code 8) (λ e. unless (read_number t a) (readings t a) (λ z. s.stays))
    (λ _. s.stays))))))))
  where
    Holds : Stepped → Type 0
    Holds r = P r.table

    unless : (number : ℕ) (d : Done) → (number ≡ 0 → P d.table) → Holds (unless_refused number d t)
    unless number d h = of_cond Holds (eqb number 0) (λ e. h (eqb-true number 0 e)) (λ e. s.stays)
