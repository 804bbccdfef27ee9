-- `house::night::Records::answer` meets its contract: what one run does.
use Rattle.std.proofs.Common.{arith, refl}
use lib.ListN.{length-drop}
use lib.Seq.{take_all}
use Rattle.steps.proofs.Unrefused.{unrefused}
use Rattle.table.proofs.Meaning.{meant}
use Rattle.house.proofs.Going.{ends_here, ready_on, led_on}
use Rattle.house.proofs.night.Records.answer.Goals as goal

pub unwrap-ran-requires : goal.unwrap-ran-requires
unwrap-ran-requires c = unrefused _ _ _ _ _ _ (meant _ c.requires.well.sound) c.run.ensures.answer

pub returns-then-ran-eq0-clause-lines : goal.returns-then-ran-eq0-clause-lines
returns-then-ran-eq0-clause-lines c = ends_here c.requires (rw c.unwrap-ran.ensures at c.run.ensures.answer) c.if-ran-eq0.true

pub returns-then-ran-eq0-clause-ready : goal.returns-then-ran-eq0-clause-ready
returns-then-ran-eq0-clause-ready c =
    let e = rw c.unwrap-ran.ensures at c.run.ensures.answer in
    let i = rw c.unwrap-ran.ensures at c.run.ensures.inside in
    let r = ready_on c.requires e c.run.auto.output i.0 refl in
    record { long = r.long; well = r.well; numbered = c.requires.numbered }

pub returns-clause-ready : goal.returns-clause-ready
returns-clause-ready c =
    let e = rw c.unwrap-ran.ensures at c.run.ensures.answer in
    let i = rw c.unwrap-ran.ensures at c.run.ensures.inside in
    ready_on c.requires e c.run.auto.output i.0 (take_all _ _ (omega (arith, length-drop c.unwrap-ran.result.taken c.args.self.now.rest.now)))

pub returns-clause-lines : goal.returns-clause-lines
returns-clause-lines c =
    let e = rw c.unwrap-ran.ensures at c.run.ensures.answer in
    let i = rw c.unwrap-ran.ensures at c.run.ensures.inside in (
      omega (arith, i.1, c.run.auto.output),
      led_on c.requires e _ refl c.run.ensures.bytes (take_all _ _ (omega (arith, length-drop c.unwrap-ran.result.taken c.args.self.now.rest.now))),
    )
