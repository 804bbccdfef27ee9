-- `house::night::room_after_records` meets its contract: what is left of the room, for the lines that are left, is all of it for all lines.
use Rattle.std.proofs.Common.{◌≡◌, ◌∙◌, ◌<◌, ◌≤◌, ◌-◌, ap, sym, rules, length}
use Rattle.std.specs.Prelude.{None}
use Rattle.house.specs.House.{room_after}
use Rattle.house.proofs.Rooms.{room_told}
use Rattle.house.proofs.Going.{counting_out, counting_on}
use Rattle.house.proofs.night.room_after_records.Goals as goal

pub returns-in_err-left : goal.returns-in_err-left
returns-in_err-left c =
    let led = c.in-Some.ensures.lines in
    let none : c.from_residual.result ≡ None = search rules in
    let h : c.loop-n.left < c.in-Some.n = search rules in
    rw none (counting_out _ _ _ _ _ _ _ led.0 led.1 c.loop-n.invariant.same h)

pub loop-n-preserved : goal.loop-n-preserved
loop-n-preserved c =
    let led = c.in-Some.ensures.lines in
    let h : c.in-Some.n ≤ c.loop-n.left = search rules in
    let d : c.in_ok-left.left ≡ c.loop-n.left - c.in-Some.n = search rules in
    record { ready = c.answer.ensures.ready; same = rw d (counting_on _ _ _ _ _ _ _ led.0 led.1 c.loop-n.invariant.same h) }

pub returns : goal.returns
returns c =
    room_told _ _ _ c.checked_sub-2.ensures ∙ ap (room_after c.loop-n.left) (c.last_length.ensures ∙ ap length (sym c.in_default.ensures.lines)) ∙ c.loop-n.invariant.same
