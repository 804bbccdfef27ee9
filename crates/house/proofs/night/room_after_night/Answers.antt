-- `house::night::room_after_night` meets its contract: by the night's first byte.
use Rattle.std.proofs.Common.{◌≡◌, ◌∙◌, ap, rules, length, ◌∷◌}
use Rattle.steps.specs.Night.{night_of}
use Rattle.house.specs.House.{room_after}
use Rattle.house.proofs.Rooms.{room_told}
use Rattle.house.proofs.Whole.{night_none, night_refused, night_runs, night_well}
use Rattle.house.proofs.night.room_after_night.Goals as goal

pub returns-in_default : goal.returns-in_default
returns-in_default c =
    let e : length c.args.input.now ≡ 0 = search rules in
    let l : c.refused_length.result ≡ length (night_of c.args.input.now) = rw (night_none _ e) (rw c.number.ensures at c.refused_length.ensures) in
    room_told _ _ _ c.checked_sub.ensures ∙ ap (room_after c.args.room) l

pub returns-then-f-ne0 : goal.returns-then-f-ne0
returns-then-f-ne0 c =
    let e : c.args.input.now ≡ c.in-Some.count.now ∷ c.in-Some.records.now = search rules in
    let l : c.refused_length-then-f-ne0.result ≡ length (night_of c.args.input.now) = rw (e, night_refused _ c.fresh-f.ensures _ c.if-f-ne0.true) c.refused_length-then-f-ne0.ensures in
    room_told _ _ _ c.checked_sub-then-f-ne0.ensures ∙ ap (room_after c.args.room) l

pub room_after_records-requires : goal.room_after_records-requires
room_after_records-requires c = night_well _ c.fresh-f.ensures c.if-f-ne0.false

pub returns : goal.returns
returns c =
    let e : c.args.input.now ≡ c.in-Some.count.now ∷ c.in-Some.records.now = search rules in
    rw (e, night_runs _ c.fresh-f.ensures _ c.if-f-ne0.false) c.room_after_records.ensures
