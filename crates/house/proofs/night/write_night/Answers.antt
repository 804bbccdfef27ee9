-- `house::night::write_night` meets its contract: by the night's first byte.
use Rattle.std.proofs.Common.{◌≡◌, ◌∙◌, ap, rules, length, ◌∷◌}
use Rattle.steps.specs.Night.{night_of}
use Rattle.house.proofs.Whole.{night_none, night_refused, night_runs, night_well, line_of}
use Rattle.house.proofs.night.write_night.Goals as goal

pub returns-in_default : goal.returns-in_default
returns-in_default c =
    let e : length c.args.input.now ≡ 0 = search rules in
    line_of _ _ _ (rw c.number.ensures at c.write_refused.ensures.bytes) (night_none _ e) c.requires

pub returns-then-f-ne0 : goal.returns-then-f-ne0
returns-then-f-ne0 c =
    let e : c.args.input.now ≡ c.in-Some.count.now ∷ c.in-Some.records.now = search rules in
    line_of _ _ _ c.write_refused-then-f-ne0.ensures.bytes (ap night_of e ∙ night_refused _ c.fresh-f.ensures _ c.if-f-ne0.true) c.requires

pub write_records-requires-clause-well : goal.write_records-requires-clause-well
write_records-requires-clause-well c = night_well _ c.fresh-f.ensures c.if-f-ne0.false

pub write_records-requires-clause-input_in_bounds : goal.write_records-requires-clause-input_in_bounds
write_records-requires-clause-input_in_bounds c =
    let e : c.args.input.now ≡ c.in-Some.count.now ∷ c.in-Some.records.now = search rules in
    rw (e, night_runs _ c.fresh-f.ensures _ c.if-f-ne0.false) at c.requires

pub returns : goal.returns
returns c =
    let e : c.args.input.now ≡ c.in-Some.count.now ∷ c.in-Some.records.now = search rules in
    rw (e, night_runs _ c.fresh-f.ensures _ c.if-f-ne0.false) c.write_records.ensures
