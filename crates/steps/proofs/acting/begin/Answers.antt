-- `steps::acting::begin` meets its contract: refused by 5 to 8 or by 9, or the request is stored and considered.
use Rattle.std.proofs.Common.{w64, arith, rules, sym}
use mathlib.Core.Path.{◌∙◌}
use mir.Facts.{to_z_pos}
use Rattle.record.specs.Records.{step_from}
use Rattle.plans.proofs.Given.{given_as, stamp_small}
use Rattle.steps.proofs.Ways.{no_free_place, that_free_place, begin_refused, begin_full, begins}
use Rattle.steps.proofs.acting.begin.Goals as goal

pub returns-in_err-given-clause-answer : goal.returns-in_err-given-clause-answer
returns-in_err-given-clause-answer c =
    let a = c.args in
    begin_refused a.t.now (step_from a.a a.stamps.now a.values.now) (sym c.is_site.ensures ∙ c.if-not-is_site.false) (rw c.from-k.ensures at c.if-not-t-k.false)
    (rw c.from-k.ensures at (sym c.stamp_for.ensures ∙ c.in_err-given.was)) (search rules)

pub returns-in_default-clause-answer : goal.returns-in_default-clause-answer
returns-in_default-clause-answer c =
    let a = c.args in
    begin_full a.t.now (step_from a.a a.stamps.now a.values.now) (sym c.is_site.ensures ∙ c.if-not-is_site.false) (rw c.from-k.ensures at c.if-not-t-k.false)
    (rw c.from-k.ensures at (sym c.stamp_for.ensures ∙ c.in_ok-given.was)) (no_free_place a.t.now c.free_place.ensures.value c.in_default.is)

pub overflow_cast-result : goal.overflow_cast-result
overflow_cast-result c = let a = c.args in
    let h = stamp_small _ (step_from a.a a.stamps.now a.values.now) (search rules) (given_as _ _ (step_from a.a a.stamps.now a.values.now) 0 (sym c.stamp_for.ensures ∙ c.in_ok-given.was)).1 in
    search (rules, h, arith)

pub returns-clause-answer : goal.returns-clause-answer
returns-clause-answer c =
    let a = c.args in
    let p = that_free_place a.t.now c.free_place.ensures.value c.in-Some.is in
    let h = stamp_small _ (step_from a.a a.stamps.now a.values.now) (search rules) (given_as _ _ (step_from a.a a.stamps.now a.values.now) 0 (sym c.stamp_for.ensures ∙ c.in_ok-given.was)).1 in
    rw (c.from-k.ensures, to_z_pos w64 h)
    (begins a.t.now (step_from a.a a.stamps.now a.values.now) (sym c.is_site.ensures ∙ c.if-not-is_site.false) (rw c.from-k.ensures at c.if-not-t-k.false)
    (rw c.from-k.ensures at (sym c.stamp_for.ensures ∙ c.in_ok-given.was)) p.0 p.1 c.stored.ensures (rw c.from-k.ensures at c.take_up-ruled.ensures.site) (rw c.from-k.ensures at c.take_up-ruled.ensures.counts))
