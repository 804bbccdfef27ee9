-- `steps::acting::tell` meets its contract: no request has the stamp, or the message is put.
use Rattle.std.proofs.Common.{◌-◌, ◌^◌, w64, ◌<◌, arith, rules, ap, sym}
use mathlib.Core.Path.{◌∙◌}
use mir.Facts.{to_z_pos}
use Rattle.record.specs.Records.{step_from}
use Rattle.std.proofs.lemmas.List.{set-get_or}
use Rattle.table.specs.Places.{no_site}
use Rattle.steps.specs.Numbers.{tell_number}
use Rattle.plans.proofs.FreeSet.{taken_among}
use Rattle.table.specs.declared.data.Message.{Message}
use Rattle.steps.proofs.Ways.{no_place, that_place, no_message_free, that_message, message_unused, tells, tells_full}
use Rattle.steps.proofs.acting.tell.Goals as goal

pub returns-in_default-clause-answer : goal.returns-in_default-clause-answer
unfolding tell_number
returns-in_default-clause-answer c ss vs =
    rw (← c.is_site.ensures, ← c.is_site-else-not-is_site.ensures, c.if-not-is_site.false, c.if-not-is_site-2.false, ← c.from.ensures, c.if-not-teller.false, no_place c.args.t.now c.args.a.stamp c.place_with.ensures.value c.in_default.is, set-get_or c.args.t.now.sites (c.from.result - 1) no_site)

-- no message place is free
pub returns-in_default-lowest-clause-answer : goal.returns-in_default-lowest-clause-answer
returns-in_default-lowest-clause-answer c ss vs =
    let a = c.args in
    let p = that_place a.t.now a.a.stamp c.place_with.ensures.value c.in-Some.is in
    rw (set-get_or a.t.now.sites (c.from.result - 1) no_site)
    (tells_full a.t.now (step_from a.a ss vs) (sym c.is_site.ensures ∙ c.if-not-is_site.false) (sym c.is_site-else-not-is_site.ensures ∙ c.if-not-is_site-2.false)
    (rw c.from.ensures at c.if-not-teller.false) p.0 p.1 (rw (c.has_word.ensures, c.vote_at.ensures, c.from.ensures) at c.if-not-has_word.false) c.if-a.false
    (no_message_free a.t.now c.requires.free c.lowest.ensures.value c.in_default-lowest.is))

pub returns-clause-free : goal.returns-clause-free
returns-clause-free c =
    let a = c.args in
    let h = that_message a.t.now c.requires.free c.lowest.ensures.value c.in-Some-lowest.is in
    rw c.take.ensures (taken_among a.free.now a.t.now.messages c.requires.free h.1 (search rules) c.message_from.result (message_unused a.t.now h) (ap (λ (m : Message). m.used) c.message_from.ensures))

pub returns-clause-answer : goal.returns-clause-answer
returns-clause-answer c ss vs =
    let a = c.args in
    let p = that_place a.t.now a.a.stamp c.place_with.ensures.value c.in-Some.is in
    let h = that_message a.t.now c.requires.free c.lowest.ensures.value c.in-Some-lowest.is in
    rw (set-get_or a.t.now.sites (c.from.result - 1) no_site)
    (tells a.t.now (step_from a.a ss vs) (sym c.is_site.ensures ∙ c.if-not-is_site.false) (sym c.is_site-else-not-is_site.ensures ∙ c.if-not-is_site-2.false)
    (rw c.from.ensures at c.if-not-teller.false) p.0 p.1 (rw (c.has_word.ensures, c.vote_at.ensures, c.from.ensures) at c.if-not-has_word.false) c.if-a.false h.0 h.1 (rw c.from.ensures at c.message_from.ensures)
    (rw (to_z_pos w64 (let l : c.in-Some-lowest.j < 2 ^ 63 = omega (arith, h.1) in l)) at c.quiet.ensures))
