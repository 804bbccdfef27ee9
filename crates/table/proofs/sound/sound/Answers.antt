-- `table::sound::sound` meets its contract: three loops that return at the first that fails.
use mathlib.Core.Path.{ap}
use mathlib.Core.Bool.{not}
use Rattle.kit.proofs.Loops.{held_none, held_more}
use Rattle.table.proofs.Whole.{no_count, request_wrong, site_wrong, message_wrong, all_right}
use Rattle.table.proofs.sound.sound.Goals as goal

pub returns-then-not-is_site_count : goal.returns-then-not-is_site_count
returns-then-not-is_site_count c = no_count c.args.t.now c.is_site_count.ensures (ap not c.if-not-is_site_count.true)

pub loop-p-init : goal.loop-p-init
loop-p-init c = held_none

pub returns-then-not-is_request_sound : goal.returns-then-not-is_request_sound
returns-then-not-is_request_sound c =
    request_wrong c.args.t.now c.is_site_count.ensures (ap not c.if-not-is_site_count.false) c.lasts_of.ensures c.stamps_of.ensures c.loop-p.invariant c.loop-p-test.true
    c.is_request_sound.ensures (ap not c.if-not-is_request_sound.true)

pub loop-p-preserved : goal.loop-p-preserved
loop-p-preserved c = held_more c.loop-p.invariant c.loop-p-test.true c.is_request_sound.ensures (ap not c.if-not-is_request_sound.false)

pub loop-k-init : goal.loop-k-init
loop-k-init c = held_none

pub returns-then-not-is_site_sound : goal.returns-then-not-is_site_sound
returns-then-not-is_site_sound c =
    site_wrong c.args.t.now c.is_site_count.ensures (ap not c.if-not-is_site_count.false) c.lasts_of.ensures c.stamps_of.ensures c.loop-p.invariant c.loop-p-test.false
    c.marked_of.ensures.oks c.marked_of.ensures.others c.loop-k.invariant c.loop-k-test.true c.is_site_sound.ensures (ap not c.if-not-is_site_sound.true)

pub loop-k-preserved : goal.loop-k-preserved
loop-k-preserved c = held_more c.loop-k.invariant c.loop-k-test.true c.is_site_sound.ensures (ap not c.if-not-is_site_sound.false)

pub loop-m-init : goal.loop-m-init
loop-m-init c = held_none

pub returns-then-not-is_message_sound : goal.returns-then-not-is_message_sound
returns-then-not-is_message_sound c =
    message_wrong c.args.t.now c.is_site_count.ensures (ap not c.if-not-is_site_count.false) c.lasts_of.ensures c.stamps_of.ensures c.loop-p.invariant c.loop-p-test.false
    c.marked_of.ensures.oks c.marked_of.ensures.others c.loop-k.invariant c.loop-k-test.false c.loop-m.invariant c.loop-m-test.true c.is_message_sound.ensures
    (ap not c.if-not-is_message_sound.true)

pub loop-m-preserved : goal.loop-m-preserved
loop-m-preserved c = held_more c.loop-m.invariant c.loop-m-test.true c.is_message_sound.ensures (ap not c.if-not-is_message_sound.false)

pub returns : goal.returns
returns c =
    all_right c.args.t.now c.is_site_count.ensures (ap not c.if-not-is_site_count.false) c.lasts_of.ensures c.stamps_of.ensures c.loop-p.invariant c.loop-p-test.false
    c.marked_of.ensures.oks c.marked_of.ensures.others c.loop-k.invariant c.loop-k-test.false c.loop-m.invariant c.loop-m-test.false
