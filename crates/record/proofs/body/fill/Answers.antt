use Rattle.std.proofs.Common.{arith}
use Rattle.record.proofs.Items.{placed_start, placed_room, placed_item, placed_turn, placed_less, walked_start, walked_turn, walked_end}
use Rattle.record.proofs.body.fill.Goals as goal

pub loop-left-init : goal.loop-left-init
loop-left-init g c = record { placed = placed_start _ _ _ (omega arith); walked = λ none number e h. rw e (walked_start _ _ _ none number (omega arith)) }

pub bounds-r-left : goal.bounds-r-left
bounds-r-left g c = placed_item _ _ _ c.loop-left.invariant.placed c.loop-left-test.true

pub listed : goal.listed
listed g c = let h = placed_item _ _ _ c.loop-left.invariant.placed c.loop-left-test.true in omega (arith, h)

pub overflow_add-at : goal.overflow_add-at
overflow_add-at g c = omega (arith, placed_room _ _ _ c.loop-left.invariant.placed)

pub loop-left-smaller : goal.loop-left-smaller
loop-left-smaller g c = placed_less _ _ _ c.loop-left.invariant.placed c.loop-left-test.true

pub loop-left-preserved : goal.loop-left-preserved
loop-left-preserved g c =
    let v = c.loop-left.invariant in record {
      placed = placed_turn _ _ _ v.placed c.loop-left-test.true;
      walked = λ none number e h. walked_turn _ _ _ none number (v.walked none number e h) v.placed c.loop-left-test.true _ (h _ _ c.read.ensures);
    }

pub returns : goal.returns
returns g c = λ none number e h. walked_end _ _ _ none number (c.loop-left.invariant.walked none number e h) c.loop-left-test.false
