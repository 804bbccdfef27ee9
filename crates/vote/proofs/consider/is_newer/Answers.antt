-- `vote::consider::is_newer` meets its contract: a loop over the items of the base set that returns at the first hit computes `any`.
use Prim.Native.Nat.{◌^◌, ◌<◌}
use native.Mathlib.Omega.{arith}
use borrow.Author.Rules.{rules}
use borrow.Author.Tests.{lt-ltb, le-ltb}
use Rattle.sets.proofs.Lowest.{sought_start, sought_item, sought_less, sought_more, sought_found, sought_past, sought_over}
use Rattle.vote.specs.Consider.{newer_copy}
use Rattle.vote.proofs.consider.is_newer.Goals as goal
use Rattle.vote.proofs.consider.is_newer.Goals.{Start}

small : (c : Start) → c.args.base < 2 ^ 32
small c = omega arith

pub loop-left-init : goal.loop-left-init
unfolding newer_copy
loop-left-init c = sought_start _ _ (small c)

pub overflow_cast-item : goal.overflow_cast-item
unfolding newer_copy
overflow_cast-item c = omega (arith, sought_item _ _ _ c.loop-left.invariant c.loop-left-test.true)

pub returns-then-item-gt23 : goal.returns-then-item-gt23
unfolding newer_copy
returns-then-item-gt23 c = sought_past _ _ _ c.loop-left.invariant c.loop-left-test.true 24 c.if-item-gt23.true

pub offset_bounds-based-item : goal.offset_bounds-based-item
unfolding newer_copy
offset_bounds-based-item c = search rules

pub offset_bounds-held-item : goal.offset_bounds-held-item
unfolding newer_copy
offset_bounds-held-item c = search rules

pub returns-then-based-item : goal.returns-then-based-item
unfolding newer_copy
returns-then-based-item c = sought_found _ _ _ c.loop-left.invariant c.loop-left-test.true 24 (omega arith) (lt-ltb _ _ c.if-based-item.true)

pub overflow_sub-left : goal.overflow_sub-left
unfolding newer_copy
overflow_sub-left c = search rules

pub loop-left-smaller : goal.loop-left-smaller
unfolding newer_copy
loop-left-smaller c = sought_less _ _ _ c.loop-left.invariant c.loop-left-test.true

pub loop-left-preserved : goal.loop-left-preserved
unfolding newer_copy
loop-left-preserved c = sought_more _ _ _ c.loop-left.invariant c.loop-left-test.true (le-ltb _ _ c.if-based-item.false)

pub returns : goal.returns
unfolding newer_copy
returns c = sought_over _ _ 24 _ c.loop-left.invariant c.loop-left-test.false
