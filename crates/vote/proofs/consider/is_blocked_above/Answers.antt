-- `vote::consider::is_blocked_above` meets its contract: a loop over the pending that returns at the first hit computes `any`.
use mathlib.Core.Path.{◌≡◌, sym, ◌∙◌}
use Prim.Native.Nat.{◌<◌}
use native.Mathlib.Omega.{arith}
use lib.Count.{count_trailing_zeros}
use Rattle.sets.proofs.Lowest.{sought_start, sought_below, sought_more, sought_found, sought_over}
use Rattle.vote.specs.Data.{head_at, heads_of}
use Rattle.vote.proofs.Considering.{above_means, pending_lt, above_from}
use Rattle.vote.proofs.Conflicts.{heads_at}
use Rattle.vote.proofs.consider.is_blocked_above.Goals as goal
use Rattle.vote.proofs.consider.is_blocked_above.Goals.{After-head_of}

-- the pending are among the 16 places
pub loop-left-init : goal.loop-left-init
loop-left-init c = sought_start _ _ (omega (arith, pending_lt _ c.pending_in-left.ensures))

pub bounds-requests-j : goal.bounds-requests-j
bounds-requests-j c = sought_below _ _ _ c.loop-left.invariant c.loop-left-test.true 16 (pending_lt _ c.pending_in-left.ensures)

-- the head that a turn is about
place : (c : After-head_of) → count_trailing_zeros 32 c.loop-left.left < 16
place c = sought_below _ _ _ c.loop-left.invariant c.loop-left-test.true 16 (pending_lt _ c.pending_in-left.ensures)

head : (c : After-head_of) → c.head_of.result ≡ head_at (heads_of c.args.requests.now) (count_trailing_zeros 32 c.loop-left.left)
head c = c.head_of.ensures ∙ sym (heads_at c.args.requests.now _ (place c))

pub returns-then-is_above : goal.returns-then-is_above
returns-then-is_above c =
    let p = (goal.at.returns-then-is_above c).After-head_of in
    above_from _ _ _ c.pending_in-left.ensures
    (sought_found _ _ _ c.loop-left.invariant c.loop-left-test.true 16 (place p) (above_means _ _ _ c.is_above.ensures (head p) c.if-is_above.true))

pub loop-left-preserved : goal.loop-left-preserved
loop-left-preserved c =
    let p = (goal.at.loop-left-preserved c).After-head_of in
    sought_more _ _ _ c.loop-left.invariant c.loop-left-test.true (above_means _ _ _ c.is_above.ensures (head p) c.if-is_above.false)

pub returns : goal.returns
returns c = above_from _ _ _ c.pending_in-left.ensures (sought_over _ _ 16 _ c.loop-left.invariant c.loop-left-test.false)
