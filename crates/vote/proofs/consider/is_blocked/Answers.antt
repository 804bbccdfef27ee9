-- `vote::consider::is_blocked` meets its contract: a loop over the pending that returns at the first hit computes `any`.
use mathlib.Core.Path.{◌≡◌, sym, ◌∙◌}
use Prim.Native.Nat.{◌<◌}
use native.Mathlib.Omega.{arith}
use lib.Count.{count_trailing_zeros}
use Rattle.sets.proofs.Lowest.{sought_start, sought_below, sought_more, sought_found, sought_over}
use Rattle.vote.specs.Data.{head_at, heads_of}
use Rattle.vote.proofs.Considering.{conflict_means, pending_lt, blocked_from}
use Rattle.vote.proofs.Conflicts.{heads_at}
use Rattle.vote.proofs.consider.is_blocked.Goals as goal
use Rattle.vote.proofs.consider.is_blocked.Goals.{After-head_of}

-- the pending are among the 16 places
pub loop-left-init : goal.loop-left-init
loop-left-init c = sought_start _ _ (omega (arith, pending_lt _ c.pending_in-left.ensures))

pub bounds-requests-j : goal.bounds-requests-j
bounds-requests-j c = sought_below _ _ _ c.loop-left.invariant c.loop-left-test.true 16 (pending_lt _ c.pending_in-left.ensures)

-- the head that a turn is about
place : (c : After-head_of) → count_trailing_zeros 32 c.loop-left.left < 16
place c = sought_below _ _ _ c.loop-left.invariant c.loop-left-test.true 16 (pending_lt _ c.pending_in-left.ensures)

head : (c : After-head_of) → c.head_of.result ≡ head_at (heads_of c.args.requests.now) (count_trailing_zeros 32 c.loop-left.left)
head c = c.head_of.ensures ∙ sym (heads_at c.args.requests.now _ (place c))

pub returns-then-is_conflicting : goal.returns-then-is_conflicting
returns-then-is_conflicting c =
    let p = (goal.at.returns-then-is_conflicting c).After-head_of in
    blocked_from _ _ _ c.pending_in-left.ensures
    (sought_found _ _ _ c.loop-left.invariant c.loop-left-test.true 16 (place p) (conflict_means _ _ _ c.is_conflicting.ensures (head p) c.if-is_conflicting.true))

pub loop-left-preserved : goal.loop-left-preserved
loop-left-preserved c =
    let p = (goal.at.loop-left-preserved c).After-head_of in
    sought_more _ _ _ c.loop-left.invariant c.loop-left-test.true (conflict_means _ _ _ c.is_conflicting.ensures (head p) c.if-is_conflicting.false)

pub returns : goal.returns
returns c = blocked_from _ _ _ c.pending_in-left.ensures (sought_over _ _ 16 _ c.loop-left.invariant c.loop-left-test.false)
