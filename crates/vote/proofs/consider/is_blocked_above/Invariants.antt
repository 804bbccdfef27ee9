-- `vote::consider::is_blocked_above` meets its contract: a loop over the pending that returns at the first hit computes `any`.
use mathlib.Core.Bool.{Bool, ◌&&◌}
use mathlib.Core.List.{List}
use Prim.Native.Nat.{ℕ}
use Rattle.sets.proofs.Lowest.{Sought}
use Rattle.vote.specs.Data.{head_at, heads_of}
use Rattle.vote.specs.Requests.{conflicts, outranks}
use Rattle.vote.specs.declared.data.Head.{Head}
use Rattle.vote.proofs.consider.is_blocked_above.Given as goal

-- the request at place j conflicts with q and has higher priority
abbrev pub stands : Head → List Head → ℕ → Bool
stands q heads j = conflicts q (head_at heads j) && outranks (head_at heads j) q

abbrev pub invariant-loop-left : goal.invariant-loop-left
invariant-loop-left l = Sought l.initial.left (stands l.q (heads_of l.requests)) l.left

abbrev pub decreases-loop-left : goal.decreases-loop-left
decreases-loop-left l = l.left
