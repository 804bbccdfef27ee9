-- `vote::consider::pending_in` meets its contract: after j turns it is the set of the pending below place j.
use mathlib.Core.Path.{◌≡◌, refl, ap, ◌∙◌}
use Prim.Native.Nat.{◌<◌}
use native.Mathlib.Omega.{arith}
use Rattle.kit.specs.Range.{one}
use Rattle.sets.specs.Sets.{set_of}
use Rattle.sets.proofs.Laws.{made_more, made_lt}
use Rattle.vote.specs.Consider.{pending_set}
use Rattle.vote.proofs.consider.pending_in.Goals as goal
use Rattle.vote.proofs.consider.pending_in.Goals.{After-from}
use Rattle.vote.proofs.consider.pending_in.Invariants.{waits}

-- a turn's place, and what it counts
small : (c : After-from) → c.loop-j.j < 32
small c = omega arith

counted : (c : After-from) → c.from.result ≡ one (waits c.args.votes.now c.loop-j.j)
counted c = c.from.ensures ∙ ap one c.is_pending.ensures

pub loop-j-init : goal.loop-j-init
unfolding set_of
loop-j-init c = refl

pub overflow_add-set : goal.overflow_add-set
overflow_add-set c = record { fits = made_lt 32 _ (waits c.args.votes.now) (small c) c.loop-j.invariant (counted c) }

pub loop-j-preserved : goal.loop-j-preserved
loop-j-preserved c = made_more 32 _ (waits c.args.votes.now) (small c) c.loop-j.invariant (counted c)

pub returns : goal.returns
unfolding pending_set
returns c = let e : c.loop-j.j ≡ 16 = omega arith in rw (← e) c.loop-j.invariant
