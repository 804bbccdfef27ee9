-- `walk::walking::resolve` and `walk` meet their contracts: each way through a turn is a law of the walk.
use Rattle.std.proofs.Common.{◌≡◌, ℕ, ◌+◌, ◌<◌, ◌-◌, ap, sym, arith}
use mathlib.Core.Path.{◌∙◌}
use Rattle.walk.specs.Walking.{Out, accepts, rejects, counts_of}
use Rattle.walk.specs.declared.walking.Settled.{Settled}
use Rattle.walk.proofs.Turns.{Turn, turn_is, keep_turn, fewer_wait, vote_turn, rule_turn, few_ruled, one_accepted, one_rejected}
use Rattle.walk.proofs.Walks.{few_verdicts, walk_ends}
use Rattle.walk.proofs.walking.+resolve_walk.Goals as goal
use Rattle.walk.proofs.walking.+resolve_walk.Goals.{resolve-After-walk-later, walk-After-consider-o, walk-After-verdict_due-v}

pub resolve-walk-later-requires : goal.resolve-walk-later-requires
resolve-walk-later-requires t c = omega (arith, few_ruled _ _ _ _ c.rule.ensures)

-- the verdicts of the walk are few
few_later : (t : ℕ) (c : resolve-After-walk-later t) → c.walk-later.result.accepted + c.walk-later.result.rejected < 256
few_later t c =
    let h = few_verdicts c.args.me c.args.n c.args.requests.now c.rule.new.s 0 in
    let e = c.walk-later.ensures.counts in
    let a = ap (λ (r : Settled). r.accepted) e in
    let b = ap (λ (r : Settled). r.rejected) e in
    omega (arith, h, a, b, few_ruled _ _ _ _ c.rule.ensures)

pub resolve-overflow_add-result : goal.resolve-overflow_add-result
resolve-overflow_add-result t c = omega (arith, few_later t (goal.at.resolve-overflow_add-result t c).After-walk-later, one_accepted c.args.v)

pub resolve-overflow_add-result-2 : goal.resolve-overflow_add-result-2
resolve-overflow_add-result-2 t c = omega (arith, few_later t (goal.at.resolve-overflow_add-result-2 t c).After-walk-later, one_rejected c.args.v)

pub resolve-returns-clause-counts : goal.resolve-returns-clause-counts
unfolding accepts rejects
resolve-returns-clause-counts t c =
    rw (← c.request_in.ensures, ← c.rule.ensures, c.one_if_accepted.ensures, c.one_if_rejected.ensures, c.walk-later.ensures.counts)

-- what came of the turn
turn : (t : ℕ) (c : walk-After-consider-o t) → Turn c.args.me c.args.n c.args.requests.now c.loop-i.s c.loop-i.i c.queued_at-p.result c.consider-o.result
turn t c = turn_is _ _ _ _ _ _ _ (omega arith) c.queued_at-p.ensures c.request_in.ensures c.consider-o.ensures

pub walk-loop-i-preserved-then-is_deferral : goal.walk-loop-i-preserved-then-is_deferral
walk-loop-i-preserved-then-is_deferral t c =
    let k = turn t (goal.at.walk-loop-i-preserved-then-is_deferral t c).After-consider-o in
    let v = c.loop-i.invariant in
    rw (← keep_turn k c.is_deferral.ensures c.if-is_deferral.true) v

-- and of a vote
left : (t : ℕ) (c : walk-After-verdict_due-v t) → c.cast_vote.new.s.waiting ≡ c.loop-i.s.waiting - 1
left t c = let k : Turn c.args.me c.args.n c.args.requests.now c.loop-i.s c.loop-i.i c.queued_at-p.result c.consider-o.result =
    turn_is _ _ _ _ _ _ _ (omega arith) c.queued_at-p.ensures c.request_in.ensures c.consider-o.ensures in
    fewer_wait k c.is_deferral.ensures c.if-is_deferral.false c.mark_of.ensures c.leave_queue.ensures c.cast_vote.ensures

pub walk-resolve-requires : goal.walk-resolve-requires
walk-resolve-requires t c = omega (arith, left t (goal.at.walk-resolve-requires t c).After-verdict_due-v)

pub walk-returns-then-not-is_open : goal.walk-returns-then-not-is_open
unfolding accepts rejects
walk-returns-then-not-is_open t c =
    let k = turn t (goal.at.walk-returns-then-not-is_open t c).After-consider-o in
    let e = rule_turn k c.is_deferral.ensures c.if-is_deferral.false c.mark_of.ensures c.leave_queue.ensures c.cast_vote.ensures c.verdict_due-v.ensures c.is_open.ensures c.if-not-is_open.true in
    let v = c.loop-i.invariant in
    record { site = rw (c.resolve.ensures.site, ← v.site, e); counts = rw (c.resolve.ensures.counts, ← v.counts, e) }

pub walk-loop-i-smaller : goal.walk-loop-i-smaller
walk-loop-i-smaller t c = omega (arith, left t (goal.at.walk-loop-i-smaller t c).After-verdict_due-v)

pub walk-loop-i-preserved : goal.walk-loop-i-preserved
unfolding accepts rejects
walk-loop-i-preserved t c =
    let k = turn t (goal.at.walk-loop-i-preserved t c).After-consider-o in
    let e = vote_turn k c.is_deferral.ensures c.if-is_deferral.false c.mark_of.ensures c.leave_queue.ensures c.cast_vote.ensures c.verdict_due-v.ensures c.is_open.ensures c.if-not-is_open.false in
    let v = c.loop-i.invariant in
    let w = left t (goal.at.walk-loop-i-preserved t c).After-verdict_due-v in
    record { site = rw e at v.site; counts = rw e at v.counts; waiting = omega (arith, w) }

pub walk-returns : goal.walk-returns
walk-returns t c =
    let e = walk_ends c.args.me c.args.n c.args.requests.now c.loop-i.s c.loop-i.i (omega arith) in
    let v = c.loop-i.invariant in
    record { site = ap (λ (o : Out). o.site) (sym e) ∙ v.site; counts = c.rest.ensures ∙ ap (λ (o : Out). counts_of o.log) (sym e) ∙ v.counts }
