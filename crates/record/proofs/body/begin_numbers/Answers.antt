-- The stamps start behind the sets, and the values behind the stamps.
use Rattle.std.proofs.Common.{pos, ◌≤◌, rules}
use Rattle.kit.proofs.Ranges.{number_le}
use Rattle.sets.specs.Sets.{size}
use Rattle.record.specs.Bodies.{stamp_at, value_at, begin_step}
use Rattle.record.proofs.body.begin_numbers.Goals as goal
use Rattle.record.proofs.body.begin_numbers.Goals.{After-count}

few : (c : After-count) → c.count.result ≤ 32
unfolding size
few c = rw c.count.ensures (number_le 32 _)

pub fill-requires-2 : goal.fill-requires-2
fill-requires-2 c = let h = few (goal.at.fill-requires-2 c).After-count in search (rules, h)

pub returns-clause-stamps : goal.returns-clause-stamps
unfolding begin_step
returns-clause-stamps c = let e = c.fill.ensures 0 (stamp_at c.args.b.now) c.requires.blank.0 (λ at x p. search rules) in search (rules, e)

pub returns-clause-values : goal.returns-clause-values
unfolding begin_step
returns-clause-values c = let e = c.fill-2.ensures (pos 0) (value_at c.args.b.now) c.requires.blank.1 (λ at x p. search rules) in search (rules, e)
