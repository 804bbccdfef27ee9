-- `vote::voters::join_voters` meets its contract: after u turns the first u voters are joined.
use native.Mathlib.Omega.{arith}
use Rattle.vote.proofs.KnownVoters.{joined_over}
use Rattle.vote.proofs.voters.join_voters.Goals as goal

pub returns-after-loop-u : goal.returns-after-loop-u
returns-after-loop-u c = joined_over c.args.known.now c.args.more.now c.loop-u.u c.if-p-lt16.true c.loop-u.invariant (omega arith)
