-- `vote::voters::join_voters` meets its contract: after u turns the first u voters are joined.
use mathlib.Core.Path.{◌≡◌}
use Rattle.vote.specs.Voters.{join_up_to}
use Rattle.vote.proofs.voters.join_voters.Given as goal

abbrev pub invariant-loop-u : goal.invariant-loop-u
invariant-loop-u l = l.known ≡ join_up_to l.u l.fn.known l.p l.more
