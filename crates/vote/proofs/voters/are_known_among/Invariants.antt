-- `vote::voters::are_known_among` meets its contract: a turn notes whether a voter known in a is not known in b.
use mathlib.Core.Path.{◌≡◌}
use lib.ListN.{length}
use Rattle.kit.specs.Range.{any}
use Rattle.vote.proofs.KnownVoters.{without}
use Rattle.vote.proofs.voters.are_known_among.Given as goal

abbrev pub invariant-loop-known : goal.invariant-loop-known
invariant-loop-known l = l.strange ≡ any (length l.yielded) (without l.a l.b)
