-- `vote::voters::count_in` meets its contract: a loop that counts.
use Rattle.kit.proofs.Loops.{Counted}
use Rattle.vote.specs.Voters.{has_voter}
use Rattle.vote.proofs.voters.count_in.Given as goal

abbrev pub invariant-loop-voter : goal.invariant-loop-voter
invariant-loop-voter l = Counted 7 (has_voter l.row) l.voter-index l.count
