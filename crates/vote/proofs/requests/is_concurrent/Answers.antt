-- `vote::requests::is_concurrent` meets its contract: a loop that returns at the first miss computes `all`.
use Rattle.kit.proofs.Bools.{implies_means}
use Rattle.kit.proofs.Loops.{alls}
use Rattle.vote.specs.Requests.{concurrent}
use Rattle.vote.proofs.requests.is_concurrent.Goals as goal

pub loop-i-init : goal.loop-i-init
loop-i-init c = search alls

pub returns-then-not-agree : goal.returns-then-not-agree
unfolding concurrent
returns-then-not-agree c = search (alls, implies_means)

pub loop-i-preserved : goal.loop-i-preserved
loop-i-preserved c = search (alls, implies_means)

pub returns : goal.returns
unfolding concurrent
returns c = search alls
