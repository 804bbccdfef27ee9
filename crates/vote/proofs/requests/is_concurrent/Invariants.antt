-- `vote::requests::is_concurrent` meets its contract: a loop that returns at the first miss computes `all`.
use Rattle.std.specs.Prelude.{◌&&◌, eqb, get_or}
use Rattle.kit.specs.Range.{implies}
use Rattle.sets.specs.Sets.{member}
use Rattle.kit.proofs.Loops.{Held}
use Rattle.vote.proofs.requests.is_concurrent.Given as goal

abbrev pub invariant-loop-i : goal.invariant-loop-i
invariant-loop-i l = Held 24 (λ k. implies (member l.a.base k && member l.b.base k) (eqb (get_or l.a.stamps k 0) (get_or l.b.stamps k 0))) l.i
