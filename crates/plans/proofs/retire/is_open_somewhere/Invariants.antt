-- `plans::retire::is_open_somewhere` meets its contract: a loop that returns at the first hit computes `any`.
use Rattle.std.specs.Prelude.{◌&&◌, ltb, get_or}
use Rattle.kit.proofs.Loops.{Missed}
use Rattle.table.specs.Places.{no_site}
use Rattle.vote.specs.Data.{is_open, vote_at}
use Rattle.plans.proofs.retire.is_open_somewhere.Given as goal

abbrev pub invariant-loop-k : goal.invariant-loop-k
invariant-loop-k l = Missed 7 (λ k. ltb k l.n && is_open (vote_at (get_or l.sites k no_site).votes l.p).verdict) l.k
