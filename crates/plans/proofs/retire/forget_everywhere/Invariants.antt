-- `plans::retire::forget_everywhere` meets its contract: after each turn one site more has forgotten.
use Rattle.kit.proofs.Turns.{Turned}
use Rattle.table.specs.Places.{no_site}
use Rattle.plans.specs.Changes.{forgotten}
use Rattle.plans.proofs.retire.forget_everywhere.Given as goal

abbrev pub invariant-loop-s : goal.invariant-loop-s
invariant-loop-s l = Turned 7 (forgotten l.p) no_site l.initial.s-items l.s-index l.s-items
