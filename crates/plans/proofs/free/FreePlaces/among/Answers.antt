-- `plans::free::FreePlaces::among` meets its contract.
use Prim.Native.Nat.{◌<◌}
use Rattle.kit.specs.Range.{one}
use Rattle.plans.specs.Free.{free_set}
use Rattle.sets.specs.Sets.{set_of}
use Rattle.sets.proofs.Laws.{made_more, made_lt}
use Rattle.table.specs.Places.{no_message}
use borrow.Author.Rules.{rules}
use lib.ListN.{get_or}
use mathlib.Core.Bool.{not}
use mathlib.Core.Path.{◌≡◌, refl}
use native.Mathlib.Omega.{arith}
use Rattle.plans.proofs.free.FreePlaces.among.Goals as goal
use Rattle.plans.proofs.free.FreePlaces.among.Goals.{After-from}

-- a turn's digit
digit : (c : After-from) → c.from.result ≡ one (not (get_or c.args.messages.now c.loop-j.j no_message).used)
digit c = search rules

pub loop-j-init : goal.loop-j-init
unfolding set_of
loop-j-init c = refl

pub overflow_add-set : goal.overflow_add-set
overflow_add-set c = record { fits = made_lt 64 _ _ c.loop-j-test.true c.loop-j.invariant (digit c) }

pub loop-j-preserved : goal.loop-j-preserved
loop-j-preserved c = made_more 64 _ _ c.loop-j-test.true c.loop-j.invariant (digit c)

pub returns : goal.returns
unfolding free_set
returns c = let e : c.loop-j.j ≡ 64 = omega (arith, c.loop-j.auto.j-end, c.loop-j-test.false) in rw (← e) (λ i. record { set = c.loop-j.invariant i })
