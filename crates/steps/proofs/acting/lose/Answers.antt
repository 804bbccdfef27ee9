-- `steps::acting::lose` meets its contract: the place is free from now on.
use Rattle.std.proofs.Common.{rules, refl}
use Rattle.plans.proofs.FreeSet.{given_among}
use Rattle.table.specs.Fresh.{blank_message}
use Rattle.steps.proofs.acting.lose.Goals as goal

pub returns-clause-free : goal.returns-clause-free
unfolding blank_message
returns-clause-free c =
    rw (c.give.ensures, c.drop_at.ensures) (given_among c.args.free.now c.args.t.now.messages c.requires.free (search rules) (search rules) blank_message (search rules) refl)
