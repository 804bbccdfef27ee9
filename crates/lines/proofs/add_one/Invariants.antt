-- `lines::add_one`: what is left to do with the first i digits is all that was to do.
use Rattle.lines.proofs.Growing.{Growing}
use Rattle.lines.proofs.add_one.Given as goal

abbrev pub invariant-loop-i : goal.invariant-loop-i
invariant-loop-i l = Growing l.initial.digits l.len l.digits l.i
