-- `lines::write_decimal`: the digits of `rest`, which end at i, are left to write.
use Rattle.lines.proofs.Writes.{Behind}
use Rattle.lines.proofs.write_decimal.Given as goal

abbrev pub invariant-loop-i : goal.invariant-loop-i
invariant-loop-i l = Behind l.initial.out l.at l.n l.out l.i l.rest
