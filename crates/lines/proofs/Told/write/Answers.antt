-- `lines::Told::write` meets its contract: a space, then the fields one behind the other.
use Rattle.lines.proofs.Tails.{number_fits, signed_fits, tail_fits, tail_back, tail_wrote}
use native.Mathlib.Omega.{arith}
use Rattle.lines.proofs.Told.write.Goals as goal

pub bounds-out-at : goal.bounds-out-at
bounds-out-at c = omega arith

pub write_number-p-requires : goal.write_number-p-requires
write_number-p-requires c = rw c.from.ensures (search number_fits)

pub write_signed-q-requires : goal.write_signed-q-requires
write_signed-q-requires c = let v = rw c.from.ensures at c.write_number-p.ensures in search (signed_fits, v)

pub write_back-requires : goal.write_back-requires
write_back-requires c = let v = rw c.from.ensures at c.write_number-p.ensures in search (tail_back, tail_fits, v)

pub returns : goal.returns
returns c = let v = rw c.from.ensures at c.write_number-p.ensures in search (tail_wrote, tail_fits, v)
