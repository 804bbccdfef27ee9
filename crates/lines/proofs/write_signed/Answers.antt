-- `lines::write_signed` meets its contract.
use lib.ListN.{length-set}
use Rattle.lines.proofs.Writes.{plus_room, plus_wrote, sign_room, minus_room, minus_wrote}
use Rattle.lines.proofs.write_signed.Goals as goal

pub write_number-requires : goal.write_number-requires
write_number-requires c = search plus_room

pub returns-then-z-ge0 : goal.returns-then-z-ge0
returns-then-z-ge0 c = search plus_wrote

pub bounds-out-at : goal.bounds-out-at
bounds-out-at c = search sign_room

pub write_number-requires-2 : goal.write_number-requires-2
write_number-requires-2 c = search minus_room

pub shape_of-out : goal.shape_of-out
shape_of-out c = simp length-set at c.out-2-1.given

pub returns : goal.returns
returns c = search minus_wrote
