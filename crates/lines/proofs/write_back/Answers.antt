-- `lines::write_back` meets its contract: three zeros at once, else three fields, one behind the other.
use Rattle.lines.proofs.Tails.{zeros_room, zeros_back}
use Rattle.lines.proofs.Writes.{room_one, room_two, room_three, wrote_three}
use Rattle.lines.proofs.write_back.Goals as goal

pub write_bytes-requires : goal.write_bytes-requires
write_bytes-requires c = search zeros_room

pub returns-then-rejected-eq0 : goal.returns-then-rejected-eq0
returns-then-rejected-eq0 c = search zeros_back

pub write_number-p-requires : goal.write_number-p-requires
write_number-p-requires c = search room_one

pub write_number-q-requires : goal.write_number-q-requires
write_number-q-requires c = rw c.from.ensures (search room_two)

pub write_number-requires : goal.write_number-requires
write_number-requires c = let v = rw c.from.ensures at c.write_number-q.ensures in
    rw c.from-2.ensures (search (room_three, c.write_number-p.ensures, v))

pub returns : goal.returns
returns c = let v = rw c.from.ensures at c.write_number-q.ensures in
    let w = rw c.from-2.ensures at c.write_number.ensures in
    wrote_three c.args.out.now c.args.at _ _ _ 32 32 10 c.requires _ _ c.write_number-p.ensures _ _ v _ _ w
