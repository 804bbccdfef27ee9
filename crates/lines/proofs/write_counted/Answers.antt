-- `lines::write_counted` meets its contract: the first field, and the tail behind it.
use Rattle.lines.proofs.Counting.{no_room_length, no_room_bytes, first_room, tail_room, over_length, over_bytes}
use Rattle.lines.proofs.write_counted.Goals as goal

pub returns-then-not-ends_inside : goal.returns-then-not-ends_inside
returns-then-not-ends_inside c = search (no_room_length, no_room_bytes)

pub write_first-p-requires : goal.write_first-p-requires
write_first-p-requires c = search first_room

pub write-requires : goal.write-requires
write-requires c = search tail_room

pub returns : goal.returns
returns c = record { answer = search over_length; bytes = search over_bytes }
