-- `sitefile::write_file` meets its contract.
use Rattle.std.proofs.Common.{◌+◌, ◌≤◌, arith, length}
use Rattle.sitefile.proofs.Writes.{entries_room, trailer_room, file_put}
use Rattle.sitefile.proofs.write_file.Goals as goal
use Rattle.sitefile.proofs.write_file.Goals.{After-write_entries-at}

-- behind the entries there is room for the trailer
room : (c : After-write_entries-at) → c.write_entries-at.result + 8 ≤ length c.args.d.now
room c = trailer_room _ _ _ _ _ c.write_entries-at.ensures.0 c.requires

pub write_entries-at-requires : goal.write_entries-at-requires
write_entries-at-requires c = search entries_room

pub write_trailer-requires-clause-room : goal.write_trailer-requires-clause-room
write_trailer-requires-clause-room c = omega (arith, room (goal.at.write_trailer-requires-clause-room c).After-write_entries-at)

pub overflow_add-result : goal.overflow_add-result
overflow_add-result c = omega (arith, room (goal.at.overflow_add-result c).After-write_entries-at)

pub returns : goal.returns
returns c = file_put _ _ _ _ _ _ _ _ c.requires c.count_measured.ensures.count c.write_entries-at.ensures c.write_trailer.ensures
