-- `lines::write_number` meets its contract.
use Rattle.lines.proofs.Writes.{end_room, field_wrote}
use Rattle.lines.proofs.write_number.Goals as goal

pub bounds-out-p : goal.bounds-out-p
bounds-out-p c = search end_room

pub returns : goal.returns
returns c = search field_wrote
