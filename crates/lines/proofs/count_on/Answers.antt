-- `lines::count_on` meets its contract.
use Rattle.lines.proofs.Counting.{asked_room, stays_digits, stays_length, grows_digits, grows_length, anew_digits, anew_length}
use Rattle.lines.proofs.count_on.Goals as goal

pub returns-then-not-is_kept : goal.returns-then-not-is_kept
returns-then-not-is_kept c = search (stays_length, stays_digits)

pub add_one-requires : goal.add_one-requires
add_one-requires c = search asked_room

pub returns-then-add_one : goal.returns-then-add_one
returns-then-add_one c = search (grows_length, grows_digits)

pub returns : goal.returns
returns c = search (anew_length, anew_digits)
