-- `lines::write_decimal` meets its contract: one digit at once, else from the last to the first.
use Rattle.lines.proofs.Writes.{left_start, left_turn, left_end, one_digit, digit_room}
use Rattle.lines.proofs.write_decimal.Goals as goal

pub bounds-out-at : goal.bounds-out-at
bounds-out-at c = search digit_room

pub returns-then-n-lt10 : goal.returns-then-n-lt10
returns-then-n-lt10 c = search (one_digit, digit_room)

pub loop-i-init : goal.loop-i-init
loop-i-init c = search left_start

pub loop-i-preserved : goal.loop-i-preserved
loop-i-preserved c = search left_turn

pub returns : goal.returns
returns c = search left_end
