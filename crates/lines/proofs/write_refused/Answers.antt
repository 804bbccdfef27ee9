-- `lines::write_refused` meets its contract: two fields, and the zeros behind them.
use Rattle.lines.proofs.Refused.{refused_answer, refused_bytes, first_inside, second_inside, zeros_inside, done_answer, done_bytes}
use Rattle.lines.proofs.write_refused.Goals as goal

pub returns-then-not-ends_inside : goal.returns-then-not-ends_inside
returns-then-not-ends_inside c = search (refused_answer, refused_bytes)

pub write_number-p-requires : goal.write_number-p-requires
write_number-p-requires c = search first_inside

pub write_number-q-requires : goal.write_number-q-requires
write_number-q-requires c = rw c.from.ensures (search second_inside)

pub write_bytes-end-requires : goal.write_bytes-end-requires
write_bytes-end-requires c = let v = rw c.from.ensures at c.write_number-q.ensures in search (zeros_inside, c.write_number-p.ensures, v)

pub returns : goal.returns
returns c = let v = rw c.from.ensures at c.write_number-q.ensures in record { answer = search (done_answer, c.write_number-p.ensures, v, c.write_bytes-end.ensures); bytes = search (done_bytes, c.write_number-p.ensures, v, c.write_bytes-end.ensures) }
