-- `write_refusal` meets its contract: the buffer has room for any line.
use Rattle.std.proofs.Common.{◌≤◌, ◌≡◌, arith, length, take, pos}
use Rattle.lines.proofs.Laws.{line_short}
use Rattle.lines.specs.Lines.{line_of}
use Rattle.stream.proofs.Laws.{line_in_front}
use Rattle.stream.specs.Counts.{IsPrefixLen}
use Rattle.stream.proofs.write_refusal.Goals as goal

short : (c : goal.After-write_refused) → length (line_of c.args.nth c.number.result (pos 0) 0 0 0) ≤ length c.args.line.now
short c =
    let l : length (line_of c.args.nth c.number.result (pos 0) 0 0 0) ≤ 89 =
    line_short _ _ _ _ _ _ c.ranges.nth.fits c.number.type_inv (omega arith) (omega arith) (omega arith) (omega arith) in
    rw c.told-line l

front
    : (c : goal.After-write_refused)
    → IsPrefixLen c.write_refused.result c.write_refused.new.out × (take c.write_refused.result c.write_refused.new.out ≡ line_of c.args.nth c.number.result (pos 0) 0 0 0)
front c = line_in_front _ _ _ _ (short c) c.write_refused.ensures.answer c.write_refused.ensures.bytes

pub returns-clause-inside : goal.returns-clause-inside
returns-clause-inside c = (front c).0

pub returns-clause-line : goal.returns-clause-line
returns-clause-line c = rw c.number.ensures at (front c).1
