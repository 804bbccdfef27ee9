-- `table::parts::Gathered::is_message_sound` meets its contract: one test after the other.
use Rattle.table.proofs.Messages.{message_unused, message_stray, message_free, message_nowhere, message_sent}
use Rattle.table.proofs.parts.Gathered.is_message_sound.Goals as goal
use Rattle.table.proofs.parts.Gathered.is_message_sound.Goals.{then-p-gt15-via-then-p-gt15, then-p-gt15-via-else-p-gt15+then-is_free}

pub returns-then-not-m : goal.returns-then-not-m
returns-then-not-m c =
    let g = c.args.self.now in
    message_unused g.n g.marked.oks g.marked.others g.stamps c.args.m.now c.if-not-m.true c.is_blank_message.ensures

pub returns-then-p-gt15 : goal.returns-then-p-gt15
returns-then-p-gt15 c =
    let g = c.args.self.now in
    elim c.then-p-gt15.branch [
      | then-p-gt15-via-then-p-gt15 w ↦ message_stray g.n g.marked.oks g.marked.others g.stamps c.args.m.now c.if-not-m.false c.from-p.ensures w.if-p-gt15.true
      | then-p-gt15-via-else-p-gt15+then-is_free w ↦
          message_free g.n g.marked.oks g.marked.others g.stamps c.args.m.now c.if-not-m.false c.from-p.ensures w.if-p-gt15.false w.is_free.ensures w.if-is_free.true
    ]

pub returns-then-are_two_sites : goal.returns-then-are_two_sites
returns-then-are_two_sites c =
    let g = c.args.self.now in
    message_sent g.n g.marked.oks g.marked.others g.stamps c.args.m.now c.if-not-m.false c.from-p.ensures c.if-p-gt15.false c.is_free.ensures c.if-is_free.false c.are_two_sites.ensures
    c.if-are_two_sites.true c.is_content_right.ensures

pub returns-else-are_two_sites : goal.returns-else-are_two_sites
returns-else-are_two_sites c =
    let g = c.args.self.now in
    message_nowhere g.n g.marked.oks g.marked.others g.stamps c.args.m.now c.if-not-m.false c.from-p.ensures c.if-p-gt15.false c.is_free.ensures c.if-is_free.false c.are_two_sites.ensures
    c.if-are_two_sites.false
