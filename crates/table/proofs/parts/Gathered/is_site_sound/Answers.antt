-- `table::parts::Gathered::is_site_sound` meets its contract.
use Rattle.table.specs.Gathered.{marks_by}
use Rattle.table.proofs.BlankSites.{unused_site, used_site}
use Rattle.table.proofs.parts.Gathered.is_site_sound.Goals as goal

pub returns-then-from-me : goal.returns-then-from-me
returns-then-from-me c =
    let g = c.args.self.now in
    unused_site g.n c.args.me g.lasts g.stamps c.args.s.now c.from.ensures (marks_by g) c.if-from-me.true c.is_blank_site.ensures

pub returns : goal.returns
returns c =
    let g = c.args.self.now in
    used_site g.n c.args.me g.lasts g.stamps c.args.s.now c.from.ensures g.marked.oks g.marked.others c.if-from-me.false c.is_in_order.ensures
