-- `table::parts::is_stamp_new` meets its contract: the stamp is sought among those before it.
use borrow.Author.Rules.{rules}
use Rattle.table.proofs.Runs.{stamp_sought}
use Rattle.table.proofs.parts.is_stamp_new.Goals as goal

pub returns : goal.returns
returns c = stamp_sought c.args.stamps.now c.args.p c.told-stamps c.requires (search rules) c.contains.ensures.value
