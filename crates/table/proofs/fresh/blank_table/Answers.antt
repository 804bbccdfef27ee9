-- `table::fresh::blank_table` meets its contract: the sites are made one by one.
use borrow.Author.Rules.{rules}
use lib.Dec.{ltb}
use mathlib.Core.Bool.{false}
use mathlib.Core.Path.{◌≡◌}
use Rattle.std.proofs.Common.{of_calls}
use Rattle.kit.specs.Lists.{listed}
use Rattle.kit.proofs.Iterated.{listed_by}
use Rattle.table.specs.Fresh.{blank_site, blank_table}
use Rattle.table.proofs.fresh.blank_table.Goals as goal

pub returns : goal.returns
unfolding blank_table
returns c =
    let made = c.from_fn.ensures.items in
    let sites : c.from_fn.result ≡ listed 7 (λ k. blank_site (ltb k c.args.n)) =
    listed_by c.from_fn.result 7 (λ k. blank_site (ltb k c.args.n)) (blank_site false) made.long (λ i h. let x = made.at i (blank_site false) h in search (of_calls, rules)) in
    rw (sites, c.blank_request.ensures, c.blank_message.ensures)
