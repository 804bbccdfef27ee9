-- `table::marks::lasts_of` meets its contract: what is made of each place.
use borrow.Author.Rules.{rules}
use lib.ListN.{get_or}
use Rattle.std.proofs.Common.{of_calls}
use Rattle.kit.proofs.Iterated.{listed_by}
use Rattle.table.specs.Places.{no_site}
use Rattle.table.specs.Parts.{lasts_of}
use Rattle.table.proofs.marks.lasts_of.Goals as goal

pub returns : goal.returns
unfolding lasts_of
returns c =
    let made = c.from_fn.ensures.items in
    listed_by c.from_fn.result 7 (λ k. (get_or c.args.sites.now k no_site).last) 0 made.long (λ i h. let x = made.at i 0 h in search (of_calls, rules))
