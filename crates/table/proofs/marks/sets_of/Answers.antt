-- `table::marks::sets_of` meets its contract: what is made of each place.
use borrow.Author.Rules.{rules}
use Rattle.std.proofs.Common.{of_calls}
use Rattle.kit.proofs.Iterated.{listed_by}
use Rattle.vote.specs.Voters.{voters_of}
use Rattle.table.specs.Parts.{row_set, row_sets}
use Rattle.table.proofs.marks.sets_of.Goals as goal

pub returns : goal.returns
unfolding row_sets
returns c =
    let made = c.from_fn.ensures.items in
    listed_by c.from_fn.result 16 (λ p. row_set (voters_of c.args.known.now p)) 0 made.long (λ i h. let x = made.at i 0 h in search (of_calls, rules))
