-- `table::sound::stamps_of` meets its contract: what is made of each place.
use borrow.Author.Rules.{rules}
use Rattle.std.proofs.Common.{of_calls}
use Rattle.kit.proofs.Iterated.{listed_by}
use Rattle.vote.specs.Data.{request_at}
use Rattle.table.specs.Parts.{stamps_of}
use Rattle.table.proofs.sound.stamps_of.Goals as goal

pub returns : goal.returns
unfolding stamps_of
returns c =
    let made = c.from_fn.ensures.items in
    listed_by c.from_fn.result 16 (λ p. (request_at c.args.rs.now p).stamp) 0 made.long (λ i h. let x = made.at i 0 h in search (of_calls, rules))
