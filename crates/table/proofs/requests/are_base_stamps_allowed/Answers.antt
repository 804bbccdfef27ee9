-- `table::requests::are_base_stamps_allowed` meets its contract: what is asked of each item is that its stamp is well formed.
use Rattle.std.proofs.Common.{rules, get_or}
use Rattle.stamps.specs.Stamps.{well_formed}
use Rattle.table.specs.Sound.{base_stamps_allowed}
use Rattle.table.proofs.requests.are_base_stamps_allowed.Goals as goal

pub returns : goal.returns
unfolding base_stamps_allowed
returns c = c.each_allowed.ensures 0 (λ i. well_formed c.args.n (get_or c.args.based.now i 0)) (λ i r h p. search rules)
