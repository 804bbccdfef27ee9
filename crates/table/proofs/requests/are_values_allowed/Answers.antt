-- `table::requests::are_values_allowed` meets its contract: what is asked of each item is that its value is in range.
use Rattle.std.proofs.Common.{rules, get_or, pos}
use Rattle.readings.specs.Readings.{in_range}
use Rattle.table.specs.Sound.{values_allowed}
use Rattle.table.proofs.requests.are_values_allowed.Goals as goal

pub returns : goal.returns
unfolding values_allowed
returns c = c.each_allowed.ensures (pos 0) (λ i. in_range (get_or c.args.values.now i (pos 0))) (λ i r h p. search rules)
