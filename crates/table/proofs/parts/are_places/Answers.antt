-- `table::parts::are_places` meets its contract.
use mathlib.Core.Path.{refl, ◌∙◌}
use lib.Dec.{ltb}
use Rattle.std.proofs.Common.{rules, tests}
use Rattle.std.proofs.lemmas.Iterator.Search.{all_from_yields_List}
use Rattle.std.proofs.lemmas.Iterator.{YieldsList-from_slice}
use Rattle.kit.proofs.Iterated.{all_elements}
use Rattle.table.proofs.parts.are_places.Goals as goal

pub returns : goal.returns
returns c =
    all_from_yields_List (λ x. ltb x 16) _ _ c.all.result c.all.ensures.ran (YieldsList-from_slice c.args.queue.now cc) (λ x b q k. search (rules, tests))
    ∙ all_elements (λ x. ltb x 16) c.args.queue.now 0 refl
