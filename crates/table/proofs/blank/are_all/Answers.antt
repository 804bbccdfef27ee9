-- `table::blank::are_all` meets its contract.
use mathlib.Core.Path.{◌∙◌}
use Rattle.std.proofs.Common.{rules, tests}
use Rattle.std.proofs.lemmas.Iterator.Search.{all_from_yields_List}
use Rattle.std.proofs.lemmas.Iterator.{YieldsList-from_slice}
use Rattle.kit.proofs.Iterated.{all_elements}
use Rattle.table.proofs.blank.are_all.Goals as goal

pub returns : goal.returns
returns g c =
    all_from_yields_List (λ y. g.T.PartialEq.eq y c.args.x.now) c.all.new.self _ c.all.result c.all.ensures.ran (YieldsList-from_slice c.args.row.now cc) (λ x b q k. search (rules, tests))
    ∙ all_elements (λ y. g.T.PartialEq.eq y c.args.x.now) c.args.row.now c.args.x.now c.type_inv.row
