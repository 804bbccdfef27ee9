-- `table::blank::is_holding_nothing_anywhere` meets its contract.
use mathlib.Core.Path.{refl, ◌∙◌}
use Rattle.std.proofs.Common.{rules, tests}
use Rattle.std.proofs.lemmas.Iterator.Search.{all_from_yields_List}
use Rattle.std.proofs.lemmas.Iterator.{YieldsList-from_range}
use Rattle.kit.proofs.Iterated.{all_numbers}
use Rattle.table.specs.Blank.{holds_nothing}
use Rattle.table.proofs.blank.is_holding_nothing_anywhere.Goals as goal

pub returns : goal.returns
returns c =
    all_from_yields_List (holds_nothing c.args.s.now) _ _ c.all.result c.all.ensures.ran (YieldsList-from_range 0 16 16 refl refl) (λ x b q k. search (rules, tests))
    ∙ all_numbers (holds_nothing c.args.s.now) 16
