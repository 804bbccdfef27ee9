-- `sitefile::has_wrong_item` meets its contract: a chain over both rows.
use Rattle.std.proofs.Common.{rules, ◌∙◌, pos}
use Rattle.std.proofs.lemmas.Iterator.Search.{any_from_yields_List}
use Rattle.std.proofs.lemmas.Iterator.{YieldsList-from_slice, YieldsList-from_zip}
use Rattle.sitefile.specs.Write.{wrong_item}
use Rattle.sitefile.proofs.Chains.{any_both}
use Rattle.sitefile.proofs.has_wrong_item.Goals as goal

pub returns : goal.returns
returns c =
    let s = c.args.stamps.now in
    let v = c.args.values.now in
    any_from_yields_List {s = c.zip.result} (λ p. wrong_item p.0 p.1) c.any.new.self _ _ c.any.ensures.ran (YieldsList-from_zip (YieldsList-from_slice s (search rules)) (YieldsList-from_slice v (search rules))) (λ x b q e. search rules)
    ∙ any_both 24 (λ p. wrong_item p.0 p.1) s v 0 (pos 0) (search rules) (search rules)
