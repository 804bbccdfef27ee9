-- `sitefile::has_wrong_entry` meets its contract: a chain over the numbers below n.
use Rattle.std.proofs.Common.{rules, arith, ◌∙◌, refl}
use Rattle.std.proofs.lemmas.Iterator.Search.{any_from_yields_List}
use Rattle.std.proofs.lemmas.Iterator.{YieldsList-from_range}
use Rattle.sitefile.specs.Frame.{entry_at}
use Rattle.sitefile.specs.Entries.{rate_form}
use Rattle.sitefile.specs.Read.{wrong_entry}
use Rattle.sitefile.proofs.Chains.{any_below}
use Rattle.sitefile.proofs.has_wrong_entry.Goals as goal

pub returns : goal.returns
returns c =
    let p = wrong_entry (entry_at rate_form c.args.b.now) in
    any_from_yields_List p _ _ _ c.any.ensures.ran (YieldsList-from_range 0 c.args.n c.args.n refl (omega arith)) (λ x b q e. search rules) ∙ any_below c.args.n p
