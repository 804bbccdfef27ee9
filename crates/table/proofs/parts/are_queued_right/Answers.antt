-- `table::parts::are_queued_right` meets its contract.
use mathlib.Core.Path.{◌∙◌}
use lib.Dec.{eqb}
use Rattle.std.proofs.Common.{rules, tests}
use Rattle.std.proofs.lemmas.Iterator.Search.{all_from_yields_List}
use Rattle.std.proofs.lemmas.Iterator.{YieldsList-from_slice, YieldsList-from_zip}
use Rattle.kit.specs.Range.{one}
use Rattle.kit.proofs.Iterated.{all_pairs}
use Rattle.vote.specs.Data.{is_deferred, no_vote}
use Rattle.table.proofs.parts.are_queued_right.Goals as goal

pub returns : goal.returns
returns c =
    all_from_yields_List (λ x. eqb x.0 (one (is_deferred x.1.mark))) c.all.new.self _ c.all.result c.all.ensures.ran
    (YieldsList-from_zip (YieldsList-from_slice c.args.times.now cc) (YieldsList-from_slice c.args.votes.now cc)) (λ x b q k. search (rules, tests))
    ∙ all_pairs (λ x. eqb x.0 (one (is_deferred x.1.mark))) c.args.times.now c.args.votes.now 0 no_vote 16 c.told-times c.told-votes
