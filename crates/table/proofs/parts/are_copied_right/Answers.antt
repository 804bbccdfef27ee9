-- `table::parts::are_copied_right` meets its contract: a loop that makes all tests.
use mathlib.Core.Path.{◌≡◌, ap₂, ◌∙◌}
use lib.IntN.{pos}
use lib.ListN.{length, get_or}
use Rattle.std.proofs.lemmas.List.{length_push}
use Rattle.std.proofs.lemmas.Slice.Zip.{zip_turn}
use Rattle.table.specs.Parts.{value_right}
use Rattle.table.proofs.Chains.{value_means, sized}
use Rattle.table.proofs.Runs.{made_none, made_more}
use Rattle.table.proofs.parts.are_copied_right.Goals as goal

pub loop-stamp-init : goal.loop-stamp-init
loop-stamp-init c = made_none _

pub loop-stamp-preserved : goal.loop-stamp-preserved
loop-stamp-preserved c =
    let t = zip_turn c.args.copied.now c.args.values.now c.loop-stamp.yielded c.into_iter-stamp-iterator.result c.loop-stamp.stamp-iterator c.next.new.self _ (cc) (cc)
    c.loop-stamp.yielded_by (c.in-Some.stamp, c.in-Some.value) c.in-Some.is c.next.ensures.steps in
    let e : c.is_value_right-right.result ≡ value_right c.in-Some.stamp.now c.in-Some.value.now = search (value_means, sized) in
    made_more (λ i. value_right (get_or c.args.copied.now i 0) (get_or c.args.values.now i (pos 0))) (length c.loop-stamp.yielded)
    (length_push c.loop-stamp.yielded (c.in-Some.stamp, c.in-Some.value)) c.loop-stamp.invariant (e ∙ ap₂ value_right (t.2 0) (t.3 (pos 0)))
