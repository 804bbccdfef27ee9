-- `table::marks::marked_of` meets its contract: one pass over the marks.
use native.Mathlib.Omega.{arith}
use mathlib.Core.Path.{ap, ◌∙◌}
use mathlib.Core.Bool.{false}
use Prim.Native.Nat.{◌/◌, ◌%◌}
use lib.ListN.{get_or}
use Rattle.kit.proofs.Iterated.{listed_by}
use Rattle.kit.proofs.Listings.{listed_at}
use Rattle.vote.specs.Data.{is_ok_vote, is_other, vote_at}
use Rattle.vote.specs.declared.data.Mark.TheVariants as mark
use Rattle.table.specs.Places.{no_site}
use Rattle.table.proofs.marks.marked_of.Goals as goal

pub returns-clause-oks : goal.returns-clause-oks
returns-clause-oks c =
    listed_by c.loop-i.oks 112 (λ i. is_ok_vote (vote_at (get_or c.args.sites.now (i % 7) no_site).votes (i / 7)).mark) false c.loop-i.invariant.0
    (λ k h. (c.loop-i.invariant.2 k (omega arith)).0
    ∙ rw c.marks_of-marks.ensures (ap is_ok_vote (listed_at 112 k (λ j. (vote_at (get_or c.args.sites.now (j % 7) no_site).votes (j / 7)).mark) mark.None h)))

pub returns-clause-others : goal.returns-clause-others
returns-clause-others c =
    listed_by c.loop-i.others 112 (λ i. is_other (vote_at (get_or c.args.sites.now (i % 7) no_site).votes (i / 7)).mark) false c.loop-i.invariant.1
    (λ k h. (c.loop-i.invariant.2 k (omega arith)).1
    ∙ rw c.marks_of-marks.ensures (ap is_other (listed_at 112 k (λ j. (vote_at (get_or c.args.sites.now (j % 7) no_site).votes (j / 7)).mark) mark.None h)))
