-- `table::marks::marks_of` meets its contract: filled from the front.
use native.Mathlib.Omega.{arith}
use Prim.Native.Nat.{◌/◌, ◌%◌}
use lib.ListN.{get_or}
use Rattle.kit.proofs.Iterated.{listed_by}
use Rattle.vote.specs.Data.{vote_at}
use Rattle.vote.specs.declared.data.Mark.TheVariants as mark
use Rattle.table.specs.Places.{no_site}
use Rattle.table.proofs.marks.marks_of.Goals as goal

pub returns : goal.returns
returns c =
    listed_by c.loop-i.mark-items 112 (λ i. (vote_at (get_or c.args.sites.now (i % 7) no_site).votes (i / 7)).mark) mark.None c.loop-i.invariant.0
    (λ k h. c.loop-i.invariant.1 k (omega arith))
