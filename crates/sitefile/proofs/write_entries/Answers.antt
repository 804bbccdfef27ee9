-- `sitefile::write_entries` meets its contract: the entries of the items before the i-th stand at the front.
use Rattle.std.proofs.Common.{arith, rules}
use Rattle.sitefile.proofs.Writes.{wrote_none, wrote_room, wrote_more, wrote_same, wrote_all}
use Rattle.sitefile.proofs.write_entries.Goals as goal
use Rattle.sitefile.proofs.write_entries.Goals.{then-stamp-ne0, else-stamp-ne0}

pub loop-i-init : goal.loop-i-init
loop-i-init c = wrote_none _ _ _

pub write-requires : goal.write-requires
write-requires c = let h = wrote_room c.loop-i.invariant c.requires c.loop-i-test.true c.if-stamp-ne0.true in omega (arith, h)

pub overflow_add-at : goal.overflow_add-at
overflow_add-at c = let h = wrote_room c.loop-i.invariant c.requires c.loop-i-test.true c.if-stamp-ne0.true in search rules

pub loop-i-preserved : goal.loop-i-preserved
loop-i-preserved c =
    elim c.if-stamp-ne0.branch [
      | then-stamp-ne0 w ↦ rw (w.at-is, w.d-is) (wrote_more c.loop-i.invariant c.requires c.loop-i-test.true w.if-stamp-ne0.true _ (search rules) _ w.write.ensures)
      | else-stamp-ne0 w ↦ rw (w.at-is, w.d-is) (wrote_same c.loop-i.invariant w.if-stamp-ne0.false)
    ]

pub returns : goal.returns
returns c = wrote_all c.loop-i.invariant (omega arith)
