-- `table::parts::is_queue_end_blank` meets its contract: a loop that returns at the first that fails computes `all`.
use mathlib.Core.Path.{refl, sym}
use borrow.Author.Tests.{eq-eqb, ne_eqb}
use Rattle.kit.proofs.Loops.{held_none, held_more, all_failed, all_over}
use Rattle.table.proofs.Chains.{le_asked, le_free}
use Rattle.table.proofs.parts.is_queue_end_blank.Goals as goal
use Rattle.table.proofs.parts.is_queue_end_blank.Goals.{else-from-i-via-then-from-i+else-place-ne0, else-from-i-via-else-from-i}

pub loop-i-init : goal.loop-i-init
loop-i-init c = held_none

pub returns-then-place-ne0 : goal.returns-then-place-ne0
returns-then-place-ne0 c = all_failed c.loop-i.invariant c.loop-i-test.true (le_asked c.from.ensures c.if-from-i.true (sym (ne_eqb _ 0 c.if-place-ne0.true))) refl

pub loop-i-preserved : goal.loop-i-preserved
loop-i-preserved c =
    elim c.else-from-i.branch [
      | else-from-i-via-then-from-i+else-place-ne0 w ↦ held_more c.loop-i.invariant c.loop-i-test.true (le_asked c.from.ensures w.if-from-i.true (sym (eq-eqb _ 0 w.if-place-ne0.false))) refl
      | else-from-i-via-else-from-i w ↦ held_more c.loop-i.invariant c.loop-i-test.true (le_free _ c.from.ensures w.if-from-i.false) refl
    ]

pub returns : goal.returns
returns c = all_over c.loop-i.invariant c.loop-i-test.false
