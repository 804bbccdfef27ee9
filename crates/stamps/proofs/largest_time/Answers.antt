-- `stamps::largest_time`: one item more.
use native.Mathlib.Numerals.{add-one}
use native.Mathlib.Omega.{arith}
use mathlib.Core.Path.{refl}
use Rattle.kit.specs.Range.{largest}
use Rattle.kit.proofs.Ranges.{largest_suc, ord_max_is}
use Rattle.stamps.proofs.largest_time.Goals as goal
use Rattle.stamps.proofs.largest_time.Goals.{then-has, else-has}

pub loop-item-init : goal.loop-item-init
unfolding largest
loop-item-init c = (refl, omega arith)

pub loop-item-preserved : goal.loop-item-preserved
loop-item-preserved c =
    let v = c.loop-item.invariant in
    elim c.if-has.branch [
      | then-has w ↦ (rw (add-one c.loop-item.item, largest_suc, ← c.has.ensures, w.if-has.true) (omega (arith, v.0, ord_max_is)), omega (arith, ord_max_is))
      | else-has w ↦ (rw (add-one c.loop-item.item, largest_suc, ← c.has.ensures, w.if-has.false) (omega (arith, v.0)), omega arith)
    ]
