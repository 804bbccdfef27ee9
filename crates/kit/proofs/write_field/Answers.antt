-- `kit::write_field` meets its contract. The invariant: the first bytes stand in the part, and `rest` has the others.
use mathlib.Core.Path.{sym, ap, ◌∙◌}
use Prim.Native.Nat.{ℕ, ◌/◌, ◌^◌}
use native.Mathlib.Nat.{div-one}
use native.Mathlib.Numerals.{add-one}
use lib.Seq.{paste-zero}
use Rattle.kit.specs.Bytes.{bytes_of}
use Rattle.kit.proofs.Fields.{div_more, write_turn, write_end, write_none, ends_in, ends_out}
use Rattle.kit.proofs.write_field.Goals as goal

pub returns-then-not-ends_inside : goal.returns-then-not-ends_inside
returns-then-not-ends_inside c = search (write_none, ends_out)

pub loop-b-init : goal.loop-b-init
loop-b-init c = let a = c.args in
    (sym (div-one _), paste-zero _ 0 (bytes_of a.n a.v), search ends_in)

pub loop-b-preserved : goal.loop-b-preserved
loop-b-preserved c = let l = c.loop-b in
    let a = c.args in (
      ap (λ (x : ℕ). x / 256) l.invariant.0 ∙ div_more a.v l.b-index ∙ ap (λ (j : ℕ). a.v / 256 ^ j) (sym (add-one l.b-index)),
      write_turn a.d.now l.b-items a.at a.n a.v l.b-index l.rest l.invariant.2 c.loop-b-test.true l.invariant.0 l.invariant.1,
      l.invariant.2,
    )

pub returns : goal.returns
returns c = let l = c.loop-b in
    let a = c.args in
    write_end a.d.now l.b-items a.at a.n a.v l.b-index l.invariant.2 l.auto.b-index-end c.loop-b-test.false l.invariant.1
