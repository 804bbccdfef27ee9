-- `kit::read_field` meets its contract. The invariant: v is the number of the bytes from k on, k going down.
use mathlib.Core.Path.{sym, ◌∙◌, subst}
use Prim.Native.Nat.{ℕ, ◌+◌, ◌-◌, ◌^◌, ◌<◌}
use native.Mathlib.Omega.{arith}
use Rattle.kit.proofs.Fields.{field_in, ends_in, read_start, read_turn, read_end, le_lt_at, room}
use Rattle.kit.proofs.read_field.Goals as goal
use Rattle.kit.proofs.read_field.Goals.{In-loop-k}

-- what has been read is below 256 ^ 7
small : (c : In-loop-k) → c.loop-k.v < 72057594037927936
small c =
    let l = c.loop-k in
    let a = c.args in
    room (a.n - l.k) l.v (omega arith)
    (subst (λ (x : ℕ). x < 256 ^ (a.n - l.k)) (sym l.invariant.0)
    (le_lt_at (a.n - l.k) (a.at + l.k) a.s.now (λ i. (c.type_inv.s i).fits)))

pub loop-k-init : goal.loop-k-init
loop-k-init c = (read_start _ _, c.if-n-gt8.false, search ends_in)

pub overflow_mul-v : goal.overflow_mul-v
overflow_mul-v c = omega (arith, small c)

pub overflow_add-v : goal.overflow_add-v
overflow_add-v c = let l = c.loop-k in
    let a = c.args in
    omega (arith, small (goal.at.overflow_add-v c).In-loop-k, c.type_inv.s (a.at + (l.k - 1)), c.from.ensures)

pub loop-k-preserved : goal.loop-k-preserved
loop-k-preserved c = let l = c.loop-k in
    (search read_turn, l.invariant.1, l.invariant.2)

pub returns : goal.returns
returns c = let l = c.loop-k in
    let a = c.args in
    read_end a.s.now a.at a.n l.k l.v c.loop-k-test.false l.invariant.0 ∙ sym (field_in a.s.now a.at a.n l.invariant.1 l.invariant.2)
