-- `lines::write_first` meets its contract: the digits of the record, or the eight bytes that are kept.
use Prim.Native.Nat.{◌+◌, ◌≤◌}
use native.Mathlib.Omega.{arith}
use lib.ListN.{length}
use mathlib.Core.Path.{sym, ◌∙◌}
use Rattle.lines.proofs.Counting.{kept_room, made_room, made_place, made_bytes, eight_room, number_room, number_place, eight_put}
use Rattle.lines.proofs.write_first.Goals as goal

pub write_decimal-requires : goal.write_decimal-requires
write_decimal-requires c = search made_room

pub returns-then-not-is_kept : goal.returns-then-not-is_kept
returns-then-not-is_kept c = search (made_place, made_bytes)

pub write_bytes-requires : goal.write_bytes-requires
write_bytes-requires c = search eight_room

pub overflow_add-result : goal.overflow_add-result
overflow_add-result c = let a = c.args in
    let h : a.at + a.len ≤ length a.out.now = search number_room in
    omega arith

pub returns : goal.returns
returns c = search (number_place, eight_put)

pub prove-unreachable-requires : goal.prove-unreachable-requires
prove-unreachable-requires c = let h = kept_room (length c.args.digits.now) c.args.len (sym c.is_kept.ensures ∙ c.if-not-is_kept.false) in omega (arith, h)
