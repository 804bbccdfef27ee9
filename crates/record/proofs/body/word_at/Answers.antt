-- A number of at most 4 bytes fits a word.
use Rattle.std.proofs.Common.{◌^◌, ◌≤◌, arith}
use native.Mathlib.Nat.{pow-le-pow_right}
use lib.Dec.{lit<}
use Rattle.kit.proofs.Fields.{field_lt}
use Rattle.record.proofs.body.word_at.Goals as goal

pub overflow_cast-result : goal.overflow_cast-result
overflow_cast-result c = let p : 256 ^ c.args.n ≤ 256 ^ 4 = pow-le-pow_right (lit< tt) c.requires in grind (arith, field_lt)
