-- `lines::refused_length` meets its contract.
use native.Mathlib.Omega.{arith}
use Rattle.lines.proofs.Decimals.{length_le}
use Rattle.lines.proofs.Refused.{refused_sum}
use Rattle.lines.proofs.refused_length.Goals as goal

pub overflow_add-result : goal.overflow_add-result
overflow_add-result c = let a = c.args in let e = rw c.from.ensures at c.decimal_length-2.ensures in omega (arith, e, length_le 19 a.«record» (omega arith), length_le 2 a.number (omega arith))

pub overflow_add-result-2 : goal.overflow_add-result-2
overflow_add-result-2 c = let a = c.args in let e = rw c.from.ensures at c.decimal_length-2.ensures in omega (arith, e, length_le 19 a.«record» (omega arith), length_le 2 a.number (omega arith))

pub returns : goal.returns
returns c = let e = rw c.from.ensures at c.decimal_length-2.ensures in search (refused_sum, e)
