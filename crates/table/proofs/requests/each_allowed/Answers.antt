-- `table::requests::each_allowed` meets its contract: a loop over the items of a set that returns at the first that fails, whatever is asked.
use mathlib.Core.Path.{refl}
use native.Mathlib.Omega.{arith}
use lib.Count.{count_trailing_zeros}
use Rattle.std.proofs.lemmas.List.{get_or_default}
use Rattle.table.proofs.Runs.{passed_start, passed_item, passed_less, passed_past, passed_failed, passed_more, passed_over}
use Rattle.table.proofs.requests.each_allowed.Goals as goal

pub loop-left-init : goal.loop-left-init
loop-left-init g c = record { gone = passed_start _ _ (omega arith); passed = λ none test h. passed_start _ _ (omega arith) }

pub overflow_cast-item : goal.overflow_cast-item
overflow_cast-item g c = omega (arith, passed_item _ _ _ c.loop-left.invariant.gone c.loop-left-test.true)

pub returns-then-item-gt23 : goal.returns-then-item-gt23
returns-then-item-gt23 g c = λ none test h. passed_past _ _ _ (c.loop-left.invariant.passed none test h) c.loop-left-test.true 24 c.if-item-gt23.true

pub returns-then-not-allowed : goal.returns-then-not-allowed
returns-then-not-allowed g c = λ none test h.
    passed_failed _ _ _ (c.loop-left.invariant.passed none test h) c.loop-left-test.true (h _ _ (omega arith) (rw (get_or_default c.args.row.now (count_trailing_zeros 32 c.loop-left.left) none c.index-row-item.result (omega (arith, c.type_inv.row))) c.allowed.ensures))
    24 (omega arith) c.if-not-allowed.true-raw

pub loop-left-smaller : goal.loop-left-smaller
loop-left-smaller g c = passed_less _ _ _ c.loop-left.invariant.gone c.loop-left-test.true

pub loop-left-preserved : goal.loop-left-preserved
loop-left-preserved g c =
    record {
      gone = passed_more _ _ _ c.loop-left.invariant.gone c.loop-left-test.true refl refl;
      passed = λ none test h.
          passed_more _ _ _ (c.loop-left.invariant.passed none test h) c.loop-left-test.true
          (h _ _ (omega arith) (rw (get_or_default c.args.row.now (count_trailing_zeros 32 c.loop-left.left) none c.index-row-item.result (omega (arith, c.type_inv.row))) c.allowed.ensures))
          c.if-not-allowed.false-raw;
    }

pub returns : goal.returns
returns g c = λ none test h. passed_over _ _ 24 _ (c.loop-left.invariant.passed none test h) c.loop-left-test.false
