-- A run on a sound table is not refused.
use Rattle.std.proofs.Common.{Ok, Err, ◌≡◌, ℕ, ◌<◌, true, List, refl, ap, arith}
use mathlib.Core.Path.{◌∙◌}
use Rattle.std.specs.Prelude.{Result, IsOk}
use Rattle.refusals.proofs.Numbers.{above_zero}
use Rattle.refusals.specs.Numbers.{number_of}
use Rattle.refusals.specs.declared.Refusal.{Refusal}
use Rattle.table.specs.Sound.{sound_table}
use Rattle.table.specs.declared.data.Table.{Table}
use Rattle.steps.specs.Night.{Ran, ran, ran_from}
use Rattle.steps.specs.declared.run.Ran as code

pub unrefused : (r : Result code.Ran Refusal) (u t : Table) (nth : ℕ) (s : List ℕ) (room : ℕ) → sound_table t ≡ true → ran_from r u ≡ ran t nth s room → IsOk r
unfolding ran
unrefused (Ok x) u t nth s room e h = refl
unrefused (Err x) u t nth s room e h =
    let k : (ran_from (Err x) u).number ≡ 0 = ap (λ (z : Ran). z.number) h ∙ rw e refl in
    let a : 0 < number_of x = above_zero x in
    absurd (omega (arith, k))
