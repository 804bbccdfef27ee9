-- A record that was read without a begin's stamps and values: no other step looks at these, so any do.
use Prim.Native.Nat.{ℕ}
use mathlib.Core.List.{List}
use mathlib.Core.Path.{◌≡◌, refl, ap, ◌∙◌}
use borrow.Author.Tests.{ne_eqb}
use lib.IntN.{ℤ}
use Rattle.kit.proofs.Bools.{by_eq}
use Rattle.record.proofs.Briefs.{record_from, whole_is}
use Rattle.record.specs.Records.{Record, BriefRecord, brief_of}
use Rattle.table.specs.declared.data.Table.{Table}
use Rattle.steps.specs.Night.{answered_on}
use Rattle.steps.specs.Numbers.{tell_number, deliver_number, drop_number, down_number, up_number, retire_number, read_number}
use Rattle.steps.specs.Steps.{told, delivered, dropped, put_up, retired, readings, advanced}

module _ (t : Table) (r : BriefRecord) (ss ss' : List ℕ) (vs vs' : List ℤ) (n : r.code ≡ 1 → ⊥) where
  advanced_any : advanced t (record_from r ss vs).step ≡ advanced t (record_from r ss' vs').step
  unfolding advanced tell_number deliver_number drop_number down_number up_number retire_number read_number told delivered dropped put_up retired readings
  advanced_any = rw (ne_eqb r.code 1 n) refl

  answered_any : answered_on t (record_from r ss vs) ≡ answered_on t (record_from r ss' vs')
  unfolding answered_on
  answered_any = rw advanced_any refl

-- where it is a begin, those that it has
pub answered_brief
    : (t : Table) (x : Record) {r : BriefRecord} {stamps : List ℕ} {values : List ℤ} → r ≡ brief_of x
    → (r.code ≡ 1 → (stamps ≡ x.step.stamps) × (values ≡ x.step.values)) → answered_on t (record_from r stamps values) ≡ answered_on t x
answered_brief t x {r} {stamps} {values} e h =
    by_eq r.code 1 (λ q. ap (answered_on t) (whole_is x e (h q).0 (h q).1))
    (λ n. answered_any t r stamps x.step.stamps values x.step.values n ∙ ap (answered_on t) (whole_is x e refl refl))
