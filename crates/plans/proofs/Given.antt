-- The stamp of a begin, or the number that it is refused with: what the tests say one after the other.
use Rattle.std.proofs.Common.{◌≡◌, ℕ, ◌^◌, ◌<◌, Bool, true, false, refl, ap, sym, arith, Ok, Err}
use mathlib.Core.Path.{◌∙◌}
use Rattle.std.specs.Prelude.{not, cond, eqb, leb, Result}
use Rattle.kit.proofs.Bools.{by_test}
use Rattle.record.specs.declared.Step.{Step}
use Rattle.refusals.specs.Numbers.{number_of}
use Rattle.refusals.specs.declared.Refusal.{Refusal}
use Rattle.refusals.specs.declared.Refusal.TheVariants as refusal
use Rattle.stamps.specs.Issue.{issued, issue_number}
use Rattle.stamps.specs.Stamps.{last_time, next_time}
use Rattle.stamps.proofs.Laws.{given_facts}
use Rattle.stamps.specs.declared.Given.{Given}
use Rattle.table.specs.Sound.{sets_allowed, base_stamps_allowed, values_allowed}
use Rattle.plans.specs.Pieces.{given_for}

-- the stamp that is issued, behind three tests
tested : Bool → Bool → Bool → Result Given Refusal → Result Given Refusal
tested b c d x = cond (not b) (Err refusal.WrongSets) (cond (not c) (Err refusal.WrongBaseStamp) (cond (not d) (Err refusal.WrongValue) x))

-- document 01's numbers for these, and then the rest of its list
numbered : Bool → Bool → Bool → Result Given Refusal → ℕ → ℕ
numbered b c d x rest = cond (not b) 5 (cond (not c) 6 (cond (not d) 7 (cond (eqb (issue_number x) 8) 8 rest)))

same_err : {q r : Refusal} → ◌≡◌ {A = Result Given Refusal} (Err q) (Err r) → q ≡ r
same_err e = cc

refused_by : (b c d : Bool) (x : Result Given Refusal) (rest : ℕ) {r : Refusal} → ((q : Refusal) → x ≡ Err q → q ≡ refusal.TimePast) → tested b c d x ≡ Err r → numbered b c d x rest ≡ number_of r
unfolding tested numbered
refused_by false c d x rest p e = ap number_of (same_err e)
refused_by true false d x rest p e = ap number_of (same_err e)
refused_by true true false x rest p e = ap number_of (same_err e)
refused_by true true true (Ok g) rest p e = absurd (let z : ◌≡◌ {A = ℕ} 0 1 = cc in omega arith)
refused_by true true true (Err q) rest {r} p e = rw (p q refl) (ap number_of (sym (p q refl) ∙ same_err e))

given_by : (b c d : Bool) (x : Result Given Refusal) (rest : ℕ) {g : Given} → tested b c d x ≡ Ok g → (numbered b c d x rest ≡ rest) × (x ≡ Ok g)
unfolding tested numbered
given_by false c d x rest e = absurd (let z : ◌≡◌ {A = ℕ} 0 1 = cc in omega arith)
given_by true false d x rest e = absurd (let z : ◌≡◌ {A = ℕ} 0 1 = cc in omega arith)
given_by true true false x rest e = absurd (let z : ◌≡◌ {A = ℕ} 0 1 = cc in omega arith)
given_by true true true (Ok h) rest e = (refl, e)
given_by true true true (Err q) rest e = absurd (let z : ◌≡◌ {A = ℕ} 0 1 = cc in omega arith)

module _ (n last : ℕ) (a : Step) (rest : ℕ) where
  -- what the code was given
  abbrev issue : Result Given Refusal
  issue = issued a.site a.clock last a.base a.stamps

  abbrev numbers : ℕ
  numbers = cond (not (sets_allowed a.base a.update)) 5 (cond (not (base_stamps_allowed n a.base a.stamps)) 6 (cond (not (values_allowed a.update a.values)) 7 (cond (eqb (issue_number issue) 8) 8 rest)))

  -- t would pass its limit, where no stamp is issued
  past_only : (q : Refusal) → issue ≡ Err q → q ≡ refusal.TimePast
  unfolding issued
  past_only q e =
      by_test (leb (next_time a.clock last a.base a.stamps) last_time)
      (λ t. absurd (let f = rw t at e in let z : ◌≡◌ {A = ℕ} 0 1 = cc in omega arith)) (λ t. let f = rw t at e in sym (same_err f))

  pub refused_as : {r : Refusal} → given_for n last a ≡ Err r → numbers ≡ number_of r
  unfolding given_for numbered tested
  refused_as e = refused_by (sets_allowed a.base a.update) (base_stamps_allowed n a.base a.stamps) (values_allowed a.update a.values) issue rest past_only e

  pub given_as : {g : Given} → given_for n last a ≡ Ok g → (numbers ≡ rest) × (issue ≡ Ok g)
  unfolding given_for numbered tested
  given_as e = given_by (sets_allowed a.base a.update) (base_stamps_allowed n a.base a.stamps) (values_allowed a.update a.values) issue rest e

-- a stamp that is given fits
pub stamp_small : (last : ℕ) (a : Step) {g : Given} → a.site < 256 → issued a.site a.clock last a.base a.stamps ≡ Ok g → g.stamp < 2 ^ 63
stamp_small last a b g = let f = given_facts a.site a.clock last a.base a.stamps g in omega (arith, f.is_stamp, f.in_reach)
