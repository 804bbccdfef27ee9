-- What printing a night answers, told as document 01's number and a length: two answers that are told alike are the same.
use Rattle.std.proofs.Common.{◌≡◌, ℕ, sym, ap}
use Rattle.std.specs.Prelude.{Result, Ok, Err}
use Rattle.refusals.specs.Numbers.{number_of}
use Rattle.refusals.specs.declared.Refusal.{Refusal}
use Rattle.refusals.proofs.Numbers.{same_refusal, same_answer}
use Rattle.house.specs.House.{Printed, print_answer}

-- 0 is no refusal's number
none_is_0 : (r : Refusal) → 0 ≡ number_of r → ⊥
none_is_0 r e = let q = same_answer (Ok tt) (Err r) e in cc q

pub same_printed : (a b : Result ℕ Refusal) → print_answer a ≡ print_answer b → a ≡ b
same_printed (Ok m) (Ok n) e = ap (λ (t : Printed). Ok t.length) e
same_printed (Ok m) (Err r) e = absurd (none_is_0 r (ap (λ (t : Printed). t.number) e))
same_printed (Err r) (Ok n) e = absurd (none_is_0 r (sym (ap (λ (t : Printed). t.number) e)))
same_printed (Err r) (Err q) e = ap Err (same_refusal r q (ap (λ (t : Printed). t.number) e))
