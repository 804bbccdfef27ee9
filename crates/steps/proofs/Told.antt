-- What a run over a buffer gives back, told as document 01's number and values with the table: two answers that are told alike are the same.
use Rattle.std.proofs.Common.{◌≡◌, sym, ap}
use Rattle.std.specs.Prelude.{Result, Ok, Err}
use Rattle.refusals.specs.Numbers.{number_of}
use Rattle.refusals.specs.declared.Refusal.{Refusal}
use Rattle.refusals.proofs.Numbers.{same_refusal, same_answer}
use Rattle.steps.specs.Night.{Ran, ran_from}
use Rattle.steps.specs.declared.run.Ran as code
use Rattle.table.specs.declared.data.Table.{Table}

-- 0 is no refusal's number
none_is_0 : (r : Refusal) → 0 ≡ number_of r → ⊥
none_is_0 r e = let q = same_answer (Ok tt) (Err r) e in cc q

pub same_ran : (a b : Result code.Ran Refusal) (t u : Table) → ran_from a t ≡ ran_from b u → a ≡ b
same_ran (Ok s) (Ok r) t u e = ap (λ (o : Ran). Ok (record { taken = o.taken; written = o.written; next = o.next })) e
same_ran (Ok s) (Err r) t u e = absurd (none_is_0 r (ap (λ (o : Ran). o.number) e))
same_ran (Err r) (Ok s) t u e = absurd (none_is_0 r (sym (ap (λ (o : Ran). o.number) e)))
same_ran (Err r) (Err q) t u e = ap Err (same_refusal r q (ap (λ (o : Ran). o.number) e))
