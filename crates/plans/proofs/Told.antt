-- What a step gives back, told as document 01's number and values: two answers that are told alike are the same.
use Rattle.std.proofs.Common.{◌≡◌, sym, ap}
use Rattle.std.specs.Prelude.{Result, Ok, Err}
use Rattle.refusals.specs.Numbers.{number_of}
use Rattle.refusals.specs.declared.Refusal.{Refusal}
use Rattle.refusals.proofs.Numbers.{same_refusal, same_answer}
use Rattle.plans.specs.Answers.{Answer, answer_from}
use Rattle.plans.specs.declared.answer.Results.{Results}

-- 0 is no refusal's number
none_is_0 : (r : Refusal) → 0 ≡ number_of r → ⊥
none_is_0 r e = let q = same_answer (Ok tt) (Err r) e in cc q

pub same_results : (a b : Result Results Refusal) → answer_from a ≡ answer_from b → a ≡ b
same_results (Ok s) (Ok t) e =
    ap (λ (t : Answer). Ok (record { first = t.first; second = t.second; accepted = t.accepted; rejected = t.rejected })) e
same_results (Ok s) (Err r) e = absurd (none_is_0 r (ap (λ (t : Answer). t.number) e))
same_results (Err r) (Ok t) e = absurd (none_is_0 r (sym (ap (λ (t : Answer). t.number) e)))
same_results (Err r) (Err q) e = ap Err (same_refusal r q (ap (λ (t : Answer). t.number) e))
