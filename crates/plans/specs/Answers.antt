-- What a step gives back where it is refused and where it is done.
use Rattle.std.specs.Prelude.{ℕ, ℤ, pos, Result, Ok, Err}
use Rattle.plans.specs.declared.answer.Results.{Results}
use Rattle.refusals.specs.Numbers.{number_of}
use Rattle.refusals.specs.declared.Refusal.{Refusal}

-- document 01's number, the two results, how many requests the step accepted and rejected at its site
pub record Answer : Type 0 where
  pub number : ℕ
  pub first : ℤ
  pub second : ℕ
  pub accepted : ℕ
  pub rejected : ℕ

-- "Each returns zeros beside it and changes nothing."
abbrev pub refusal : ℕ → Answer
refusal number = record { number = number; first = pos 0; second = 0; accepted = 0; rejected = 0 }

-- number 0, the two results and the counts
abbrev pub results : ℤ → ℕ → ℕ → ℕ → Answer
results first second accepted rejected = record { number = 0; first = first; second = second; accepted = accepted; rejected = rejected }

-- the answer that the code gives
abbrev pub answer_from : Result Results Refusal → Answer
answer_from (Ok r) = results r.first r.second r.accepted r.rejected
answer_from (Err e) = refusal (number_of e)

-- results where nothing is ruled
abbrev pub quiet_results : ℤ → ℕ → Results
quiet_results first second = record { first = first; second = second; accepted = 0; rejected = 0 }
