-- What a step gives back: document 01's number, the two results, how many requests it accepted and rejected at its site.
use Rattle.std.specs.Prelude.{ℕ, List, ℤ, Result}
use Rattle.plans.specs.Answers.{Answer, refusal, answer_from}
use Rattle.plans.specs.declared.answer.Results.{Results}
use Rattle.refusals.specs.declared.Refusal.{Refusal}
use Rattle.table.specs.declared.data.Table.{Table}
use Rattle.walk.specs.Walking.{Said, accepts, rejects}

-- an answer, and the table after the step
pub record Stepped : Type 0 where
  pub answer : Answer
  pub table : Table

-- those that the code leaves
abbrev pub stepped_from : Result Results Refusal → Table → Stepped
stepped_from r t = record { answer = answer_from r; table = t }

-- a step carried out: the table after it, the two results, and what its site said, in the order in which it fell
pub record Done : Type 0 where
  pub table : Table
  pub first : ℤ
  pub second : ℕ
  pub log : List Said

-- its answer: number 0, the results, and the counts read off the log
abbrev pub answer_of : Done → Answer
answer_of d = record { number = 0; first = d.first; second = d.second; accepted = accepts d.log; rejected = rejects d.log }

abbrev pub stepped_as : Done → Stepped
stepped_as d = record { answer = answer_of d; table = d.table }

abbrev pub refused_as : ℕ → Table → Stepped
refused_as number t = record { answer = refusal number; table = t }
