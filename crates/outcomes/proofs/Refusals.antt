-- Written by scripts/promises: for each public call of `refusals`, no two outcomes satisfy its promise.
use Rattle.std.proofs.Common.{refl}
use mir.Syntax.{Dict}
use denote.RattleType.{RattleType}
use denote.Param.Laws.{Laws, IsCopy}
use Rattle.std.specs.declared.clone.Clone.{Ghosts}
use Rattle.outcomes.specs.Outcomes.{OneOutcome}
use Rattle.outcomes.proofs.Same.{as_one}
use Rattle.refusals.proofs.Refusal.number.Kinds as refusal_number_kinds
use Rattle.refusals.proofs.Refusal.number.Reads as refusal_number_reads
use Rattle.refusals.proofs.answer_number.Kinds as answer_number_kinds
use Rattle.refusals.proofs.answer_number.Reads as answer_number_reads

-- refusals::Refusal::number
pub one_refusal_number : OneOutcome refusal_number_kinds.ps refusal_number_kinds.r refusal_number_reads.Learnt
one_refusal_number κs a r r' w w' p q = (as_one p q, refl)

-- refusals::answer_number
pub one_answer_number : (T : RattleType) (laws : Laws T) (copied : IsCopy T) (ghosts : Ghosts T.Denot) (dict : Dict) → OneOutcome (answer_number_kinds.ps T laws copied) (answer_number_kinds.r T laws copied) (answer_number_reads.Learnt T laws copied ghosts dict)
one_answer_number T laws copied ghosts dict κs a r r' w w' p q = (as_one p q, refl)
