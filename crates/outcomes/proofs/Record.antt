-- Written by scripts/promises: for each public call of `record`, no two outcomes satisfy its promise.
use Rattle.std.proofs.Common.{refl}
use mir.Syntax.{Dict}
use denote.RattleType.{RattleType}
use denote.Param.Laws.{Laws, IsCopy}
use Rattle.std.specs.declared.clone.Clone.{Ghosts}
use Rattle.outcomes.specs.Outcomes.{OneOutcome}
use Rattle.outcomes.proofs.Same.{as_one, part_by_part}
use Rattle.record.proofs.Briefs.{same_brief, same_record}
use Rattle.record.proofs.Whole.size.Kinds as whole_size_kinds
use Rattle.record.proofs.Whole.size.Reads as whole_size_reads
use Rattle.record.proofs.Step.brief.Kinds as step_brief_kinds
use Rattle.record.proofs.Step.brief.Reads as step_brief_reads
use Rattle.record.proofs.Brief.with.Kinds as brief_with_kinds
use Rattle.record.proofs.Brief.with.Reads as brief_with_reads
use Rattle.record.proofs.blank_step.Kinds as blank_step_kinds
use Rattle.record.proofs.blank_step.Reads as blank_step_reads
use Rattle.record.proofs.read_brief.Kinds as read_brief_kinds
use Rattle.record.proofs.read_brief.Reads as read_brief_reads
use Rattle.record.proofs.read_numbers.Kinds as read_numbers_kinds
use Rattle.record.proofs.read_numbers.Reads as read_numbers_reads
use Rattle.record.proofs.read_record.Kinds as read_record_kinds
use Rattle.record.proofs.read_record.Reads as read_record_reads

-- record::Whole::size
pub one_whole_size : (S : RattleType) (laws : Laws S) (copied : IsCopy S) (ghosts : Ghosts S.Denot) (dict : Dict) → OneOutcome (whole_size_kinds.ps S laws copied) (whole_size_kinds.r S laws copied) (whole_size_reads.Learnt S laws copied ghosts dict)
one_whole_size S laws copied ghosts dict κs a r r' w w' p q = (as_one p q, refl)

-- record::Step::brief
pub one_step_brief : OneOutcome step_brief_kinds.ps step_brief_kinds.r step_brief_reads.Learnt
one_step_brief κs a r r' w w' p q = (as_one p q, refl)

-- record::Brief::with
pub one_brief_with : OneOutcome brief_with_kinds.ps brief_with_kinds.r brief_with_reads.Learnt
one_brief_with κs a r r' w w' p q = (as_one p q, refl)

-- record::blank_step
pub one_blank_step : OneOutcome blank_step_kinds.ps blank_step_kinds.r blank_step_reads.Learnt
one_blank_step κs a r r' w w' p q = (as_one p q, refl)

-- record::read_brief
pub one_read_brief : OneOutcome read_brief_kinds.ps read_brief_kinds.r read_brief_reads.Learnt
one_read_brief κs a r r' w w' p q = (same_brief r r' (as_one p q), refl)

-- record::read_numbers
pub one_read_numbers : OneOutcome read_numbers_kinds.ps read_numbers_kinds.r read_numbers_reads.Learnt
one_read_numbers κs a r r' w w' p q = (refl, part_by_part refl (part_by_part (as_one p.0 q.0) (part_by_part (as_one p.1 q.1) refl)))

-- record::read_record
pub one_read_record : OneOutcome read_record_kinds.ps read_record_kinds.r read_record_reads.Learnt
one_read_record κs a r r' w w' p q = (same_record r r' (as_one p q), refl)
