-- A run takes bytes of those that wait, and leaves a sound table.
use Rattle.steps.proofs.Unrefused.{unrefused}
use Rattle.stream.proofs.Laws.{runs_on, part_length}
use Rattle.stream.proofs.Standing.answer_some.Goals as goal

pub unwrap-ran-requires : goal.unwrap-ran-requires
unwrap-ran-requires c = unrefused _ _ _ _ _ _ c.requires.sound c.run.ensures.answer

pub returns-in_err-write_all : goal.returns-in_err-write_all
returns-in_err-write_all c =
    let i = rw c.unwrap-ran.ensures at c.run.ensures.inside in
    runs_on c.requires _ _ _ c.run.ensures.table (part_length _ _ _ c.requires.inside i.0 c.requires.fits)

pub returns : goal.returns
returns c =
    let i = rw c.unwrap-ran.ensures at c.run.ensures.inside in
    runs_on c.requires _ _ _ c.run.ensures.table (part_length _ _ _ c.requires.inside i.0 c.requires.fits)
