-- The copy of a sound table is written whole, at the front of the buffer.
use Rattle.std.proofs.Common.{◌≡◌, rules}
use Rattle.sitefile.specs.Write.{write_answer}
use Rattle.stream.proofs.Copies.{copy_in}
use Rattle.stream.proofs.files.write_copy.Goals as goal

pub returns-clause-inside : goal.returns-clause-inside
returns-clause-inside c =
    let w = c.write_site_file in
    let n : c.unwrap_or.result ≡ (write_answer w.result).length = search rules in
    rw n (copy_in _ _ _ _ _ c.requires.sound c.requires.used c.requires.room _ c.from.ensures w.ensures.answer w.ensures.bytes).0

pub returns-clause-file : goal.returns-clause-file
returns-clause-file c =
    let w = c.write_site_file in
    let n : c.unwrap_or.result ≡ (write_answer w.result).length = search rules in
    rw n (copy_in _ _ _ _ _ c.requires.sound c.requires.used c.requires.room _ c.from.ensures w.ensures.answer w.ensures.bytes).1
