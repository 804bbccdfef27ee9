use Rattle.std.proofs.Common.{rules}
use Rattle.record.proofs.Briefs.{none_is, answer_is}
use Rattle.record.proofs.read_record.Goals as goal

pub returns-in_err-whole : goal.returns-in_err-whole
returns-in_err-whole c = let h = none_is c.args.bytes.now c.in_err-whole.ensures in search (rules, h)

pub returns : goal.returns
returns c = answer_is _ _ _ _ c.in_ok-whole.ensures c.read_numbers.ensures.stamps c.read_numbers.ensures.values _ (λ x t p. search rules) c.map.ensures.cases
