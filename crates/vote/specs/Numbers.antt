-- What a site has said of a request as one number: its mark (0 none, 1 deferred, 2 OK, 3 DR, 4 REJ) and 8 times its verdict (0 open, 1 accepted,
-- 2 rejected).
use Rattle.std.specs.Prelude.{ℕ, ◌+◌, ◌*◌, ◌/◌, ◌%◌, cond, List, eqb, get_or}
use Rattle.kit.specs.Lists.{listed}
use Rattle.vote.specs.Data.{vote_at}
use Rattle.vote.specs.declared.data.Mark.{Mark}
use Rattle.vote.specs.declared.data.Mark.TheVariants as mark
use Rattle.vote.specs.declared.data.Verdict.{Verdict}
use Rattle.vote.specs.declared.data.Verdict.TheVariants as verdict
use Rattle.vote.specs.declared.data.Vote.{Vote}

-- the number of a mark, and the mark of a number
abbrev pub mark_number : Mark → ℕ
mark_number mark.None = 0
mark_number mark.Deferred = 1
mark_number mark.Ok = 2
mark_number mark.Dr = 3
mark_number mark.Rej = 4

unfoldable pub mark_from : ℕ → Mark
mark_from c = cond (eqb c 0) mark.None (cond (eqb c 1) mark.Deferred (cond (eqb c 2) mark.Ok (cond (eqb c 3) mark.Dr mark.Rej)))

-- the number of a verdict, and the verdict of a number
abbrev pub verdict_number : Verdict → ℕ
verdict_number verdict.Open = 0
verdict_number verdict.Accepted = 1
verdict_number verdict.Rejected = 2

unfoldable pub verdict_from : ℕ → Verdict
verdict_from c = cond (eqb c 0) verdict.Open (cond (eqb c 1) verdict.Accepted verdict.Rejected)

-- the number of both, and both of a number
unfoldable pub vote_number : Vote → ℕ
vote_number v = mark_number v.mark + 8 * verdict_number v.verdict

unfoldable pub vote_from : ℕ → Vote
vote_from c = record { mark = mark_from (c % 8); verdict = verdict_from (c / 8) }

-- of each of the 16 places
unfoldable pub votes_from : List ℕ → List Vote
votes_from row = listed 16 (λ p. vote_from (get_or row p 0))

unfoldable pub numbers_of : List Vote → List ℕ
numbers_of votes = listed 16 (λ p. vote_number (vote_at votes p))
