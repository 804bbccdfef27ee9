-- The events that a site's log stands for. The log is in the order in which things fell, a history has the newest first.
use Rattle.std.specs.Prelude.{ℕ, List, [], ◌∷◌, ◌++◌, ℤ}
use Rattle.ledger.specs.Ledger.{ok, against, accept, reject, History, Request as LedgerRequest}
use Rattle.vote.specs.Data.{request_at}
use Rattle.vote.specs.declared.data.Mark.{Mark}
use Rattle.vote.specs.declared.data.Mark.TheVariants as mark
use Rattle.vote.specs.declared.data.Request.{Request}
use Rattle.vote.specs.declared.data.Verdict.{Verdict}
use Rattle.vote.specs.declared.data.Verdict.TheVariants as verdict
use Rattle.walk.specs.Walking.{Said, vote, rule}
use Rattle.tied.specs.Views.{request_of}

-- the site k votes so on r: OK, or one of the others (DR, REJ); none and deferred are no votes
abbrev pub vote_event : ℕ → LedgerRequest ℤ → Mark → History ℤ
vote_event k r mark.None = []
vote_event k r mark.Deferred = []
vote_event k r mark.Ok = ok k r ∷ []
vote_event k r mark.Dr = against k r ∷ []
vote_event k r mark.Rej = against k r ∷ []

-- the site k rules so on r; open is no verdict
abbrev pub rule_event : ℕ → LedgerRequest ℤ → Verdict → History ℤ
rule_event k r verdict.Open = []
rule_event k r verdict.Accepted = accept k r ∷ []
rule_event k r verdict.Rejected = reject k r ∷ []

-- one thing said at the site k of a table with the requests rs
abbrev pub event_of : ℕ → List Request → Said → History ℤ
event_of k rs (vote p stamp m) = vote_event k (request_of (request_at rs p)) m
event_of k rs (rule p stamp d) = rule_event k (request_of (request_at rs p)) d

-- all that is said there, the newest first
unfoldable pub events_of : ℕ → List Request → List Said → History ℤ
events_of k rs [] = []
events_of k rs (a ∷ l) = events_of k rs l ++ event_of k rs a
