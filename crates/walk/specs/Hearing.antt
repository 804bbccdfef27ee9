-- What a site does with a request that it begins or hears of: document 01, "Steps", the sentences on begin and deliver, at one site.
use Rattle.std.specs.Prelude.{ℕ, Bool, cond, List}
use Rattle.vote.specs.Consider.{considered, mark_of, defers}
use Rattle.vote.specs.Data.{heads_of, is_open, is_unmarked, request_in, vote_at, with_known}
use Rattle.vote.specs.Verdicts.{verdict_due}
use Rattle.vote.specs.Voters.{join_voters}
use Rattle.vote.specs.Voting.{voted, deferred}
use Rattle.vote.specs.declared.consider.Outcome.{Outcome}
use Rattle.vote.specs.declared.data.Request.{Request}
use Rattle.vote.specs.declared.data.Site.{Site}
use Rattle.vote.specs.declared.data.Verdict.{Verdict}
use Rattle.walk.specs.Walking.{Out, quiet, and_then, resolved, vote}

module _ (me n : ℕ) (rs : List Request) where
  -- where the voters that it knows of place p call for a verdict, that verdict falls
  unfoldable pub settled : Site → ℕ → Out
  settled s p =
      let due : Verdict = verdict_due n s.oks s.others p in
      cond (is_open due) (quiet s) (resolved me n rs s p due)

  -- what comes of considering the request at place p
  abbrev pub outcome_of : Site → ℕ → Outcome
  outcome_of s p = considered (heads_of rs) s.votes s.stamps (request_in rs p)

  -- "its site considers it": it is deferred, or voted on, which counts at once and may bring a verdict
  unfoldable pub taken_up : Site → ℕ → Out
  taken_up s p =
      cond (defers (outcome_of s p)) (quiet (deferred s p))
      (and_then (vote p (request_in rs p).stamp (mark_of (outcome_of s p))) (settled (voted me s p (mark_of (outcome_of s p))) p))

  -- "Known voters are joined to the receiver's; if that gives no verdict and its mark is none, it considers the request."
  unfoldable pub heard : Site → ℕ → List Bool → List Bool → Out
  heard s p oks others =
      let more : Site = with_known (join_voters s.oks p oks) (join_voters s.others p others) s in
      let due : Verdict = verdict_due n more.oks more.others p in
      cond (is_open due) (cond (is_unmarked (vote_at s.votes p).mark) (taken_up more p) (quiet more)) (resolved me n rs more p due)

  -- "If the receiver has a verdict nothing changes. A verdict is taken over."
  unfoldable pub received : Site → ℕ → Verdict → List Bool → List Bool → Out
  received s p sent oks others =
      cond (is_open (vote_at s.votes p).verdict)
      (cond (is_open sent) (heard s p oks others) (resolved me n rs s p sent))
      (quiet s)
