-- "A vote is never changed and counts at once among the voters the site knows. A deferred request joins the end of that site's queue."
use Rattle.std.specs.Prelude.{ℕ, cond, List, set}
use Rattle.vote.specs.Consider.{mark_of, defers}
use Rattle.vote.specs.Data.{is_ok_vote, vote_at, with_votes, with_known}
use Rattle.vote.specs.Queue.{joins_queue, leaves_queue}
use Rattle.vote.specs.Voters.{only_voter, join_voters}
use Rattle.vote.specs.declared.consider.Outcome.{Outcome}
use Rattle.vote.specs.declared.data.Mark.{Mark}
use Rattle.vote.specs.declared.data.Mark.TheVariants as mark
use Rattle.vote.specs.declared.data.Site.{Site}
use Rattle.vote.specs.declared.data.Vote.{Vote}

-- the same verdict, with the mark m
abbrev pub with_mark : Mark → Vote → Vote
with_mark m v = record { mark = m; verdict = v.verdict }

-- what a site has said, with the mark m on the request at place p
abbrev pub mark_put : List Vote → ℕ → Mark → List Vote
mark_put votes p m = set votes p (with_mark m (vote_at votes p))

-- the site with that
unfoldable pub marked : Site → ℕ → Mark → Site
marked s p m = with_votes (mark_put s.votes p m) s

-- the site `me` counts itself among the voters of place p that it knows: the OK voters for an OK, else the others
unfoldable pub counts_itself : ℕ → Site → ℕ → Mark → Site
counts_itself me s p m =
    cond (is_ok_vote m) (with_known (join_voters s.oks p (only_voter me)) s.others s)
    (with_known s.oks (join_voters s.others p (only_voter me)) s)

-- the site `me` votes m on the request at place p
unfoldable pub voted : ℕ → Site → ℕ → Mark → Site
voted me s p m = counts_itself me (marked s p m) p m

-- it defers the request at place p
unfoldable pub deferred : Site → ℕ → Site
deferred s p = joins_queue (marked s p mark.Deferred) p

-- it keeps what came of considering the request at place p, which was in no queue
unfoldable pub kept_outcome : ℕ → Site → ℕ → Outcome → Site
kept_outcome me s p o = cond (defers o) (deferred s p) (voted me s p (mark_of o))

-- "One that votes leaves the queue": the request at place p, at place i of the queue, gets the vote m
unfoldable pub voted_from_queue : ℕ → Site → ℕ → ℕ → Mark → Site
voted_from_queue me s i p m = voted me (leaves_queue s i) p m
