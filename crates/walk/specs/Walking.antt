-- "After each verdict at a site, its queue is considered again from the front. One that votes leaves the queue; one still deferred keeps its
-- place; if a vote brings a verdict, the walk starts again from the front, so a verdict calls for a walk and a walk may bring a verdict."
use Rattle.std.specs.Prelude.{ℕ, zero, suc, ◌+◌, ◌-◌, true, false, List, [], ◌∷◌}
use Rattle.vote.specs.Consider.{considered, mark_of, defers}
use Rattle.vote.specs.Data.{heads_of, is_open, request_in}
use Rattle.vote.specs.Queue.{queued_at}
use Rattle.vote.specs.Verdicts.{verdict_due, ruled}
use Rattle.vote.specs.Voting.{voted_from_queue}
use Rattle.vote.specs.declared.consider.Outcome.{Outcome}
use Rattle.vote.specs.declared.data.Mark.{Mark}
use Rattle.vote.specs.declared.data.Request.{Request}
use Rattle.vote.specs.declared.data.Site.{Site}
use Rattle.vote.specs.declared.data.Verdict.{Verdict}
use Rattle.vote.specs.declared.data.Verdict.TheVariants as verdict
use Rattle.walk.specs.declared.walking.Settled.{Settled}

-- what a site said: the request's place, its stamp, and the vote or the verdict
pub data Said : Type 0 where
  vote : (place stamp : ℕ) → Mark → Said
  rule : (place stamp : ℕ) → Verdict → Said

-- what is left of a walk: the site, and what it said in the order in which it fell
pub record Out : Type 0 where
  pub site : Site
  pub log : List Said

-- nothing more is said
abbrev pub quiet : Site → Out
quiet s = record { site = s; log = [] }

-- first this is said, then the rest
abbrev pub and_then : Said → Out → Out
and_then a out = record { site = out.site; log = a ∷ out.log }

-- the request at place i of the queue
abbrev pub queued : Site → ℕ → ℕ
queued s i = queued_at s.queue i

module _ (me n : ℕ) (rs : List Request) where
  -- what comes of considering the request at place i of the queue
  abbrev pub outcome_at : Site → ℕ → Outcome
  outcome_at s i = considered (heads_of rs) s.votes s.stamps (request_in rs (queued s i))

  -- the site after that request has voted so
  abbrev pub voted_at : Site → ℕ → Site
  voted_at s i = voted_from_queue me s i (queued s i) (mark_of (outcome_at s i))

  -- the verdict that its vote brings
  abbrev pub due_at : Site → ℕ → Verdict
  due_at s i = verdict_due n (voted_at s i).oks (voted_at s i).others (queued s i)

  -- the site after that verdict
  abbrev pub ruled_at : Site → ℕ → Site
  ruled_at s i = ruled (voted_at s i) (request_in rs (queued s i)) (queued s i) (due_at s i)

  -- what is said of the vote, and of the verdict
  abbrev pub says_vote : Site → ℕ → Said
  says_vote s i = vote (queued s i) (request_in rs (queued s i)).stamp (mark_of (outcome_at s i))

  abbrev pub says_rule : ℕ → Verdict → Said
  says_rule p d = rule p (request_in rs p).stamp d

  -- Of the k places of the queue from i on, each is considered. Still deferred, it keeps its place. Else it votes and leaves the queue;
  -- where that brings a verdict, it is ruled, and `again` goes on from the front.
  unfoldable pub looked_over : (Site → Out) → ℕ → ℕ → Site → Out
  looked_over again zero i s = quiet s
  looked_over again (suc k) i s =
      elim (defers (outcome_at s i)) [
        | true ↦ looked_over again k (suc i) s
        | false ↦
            elim (is_open (due_at s i)) [
              | true ↦ and_then (says_vote s i) (looked_over again k i (voted_at s i))
              | false ↦ and_then (says_vote s i) (and_then (says_rule (queued s i) (due_at s i)) (again (ruled_at s i)))
            ]
      ]

  -- the walk from the front with at most f verdicts; each takes one request out of the queue, so as many as are waiting are enough
  unfoldable pub walk_up_to : ℕ → Site → Out
  walk_up_to zero s = quiet s
  walk_up_to (suc f) s = looked_over (walk_up_to f) s.waiting 0 s

  -- the walk from place i of the queue on
  unfoldable pub walked : Site → ℕ → Out
  walked s i = looked_over (walk_up_to (s.waiting - 1)) (s.waiting - i) i s

  -- the request at place p gets the verdict d, and the queue is considered again from the front
  abbrev pub resolved : Site → ℕ → Verdict → Out
  resolved s p d = and_then (says_rule p d) (walked (ruled s (request_in rs p) p d) 0)

-- ---- the counts, read off what was said

-- 1 for an acceptance
abbrev pub accepts_of : Verdict → ℕ
accepts_of verdict.Open = 0
accepts_of verdict.Accepted = 1
accepts_of verdict.Rejected = 0

-- 1 for a rejection
abbrev pub rejects_of : Verdict → ℕ
rejects_of verdict.Open = 0
rejects_of verdict.Accepted = 0
rejects_of verdict.Rejected = 1

-- how many requests were accepted
unfoldable pub accepts : List Said → ℕ
accepts [] = 0
accepts (vote p t m ∷ l) = accepts l
accepts (rule p t d ∷ l) = accepts l + accepts_of d

-- how many were rejected
unfoldable pub rejects : List Said → ℕ
rejects [] = 0
rejects (vote p t m ∷ l) = rejects l
rejects (rule p t d ∷ l) = rejects l + rejects_of d

-- both
abbrev pub counts_of : List Said → Settled
counts_of l = record { accepted = accepts l; rejected = rejects l }
