-- What one turn of the walk's loop comes to, over the values that the code has at hand: the premises are the callees' promises and the
-- tests as the code gives them.
use Rattle.std.proofs.Common.{◌≡◌, ℕ, ◌+◌, ◌-◌, ◌<◌, ◌≤◌, Bool, true, false, List, arith}
use Rattle.vote.specs.Consider.{considered, mark_of, defers}
use Rattle.vote.specs.Data.{heads_of, is_open, request_in}
use Rattle.vote.specs.Queue.{leaves_queue}
use Rattle.vote.specs.Verdicts.{verdict_due, ruled}
use Rattle.vote.specs.Voting.{voted, voted_from_queue}
use Rattle.vote.specs.declared.consider.Outcome.{Outcome}
use Rattle.vote.specs.declared.data.Mark.{Mark}
use Rattle.vote.specs.declared.data.Request.{Request}
use Rattle.vote.specs.declared.data.Site.{Site}
use Rattle.vote.specs.declared.data.Verdict.{Verdict}
use Rattle.vote.specs.declared.data.Verdict.TheVariants as verdict
use Rattle.walk.specs.Walking.{and_then, queued, outcome_at, voted_at, due_at, says_vote, walked, resolved, accepts_of, rejects_of}
use Rattle.walk.proofs.Walks.{fewer_ruled, fewer_voted, walk_keeps, walk_votes, walk_rules}

-- the request q at place i of the queue, place p of the table, was considered
pub record Turn (me n : ℕ) (rs : List Request) (s : Site) (i p : ℕ) (o : Outcome) : Type 0 where
  pub inside : i < s.waiting
  pub place : p ≡ queued s i
  pub outcome : o ≡ outcome_at me n rs s i

pub turn_is
    : (me n : ℕ) (rs : List Request) (s : Site) (i p : ℕ) (q : Request) {o : Outcome} → i < s.waiting → p ≡ queued s i → q ≡ request_in rs p
    → o ≡ considered (heads_of rs) s.votes s.stamps q → Turn me n rs s i p o
turn_is me n rs s i p q h hp hq ho = record { inside = h; place = hp; outcome = rw (← hp, ← hq) ho }

module _ {me n : ℕ} {rs : List Request} {s : Site} {i p : ℕ} {o : Outcome} (k : Turn me n rs s i p o) {d : Bool} (hd : d ≡ defers o) where
  says : {b : Bool} → d ≡ b → defers (outcome_at me n rs s i) ≡ b
  says e = rw (← k.outcome, ← hd) e

  -- still deferred: the walk goes on at the next place
  pub keep_turn : d ≡ true → walked me n rs s i ≡ walked me n rs s (i + 1)
  keep_turn e = walk_keeps me n rs s i k.inside (says e)

  -- it votes and leaves the queue
  module _ (votes : d ≡ false) {m : Mark} {l u : Site} (hm : m ≡ mark_of o) (hl : l ≡ leaves_queue s i) (hu : u ≡ voted me l p m) where
    left_is : u ≡ voted_from_queue me s i p m
    unfolding voted_from_queue
    left_is = rw (hu, hl)

    voted_is : u ≡ voted_at me n rs s i
    voted_is = rw (left_is, hm, k.outcome, k.place)

    pub fewer_wait : u.waiting ≡ s.waiting - 1
    fewer_wait = rw left_is (fewer_voted me s i p m)

    module _ {v : Verdict} (hv : v ≡ verdict_due n u.oks u.others p) {t : Bool} (ht : t ≡ is_open v) where
      due_is : v ≡ due_at me n rs s i
      due_is = rw (hv, voted_is, k.place)

      falls : {b : Bool} → t ≡ b → is_open (due_at me n rs s i) ≡ b
      falls e = rw (← due_is, ← ht) e

      -- no verdict falls: the walk goes on at the same place
      pub vote_turn : t ≡ true → walked me n rs s i ≡ and_then (says_vote me n rs s i) (walked me n rs u i)
      vote_turn e = rw voted_is (walk_votes me n rs s i k.inside (says votes) (falls e))

      -- a verdict falls: `resolve` has the rest
      pub rule_turn : t ≡ false → walked me n rs s i ≡ and_then (says_vote me n rs s i) (resolved me n rs u p v)
      rule_turn e = rw (due_is, voted_is, k.place) (walk_rules me n rs s i k.inside (says votes) (falls e))

-- ---- the verdict itself

-- nobody joins the queue at it
pub few_ruled : (s : Site) (q : Request) (p : ℕ) (v : Verdict) {u : Site} → u ≡ ruled s q p v → u.waiting ≤ s.waiting
few_ruled s q p v e = rw e (fewer_ruled s q p v)

-- it is one acceptance at most, and one rejection
pub one_accepted : (v : Verdict) → accepts_of v ≤ 1
one_accepted verdict.Open = omega arith
one_accepted verdict.Accepted = omega arith
one_accepted verdict.Rejected = omega arith

pub one_rejected : (v : Verdict) → rejects_of v ≤ 1
one_rejected verdict.Open = omega arith
one_rejected verdict.Accepted = omega arith
one_rejected verdict.Rejected = omega arith
