-- A turn in which a request votes, at a site in order: what the site says then, and who is left in its queue.
use Prim.Native.Nat.{ℕ, ◌<◌}
use mathlib.Core.Bool.{Bool, true, false, not, ◌&&◌, ◌||◌}
use mathlib.Core.List.{List}
use mathlib.Core.Path.{◌≡◌, refl, ap, ◌∙◌}
use lib.Dec.{eqb}
use lib.ListN.{length}
use Rattle.kit.proofs.Bools.{clash}
use Rattle.vote.specs.Consider.{mark_of, defers}
use Rattle.vote.specs.Data.{is_ok_vote, is_open, is_deferred, request_in, vote_at}
use Rattle.vote.specs.Queue.{leaves_queue}
use Rattle.vote.specs.Voters.{knows}
use Rattle.vote.specs.Voting.{with_mark, voted_from_queue}
use Rattle.vote.specs.declared.consider.Outcome.{Outcome}
use Rattle.vote.specs.declared.consider.Outcome.TheVariants as outcome
use Rattle.vote.specs.declared.data.Mark.{Mark}
use Rattle.vote.specs.declared.data.Mark.TheVariants as mark
use Rattle.vote.specs.declared.data.Request.{Request}
use Rattle.vote.specs.declared.data.Site.{Site}
use Rattle.vote.specs.declared.data.Vote.{Vote}
use Rattle.vote.proofs.After.{QueueOf, voted_oks, voted_others, voted_from_queue_lem, ruled_queue_other, queue_then}
use Rattle.vote.proofs.Fields.{leaves_keeps, ruled_keeps}
use Rattle.vote.proofs.Said.{Says, mark_after, voted_from_says, ruled_says, says_then}
use Rattle.vote.proofs.Shapes.{SameShape, shape_then, voted_from_shape, ruled_shape}
use Rattle.walk.specs.Order.{mark_at, verdict_at, is_vote, InOrder}
use Rattle.walk.specs.Walking.{queued, outcome_at, voted_at, due_at, ruled_at}
use Rattle.walk.proofs.Inductions.{Turn}

-- ---- marks

-- an outcome that does not defer is a vote
pub outcome_votes : (o : Outcome) → defers o ≡ false → is_vote (mark_of o) ≡ true
outcome_votes outcome.Rej e = refl
outcome_votes outcome.DeferBase e = clash refl e
outcome_votes outcome.Dr e = refl
outcome_votes outcome.DeferPending e = clash refl e
outcome_votes outcome.Ok e = refl

pub vote_not_deferred : (m : Mark) → is_vote m ≡ true → is_deferred m ≡ false
vote_not_deferred mark.None e = refl
vote_not_deferred mark.Deferred e = clash e refl
vote_not_deferred mark.Ok e = refl
vote_not_deferred mark.Dr e = refl
vote_not_deferred mark.Rej e = refl

-- a verdict leaves a mark that is no deferral
pub after_not : (m : Mark) → is_deferred m ≡ false → mark_after m ≡ m
after_not m e = rw e

-- ---- what is said of one request

pub says_mark : {p : ℕ} {v : Vote} {s t : Site} → Says p v s t → mark_at t p ≡ v.mark
says_mark y = ap (λ (w : Vote). w.mark) y.here

pub says_verdict : {p : ℕ} {v : Vote} {s t : Site} → Says p v s t → verdict_at t p ≡ v.verdict
says_verdict y = ap (λ (w : Vote). w.verdict) y.here

pub mark_elsewhere : {p : ℕ} {v : Vote} {s t : Site} → Says p v s t → (q : ℕ) → (q ≡ p → ⊥) → mark_at t q ≡ mark_at s q
mark_elsewhere y q ne = ap (λ (w : Vote). w.mark) (y.elsewhere q ne)

pub verdict_elsewhere : {p : ℕ} {v : Vote} {s t : Site} → Says p v s t → (q : ℕ) → (q ≡ p → ⊥) → verdict_at t q ≡ verdict_at s q
verdict_elsewhere y q ne = ap (λ (w : Vote). w.verdict) (y.elsewhere q ne)

-- ---- the turn

module _ {me n : ℕ} {rs : List Request} {b : Bool} {s : Site} {i : ℕ} (o : InOrder s) (t : Turn me n rs b s i) where
  abbrev p : ℕ
  p = queued s i

  abbrev m : Mark
  m = mark_of (outcome_at me n rs s i)

  pub turn_place : p < 16
  turn_place = o.queue.place i t.inside

  -- the request was deferred and open
  pub turn_deferred : mark_at s p ≡ mark.Deferred
  turn_deferred = o.queue.deferred i t.inside

  pub turn_open : is_open (verdict_at s p) ≡ true
  turn_open = o.deferred.held p turn_deferred

  -- its mark is a vote
  pub turn_vote : is_vote m ≡ true
  turn_vote = outcome_votes (outcome_at me n rs s i) t.votes

  pub turn_not_deferred : is_deferred m ≡ false
  turn_not_deferred = vote_not_deferred m turn_vote

  held : p < length s.votes
  held = rw o.shaped.votes turn_place

  -- the site says so, and of the others what it said
  pub turn_voted : Says p (with_mark m (vote_at s.votes p)) s (voted_at me n rs s i)
  turn_voted = voted_from_says me s i p m held

  unmoved : is_deferred (mark_at (voted_at me n rs s i) p) ≡ false
  unmoved = ap is_deferred (says_mark turn_voted) ∙ turn_not_deferred

  pub turn_ruled : Says p (record { mark = m; verdict = due_at me n rs s i }) s (ruled_at me n rs s i)
  turn_ruled =
      let z = ruled_says (voted_at me n rs s i) (request_in rs p) p (due_at me n rs s i) (rw turn_voted.long held) in
      says_then turn_voted (rw (after_not (mark_at (voted_at me n rs s i) p) unmoved, says_mark turn_voted) at z)

  -- it leaves the queue
  pub turn_left : QueueOf (leaves_queue s i) (voted_at me n rs s i)
  turn_left = voted_from_queue_lem me s i p m

  pub turn_ruled_left : QueueOf (leaves_queue s i) (ruled_at me n rs s i)
  turn_ruled_left = queue_then turn_left (ruled_queue_other (voted_at me n rs s i) p (request_in rs p) (due_at me n rs s i) unmoved)

-- ---- the voters known: its own vote counts at once, and a verdict changes none

module _ {me n : ℕ} {rs : List Request} {b : Bool} {s : Site} {i : ℕ} (o : InOrder s) (t : Turn me n rs b s i) (q u : ℕ) (hq : q < 16) (hu : u < 7) where
  pub turn_oks
      : knows (voted_at me n rs s i).oks q u
      ≡ (knows s.oks q u || (is_ok_vote (mark_of (outcome_at me n rs s i)) && (eqb (queued s i) q && eqb me u)))
  unfolding voted_from_queue
  turn_oks =
      let k = (leaves_keeps s i).oks in
      voted_oks me (leaves_queue s i) (queued s i) (mark_of (outcome_at me n rs s i)) q u (turn_place o t) hq hu (rw k o.shaped.oks) ∙ rw k

  pub turn_others
      : knows (voted_at me n rs s i).others q u
      ≡ (knows s.others q u || (not (is_ok_vote (mark_of (outcome_at me n rs s i))) && (eqb (queued s i) q && eqb me u)))
  unfolding voted_from_queue
  turn_others =
      let k = (leaves_keeps s i).others in
      voted_others me (leaves_queue s i) (queued s i) (mark_of (outcome_at me n rs s i)) q u (turn_place o t) hq hu (rw k o.shaped.others) ∙ rw k

module _ (me n : ℕ) (rs : List Request) (s : Site) (i : ℕ) where
  pub turn_ruled_oks : (ruled_at me n rs s i).oks ≡ (voted_at me n rs s i).oks
  turn_ruled_oks = (ruled_keeps (voted_at me n rs s i) (request_in rs (queued s i)) (queued s i) (due_at me n rs s i)).oks

  pub turn_ruled_others : (ruled_at me n rs s i).others ≡ (voted_at me n rs s i).others
  turn_ruled_others = (ruled_keeps (voted_at me n rs s i) (request_in rs (queued s i)) (queued s i) (due_at me n rs s i)).others

-- ---- its arrays

module _ (me n : ℕ) (rs : List Request) (s : Site) (i : ℕ) where
  pub turn_shape : SameShape s (voted_at me n rs s i)
  turn_shape = voted_from_shape me s i (queued s i) (mark_of (outcome_at me n rs s i))

  pub turn_ruled_shape : SameShape s (ruled_at me n rs s i)
  turn_ruled_shape = shape_then turn_shape (ruled_shape (voted_at me n rs s i) (request_in rs (queued s i)) (queued s i) (due_at me n rs s i))
