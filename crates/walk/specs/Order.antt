-- What holds of a site before and after a walk: its queue is in order, what was said stays said, its copies never go back; and what is said
-- in a walk is new, is said once, and stands at its end.
use Rattle.std.specs.Prelude.{ℕ, ◌≤◌, ◌<◌, Bool, true, false, List, [], ◌∷◌, ◌≡◌, get_or}
use Rattle.vote.specs.Data.{is_open, vote_at}
use Rattle.vote.specs.Shape.{ShapedSite}
use Rattle.vote.specs.Voters.{knows}
use Rattle.vote.specs.declared.data.Mark.{Mark}
use Rattle.vote.specs.declared.data.Mark.TheVariants as mark
use Rattle.vote.specs.declared.data.Site.{Site}
use Rattle.vote.specs.declared.data.Verdict.{Verdict}
use Rattle.walk.specs.Walking.{Said, vote, rule, queued}

-- ---- a site in order

-- its mark of the request at place p, and its verdict
abbrev pub mark_at : Site → ℕ → Mark
mark_at s p = (vote_at s.votes p).mark

abbrev pub verdict_at : Site → ℕ → Verdict
verdict_at s p = (vote_at s.votes p).verdict

-- "queues hold exactly the deferred requests, once each"
pub record Orderly (s : Site) : Type 0 where
  pub few : s.waiting ≤ 16
  pub place : (k : ℕ) → k < s.waiting → queued s k < 16
  pub deferred : (k : ℕ) → k < s.waiting → mark_at s (queued s k) ≡ mark.Deferred
  pub all : (p : ℕ) → p < 16 → mark_at s p ≡ mark.Deferred → (k : ℕ) × (k < s.waiting) × (queued s k ≡ p)
  pub once : (j k : ℕ) → j < s.waiting → k < s.waiting → queued s j ≡ queued s k → j ≡ k

-- "a site with a verdict has no deferred mark"
pub record DeferredOpen (s : Site) : Type 0 where
  pub held : (p : ℕ) → mark_at s p ≡ mark.Deferred → is_open (verdict_at s p) ≡ true

-- behind its end the queue is blank
pub record BlankEnd (s : Site) : Type 0 where
  pub blank : (k : ℕ) → s.waiting ≤ k → queued s k ≡ 0

-- all four
pub record InOrder (s : Site) : Type 0 where
  pub shaped : ShapedSite s
  pub queue : Orderly s
  pub end : BlankEnd s
  pub deferred : DeferredOpen s

-- ---- the site s, later t

abbrev pub is_vote : Mark → Bool
is_vote mark.None = false
is_vote mark.Deferred = false
is_vote mark.Ok = true
is_vote mark.Dr = true
is_vote mark.Rej = true

-- "A vote is never changed", and no verdict is
pub record SaidStays (s t : Site) : Type 0 where
  pub marks : (p : ℕ) → is_vote (mark_at s p) ≡ true → mark_at t p ≡ mark_at s p
  pub verdicts : (p : ℕ) → is_open (verdict_at s p) ≡ false → verdict_at t p ≡ verdict_at s p

-- no copy goes back to a smaller stamp
pub record StampsRise (s t : Site) : Type 0 where
  pub rise : (i : ℕ) → i < 24 → get_or s.stamps i 0 ≤ get_or t.stamps i 0

-- it is up or down as it was, and has issued no stamp
pub record SameClock (s t : Site) : Type 0 where
  pub up : t.up ≡ s.up
  pub last : t.last ≡ s.last

-- all three
pub record Later (s t : Site) : Type 0 where
  pub said : SaidStays s t
  pub stamps : StampsRise s t
  pub clock : SameClock s t

-- the request at place p is not in the queue
abbrev pub NotQueued : Site → ℕ → Type 0
NotQueued s p = (k : ℕ) → k < s.waiting → queued s k ≡ p → ⊥

-- nothing changes of a request of which E holds and which was not in the queue
pub record Untouched (E : ℕ → Type 0) (s t : Site) : Type 0 where
  pub vote : (p : ℕ) → E p → NotQueued s p → vote_at t.votes p ≡ vote_at s.votes p
  pub oks : (p u : ℕ) → p < 16 → u < 7 → E p → NotQueued s p → knows t.oks p u ≡ knows s.oks p u
  pub others : (p u : ℕ) → p < 16 → u < 7 → E p → NotQueued s p → knows t.others p u ≡ knows s.others p u

-- every request, and every one but p
abbrev pub Every : ℕ → Type 0
Every x = Unit {0}

abbrev pub But : ℕ → ℕ → Type 0
But p x = x ≡ p → ⊥

-- ---- what is said

-- P holds of each thing said
unfoldable pub Each : (Said → Type 0) → List Said → Type 0
Each P [] = Unit {0}
Each P (a ∷ l) = P a × Each P l

-- s had not said so: it had not voted on the request, or held it open
abbrev pub NewAt : Site → Said → Type 0
NewAt s (vote p t m) = is_vote (mark_at s p) ≡ false
NewAt s (rule p t d) = is_open (verdict_at s p) ≡ true

-- u says so: that is its vote, or its verdict
abbrev pub HoldsThere : Site → Said → Type 0
HoldsThere u (vote p t m) = (is_vote m ≡ true) × (mark_at u p ≡ m)
HoldsThere u (rule p t d) = (is_open d ≡ false) × (verdict_at u p ≡ d)

-- it is said of a request that s had deferred
abbrev pub OfDeferred : Site → Said → Type 0
OfDeferred s (vote p t m) = mark_at s p ≡ mark.Deferred
OfDeferred s (rule p t d) = mark_at s p ≡ mark.Deferred

-- not two votes on one request, and not two verdicts
abbrev pub Apart : Said → Said → Type 0
Apart (vote p t m) (vote q u k) = q ≡ p → ⊥
Apart (vote p t m) (rule q u e) = Unit {0}
Apart (rule p t d) (vote q u k) = Unit {0}
Apart (rule p t d) (rule q u e) = q ≡ p → ⊥

-- nothing is said twice
unfoldable pub NoneTwice : List Said → Type 0
NoneTwice [] = Unit {0}
NoneTwice (a ∷ l) = Each (Apart a) l × NoneTwice l

-- from s to u all this was said
pub record LogOf (s : Site) (l : List Said) (u : Site) : Type 0 where
  pub new : Each (NewAt s) l
  pub once : NoneTwice l
  pub holds : Each (HoldsThere u) l
