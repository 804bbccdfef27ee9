-- Marks and verdicts by their kind: which one it is, which marks are votes, and which mark a verdict leaves; and the request at a place.
use mathlib.Core.Path.{◌≡◌, refl, ap}
use mathlib.Core.Bool.{true, false, not}
use mathlib.Core.List.{List}
use Prim.Native.Nat.{ℕ, ◌<◌}
use borrow.Author.Tests.{lt-ltb}
use Rattle.kit.proofs.Bools.{clash}
use Rattle.vote.specs.Consider.{mark_of, defers}
use Rattle.vote.specs.Data.{is_ok_vote, is_other, is_unmarked, is_deferred, is_open, request_at, request_in}
use Rattle.vote.specs.declared.consider.Outcome.{Outcome}
use Rattle.vote.specs.declared.consider.Outcome.TheVariants as outcome
use Rattle.vote.specs.declared.data.Mark.{Mark}
use Rattle.vote.specs.declared.data.Mark.TheVariants as mark
use Rattle.vote.specs.declared.data.Request.{Request}
use Rattle.vote.specs.declared.data.Verdict.{Verdict}
use Rattle.vote.specs.declared.data.Verdict.TheVariants as verdict
use Rattle.vote.proofs.Said.{mark_after}

-- ---- which one it is

pub open_is : (d : Verdict) → is_open d ≡ true → d ≡ verdict.Open
open_is verdict.Open e = refl
open_is verdict.Accepted e = clash e refl
open_is verdict.Rejected e = clash e refl

pub unmarked_is : (m : Mark) → is_unmarked m ≡ true → m ≡ mark.None
unmarked_is mark.None e = refl
unmarked_is mark.Deferred e = clash e refl
unmarked_is mark.Ok e = clash e refl
unmarked_is mark.Dr e = clash e refl
unmarked_is mark.Rej e = clash e refl

pub deferred_is : (m : Mark) → is_deferred m ≡ true → m ≡ mark.Deferred
deferred_is mark.None e = clash e refl
deferred_is mark.Deferred e = refl
deferred_is mark.Ok e = clash e refl
deferred_is mark.Dr e = clash e refl
deferred_is mark.Rej e = clash e refl

pub unmarked_not_deferred : (m : Mark) → is_unmarked m ≡ true → is_deferred m ≡ false
unmarked_not_deferred m e = ap is_deferred (unmarked_is m e)

pub deferred_marked : (m : Mark) → is_deferred m ≡ true → is_unmarked m ≡ false
deferred_marked m e = ap is_unmarked (deferred_is m e)

-- ---- votes

-- a mark that is no vote: none, or deferred
pub record NoVote (m : Mark) : Type 0 where
  pub no_ok : is_ok_vote m ≡ false
  pub no_other : is_other m ≡ false

pub unmarked_no_vote : (m : Mark) → is_unmarked m ≡ true → NoVote m
unmarked_no_vote m e = record { no_ok = ap is_ok_vote (unmarked_is m e); no_other = ap is_other (unmarked_is m e) }

pub deferred_no_vote : (m : Mark) → is_deferred m ≡ true → NoVote m
deferred_no_vote m e = record { no_ok = ap is_ok_vote (deferred_is m e); no_other = ap is_other (deferred_is m e) }

-- the mark of an outcome that is no deferral is a vote: OK, or one of the others
pub vote_kind : (x : Outcome) → defers x ≡ false → is_other (mark_of x) ≡ not (is_ok_vote (mark_of x))
vote_kind outcome.Rej e = refl
vote_kind outcome.DeferBase e = clash refl e
vote_kind outcome.Dr e = refl
vote_kind outcome.DeferPending e = clash refl e
vote_kind outcome.Ok e = refl

-- ---- the mark that a verdict leaves: no deferral, and a vote stays

pub after_not_deferred : (m : Mark) → is_deferred (mark_after m) ≡ false
after_not_deferred mark.None = refl
after_not_deferred mark.Deferred = refl
after_not_deferred mark.Ok = refl
after_not_deferred mark.Dr = refl
after_not_deferred mark.Rej = refl

pub after_ok : (m : Mark) → is_ok_vote (mark_after m) ≡ is_ok_vote m
after_ok mark.None = refl
after_ok mark.Deferred = refl
after_ok mark.Ok = refl
after_ok mark.Dr = refl
after_ok mark.Rej = refl

pub after_other : (m : Mark) → is_other (mark_after m) ≡ is_other m
after_other mark.None = refl
after_other mark.Deferred = refl
after_other mark.Ok = refl
after_other mark.Dr = refl
after_other mark.Rej = refl

-- ---- the request at a place of the table

pub request_in_lem : (rs : List Request) (p : ℕ) → p < 16 → request_in rs p ≡ request_at rs p
unfolding request_in
request_in_lem rs p h = rw (lt-ltb p 16 h)
