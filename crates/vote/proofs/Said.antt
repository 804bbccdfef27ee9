-- What a site says of each request after each change.
use mathlib.Core.Path.{◌≡◌, refl, ap, ◌∙◌}
use mathlib.Core.Bool.{Bool, true, false, cond}
use mathlib.Core.List.{List}
use Prim.Native.Nat.{ℕ, ◌<◌}
use lib.Dec.{ltb}
use lib.ListN.{length, set, length-set}
use lib.Seq.{get_or-set_same, get_or-set_other}
use Rattle.kit.proofs.Bools.{of_cond}
use Rattle.vote.specs.Consider.{mark_of}
use Rattle.vote.specs.Data.{is_deferred, no_vote, vote_at}
use Rattle.vote.specs.Queue.{leaves_queue, place_in_queue}
use Rattle.vote.specs.Verdicts.{released, with_verdict, noted, decided, ruled}
use Rattle.vote.specs.Voting.{with_mark, marked, voted, deferred, kept_outcome, voted_from_queue}
use Rattle.vote.specs.declared.consider.Outcome.{Outcome}
use Rattle.vote.specs.declared.consider.Outcome.TheVariants as outcome
use Rattle.vote.specs.declared.data.Mark.{Mark}
use Rattle.vote.specs.declared.data.Mark.TheVariants as mark
use Rattle.vote.specs.declared.data.Request.{Request}
use Rattle.vote.specs.declared.data.Site.{Site}
use Rattle.vote.specs.declared.data.Verdict.{Verdict}
use Rattle.vote.specs.declared.data.Verdict.TheVariants as verdict
use Rattle.vote.specs.declared.data.Vote.{Vote}
use Rattle.vote.proofs.Fields.{counts_keeps, joins_keeps, leaves_keeps, written_keeps}

-- of the site s, changed to t: it says v of the request at place p, and of each other what it said
pub record Says (p : ℕ) (v : Vote) (s t : Site) : Type 0 where
  pub here : vote_at t.votes p ≡ v
  pub elsewhere : (q : ℕ) → (q ≡ p → ⊥) → vote_at t.votes q ≡ vote_at s.votes q
  pub long : length t.votes ≡ length s.votes

set_says : (s t : Site) (p : ℕ) (v : Vote) → p < length s.votes → t.votes ≡ set s.votes p v → Says p v s t
set_says s t p v h e = record {
  here = rw e (get_or-set_same s.votes p v no_vote h);
  elsewhere = λ q ne. rw e (get_or-set_other s.votes p q v no_vote ne);
  long = rw e (length-set s.votes p v);
}

-- before or after a change that leaves all that was said
says_kept : {p : ℕ} {v : Vote} {s t u : Site} → Says p v s t → u.votes ≡ t.votes → Says p v s u
says_kept y e = record { here = rw e y.here; elsewhere = λ q ne. rw e (y.elsewhere q ne); long = rw e y.long }

kept_says : {p : ℕ} {v : Vote} {s t u : Site} → t.votes ≡ s.votes → Says p v t u → Says p v s u
kept_says e y = record { here = y.here; elsewhere = λ q ne. rw (← e) (y.elsewhere q ne); long = rw (← e) y.long }

-- one change after the other at one place
pub says_then : {p : ℕ} {v w : Vote} {s t u : Site} → Says p v s t → Says p w t u → Says p w s u
says_then y z = record { here = z.here; elsewhere = λ q ne. z.elsewhere q ne ∙ y.elsewhere q ne; long = z.long ∙ y.long }

says_same : {p : ℕ} {v w : Vote} {s t : Site} → v ≡ w → Says p v s t → Says p w s t
says_same e y = record { here = y.here ∙ e; elsewhere = y.elsewhere; long = y.long }

-- the mark that a verdict leaves: "A deferred request that gets a verdict .. its mark becomes none."
abbrev pub mark_after : Mark → Mark
mark_after m = cond (is_deferred m) mark.None m

module _ (s : Site) (p : ℕ) (h : p < length s.votes) where
  pub marked_says : (m : Mark) → Says p (with_mark m (vote_at s.votes p)) s (marked s p m)
  unfolding marked
  marked_says m = set_says s (marked s p m) p (with_mark m (vote_at s.votes p)) h refl

  pub noted_says : (d : Verdict) → Says p (with_verdict d (vote_at s.votes p)) s (noted s p d)
  unfolding noted
  noted_says d = set_says s (noted s p d) p (with_verdict d (vote_at s.votes p)) h refl

  pub voted_says : (me : ℕ) (m : Mark) → Says p (with_mark m (vote_at s.votes p)) s (voted me s p m)
  unfolding voted
  voted_says me m = says_kept (marked_says m) (counts_keeps (marked s p m) me p m).votes

  pub deferred_says : Says p (with_mark mark.Deferred (vote_at s.votes p)) s (deferred s p)
  unfolding deferred
  deferred_says = says_kept (marked_says mark.Deferred) (joins_keeps (marked s p mark.Deferred) p).votes

  pub kept_says_it : (me : ℕ) (o : Outcome) → Says p (with_mark (mark_of o) (vote_at s.votes p)) s (kept_outcome me s p o)
  unfolding kept_outcome
  kept_says_it me outcome.Rej = voted_says me mark.Rej
  kept_says_it me outcome.DeferBase = deferred_says
  kept_says_it me outcome.Dr = voted_says me mark.Dr
  kept_says_it me outcome.DeferPending = deferred_says
  kept_says_it me outcome.Ok = voted_says me mark.Ok

  pub released_says : Says p (with_mark mark.None (vote_at s.votes p)) s (released s p)
  unfolding released
  released_says =
      of_cond (Says p (with_mark mark.None (vote_at s.votes p)) s) (ltb (place_in_queue s.queue s.waiting p) s.waiting)
      (λ y. says_kept (marked_says mark.None) (leaves_keeps (marked s p mark.None) (place_in_queue s.queue s.waiting p)).votes) (λ n. marked_says mark.None)

  pub decided_says : (q : Request) (d : Verdict) → Says p (with_verdict d (vote_at s.votes p)) s (decided s q p d)
  unfolding decided
  decided_says q verdict.Open = noted_says verdict.Open
  decided_says q verdict.Accepted = says_kept (noted_says verdict.Accepted) (written_keeps (noted s p verdict.Accepted) q).votes
  decided_says q verdict.Rejected = noted_says verdict.Rejected

pub voted_from_says
    : (me : ℕ) (s : Site) (i p : ℕ) (m : Mark) → p < length s.votes → Says p (with_mark m (vote_at s.votes p)) s (voted_from_queue me s i p m)
unfolding voted_from_queue
voted_from_says me s i p m h =
    let e : (leaves_queue s i).votes ≡ s.votes = (leaves_keeps s i).votes in
    let y : Says p (with_mark m (vote_at (leaves_queue s i).votes p)) (leaves_queue s i) (voted me (leaves_queue s i) p m) =
    voted_says (leaves_queue s i) p (rw e h) me m in
    kept_says e (says_same (ap (λ (l : List Vote). with_mark m (vote_at l p)) e) y)

pub ruled_says
    : (s : Site) (q : Request) (p : ℕ) (d : Verdict) → p < length s.votes
    → Says p (record { mark = mark_after (vote_at s.votes p).mark; verdict = d }) s (ruled s q p d)
unfolding ruled
ruled_says s q p d h = go (is_deferred (vote_at s.votes p).mark)
  where
    go : (b : Bool) → Says p (record { mark = cond b mark.None (vote_at s.votes p).mark; verdict = d }) s (cond b (decided (released s p) q p d) (decided s q p d))
    go true =
        let y = released_says s p h in
        let z : Says p (with_verdict d (vote_at (released s p).votes p)) (released s p) (decided (released s p) q p d) =
        decided_says (released s p) p (rw y.long h) q d in
        says_then y (rw y.here at z)
    go false = decided_says s p h q d
