-- No change of a site makes one of its lists longer or shorter.
use mathlib.Core.Path.{◌≡◌, refl, ap, ◌∙◌}
use mathlib.Core.Bool.{Bool}
use mathlib.Core.List.{List}
use Prim.Native.Nat.{ℕ}
use lib.Dec.{ltb}
use lib.ListN.{length, length-set}
use Rattle.kit.proofs.Bools.{of_cond}
use Rattle.kit.proofs.Changes.{length_changed}
use Rattle.vote.specs.Consider.{mark_of, defers}
use Rattle.vote.specs.Data.{is_ok_vote, is_deferred, vote_at, with_known}
use Rattle.vote.specs.Queue.{joins_queue, leaves_queue, place_in_queue}
use Rattle.vote.specs.Shape.{ShapedSite}
use Rattle.vote.specs.Verdicts.{new_stamp, new_value, written_up_to, written_site, released, with_verdict, noted, decided, ruled}
use Rattle.vote.specs.Voters.{only_voter, join_voters}
use Rattle.vote.specs.Voting.{with_mark, marked, counts_itself, voted, deferred, kept_outcome, voted_from_queue}
use Rattle.vote.specs.declared.consider.Outcome.{Outcome}
use Rattle.vote.specs.declared.data.Mark.{Mark}
use Rattle.vote.specs.declared.data.Mark.TheVariants as mark
use Rattle.vote.specs.declared.data.Request.{Request}
use Rattle.vote.specs.declared.data.Site.{Site}
use Rattle.vote.specs.declared.data.Verdict.{Verdict}
use Rattle.vote.specs.declared.data.Verdict.TheVariants as verdict
use Rattle.vote.proofs.Fields.{Kept, stays, may_change, joins_keeps, leaves_keeps}
use Rattle.vote.proofs.KnownVoters.{length_join_voters}
use Rattle.vote.proofs.Queues.{length_joined, length_left}

-- t has as many of each as s
pub record SameShape (s t : Site) : Type 0 where
  pub stamps : length t.stamps ≡ length s.stamps
  pub values : length t.values ≡ length s.values
  pub queue : length t.queue ≡ length s.queue
  pub votes : length t.votes ≡ length s.votes
  pub oks : length t.oks ≡ length s.oks
  pub others : length t.others ≡ length s.others

pub shape_then : {s t u : Site} → SameShape s t → SameShape t u → SameShape s u
shape_then a b = record {
  stamps = b.stamps ∙ a.stamps;
  values = b.values ∙ a.values;
  queue = b.queue ∙ a.queue;
  votes = b.votes ∙ a.votes;
  oks = b.oks ∙ a.oks;
  others = b.others ∙ a.others;
}

-- so where the lists of s have their lengths, those of t have
pub shaped_as : {s t : Site} → SameShape s t → ShapedSite s → ShapedSite t
shaped_as a b = record {
  stamps = a.stamps ∙ b.stamps;
  values = a.values ∙ b.values;
  queue = a.queue ∙ b.queue;
  votes = a.votes ∙ b.votes;
  oks = a.oks ∙ b.oks;
  others = a.others ∙ b.others;
}

module _ (s : Site) where
  pub marked_shape : (p : ℕ) (m : Mark) → SameShape s (marked s p m)
  unfolding marked
  marked_shape p m =
      record { stamps = refl; values = refl; queue = refl; votes = length-set s.votes p (with_mark m (vote_at s.votes p)); oks = refl; others = refl }

  pub noted_shape : (p : ℕ) (d : Verdict) → SameShape s (noted s p d)
  unfolding noted
  noted_shape p d =
      record { stamps = refl; values = refl; queue = refl; votes = length-set s.votes p (with_verdict d (vote_at s.votes p)); oks = refl; others = refl }

  pub written_shape : (q : Request) → SameShape s (written_site s q)
  unfolding written_site written_up_to
  written_shape q = record {
    stamps = length_changed 24 (new_stamp s.stamps q) s.stamps;
    values = length_changed 24 (new_value s.stamps q) s.values;
    queue = refl;
    votes = refl;
    oks = refl;
    others = refl;
  }

  -- a change of the queue alone
  queue_shape : {t : Site} → Kept stays may_change stays stays s t → length t.queue ≡ length s.queue → SameShape s t
  queue_shape k q = record {
    stamps = ap length k.stamps;
    values = ap length k.values;
    queue = q;
    votes = ap length k.votes;
    oks = ap length k.oks;
    others = ap length k.others;
  }

  pub joins_shape : (p : ℕ) → SameShape s (joins_queue s p)
  joins_shape p = queue_shape (joins_keeps s p) (length_joined s p)

  pub leaves_shape : (i : ℕ) → SameShape s (leaves_queue s i)
  leaves_shape i = queue_shape (leaves_keeps s i) (length_left s i)

  -- voters joined to those known
  pub joined_shape : (p : ℕ) (oks others : List Bool) → SameShape s (with_known (join_voters s.oks p oks) (join_voters s.others p others) s)
  joined_shape p oks others = record {
    stamps = refl;
    values = refl;
    queue = refl;
    votes = refl;
    oks = length_join_voters s.oks p oks;
    others = length_join_voters s.others p others;
  }

  counts_shape : (me p : ℕ) (m : Mark) → SameShape s (counts_itself me s p m)
  unfolding counts_itself
  counts_shape me p m =
      of_cond (SameShape s) (is_ok_vote m)
      (λ y. record { stamps = refl; values = refl; queue = refl; votes = refl; oks = length_join_voters s.oks p (only_voter me); others = refl })
      (λ n. record { stamps = refl; values = refl; queue = refl; votes = refl; oks = refl; others = length_join_voters s.others p (only_voter me) })

pub voted_shape : (me : ℕ) (s : Site) (p : ℕ) (m : Mark) → SameShape s (voted me s p m)
unfolding voted
voted_shape me s p m = shape_then (marked_shape s p m) (counts_shape (marked s p m) me p m)

pub deferred_shape : (s : Site) (p : ℕ) → SameShape s (deferred s p)
unfolding deferred
deferred_shape s p = shape_then (marked_shape s p mark.Deferred) (joins_shape (marked s p mark.Deferred) p)

pub kept_shape : (me : ℕ) (s : Site) (p : ℕ) (o : Outcome) → SameShape s (kept_outcome me s p o)
unfolding kept_outcome
kept_shape me s p o = of_cond (SameShape s) (defers o) (λ y. deferred_shape s p) (λ n. voted_shape me s p (mark_of o))

pub voted_from_shape : (me : ℕ) (s : Site) (i p : ℕ) (m : Mark) → SameShape s (voted_from_queue me s i p m)
unfolding voted_from_queue
voted_from_shape me s i p m = shape_then (leaves_shape s i) (voted_shape me (leaves_queue s i) p m)

pub released_shape : (s : Site) (p : ℕ) → SameShape s (released s p)
unfolding released
released_shape s p =
    of_cond (SameShape s) (ltb (place_in_queue s.queue s.waiting p) s.waiting)
    (λ y. shape_then (marked_shape s p mark.None) (leaves_shape (marked s p mark.None) (place_in_queue s.queue s.waiting p)))
    (λ n. marked_shape s p mark.None)

pub decided_shape : (s : Site) (q : Request) (p : ℕ) (d : Verdict) → SameShape s (decided s q p d)
unfolding decided
decided_shape s q p verdict.Open = noted_shape s p verdict.Open
decided_shape s q p verdict.Accepted = shape_then (noted_shape s p verdict.Accepted) (written_shape (noted s p verdict.Accepted) q)
decided_shape s q p verdict.Rejected = noted_shape s p verdict.Rejected

pub ruled_shape : (s : Site) (q : Request) (p : ℕ) (d : Verdict) → SameShape s (ruled s q p d)
unfolding ruled
ruled_shape s q p d =
    of_cond (SameShape s) (is_deferred (vote_at s.votes p).mark) (λ y. shape_then (released_shape s p) (decided_shape (released s p) q p d))
    (λ n. decided_shape s q p d)
