-- What each change of a site leaves as it was.
use mathlib.Core.Path.{◌≡◌, refl, ◌∙◌}
use mathlib.Core.Bool.{Bool, true, false, ◌&&◌}
use Prim.Native.Nat.{ℕ}
use lib.Dec.{eqb, ltb}
use Rattle.kit.proofs.Bools.{of_cond}
use Rattle.vote.specs.Consider.{mark_of, defers}
use Rattle.vote.specs.Data.{is_ok_vote, is_deferred, vote_at}
use Rattle.vote.specs.Queue.{joins_queue, leaves_queue, place_in_queue}
use Rattle.vote.specs.Verdicts.{written_up_to, written_site, released, noted, decided, ruled}
use Rattle.vote.specs.Voting.{marked, counts_itself, voted, deferred, kept_outcome, voted_from_queue}
use Rattle.vote.specs.declared.consider.Outcome.{Outcome}
use Rattle.vote.specs.declared.data.Mark.{Mark}
use Rattle.vote.specs.declared.data.Mark.TheVariants as mark
use Rattle.vote.specs.declared.data.Request.{Request}
use Rattle.vote.specs.declared.data.Site.{Site}
use Rattle.vote.specs.declared.data.Verdict.{Verdict}
use Rattle.vote.specs.declared.data.Verdict.TheVariants as verdict

-- a group of fields stays as it was, or may change
abbrev pub stays : Bool
stays = true

abbrev pub may_change : Bool
may_change = false

abbrev pub Only : Bool → Type 0 → Type 0
Only true A = A
Only false A = Unit

-- of the site s, changed to t: its copies, its queue, what it said, the voters that it knows. Nothing here changes whether it is up, or its last t.
pub record Kept (copies queued said known : Bool) (s t : Site) : Type 0 where
  pub up : t.up ≡ s.up
  pub last : t.last ≡ s.last
  pub stamps : Only copies (t.stamps ≡ s.stamps)
  pub values : Only copies (t.values ≡ s.values)
  pub queue : Only queued (t.queue ≡ s.queue)
  pub waiting : Only queued (t.waiting ≡ s.waiting)
  pub votes : Only said (t.votes ≡ s.votes)
  pub oks : Only known (t.oks ≡ s.oks)
  pub others : Only known (t.others ≡ s.others)

only_same : {A : Type 0} (x : A) (a : Bool) → Only a (x ≡ x)
only_same x true = refl
only_same x false = tt

only_then : {A : Type 0} (x y z : A) (a b : Bool) → Only a (y ≡ x) → Only b (z ≡ y) → Only (a && b) (z ≡ x)
only_then x y z true true e f = f ∙ e
only_then x y z true false e f = tt
only_then x y z false b e f = tt

-- what is not changed is kept
kept_same : (a b c d : Bool) (s : Site) → Kept a b c d s s
kept_same a b c d s =
    record {
      up = refl;
      last = refl;
      stamps = only_same s.stamps a;
      values = only_same s.values a;
      queue = only_same s.queue b;
      waiting = only_same s.waiting b;
      votes = only_same s.votes c;
      oks = only_same s.oks d;
      others = only_same s.others d;
    }

-- one change after the other
pub kept_then : {a b c d e f g h : Bool} {s t u : Site} → Kept a b c d s t → Kept e f g h t u → Kept (a && e) (b && f) (c && g) (d && h) s u
kept_then {a} {b} {c} {d} {e} {f} {g} {h} {s} {t} {u} k l =
    record {
      up = l.up ∙ k.up;
      last = l.last ∙ k.last;
      stamps = only_then s.stamps t.stamps u.stamps a e k.stamps l.stamps;
      values = only_then s.values t.values u.values a e k.values l.values;
      queue = only_then s.queue t.queue u.queue b f k.queue l.queue;
      waiting = only_then s.waiting t.waiting u.waiting b f k.waiting l.waiting;
      votes = only_then s.votes t.votes u.votes c g k.votes l.votes;
      oks = only_then s.oks t.oks u.oks d h k.oks l.oks;
      others = only_then s.others t.others u.others d h k.others l.others;
    }

module _ (s : Site) where
  pub marked_keeps : (p : ℕ) (m : Mark) → Kept stays stays may_change stays s (marked s p m)
  unfolding marked
  marked_keeps p m = record { up = refl; last = refl; stamps = refl; values = refl; queue = refl; waiting = refl; votes = tt; oks = refl; others = refl }

  pub noted_keeps : (p : ℕ) (d : Verdict) → Kept stays stays may_change stays s (noted s p d)
  unfolding noted
  noted_keeps p d = record { up = refl; last = refl; stamps = refl; values = refl; queue = refl; waiting = refl; votes = tt; oks = refl; others = refl }

  pub written_keeps : (q : Request) → Kept may_change stays stays stays s (written_site s q)
  unfolding written_site written_up_to
  written_keeps q = record { up = refl; last = refl; stamps = tt; values = tt; queue = refl; waiting = refl; votes = refl; oks = refl; others = refl }

  pub joins_keeps : (p : ℕ) → Kept stays may_change stays stays s (joins_queue s p)
  unfolding joins_queue
  joins_keeps p = record { up = refl; last = refl; stamps = refl; values = refl; queue = tt; waiting = tt; votes = refl; oks = refl; others = refl }

  pub leaves_keeps : (i : ℕ) → Kept stays may_change stays stays s (leaves_queue s i)
  unfolding leaves_queue
  leaves_keeps i =
      of_cond (Kept stays may_change stays stays s) (eqb s.waiting 0) (λ y. kept_same stays may_change stays stays s)
      (λ n. record { up = refl; last = refl; stamps = refl; values = refl; queue = tt; waiting = tt; votes = refl; oks = refl; others = refl })

  pub counts_keeps : (me p : ℕ) (m : Mark) → Kept stays stays stays may_change s (counts_itself me s p m)
  unfolding counts_itself
  counts_keeps me p m =
      of_cond (Kept stays stays stays may_change s) (is_ok_vote m)
      (λ y. record { up = refl; last = refl; stamps = refl; values = refl; queue = refl; waiting = refl; votes = refl; oks = tt; others = tt })
      (λ n. record { up = refl; last = refl; stamps = refl; values = refl; queue = refl; waiting = refl; votes = refl; oks = tt; others = tt })

pub voted_keeps : (me : ℕ) (s : Site) (p : ℕ) (m : Mark) → Kept stays stays may_change may_change s (voted me s p m)
unfolding voted
voted_keeps me s p m = kept_then (marked_keeps s p m) (counts_keeps (marked s p m) me p m)

pub deferred_keeps : (s : Site) (p : ℕ) → Kept stays may_change may_change stays s (deferred s p)
unfolding deferred
deferred_keeps s p = kept_then (marked_keeps s p mark.Deferred) (joins_keeps (marked s p mark.Deferred) p)

pub kept_keeps : (me : ℕ) (s : Site) (p : ℕ) (o : Outcome) → Kept stays may_change may_change may_change s (kept_outcome me s p o)
unfolding kept_outcome
kept_keeps me s p o =
    of_cond (Kept stays may_change may_change may_change s) (defers o)
    (λ y. kept_then (deferred_keeps s p) (kept_same stays stays stays may_change (deferred s p)))
    (λ n. kept_then (voted_keeps me s p (mark_of o)) (kept_same stays may_change stays stays (voted me s p (mark_of o))))

pub voted_from_keeps : (me : ℕ) (s : Site) (i p : ℕ) (m : Mark) → Kept stays may_change may_change may_change s (voted_from_queue me s i p m)
unfolding voted_from_queue
voted_from_keeps me s i p m = kept_then (leaves_keeps s i) (voted_keeps me (leaves_queue s i) p m)

pub released_keeps : (s : Site) (p : ℕ) → Kept stays may_change may_change stays s (released s p)
unfolding released
released_keeps s p =
    of_cond (Kept stays may_change may_change stays s) (ltb (place_in_queue s.queue s.waiting p) s.waiting)
    (λ y. kept_then (marked_keeps s p mark.None) (leaves_keeps (marked s p mark.None) (place_in_queue s.queue s.waiting p)))
    (λ n. kept_then (marked_keeps s p mark.None) (kept_same stays may_change stays stays (marked s p mark.None)))

pub decided_keeps : (s : Site) (q : Request) (p : ℕ) (d : Verdict) → Kept may_change stays may_change stays s (decided s q p d)
unfolding decided
decided_keeps s q p verdict.Open = kept_then (noted_keeps s p verdict.Open) (kept_same may_change stays stays stays (noted s p verdict.Open))
decided_keeps s q p verdict.Accepted = kept_then (noted_keeps s p verdict.Accepted) (written_keeps (noted s p verdict.Accepted) q)
decided_keeps s q p verdict.Rejected = kept_then (noted_keeps s p verdict.Rejected) (kept_same may_change stays stays stays (noted s p verdict.Rejected))

pub ruled_keeps : (s : Site) (q : Request) (p : ℕ) (d : Verdict) → Kept may_change may_change may_change stays s (ruled s q p d)
unfolding ruled
ruled_keeps s q p d =
    of_cond (Kept may_change may_change may_change stays s) (is_deferred (vote_at s.votes p).mark)
    (λ y. kept_then (released_keeps s p) (decided_keeps (released s p) q p d))
    (λ n. kept_then (decided_keeps s q p d) (kept_same stays may_change stays stays (decided s q p d)))
