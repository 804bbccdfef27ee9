-- A site in order stays so: through each change, through a walk, and through all that it does with a request that it begins or hears of.
use Prim.Native.Nat.{ℕ, ◌<◌}
use mathlib.Core.Bool.{Bool, true, false}
use mathlib.Core.List.{List}
use mathlib.Core.Path.{◌≡◌, refl, sym, ap, ◌∙◌}
use native.Mathlib.Omega.{arith}
use lib.ListN.{length}
use Rattle.kit.proofs.Bools.{clash, by_eq, by_test, of_cond}
use Rattle.vote.specs.Consider.{mark_of, defers}
use Rattle.vote.specs.Data.{is_open, is_unmarked, is_deferred, request_in}
use Rattle.vote.specs.Queue.{leaves_queue, place_in_queue}
use Rattle.vote.specs.Shape.{ShapedSite}
use Rattle.vote.specs.Verdicts.{ruled}
use Rattle.vote.specs.Voting.{voted, deferred, voted_from_queue}
use Rattle.vote.specs.declared.data.Mark.{Mark}
use Rattle.vote.specs.declared.data.Mark.TheVariants as mark
use Rattle.vote.specs.declared.data.Request.{Request}
use Rattle.vote.specs.declared.data.Site.{Site}
use Rattle.vote.specs.declared.data.Verdict.{Verdict}
use Rattle.vote.specs.declared.data.Vote.{Vote}
use Rattle.vote.proofs.After.{QueueOf, deferred_queue, voted_from_queue_lem, released_queue, ruled_queue_deferred, ruled_queue_other, queue_then}
use Rattle.vote.proofs.Fields.{voted_keeps}
use Rattle.vote.proofs.MarkKinds.{deferred_is, unmarked_is, after_not_deferred}
use Rattle.vote.proofs.Queues.{place_hit, waits_found}
use Rattle.vote.proofs.Said.{Says, deferred_says, voted_says, voted_from_says, ruled_says}
use Rattle.vote.proofs.Shapes.{SameShape, deferred_shape, voted_shape, voted_from_shape, ruled_shape, shaped_as, joined_shape}
use Rattle.walk.specs.Hearing.{outcome_of, settled, taken_up, received}
use Rattle.walk.specs.Order.{mark_at, verdict_at, DeferredOpen, InOrder, is_vote}
use Rattle.walk.specs.Walking.{Out, walked, resolved, queued}
use Rattle.walk.proofs.HearingInductions.{New, voted_on, joined_on, due_on, ConsideringKeeps, HearingKeeps, taken_kept, received_kept}
use Rattle.walk.proofs.Inductions.{Keeps, walked_kept}
use Rattle.walk.proofs.Queued.{orderly_out, orderly_same, orderly_in, orderly_kept, deferred_waits, room, blank_out, blank_same, blank_in}
use Rattle.walk.proofs.TurnLaws.{outcome_votes, vote_not_deferred, says_mark, says_verdict, mark_elsewhere, verdict_elsewhere, turn_voted, turn_ruled, turn_left, turn_ruled_left, turn_not_deferred, turn_shape, turn_ruled_shape}

-- ---- deferred and open

-- what is said of one request is no deferral, or is open
pub deferred_open_says : {s t : Site} {p : ℕ} {v : Vote} → Says p v s t → (v.mark ≡ mark.Deferred → is_open v.verdict ≡ true) → DeferredOpen s → DeferredOpen t
deferred_open_says {s} {t} {p} {v} y h d = record {
  held = λ x e.
      by_eq x p (λ z. rw (z, says_verdict y) (h (sym (says_mark y) ∙ ap (mark_at t) (sym z) ∙ e)))
      (λ ne. rw (verdict_elsewhere y x ne) (d.held x (sym (mark_elsewhere y x ne) ∙ e)));
}

no_deferral : {m : Mark} {A : Type 0} → is_deferred m ≡ false → m ≡ mark.Deferred → A
no_deferral f e = clash (ap is_deferred e) f

-- ---- an empty queue, and nothing deferred

pub in_order_empty
    : {s : Site} → ShapedSite s → s.waiting ≡ 0 → ((k : ℕ) → queued s k ≡ 0) → ((p : ℕ) → is_deferred (mark_at s p) ≡ false) → InOrder s
in_order_empty {s} h e z f = record {
  shaped = h;
  queue = record {
    few = omega arith;
    place = λ k l. absurd (let y : ⊥ = omega arith in y);
    deferred = λ k l. absurd (let y : ⊥ = omega arith in y);
    all = λ p l d. no_deferral (f p) d;
    once = λ j k l i d. absurd (let y : ⊥ = omega arith in y);
  };
  end = record { blank = λ k l. z k };
  deferred = record { held = λ p d. no_deferral (f p) d };
}

-- ---- the site s, later t, which says v of the request at place p

module _ {s t : Site} {p : ℕ} {v : Vote} (o : InOrder s) (e : SameShape s t) (y : Says p v s t) (f : is_deferred v.mark ≡ false) where
  -- p stood at place i of the queue and left it
  pub in_order_out : {i : ℕ} → i < s.waiting → queued s i ≡ p → QueueOf (leaves_queue s i) t → InOrder t
  in_order_out h at q = record {
    shaped = shaped_as e o.shaped;
    queue = orderly_out o.queue y h at q f;
    end = blank_out o.end h q;
    deferred = deferred_open_says y (λ z. no_deferral f z) o.deferred;
  }

  -- p was not in the queue and is not
  pub in_order_same : QueueOf s t → is_deferred (mark_at s p) ≡ false → InOrder t
  in_order_same q g = record {
    shaped = shaped_as e o.shaped;
    queue = orderly_same o.queue y q g f;
    end = blank_same o.end q;
    deferred = deferred_open_says y (λ z. no_deferral f z) o.deferred;
  }

-- ---- each change at the place p of the table

module _ {s : Site} (o : InOrder s) (p : ℕ) (h : p < 16) where
  held : p < length s.votes
  held = rw o.shaped.votes h

  not_deferred : is_unmarked (mark_at s p) ≡ true → is_deferred (mark_at s p) ≡ false
  not_deferred e = ap is_deferred (unmarked_is (mark_at s p) e)

  -- a request that had no mark is deferred
  pub in_order_deferred : is_unmarked (mark_at s p) ≡ true → is_open (verdict_at s p) ≡ true → InOrder (deferred s p)
  in_order_deferred e f =
      let y = deferred_says s p held in
      record {
        shaped = shaped_as (deferred_shape s p) o.shaped;
        queue = orderly_in o.queue y h o.shaped.queue (deferred_queue s p) (not_deferred e) refl;
        end = blank_in p o.end (room o.queue h (not_deferred e)) (deferred_queue s p);
        deferred = deferred_open_says y (λ z. f) o.deferred;
      }

  -- or it is voted on
  pub in_order_voted : (me : ℕ) (m : Mark) → is_unmarked (mark_at s p) ≡ true → is_vote m ≡ true → InOrder (voted me s p m)
  in_order_voted me m e f =
      let k = voted_keeps me s p m in
      in_order_same o (voted_shape me s p m) (voted_says s p held me m) (vote_not_deferred m f) (record { queue = k.queue; waiting = k.waiting }) (not_deferred e)

  -- it votes from place i of the queue
  pub in_order_voted_from : (me i : ℕ) (m : Mark) → i < s.waiting → queued s i ≡ p → is_vote m ≡ true → InOrder (voted_from_queue me s i p m)
  in_order_voted_from me i m l at f =
      in_order_out o (voted_from_shape me s i p m) (voted_from_says me s i p m held) (vote_not_deferred m f) l at (voted_from_queue_lem me s i p m)

  -- it gets a verdict; where it was deferred, it leaves the queue
  pub in_order_ruled : (q : Request) (d : Verdict) → InOrder (ruled s q p d)
  in_order_ruled q d =
      by_test (is_deferred (mark_at s p))
      (λ e. let k : place_in_queue s.queue s.waiting p < s.waiting = waits_found s p (deferred_waits o.queue h (deferred_is (mark_at s p) e)) in
      in_order_out o (ruled_shape s q p d) (ruled_says s q p d held) (after_not_deferred (mark_at s p)) k (place_hit s.queue s.waiting p k)
      (queue_then (released_queue s p k) (ruled_queue_deferred s p q d e)))
      (λ f. in_order_same o (ruled_shape s q p d) (ruled_says s q p d held) (after_not_deferred (mark_at s p)) (ruled_queue_other s p q d f) f)

  -- voters are joined to those known
  pub in_order_joined : (oks others : List Bool) → InOrder (joined_on s p oks others)
  in_order_joined oks others = record {
    shaped = shaped_as (joined_shape s p oks others) o.shaped;
    queue = orderly_kept (record { queue = refl; waiting = refl }) refl o.queue;
    end = record { blank = o.end.blank };
    deferred = record { held = o.deferred.held };
  }

-- ---- each turn, and so a walk

module _ (me n : ℕ) (rs : List Request) where
  pub in_order_turns : Keeps me n rs InOrder
  in_order_turns = record {
    votes = λ {s} {i} t o. in_order_out o (turn_shape me n rs s i) (turn_voted o t) (turn_not_deferred o t) t.inside refl (turn_left o t);
    rules = λ {s} {i} t o. in_order_out o (turn_ruled_shape me n rs s i) (turn_ruled o t) (turn_not_deferred o t) t.inside refl (turn_ruled_left o t);
  }

  pub in_order_walked : (s : Site) (i : ℕ) → InOrder s → InOrder (walked me n rs s i).site
  in_order_walked s i o = walked_kept me n rs s i in_order_turns o

  pub in_order_resolved : (s : Site) (p : ℕ) (d : Verdict) → p < 16 → InOrder s → InOrder (resolved me n rs s p d).site
  in_order_resolved s p d h o = in_order_walked (ruled s (request_in rs p) p d) 0 (in_order_ruled o p h (request_in rs p) d)

  -- ---- a request that it begins or hears of, at a place of the table

  module _ (p : ℕ) (h : p < 16) where
    in_order_voted_on : {s : Site} → New s p → defers (outcome_of me n rs s p) ≡ false → InOrder s → InOrder (voted_on me n rs s p)
    in_order_voted_on {s} new e o = in_order_voted o p h me (mark_of (outcome_of me n rs s p)) new.unmarked (outcome_votes (outcome_of me n rs s p) e)

    pub in_order_considering : ConsideringKeeps me n rs p InOrder
    in_order_considering = record {
      queues = λ new e o. in_order_deferred o p h new.unmarked new.held;
      votes = λ new e f o. in_order_voted_on new e o;
      rules = λ {s} new e f o. in_order_ruled (in_order_voted_on new e o) p h (request_in rs p) (due_on n (voted_on me n rs s p) p);
    }

    pub in_order_hearing : (sent : Verdict) (oks others : List Bool) → HearingKeeps me n rs p sent oks others InOrder
    in_order_hearing sent oks others = record {
      considers = in_order_considering;
      joins = λ e f d o. in_order_joined o p h oks others;
      learns = λ {s} e f d o. in_order_ruled (in_order_joined o p h oks others) p h (request_in rs p) (due_on n (joined_on s p oks others) p);
      takes = λ e f o. in_order_ruled o p h (request_in rs p) sent;
    }

    pub in_order_settled : (s : Site) → InOrder s → InOrder (settled me n rs s p).site
    unfolding settled
    in_order_settled s o =
        of_cond (λ (t : Out). InOrder t.site) (is_open (due_on n s p)) (λ y. o) (λ f. in_order_resolved s p (due_on n s p) h o)

    pub in_order_taken : (s : Site) → New s p → InOrder s → InOrder (taken_up me n rs s p).site
    in_order_taken s new o = taken_kept me n rs p in_order_turns in_order_considering s new o

    pub in_order_received : (s : Site) (sent : Verdict) (oks others : List Bool) → InOrder s → InOrder (received me n rs s p sent oks others).site
    in_order_received s sent oks others o = received_kept me n rs p sent oks others in_order_turns (in_order_hearing sent oks others) s o
