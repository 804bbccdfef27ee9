-- What is said: each vote is of a request that had none, each verdict of one that was open, none is said twice, and all of it stands at the
-- end. In a walk each is of a request that was deferred.
use Prim.Native.Nat.{ℕ, ◌<◌}
use mathlib.Core.Bool.{Bool, true, false}
use mathlib.Core.List.{List, [], ◌∷◌}
use mathlib.Core.Path.{◌≡◌, refl, sym, ap, ◌∙◌}
use Rattle.kit.proofs.Bools.{clash, by_test}
use Rattle.vote.specs.Consider.{defers}
use Rattle.vote.specs.Data.{is_open, is_deferred, request_in}
use Rattle.vote.specs.Verdicts.{ruled}
use Rattle.vote.specs.declared.data.Mark.TheVariants as mark
use Rattle.vote.specs.declared.data.Request.{Request}
use Rattle.vote.specs.declared.data.Site.{Site}
use Rattle.vote.specs.declared.data.Verdict.{Verdict}
use Rattle.vote.specs.declared.data.Vote.{Vote}
use Rattle.vote.proofs.MarkKinds.{unmarked_is}
use Rattle.vote.proofs.Said.{Says, ruled_says}
use Rattle.walk.specs.Hearing.{outcome_of, taken_up, received}
use Rattle.walk.specs.Order.{mark_at, verdict_at, is_vote, InOrder, SaidStays, Each, NewAt, HoldsThere, OfDeferred, Apart, NoneTwice, LogOf}
use Rattle.walk.specs.Walking.{Said, vote, rule, queued, voted_at, due_at, ruled_at, says_vote, says_rule, walked, resolved}
use Rattle.walk.proofs.HearingInductions.{New, voted_on, joined_on, due_on, ruled_on, says_vote_on, ConsideringLinks, HearingLinks, taken_linked, received_linked}
use Rattle.walk.proofs.Inductions.{Turn, Links, walked_linked}
use Rattle.walk.proofs.Laters.{stays_then, later_deferred, later_joined, later_ruled, turn_later, turn_still_open, turn_ruled_later, voted_on_says, voted_on_later, voted_on_open, voted_on_order}
use Rattle.walk.proofs.Orders.{in_order_turns, in_order_considering, in_order_hearing, in_order_ruled, in_order_joined}
use Rattle.walk.proofs.TurnLaws.{outcome_votes, says_mark, says_verdict, mark_elsewhere, turn_deferred, turn_vote, turn_not_deferred, turn_voted, turn_ruled}

-- ---- each

pub each_map : (P Q : Said → Type 0) (l : List Said) → ((a : Said) → P a → Q a) → Each P l → Each Q l
unfolding Each
each_map P Q [] f e = tt
each_map P Q (a ∷ l) f e = (f a e.0, each_map P Q l f e.1)

-- ---- what was said, before and after

-- what is new later was new before
new_before : {s t : Site} → SaidStays s t → (a : Said) → NewAt t a → NewAt s a
new_before {s} y (vote p t m) e = by_test (is_vote (mark_at s p)) (λ v. clash (ap is_vote (y.marks p v) ∙ v) e) (λ f. f)
new_before {s} y (rule p t d) e = by_test (is_open (verdict_at s p)) (λ v. v) (λ f. clash e (ap is_open (y.verdicts p f) ∙ f))

-- what stands stays
holds_later : {t u : Site} → SaidStays t u → (a : Said) → HoldsThere t a → HoldsThere u a
holds_later y (vote p t m) h = (h.0, y.marks p (ap is_vote h.1 ∙ h.0) ∙ h.1)
holds_later y (rule p t d) h = (h.0, y.verdicts p (ap is_open h.1 ∙ h.0) ∙ h.1)

-- what stands is not said again
not_again : (t : Site) (a : Said) → HoldsThere t a → (b : Said) → NewAt t b → Apart a b
not_again t (vote p i m) h (vote q j k) e = λ z. clash (ap is_vote (ap (mark_at t) z ∙ h.1) ∙ h.0) e
not_again t (vote p i m) h (rule q j k) e = tt
not_again t (rule p i d) h (vote q j k) e = tt
not_again t (rule p i d) h (rule q j k) e = λ z. clash e (ap is_open (ap (verdict_at t) z ∙ h.1) ∙ h.0)

-- from s to u all this was said, and what was said before stays
pub record Tells (s : Site) (l : List Said) (u : Site) : Type 0 where
  pub stays : SaidStays s u
  pub log : LogOf s l u

pub tells_nothing : {s u : Site} → SaidStays s u → Tells s [] u
unfolding Each NoneTwice
tells_nothing y = record { stays = y; log = record { new = tt; once = tt; holds = tt } }

-- a change that says nothing
pub tells_after : {s t u : Site} {l : List Said} → SaidStays s t → Tells t l u → Tells s l u
tells_after {s} {t} {u} {l} y r = record {
  stays = stays_then y r.stays;
  log = record { new = each_map (NewAt t) (NewAt s) l (new_before y) r.log.new; once = r.log.once; holds = r.log.holds };
}

-- a change that says a
pub tells_more : {s t u : Site} {l : List Said} (a : Said) → NewAt s a → HoldsThere t a → SaidStays s t → Tells t l u → Tells s (a ∷ l) u
unfolding Each NoneTwice
tells_more {s} {t} {u} {l} a n h y r = record {
  stays = stays_then y r.stays;
  log = record {
    new = (n, each_map (NewAt t) (NewAt s) l (new_before y) r.log.new);
    once = (each_map (NewAt t) (Apart a) l (not_again t a h) r.log.new, r.log.once);
    holds = (holds_later r.stays a h, r.log.holds);
  };
}

-- one deferred later was deferred before
deferred_before : {s t : Site} {p : ℕ} {v : Vote} → Says p v s t → is_deferred v.mark ≡ false → (x : ℕ) → mark_at t x ≡ mark.Deferred → mark_at s x ≡ mark.Deferred
deferred_before {s} {t} {p} y f x e =
    sym (mark_elsewhere y x (λ z. clash (ap is_deferred (sym (says_mark y) ∙ ap (mark_at t) (sym z) ∙ e)) f)) ∙ e

of_deferred : {s t : Site} {p : ℕ} {v : Vote} → Says p v s t → is_deferred v.mark ≡ false → (a : Said) → OfDeferred t a → OfDeferred s a
of_deferred y f (vote x t m) e = deferred_before y f x e
of_deferred y f (rule x t d) e = deferred_before y f x e

-- ---- a walk

module _ (me n : ℕ) (rs : List Request) where
  module _ {b : Bool} {s : Site} {i : ℕ} (o : InOrder s) (t : Turn me n rs b s i) {l : List Said} {u : Site} where
    turn_tells : Tells (voted_at me n rs s i) l u → Tells s (says_vote me n rs s i ∷ l) u
    turn_tells r =
        tells_more (says_vote me n rs s i) (ap is_vote (turn_deferred o t)) (turn_vote o t, says_mark (turn_voted o t)) (turn_later me n rs o t).said r

    turn_rules : is_open (due_at me n rs s i) ≡ false → Tells (ruled_at me n rs s i) l u
        → Tells (voted_at me n rs s i) (says_rule me n rs (queued s i) (due_at me n rs s i) ∷ l) u
    turn_rules d r =
        tells_more (says_rule me n rs (queued s i) (due_at me n rs s i)) (turn_still_open me n rs o t) (d, says_verdict (turn_ruled o t))
        (turn_ruled_later me n rs o t).said r

  pub tells_turns : Links me n rs InOrder Tells
  tells_turns = record {
    ends = λ o. tells_nothing (record { marks = λ p v. refl; verdicts = λ p v. refl });
    votes = λ t o r. turn_tells o t r;
    rules = λ t o r. turn_tells o t (turn_rules o t t.due r);
  }

  tells_walked : (s : Site) (i : ℕ) → InOrder s → Tells s (walked me n rs s i).log (walked me n rs s i).site
  tells_walked s i o = walked_linked me n rs s i (in_order_turns me n rs) tells_turns o

  pub log_walked : (s : Site) (i : ℕ) → InOrder s → LogOf s (walked me n rs s i).log (walked me n rs s i).site
  log_walked s i o = (tells_walked s i o).log

  -- each is of a request that was deferred

  deferred_turns : Links me n rs InOrder (λ s l u. Each (OfDeferred s) l)
  unfolding Each
  deferred_turns = record {
    ends = λ o. tt;
    votes = λ {s} {i} {l} t o r.
        (turn_deferred o t, each_map (OfDeferred (voted_at me n rs s i)) (OfDeferred s) l (of_deferred (turn_voted o t) (turn_not_deferred o t)) r);
    rules = λ {s} {i} {l} t o r.
        (turn_deferred o t, (turn_deferred o t, each_map (OfDeferred (ruled_at me n rs s i)) (OfDeferred s) l (of_deferred (turn_ruled o t) (turn_not_deferred o t)) r));
  }

  pub log_deferred : (s : Site) (i : ℕ) → InOrder s → Each (OfDeferred s) (walked me n rs s i).log
  log_deferred s i o = walked_linked me n rs {R = λ s l u. Each (OfDeferred s) l} s i (in_order_turns me n rs) deferred_turns o

  -- ---- a request that it begins or hears of, at a place of the table

  module _ (p : ℕ) (h : p < 16) where
    rules_tells
        : {s : Site} {l : List Said} {u : Site} → InOrder s → (d : Verdict) → is_open (verdict_at s p) ≡ true → is_open d ≡ false → Tells (ruled_on rs s p d) l u
        → Tells s (says_rule me n rs p d ∷ l) u
    rules_tells {s} o d e f r =
        tells_more (says_rule me n rs p d) e (f, says_verdict (ruled_says s (request_in rs p) p d (rw o.shaped.votes h))) (later_ruled o p h (request_in rs p) d e).said r

    voted_on_tells
        : {s : Site} {l : List Said} {u : Site} → New s p → defers (outcome_of me n rs s p) ≡ false → InOrder s → Tells (voted_on me n rs s p) l u
        → Tells s (says_vote_on me n rs s p ∷ l) u
    voted_on_tells {s} new e o r =
        tells_more (says_vote_on me n rs s p) (ap is_vote (unmarked_is (mark_at s p) new.unmarked))
        (outcome_votes (outcome_of me n rs s p) e, says_mark (voted_on_says me n rs p h new e o)) (voted_on_later me n rs p h new e o).said r

    tells_considering : ConsideringLinks me n rs p InOrder Tells
    tells_considering = record {
      queues = λ new e o. tells_nothing (later_deferred o p h new.unmarked).said;
      votes = λ new e f o. voted_on_tells new e o (tells_nothing (record { marks = λ q v. refl; verdicts = λ q v. refl }));
      rules = λ {s} new e f o r.
          voted_on_tells new e o (rules_tells (voted_on_order me n rs p h new e o) (due_on n (voted_on me n rs s p) p) (voted_on_open me n rs p h new e o) f r);
    }

    tells_hearing : (sent : Verdict) (oks others : List Bool) → HearingLinks me n rs p sent oks others InOrder Tells
    tells_hearing sent oks others = record {
      considers = tells_considering;
      joins = λ e f d o r. tells_after (later_joined o p h oks others).said r;
      learns = λ {s} e f d o r.
          tells_after (later_joined o p h oks others).said (rules_tells (in_order_joined o p h oks others) (due_on n (joined_on s p oks others) p) e d r);
      takes = λ e f o r. rules_tells o sent e f r;
    }

    pub log_resolved
        : (s : Site) (d : Verdict) → is_open (verdict_at s p) ≡ true → is_open d ≡ false → InOrder s → LogOf s (resolved me n rs s p d).log (resolved me n rs s p d).site
    log_resolved s d e f o =
        (rules_tells o d e f (tells_walked (ruled s (request_in rs p) p d) 0 (in_order_ruled o p h (request_in rs p) d))).log

    pub log_taken : (s : Site) → New s p → InOrder s → LogOf s (taken_up me n rs s p).log (taken_up me n rs s p).site
    log_taken s new o =
        (taken_linked me n rs p (in_order_turns me n rs) tells_turns (in_order_considering me n rs p h) tells_considering s new o).log

    pub log_received
        : (s : Site) (sent : Verdict) (oks others : List Bool) → InOrder s
        → LogOf s (received me n rs s p sent oks others).log (received me n rs s p sent oks others).site
    log_received s sent oks others o =
        (received_linked me n rs p sent oks others (in_order_turns me n rs) tells_turns (in_order_hearing me n rs p h sent oks others) (tells_hearing sent oks others) s o).log
