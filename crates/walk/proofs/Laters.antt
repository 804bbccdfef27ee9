-- A vote and a verdict once given stay, no copy's stamp falls, and no stamp is issued: through each change, through a walk, and through all
-- that a site does with a request that it begins or hears of.
use Prim.Native.Nat.{ℕ, ◌<◌}
use mathlib.Core.Bool.{Bool, true, false}
use mathlib.Core.List.{List}
use mathlib.Core.Path.{◌≡◌, refl, ap, ◌∙◌}
use native.Mathlib.Nat.{le_refl, le_trans}
use native.Mathlib.Omega.{arith}
use lib.ListN.{length, get_or}
use Rattle.kit.proofs.Bools.{clash, by_eq}
use Rattle.vote.specs.Consider.{mark_of, defers}
use Rattle.vote.specs.Data.{is_open, is_unmarked, request_in, vote_at}
use Rattle.vote.specs.Verdicts.{ruled}
use Rattle.vote.specs.Voting.{with_mark, voted, deferred, voted_from_queue}
use Rattle.vote.specs.declared.data.Mark.{Mark}
use Rattle.vote.specs.declared.data.Mark.TheVariants as mark
use Rattle.vote.specs.declared.data.Request.{Request}
use Rattle.vote.specs.declared.data.Site.{Site}
use Rattle.vote.specs.declared.data.Verdict.{Verdict}
use Rattle.vote.specs.declared.data.Verdict.TheVariants as verdict
use Rattle.vote.specs.declared.data.Vote.{Vote}
use Rattle.vote.proofs.After.{ruled_accepted, ruled_other}
use Rattle.vote.proofs.Fields.{deferred_keeps, voted_keeps, voted_from_keeps, ruled_keeps}
use Rattle.vote.proofs.MarkKinds.{unmarked_is}
use Rattle.vote.proofs.Said.{Says, deferred_says, voted_says, voted_from_says, ruled_says}
use Rattle.vote.proofs.Writes.{stamps_rise}
use Rattle.walk.specs.Hearing.{outcome_of, taken_up, received}
use Rattle.walk.specs.Order.{mark_at, verdict_at, is_vote, InOrder, SaidStays, StampsRise, Later}
use Rattle.walk.specs.Walking.{queued, outcome_at, voted_at, ruled_at, due_at, walked, resolved}
use Rattle.walk.proofs.HearingInductions.{New, voted_on, joined_on, due_on, ruled_on, ConsideringGrows, HearingGrows, taken_grown, received_grown}
use Rattle.walk.proofs.Inductions.{Turn, Grows, walked_grown}
use Rattle.walk.proofs.Orders.{in_order_turns, in_order_considering, in_order_hearing, in_order_ruled, in_order_voted, in_order_voted_from, in_order_joined}
use Rattle.walk.proofs.TurnLaws.{outcome_votes, vote_not_deferred, after_not, says_mark, says_verdict, mark_elsewhere, verdict_elsewhere, turn_open, turn_vote, turn_place, turn_voted}

-- ---- one after the other

pub stays_then : {s t u : Site} → SaidStays s t → SaidStays t u → SaidStays s u
stays_then a b = record {
  marks = λ p h. b.marks p (rw (a.marks p h) h) ∙ a.marks p h;
  verdicts = λ p h. b.verdicts p (rw (a.verdicts p h) h) ∙ a.verdicts p h;
}

pub later_then : {s t u : Site} → Later s t → Later t u → Later s u
later_then a b = record {
  said = stays_then a.said b.said;
  stamps = record { rise = λ i h. le_trans (a.stamps.rise i h) (b.stamps.rise i h) };
  clock = record { up = b.clock.up ∙ a.clock.up; last = b.clock.last ∙ a.clock.last };
}

pub later_same : (s : Site) → Later s s
later_same s = record {
  said = record { marks = λ p h. refl; verdicts = λ p h. refl };
  stamps = record { rise = λ i h. le_refl (get_or s.stamps i 0) };
  clock = record { up = refl; last = refl };
}

-- ---- what is said of one request

pub stays_says
    : {s t : Site} {p : ℕ} {v : Vote} → Says p v s t → (is_vote (mark_at s p) ≡ true → v.mark ≡ mark_at s p)
    → (is_open (verdict_at s p) ≡ false → v.verdict ≡ verdict_at s p) → SaidStays s t
stays_says {s} {t} {p} y m d = record {
  marks = λ q h. by_eq q p (λ e. rw e (says_mark y ∙ m (rw e at h))) (λ ne. mark_elsewhere y q ne);
  verdicts = λ q h. by_eq q p (λ e. rw e (says_verdict y ∙ d (rw e at h))) (λ ne. verdict_elsewhere y q ne);
}

-- a mark that was no vote
no_vote : {m : Mark} {A : Type 0} → m ≡ mark.Deferred → is_vote m ≡ true → A
no_vote e h = clash h (ap is_vote e)

unmarked_no_vote : (m : Mark) {A : Type 0} → is_unmarked m ≡ true → is_vote m ≡ true → A
unmarked_no_vote m e h = clash h (ap is_vote (unmarked_is m e))

-- ---- the copies

same_stamps : {s t : Site} → t.stamps ≡ s.stamps → StampsRise s t
same_stamps {s} {t} e = record { rise = λ i h. rw e (le_refl (get_or s.stamps i 0)) }

ruled_stamps : (s : Site) (q : Request) (p : ℕ) (d : Verdict) → length s.stamps ≡ 24 → StampsRise s (ruled s q p d)
ruled_stamps s q p verdict.Open l = same_stamps (ruled_other s q p verdict.Open (λ e. let z : ◌≡◌ {A = ℕ} 0 1 = cc in let y : ⊥ = omega arith in y)).stamps
ruled_stamps s q p verdict.Accepted l = record { rise = λ i h. rw (ruled_accepted s q p).stamps (stamps_rise s q i h l) }
ruled_stamps s q p verdict.Rejected l = same_stamps (ruled_other s q p verdict.Rejected (λ e. let z : ◌≡◌ {A = ℕ} 0 1 = cc in let y : ⊥ = omega arith in y)).stamps

-- ---- each change at the place p of the table

module _ {s : Site} (o : InOrder s) (p : ℕ) (h : p < 16) where
  held : p < length s.votes
  held = rw o.shaped.votes h

  pub later_deferred : is_unmarked (mark_at s p) ≡ true → Later s (deferred s p)
  later_deferred e =
      let k = deferred_keeps s p in
      record {
        said = stays_says (deferred_says s p held) (λ v. unmarked_no_vote (mark_at s p) e v) (λ d. refl);
        stamps = same_stamps k.stamps;
        clock = record { up = k.up; last = k.last };
      }

  pub later_voted : (me : ℕ) (m : Mark) → is_unmarked (mark_at s p) ≡ true → Later s (voted me s p m)
  later_voted me m e =
      let k = voted_keeps me s p m in
      record {
        said = stays_says (voted_says s p held me m) (λ v. unmarked_no_vote (mark_at s p) e v) (λ d. refl);
        stamps = same_stamps k.stamps;
        clock = record { up = k.up; last = k.last };
      }

  pub later_voted_from : (me i : ℕ) (m : Mark) → i < s.waiting → queued s i ≡ p → Later s (voted_from_queue me s i p m)
  later_voted_from me i m l at =
      let k = voted_from_keeps me s i p m in
      record {
        said = stays_says (voted_from_says me s i p m held) (λ v. no_vote (rw at at (o.queue.deferred i l)) v) (λ d. refl);
        stamps = same_stamps k.stamps;
        clock = record { up = k.up; last = k.last };
      }

  pub later_ruled : (q : Request) (d : Verdict) → is_open (verdict_at s p) ≡ true → Later s (ruled s q p d)
  later_ruled q d e =
      let k = ruled_keeps s q p d in
      record {
        said = stays_says (ruled_says s q p d held) (λ v. after_not (mark_at s p) (vote_not_deferred (mark_at s p) v)) (λ f. clash e f);
        stamps = ruled_stamps s q p d o.shaped.stamps;
        clock = record { up = k.up; last = k.last };
      }

  pub later_joined : (oks others : List Bool) → Later s (joined_on s p oks others)
  later_joined oks others = record {
    said = record { marks = λ q v. refl; verdicts = λ q v. refl };
    stamps = record { rise = λ i l. le_refl (get_or s.stamps i 0) };
    clock = record { up = refl; last = refl };
  }

-- ---- a walk, and a request that it begins or hears of

module _ (me n : ℕ) (rs : List Request) where
  module _ {b : Bool} {s : Site} {i : ℕ} (o : InOrder s) (t : Turn me n rs b s i) where
    pub turn_later : Later s (voted_at me n rs s i)
    turn_later = later_voted_from o (queued s i) (turn_place o t) me i (mark_of (outcome_at me n rs s i)) t.inside refl

    pub turn_still_open : is_open (verdict_at (voted_at me n rs s i) (queued s i)) ≡ true
    turn_still_open = ap is_open (says_verdict (turn_voted o t)) ∙ turn_open o t

    pub turn_ruled_later : Later (voted_at me n rs s i) (ruled_at me n rs s i)
    turn_ruled_later =
        later_ruled (in_order_voted_from o (queued s i) (turn_place o t) me i (mark_of (outcome_at me n rs s i)) t.inside refl (turn_vote o t)) (queued s i)
        (turn_place o t) (request_in rs (queued s i)) (due_at me n rs s i) turn_still_open

  pub later_turns : Grows me n rs InOrder Later
  later_turns = record {
    same = λ {s} o. later_same s;
    then = λ a b. later_then a b;
    votes = λ t o. turn_later o t;
    rules = λ t o. later_then (turn_later o t) (turn_ruled_later o t);
  }

  pub later_walked : (s : Site) (i : ℕ) → InOrder s → Later s (walked me n rs s i).site
  later_walked s i o = walked_grown me n rs s i (in_order_turns me n rs) later_turns o

  module _ (p : ℕ) (h : p < 16) where
    pub later_resolved : (s : Site) (d : Verdict) → is_open (verdict_at s p) ≡ true → InOrder s → Later s (resolved me n rs s p d).site
    later_resolved s d e o =
        later_then (later_ruled o p h (request_in rs p) d e) (later_walked (ruled s (request_in rs p) p d) 0 (in_order_ruled o p h (request_in rs p) d))

    module _ {s : Site} (new : New s p) (e : defers (outcome_of me n rs s p) ≡ false) (o : InOrder s) where
      pub voted_on_says : Says p (with_mark (mark_of (outcome_of me n rs s p)) (vote_at s.votes p)) s (voted_on me n rs s p)
      voted_on_says = voted_says s p (rw o.shaped.votes h) me (mark_of (outcome_of me n rs s p))

      pub voted_on_later : Later s (voted_on me n rs s p)
      voted_on_later = later_voted o p h me (mark_of (outcome_of me n rs s p)) new.unmarked

      pub voted_on_open : is_open (verdict_at (voted_on me n rs s p) p) ≡ true
      voted_on_open = ap is_open (says_verdict voted_on_says) ∙ new.held

      pub voted_on_order : InOrder (voted_on me n rs s p)
      voted_on_order = in_order_voted o p h me (mark_of (outcome_of me n rs s p)) new.unmarked (outcome_votes (outcome_of me n rs s p) e)

      pub ruled_on_later : Later (voted_on me n rs s p) (ruled_on rs (voted_on me n rs s p) p (due_on n (voted_on me n rs s p) p))
      ruled_on_later = later_ruled voted_on_order p h (request_in rs p) (due_on n (voted_on me n rs s p) p) voted_on_open

    later_considering : ConsideringGrows me n rs p InOrder Later
    later_considering = record {
      queues = λ new e o. later_deferred o p h new.unmarked;
      votes = λ new e f o. voted_on_later new e o;
      rules = λ new e f o. later_then (voted_on_later new e o) (ruled_on_later new e o);
    }

    later_hearing : (sent : Verdict) (oks others : List Bool) → HearingGrows me n rs p sent oks others InOrder Later
    later_hearing sent oks others = record {
      considers = later_considering;
      joins = λ e f d o. later_joined o p h oks others;
      learns = λ {s} e f d o.
          later_then (later_joined o p h oks others)
          (later_ruled (in_order_joined o p h oks others) p h (request_in rs p) (due_on n (joined_on s p oks others) p) e);
      takes = λ e f o. later_ruled o p h (request_in rs p) sent e;
    }

    pub later_taken : (s : Site) → New s p → InOrder s → Later s (taken_up me n rs s p).site
    later_taken s new o = taken_grown me n rs p (in_order_turns me n rs) later_turns (in_order_considering me n rs p h) later_considering s new o

    pub later_received : (s : Site) (sent : Verdict) (oks others : List Bool) → InOrder s → Later s (received me n rs s p sent oks others).site
    later_received s sent oks others o =
        received_grown me n rs p sent oks others (in_order_turns me n rs) later_turns (in_order_hearing me n rs p h sent oks others) (later_hearing sent oks others) s o
