-- Nothing changes of a request that is not in the queue: in a walk; and, but for the one request, in all that a site does with a request that
-- it begins or hears of.
use Prim.Native.Nat.{ℕ, ◌<◌}
use mathlib.Core.Bool.{Bool, and-false, or-false}
use mathlib.Core.List.{List}
use mathlib.Core.Path.{refl, sym, ◌∙◌}
use borrow.Author.Tests.{ne_eqb}
use lib.ListN.{length}
use Rattle.kit.proofs.Bools.{by_test, by_lt}
use Rattle.vote.specs.Consider.{mark_of}
use Rattle.vote.specs.Data.{is_deferred, request_in}
use Rattle.vote.specs.Queue.{leaves_queue, place_in_queue}
use Rattle.vote.specs.Shape.{ShapedSite}
use Rattle.vote.specs.Verdicts.{ruled, released}
use Rattle.vote.specs.Voting.{voted, deferred, voted_from_queue}
use Rattle.vote.specs.declared.data.Mark.{Mark}
use Rattle.vote.specs.declared.data.Request.{Request}
use Rattle.vote.specs.declared.data.Site.{Site}
use Rattle.vote.specs.declared.data.Verdict.{Verdict}
use Rattle.vote.proofs.After.{waits_of, voted_oks, voted_others, voted_from_queue_lem, released_queue, released_other, ruled_queue_deferred, ruled_queue_other, queue_back}
use Rattle.vote.proofs.Fields.{deferred_keeps, voted_keeps, leaves_keeps, ruled_keeps}
use Rattle.vote.proofs.KnownVoters.{known_elsewhere}
use Rattle.vote.proofs.Queues.{Waits, waits_left_before}
use Rattle.vote.proofs.Said.{deferred_says, voted_says, ruled_says}
use Rattle.vote.proofs.Shapes.{leaves_shape, voted_shape, shaped_as}
use Rattle.walk.specs.Hearing.{outcome_of, taken_up, received}
use Rattle.walk.specs.Order.{mark_at, InOrder, NotQueued, Untouched, But}
use Rattle.walk.specs.Walking.{queued, outcome_at, voted_at, due_at, walked, resolved}
use Rattle.walk.proofs.HearingInductions.{New, voted_on, joined_on, due_on, ConsideringLinks, HearingLinks, taken_linked, received_linked}
use Rattle.walk.proofs.Inductions.{Turn, Links, walked_linked}
use Rattle.walk.proofs.Orders.{in_order_turns, in_order_considering, in_order_hearing, in_order_ruled, in_order_joined}
use Rattle.walk.proofs.TurnLaws.{turn_place, turn_shape}

-- ---- one after the other

not_waits : {s : Site} {x : ℕ} → NotQueued s x → Waits s x → ⊥
not_waits out w = out w.place w.inside w.there

-- where nobody joins, one not in the queue is not in it later
still_out : {s t : Site} {x : ℕ} → (Waits t x → Waits s x) → NotQueued s x → NotQueued t x
still_out f out k h e = not_waits out (f (record { place = k; inside = h; there = e }))

pub untouched_then : {E : ℕ → Type 0} {s t u : Site} → ((x : ℕ) → Waits t x → Waits s x) → Untouched E s t → Untouched E t u → Untouched E s u
untouched_then f a b = record {
  vote = λ x e out. b.vote x e (still_out (f x) out) ∙ a.vote x e out;
  oks = λ x u hx hu e out. b.oks x u hx hu e (still_out (f x) out) ∙ a.oks x u hx hu e out;
  others = λ x u hx hu e out. b.others x u hx hu e (still_out (f x) out) ∙ a.others x u hx hu e out;
}

pub untouched_same : (E : ℕ → Type 0) (s : Site) → Untouched E s s
untouched_same E s = record { vote = λ x e out. refl; oks = λ x u hx hu e out. refl; others = λ x u hx hu e out. refl }

-- ---- who waits after each change

-- a verdict brings nobody into the queue
pub ruled_waits : (s : Site) (q : Request) (p : ℕ) (d : Verdict) (x : ℕ) → Waits (ruled s q p d) x → Waits s x
ruled_waits s q p d x w =
    by_test (is_deferred (mark_at s p))
    (λ e. let r : Waits (released s p) x = waits_of (queue_back (ruled_queue_deferred s p q d e)) w in
    by_lt (place_in_queue s.queue s.waiting p) s.waiting
    (λ h. waits_left_before s (place_in_queue s.queue s.waiting p) h x (waits_of (queue_back (released_queue s p h)) r))
    (λ h. waits_of (queue_back (released_other s p h)) r))
    (λ f. waits_of (queue_back (ruled_queue_other s p q d f)) w)

pub voted_waits : (me : ℕ) (s : Site) (p : ℕ) (m : Mark) (x : ℕ) → Waits (voted me s p m) x → Waits s x
voted_waits me s p m x w =
    let k = voted_keeps me s p m in
    record { place = w.place; inside = rw k.waiting at w.inside; there = rw k.queue at w.there }

pub voted_from_waits : (me : ℕ) (s : Site) (i p : ℕ) (m : Mark) → i < s.waiting → (x : ℕ) → Waits (voted_from_queue me s i p m) x → Waits s x
voted_from_waits me s i p m h x w = waits_left_before s i h x (waits_of (queue_back (voted_from_queue_lem me s i p m)) w)

joined_waits : (s : Site) (p : ℕ) (oks others : List Bool) (x : ℕ) → Waits (joined_on s p oks others) x → Waits s x
joined_waits s p oks others x w = record { place = w.place; inside = w.inside; there = w.there }

-- ---- each change at the place p of the table

module _ {s : Site} (h : ShapedSite s) (p : ℕ) (l : p < 16) where
  held : p < length s.votes
  held = rw h.votes l

  pub untouched_deferred : Untouched (But p) s (deferred s p)
  untouched_deferred =
      let k = deferred_keeps s p in
      record {
        vote = λ x ne out. (deferred_says s p held).elsewhere x ne;
        oks = λ x u hx hu ne out. rw k.oks;
        others = λ x u hx hu ne out. rw k.others;
      }

  pub untouched_voted : (me : ℕ) (m : Mark) → Untouched (But p) s (voted me s p m)
  untouched_voted me m = record {
    vote = λ x ne out. (voted_says s p held me m).elsewhere x ne;
    oks = λ x u hx hu ne out. voted_oks me s p m x u l hx hu h.oks ∙ rw (ne_eqb p x (λ e. ne (sym e)), and-false, or-false);
    others = λ x u hx hu ne out. voted_others me s p m x u l hx hu h.others ∙ rw (ne_eqb p x (λ e. ne (sym e)), and-false, or-false);
  }

  pub untouched_ruled : (q : Request) (d : Verdict) → Untouched (But p) s (ruled s q p d)
  untouched_ruled q d =
      let k = ruled_keeps s q p d in
      record {
        vote = λ x ne out. (ruled_says s q p d held).elsewhere x ne;
        oks = λ x u hx hu ne out. rw k.oks;
        others = λ x u hx hu ne out. rw k.others;
      }

  pub untouched_joined : (oks others : List Bool) → Untouched (But p) s (joined_on s p oks others)
  untouched_joined oks others = record {
    vote = λ x ne out. refl;
    oks = λ x u hx hu ne out. known_elsewhere s.oks p oks x u h.oks l hx hu (λ e. ne (sym e));
    others = λ x u hx hu ne out. known_elsewhere s.others p others x u h.others l hx hu (λ e. ne (sym e));
  }

-- it votes from place i of the queue
leaves_untouched : (E : ℕ → Type 0) (s : Site) (i : ℕ) → Untouched E s (leaves_queue s i)
leaves_untouched E s i =
    let k = leaves_keeps s i in
    record { vote = λ x e out. rw k.votes; oks = λ x u hx hu e out. rw k.oks; others = λ x u hx hu e out. rw k.others }

pub untouched_voted_from
    : {s : Site} → ShapedSite s → (p : ℕ) → p < 16 → (me i : ℕ) (m : Mark) → i < s.waiting → Untouched (But p) s (voted_from_queue me s i p m)
unfolding voted_from_queue
untouched_voted_from {s} h p l me i m b =
    untouched_then (waits_left_before s i b) (leaves_untouched (But p) s i) (untouched_voted (shaped_as (leaves_shape s i) h) p l me m)

-- one in the queue is not one that is not
out_of_queue : {E : ℕ → Type 0} {s t : Site} {i : ℕ} → i < s.waiting → Untouched (But (queued s i)) s t → Untouched E s t
out_of_queue {i = i} h a = record {
  vote = λ x e out. a.vote x (λ z. out i h (sym z)) out;
  oks = λ x u hx hu e out. a.oks x u hx hu (λ z. out i h (sym z)) out;
  others = λ x u hx hu e out. a.others x u hx hu (λ z. out i h (sym z)) out;
}

-- ---- a walk, and a request that it begins or hears of

module _ (me n : ℕ) (rs : List Request) where
  turn_untouched : {b : Bool} {s : Site} {i : ℕ} → InOrder s → Turn me n rs b s i → Untouched (But (queued s i)) s (voted_at me n rs s i)
  turn_untouched {s = s} {i = i} o t = untouched_voted_from o.shaped (queued s i) (turn_place o t) me i (mark_of (outcome_at me n rs s i)) t.inside

  turn_waits : (s : Site) (i : ℕ) → i < s.waiting → (x : ℕ) → Waits (voted_at me n rs s i) x → Waits s x
  turn_waits s i h x w = voted_from_waits me s i (queued s i) (mark_of (outcome_at me n rs s i)) h x w

  pub untouched_turns : (E : ℕ → Type 0) → Links me n rs InOrder (λ s l u. Untouched E s u)
  untouched_turns E = record {
    ends = λ {s} o. untouched_same E s;
    votes = λ {s} {i} t o r. untouched_then (turn_waits s i t.inside) (out_of_queue t.inside (turn_untouched o t)) r;
    rules = λ {s} {i} t o r.
        let u : Site = voted_at me n rs s i in
        let q : Request = request_in rs (queued s i) in
        untouched_then (λ x w. turn_waits s i t.inside x (ruled_waits u q (queued s i) (due_at me n rs s i) x w))
        (out_of_queue t.inside
        (untouched_then (turn_waits s i t.inside) (turn_untouched o t)
        (untouched_ruled (shaped_as (turn_shape me n rs s i) o.shaped) (queued s i) (turn_place o t) q (due_at me n rs s i))))
        r;
  }

  -- of every E, and so of every request
  pub untouched_walked : (E : ℕ → Type 0) (s : Site) (i : ℕ) → InOrder s → Untouched E s (walked me n rs s i).site
  untouched_walked E s i o = walked_linked me n rs {R = λ s l u. Untouched E s u} s i (in_order_turns me n rs) (untouched_turns E) o

  module _ (p : ℕ) (h : p < 16) where
    pub untouched_resolved : (s : Site) (d : Verdict) → InOrder s → Untouched (But p) s (resolved me n rs s p d).site
    untouched_resolved s d o =
        untouched_then (ruled_waits s (request_in rs p) p d) (untouched_ruled o.shaped p h (request_in rs p) d)
        (untouched_walked (But p) (ruled s (request_in rs p) p d) 0 (in_order_ruled o p h (request_in rs p) d))

    voted_on_untouched : {s : Site} → InOrder s → Untouched (But p) s (voted_on me n rs s p)
    voted_on_untouched {s} o = untouched_voted o.shaped p h me (mark_of (outcome_of me n rs s p))

    untouched_considering : ConsideringLinks me n rs p InOrder (λ s l u. Untouched (But p) s u)
    untouched_considering = record {
      queues = λ new e o. untouched_deferred o.shaped p h;
      votes = λ new e f o. voted_on_untouched o;
      rules = λ {s} new e f o r.
          let m : Mark = mark_of (outcome_of me n rs s p) in
          let u : Site = voted_on me n rs s p in
          untouched_then (λ x w. voted_waits me s p m x (ruled_waits u (request_in rs p) p (due_on n u p) x w))
          (untouched_then (voted_waits me s p m) (voted_on_untouched o)
          (untouched_ruled (shaped_as (voted_shape me s p m) o.shaped) p h (request_in rs p) (due_on n u p)))
          r;
    }

    untouched_hearing : (sent : Verdict) (oks others : List Bool) → HearingLinks me n rs p sent oks others InOrder (λ s l u. Untouched (But p) s u)
    untouched_hearing sent oks others = record {
      considers = untouched_considering;
      joins = λ {s} e f d o r. untouched_then (joined_waits s p oks others) (untouched_joined o.shaped p h oks others) r;
      learns = λ {s} e f d o r.
          let j : Site = joined_on s p oks others in
          untouched_then (λ x w. joined_waits s p oks others x (ruled_waits j (request_in rs p) p (due_on n j p) x w))
          (untouched_then (joined_waits s p oks others) (untouched_joined o.shaped p h oks others)
          (untouched_ruled (in_order_joined o p h oks others).shaped p h (request_in rs p) (due_on n j p)))
          r;
      takes = λ {s} e f o r. untouched_then (ruled_waits s (request_in rs p) p sent) (untouched_ruled o.shaped p h (request_in rs p) sent) r;
    }

    pub untouched_taken : (s : Site) → New s p → InOrder s → Untouched (But p) s (taken_up me n rs s p).site
    untouched_taken s new o =
        taken_linked me n rs p {R = λ s l u. Untouched (But p) s u} (in_order_turns me n rs) (untouched_turns (But p)) (in_order_considering me n rs p h)
        untouched_considering s new o

    pub untouched_received : (s : Site) (sent : Verdict) (oks others : List Bool) → InOrder s → Untouched (But p) s (received me n rs s p sent oks others).site
    untouched_received s sent oks others o =
        received_linked me n rs p sent oks others {R = λ s l u. Untouched (But p) s u} (in_order_turns me n rs) (untouched_turns (But p))
        (in_order_hearing me n rs p h sent oks others) (untouched_hearing sent oks others) s o
