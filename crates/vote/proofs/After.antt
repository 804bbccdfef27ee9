-- The queue, the known voters and the copies that a site has after each change.
use mathlib.Core.Path.{◌≡◌, refl, sym, ap, ap₂, ◌∙◌}
use mathlib.Core.Bool.{Bool, true, false, not, ◌&&◌, ◌||◌, cond, or-false}
use mathlib.Core.List.{List}
use Prim.Native.Nat.{ℕ, ◌-◌, ◌<◌, ◌≤◌}
use borrow.Author.Tests.{lt-ltb, le-ltb}
use lib.Dec.{eqb}
use lib.IntN.{ℤ}
use lib.ListN.{length}
use Rattle.kit.specs.Lists.{changed, without}
use Rattle.kit.proofs.Bools.{by_test, of_cond}
use Rattle.vote.specs.Consider.{mark_of, defers}
use Rattle.vote.specs.Data.{is_ok_vote, is_deferred, vote_at, with_queue}
use Rattle.vote.specs.Queue.{joins_queue, leaves_queue, place_in_queue}
use Rattle.vote.specs.Verdicts.{new_stamp, new_value, written_up_to, written_site, released, noted, decided, ruled}
use Rattle.vote.specs.Voters.{knows, join_voters, only_voter}
use Rattle.vote.specs.Voting.{marked, counts_itself, voted, deferred, kept_outcome, voted_from_queue}
use Rattle.vote.specs.declared.consider.Outcome.{Outcome}
use Rattle.vote.specs.declared.data.Mark.{Mark}
use Rattle.vote.specs.declared.data.Mark.TheVariants as mark
use Rattle.vote.specs.declared.data.Request.{Request}
use Rattle.vote.specs.declared.data.Site.{Site}
use Rattle.vote.specs.declared.data.Verdict.{Verdict}
use Rattle.vote.specs.declared.data.Verdict.TheVariants as verdict
use Rattle.vote.proofs.Fields.{voted_keeps, released_keeps, decided_keeps}
use Rattle.vote.proofs.KnownVoters.{knows_joined, knows_only}
use Rattle.vote.proofs.Queues.{Waits, Once, Tidy}

-- ---- the queue

-- t has the queue of u
pub record QueueOf (u t : Site) : Type 0 where
  pub queue : t.queue ≡ u.queue
  pub waiting : t.waiting ≡ u.waiting

pub queue_back : {u t : Site} → QueueOf u t → QueueOf t u
queue_back q = record { queue = sym q.queue; waiting = sym q.waiting }

pub queue_then : {u t w : Site} → QueueOf u t → QueueOf t w → QueueOf u w
queue_then q r = record { queue = r.queue ∙ q.queue; waiting = r.waiting ∙ q.waiting }

-- so the same wait in it
pub waits_of : {u t : Site} {x : ℕ} → QueueOf u t → Waits u x → Waits t x
waits_of q w = record { place = w.place; inside = rw q.waiting w.inside; there = rw q.queue w.there }

pub once_of : {u t : Site} → QueueOf u t → Once u → Once t
once_of q o = record { once = λ i j hi hj e. o.once i j (rw q.waiting at hi) (rw q.waiting at hj) (rw q.queue at e) }

pub tidy_of : {u t : Site} → QueueOf u t → Tidy u → Tidy t
tidy_of q o = record { blank = λ k h. rw q.queue (o.blank k (rw q.waiting at h)) }

-- deferring joins the queue
pub deferred_queue : (s : Site) (p : ℕ) → QueueOf (joins_queue s p) (deferred s p)
unfolding deferred marked joins_queue
deferred_queue s p = record { queue = refl; waiting = refl }

-- a mark changes no queue
leaves_marked : (s : Site) (p : ℕ) (m : Mark) (i : ℕ) → QueueOf (leaves_queue s i) (leaves_queue (marked s p m) i)
unfolding marked leaves_queue
leaves_marked s p m i = go (eqb s.waiting 0)
  where
    go : (b : Bool)
        → QueueOf (cond b s (with_queue (without 0 s.queue i) (s.waiting - 1) s))
        (cond b (marked s p m) (with_queue (without 0 s.queue i) (s.waiting - 1) (marked s p m)))
    go true = record { queue = refl; waiting = refl }
    go false = record { queue = refl; waiting = refl }

module _ (s : Site) (p : ℕ) where
  -- a request that waits leaves its place
  pub released_queue : place_in_queue s.queue s.waiting p < s.waiting → QueueOf (leaves_queue s (place_in_queue s.queue s.waiting p)) (released s p)
  unfolding released
  released_queue h = rw (lt-ltb (place_in_queue s.queue s.waiting p) s.waiting h) (leaves_marked s p mark.None (place_in_queue s.queue s.waiting p))

  -- for another the queue stays
  pub released_other : s.waiting ≤ place_in_queue s.queue s.waiting p → QueueOf s (released s p)
  unfolding released marked
  released_other h = rw (le-ltb (place_in_queue s.queue s.waiting p) s.waiting h) (record { queue = refl; waiting = refl })

  -- an outcome that defers joins the queue, a vote leaves it as it was
  pub kept_queue_deferred : (me : ℕ) (o : Outcome) → defers o ≡ true → QueueOf (joins_queue s p) (kept_outcome me s p o)
  unfolding kept_outcome
  kept_queue_deferred me o e = rw e (deferred_queue s p)

  pub kept_queue_voted : (me : ℕ) (o : Outcome) → defers o ≡ false → QueueOf s (kept_outcome me s p o)
  unfolding kept_outcome
  kept_queue_voted me o e =
      rw e (record { queue = (voted_keeps me s p (mark_of o)).queue; waiting = (voted_keeps me s p (mark_of o)).waiting })

  -- a verdict takes a deferred request out, and leaves the queue of another
  pub ruled_queue_deferred : (q : Request) (d : Verdict) → is_deferred (vote_at s.votes p).mark ≡ true → QueueOf (released s p) (ruled s q p d)
  unfolding ruled
  ruled_queue_deferred q d e =
      rw e (record { queue = (decided_keeps (released s p) q p d).queue; waiting = (decided_keeps (released s p) q p d).waiting })

  pub ruled_queue_other : (q : Request) (d : Verdict) → is_deferred (vote_at s.votes p).mark ≡ false → QueueOf s (ruled s q p d)
  unfolding ruled
  ruled_queue_other q d e = rw e (record { queue = (decided_keeps s q p d).queue; waiting = (decided_keeps s q p d).waiting })

-- a vote from the queue leaves its place
pub voted_from_queue_lem : (me : ℕ) (s : Site) (i p : ℕ) (m : Mark) → QueueOf (leaves_queue s i) (voted_from_queue me s i p m)
unfolding voted_from_queue
voted_from_queue_lem me s i p m = record { queue = (voted_keeps me (leaves_queue s i) p m).queue; waiting = (voted_keeps me (leaves_queue s i) p m).waiting }

-- ---- the known voters

module _ (me : ℕ) (s : Site) (p : ℕ) (m : Mark) where
  pub voted_ok : is_ok_vote m ≡ true → ((voted me s p m).oks ≡ join_voters s.oks p (only_voter me)) × ((voted me s p m).others ≡ s.others)
  unfolding voted counts_itself marked
  voted_ok e = rw e (refl, refl)

  pub voted_not_ok : is_ok_vote m ≡ false → ((voted me s p m).oks ≡ s.oks) × ((voted me s p m).others ≡ join_voters s.others p (only_voter me))
  unfolding voted counts_itself marked
  voted_not_ok e = rw e (refl, refl)

  module _ (q u : ℕ) (hp : p < 16) (hq : q < 16) (hu : u < 7) where
    -- an OK makes the site an OK voter, and nothing else does
    pub voted_oks : length s.oks ≡ 112 → knows (voted me s p m).oks q u ≡ (knows s.oks q u || (is_ok_vote m && (eqb p q && eqb me u)))
    voted_oks l =
        by_test (is_ok_vote m) (λ e. rw ((voted_ok e).0, e, knows_joined s.oks p (only_voter me) q u l hp hq hu, knows_only me u hu))
        (λ e. rw ((voted_not_ok e).0, e, or-false))

    -- any other vote makes it one of the others
    pub voted_others : length s.others ≡ 112 → knows (voted me s p m).others q u ≡ (knows s.others q u || (not (is_ok_vote m) && (eqb p q && eqb me u)))
    voted_others l =
        by_test (is_ok_vote m) (λ e. rw ((voted_ok e).1, e, or-false))
        (λ e. rw ((voted_not_ok e).1, e, knows_joined s.others p (only_voter me) q u l hp hq hu, knows_only me u hu))

-- ---- the copies

-- t has the copies of u
pub record CopiesOf (u t : Site) : Type 0 where
  pub stamps : t.stamps ≡ u.stamps
  pub values : t.values ≡ u.values

-- writing looks at the copies alone
pub written_of : {s t : Site} (q : Request) → CopiesOf s t → CopiesOf (written_site s q) (written_site t q)
unfolding written_site written_up_to
written_of {s} {t} q c = record {
  stamps = ap (λ (l : List ℕ). changed 24 (new_stamp l q) l) c.stamps;
  values = ap₂ (λ (l : List ℕ) (v : List ℤ). changed 24 (new_value l q) v) c.stamps c.values;
}

-- an acceptance writes, another verdict does not
pub decided_accepted : (s : Site) (q : Request) (p : ℕ) → CopiesOf (written_site s q) (decided s q p verdict.Accepted)
unfolding decided noted written_site written_up_to
decided_accepted s q p = record { stamps = refl; values = refl }

pub decided_other : (s : Site) (q : Request) (p : ℕ) (d : Verdict) → (d ≡ verdict.Accepted → ⊥) → CopiesOf s (decided s q p d)
unfolding decided noted
decided_other s q p verdict.Open ne = record { stamps = refl; values = refl }
decided_other s q p verdict.Accepted ne = absurd (ne refl)
decided_other s q p verdict.Rejected ne = record { stamps = refl; values = refl }

released_copies : (s : Site) (p : ℕ) → CopiesOf s (released s p)
released_copies s p = record { stamps = (released_keeps s p).stamps; values = (released_keeps s p).values }

copies_then : {s t u : Site} → CopiesOf s t → CopiesOf t u → CopiesOf s u
copies_then a b = record { stamps = b.stamps ∙ a.stamps; values = b.values ∙ a.values }

pub ruled_accepted : (s : Site) (q : Request) (p : ℕ) → CopiesOf (written_site s q) (ruled s q p verdict.Accepted)
unfolding ruled
ruled_accepted s q p =
    of_cond (CopiesOf (written_site s q)) (is_deferred (vote_at s.votes p).mark)
    (λ y. copies_then (written_of q (released_copies s p)) (decided_accepted (released s p) q p)) (λ n. decided_accepted s q p)

pub ruled_other : (s : Site) (q : Request) (p : ℕ) (d : Verdict) → (d ≡ verdict.Accepted → ⊥) → CopiesOf s (ruled s q p d)
unfolding ruled
ruled_other s q p d ne =
    of_cond (CopiesOf s) (is_deferred (vote_at s.votes p).mark) (λ y. copies_then (released_copies s p) (decided_other (released s p) q p d ne))
    (λ n. decided_other s q p d ne)
