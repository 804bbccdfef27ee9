-- A whole walk is a run of the ledger: what its log says, in the order in which it fell.
use Prim.Native.Nat.{ℕ, ◌≤◌, ◌<◌}
use mathlib.Core.Bool.{false}
use mathlib.Core.List.{List, ◌∷◌}
use mathlib.Core.Path.{◌≡◌, refl, ap, subst, ◌∙◌}
use lib.ListN.{length}
use Rattle.ledger.specs.View.{Goes}
use Rattle.ledger.proofs.Link.{goes_stay, goes_then}
use Rattle.table.specs.Places.{site_at, with_site}
use Rattle.table.specs.declared.data.Table.{Table}
use Rattle.table.proofs.Backing.{Known, due_backed}
use Rattle.table.proofs.Places.{site_back}
use Rattle.vote.specs.Consider.{mark_of, defers}
use Rattle.vote.specs.Data.{is_open, vote_at}
use Rattle.vote.specs.Shape.{ShapedSite}
use Rattle.vote.specs.Voting.{with_mark}
use Rattle.vote.specs.declared.data.Mark.{Mark}
use Rattle.vote.specs.declared.data.Request.{Request}
use Rattle.vote.specs.declared.data.Site.{Site}
use Rattle.vote.specs.declared.data.Vote.{Vote}
use Rattle.vote.proofs.MarkKinds.{NoVote, vote_kind}
use Rattle.vote.proofs.Said.{Says as SaysAt}
use Rattle.vote.proofs.Shapes.{voted_from_shape, shaped_as}
use Rattle.walk.specs.Rules.{Walk}
use Rattle.walk.specs.Walking.{Said, Out, queued, outcome_at, voted_at, due_at, ruled_at, says_vote, says_rule, walked}
use Rattle.walk.proofs.Inductions.{Keeps, Links, linked, walked_linked}
use Rattle.tied.specs.Events.{events_of}
use Rattle.tied.specs.Views.{view_of}
use Rattle.tied.proofs.Rulings.{rule_goes}
use Rattle.tied.proofs.Standing.{Unvoiced, HeldOpen}
use Rattle.tied.proofs.Votes.{Casts, vote_goes, voted_from_casts, known_cast}

-- a vote leaves the request open
pub open_marked : (t : Table) (p : ℕ) (m : Mark) {s s' : Site} → HeldOpen t p s → SaysAt p (with_mark m (vote_at s.votes p)) s s' → HeldOpen t p s'
open_marked t p m o y = record { below = o.below; used = o.used; unruled = ap (λ (v : Vote). is_open v.verdict) y.here ∙ o.unruled }

-- the request at place p can be voted on: the site holds it open and has not voted, and the voters that it knows have voted
pub record Ready (t : Table) (k p : ℕ) (s : Site) : Type 0 where
  pub open_at : HeldOpen t p s
  pub none : NoVote (vote_at s.votes p).mark
  pub known : Known (with_site k s t) p s

-- as s, the site k of t stands so to each request in its queue
pub record Stands (t : Table) (k : ℕ) (s : Site) : Type 0 where
  pub shaped : ShapedSite s
  pub waits : (i : ℕ) → i < s.waiting → Ready t k (queued s i) s

-- k is a site of the table t, of at most seven, and those that are not used have not voted
pub record Seat (t : Table) (k : ℕ) : Type 0 where
  pub listed : k < length t.sites
  pub of_table : k < t.count
  pub seven : t.count ≤ 7
  pub unvoiced : (p : ℕ) → p < 16 → Unvoiced t p

module _ (t : Table) (k : ℕ) (z : Seat t k) where
  abbrev n : ℕ
  n = t.count

  abbrev rs : List Request
  rs = t.requests

  -- from the site s to the site u, with these said
  pub record Went (s : Site) (l : List Said) (u : Site) : Type 0 where
    pub goes : Goes n (view_of (with_site k s t)) (view_of (with_site k u t)) (events_of k rs l)

  -- from the site as it is in t
  pub went_goes : {l : List Said} {u : Site} → Went (site_at t k) l u → Goes n (view_of t) (view_of (with_site k u t)) (events_of k rs l)
  went_goes {l} {u} w = subst (λ (x : Table). Goes n (view_of x) (view_of (with_site k u t)) (events_of k rs l)) (site_back t k) w.goes

  -- ---- one turn

  module _ {s : Site} {i : ℕ} (h : i < s.waiting) (e : defers (outcome_at k n rs s i) ≡ false) (y : Stands t k s) where
    abbrev p : ℕ
    p = queued s i

    ready : Ready t k p s
    ready = y.waits i h

    cast : Casts k p (mark_of (outcome_at k n rs s i)) s (voted_at k n rs s i)
    cast = voted_from_casts k s y.shaped p ready.open_at.below (mark_of (outcome_at k n rs s i)) i

    turn_votes : {l : List Said} {u : Site} → Went (voted_at k n rs s i) l u → Went s (says_vote k n rs s i ∷ l) u
    unfolding events_of
    turn_votes r = record {
      goes = goes_then
          (vote_goes t k z.listed s p z.of_table (voted_at k n rs s i) ready.open_at ready.none (outcome_at k n rs s i) refl e cast.marks)
          r.goes;
    }

    turn_rules : is_open (due_at k n rs s i) ≡ false → {l : List Said} {u : Site} → Went (ruled_at k n rs s i) l u → Went (voted_at k n rs s i) (says_rule k n rs p (due_at k n rs s i) ∷ l) u
    unfolding events_of
    turn_rules d r = record {
      goes = goes_then
          (rule_goes t k z.listed z.of_table z.seven (voted_at k n rs s i) (shaped_as (voted_from_shape k s i p (mark_of (outcome_at k n rs s i))) y.shaped) p
          (open_marked t p (mark_of (outcome_at k n rs s i)) ready.open_at cast.marks.says) (z.unvoiced p ready.open_at.below) (due_at k n rs s i) d
          (due_backed (with_site k (voted_at k n rs s i) t) p (voted_at k n rs s i)
          (known_cast t k z.listed s (voted_at k n rs s i) p (mark_of (outcome_at k n rs s i)) (vote_kind (outcome_at k n rs s i) e) ready.none cast ready.known)))
          r.goes;
    }

  -- ---- the walk, with what each turn keeps

  module _ {P : Site → Type 0} (stands : (s : Site) → P s → Stands t k s) (keeps : Keeps k n rs P) where
    walk_links : Links k n rs P Went
    unfolding events_of
    walk_links = record {
      ends = λ x. record { goes = goes_stay };
      votes = λ w x r. turn_votes w.inside w.votes (stands _ x) r;
      rules = λ w x r. turn_votes w.inside w.votes (stands _ x) (turn_rules w.inside w.votes (stands _ x) w.due r);
    }

    -- a walk from place i of the queue on
    pub walk_goes : {s : Site} {i : ℕ} {o : Out} → Walk k n rs s i o → P s → Went s o.log o.site
    walk_goes w x = linked k n rs keeps walk_links w x

    pub walked_goes : (s : Site) (i : ℕ) → P s → Went s (walked k n rs s i).log (walked k n rs s i).site
    walked_goes s i x = walked_linked k n rs s i keeps walk_links x
