-- A site votes: OK where the ledger allows it, DR or REJ where it had not voted.
use Prim.Native.Nat.{ℕ, ◌<◌}
use mathlib.Core.Bool.{Bool, true, false, not, ◌&&◌, ◌||◌}
use mathlib.Core.Logic.{◌⊎◌, inl, inr}
use mathlib.Core.Path.{◌≡◌, refl, sym, ap, ◌∙◌}
use borrow.Author.Tests.{lt-ltb, ltb-true, ne_eqb, eqb-true}
use lib.Dec.{eqb, ltb}
use lib.IntN.{ℤ, pos}
use lib.ListN.{length, get_or}
use Rattle.kit.proofs.Bools.{clash, and_left, and_right, both_true, by_test, by_eq}
use Rattle.ledger.specs.Ledger.{Reading, Conflict, Request as LedgerRequest}
use Rattle.ledger.specs.View.{Word, votes_ok, votes_against, accepts, rejects, copy_after, CanOk, Says, Goes}
use Rattle.ledger.proofs.Link.{goes_says}
use Rattle.table.specs.Places.{site_at, place_at, used_place, mark_at, with_site}
use Rattle.table.specs.declared.data.Table.{Table}
use Rattle.table.proofs.Backing.{Known}
use Rattle.table.proofs.Places.{site_same, site_other, each_site}
use Rattle.vote.specs.Consider.{considered, mark_of, defers}
use Rattle.vote.specs.Data.{is_ok_vote, is_other, is_open, is_pending, head_of, heads_of, request_in, vote_at}
use Rattle.vote.specs.Queue.{leaves_queue}
use Rattle.vote.specs.Shape.{ShapedSite}
use Rattle.vote.specs.Voters.{knows}
use Rattle.vote.specs.Voting.{with_mark, voted, voted_from_queue}
use Rattle.vote.specs.declared.consider.Outcome.{Outcome}
use Rattle.vote.specs.declared.consider.Outcome.TheVariants as outcome
use Rattle.vote.specs.declared.data.Mark.{Mark}
use Rattle.vote.specs.declared.data.Mark.TheVariants as mark
use Rattle.vote.specs.declared.data.Site.{Site}
use Rattle.vote.specs.declared.data.Verdict.{Verdict}
use Rattle.vote.specs.declared.data.Verdict.TheVariants as verdict
use Rattle.vote.specs.declared.data.Vote.{Vote}
use Rattle.vote.proofs.Conflicts.{heads_at, conflicts_turned}
use Rattle.vote.proofs.Considering.{Free, ok_means}
use Rattle.vote.proofs.After.{CopiesOf, voted_oks, voted_others}
use Rattle.vote.proofs.Fields.{voted_keeps, voted_from_keeps, leaves_keeps}
use Rattle.vote.proofs.MarkKinds.{NoVote, request_in_lem}
use Rattle.vote.proofs.Said.{Says as SaysAt, voted_says, voted_from_says}
use Rattle.tied.specs.Events.{vote_event}
use Rattle.tied.specs.Views.{request_of, is_accepted, is_rejected, says_of, reading_at, view_of}
use Rattle.tied.proofs.Sites.{Speaks, site_says}
use Rattle.tied.proofs.Standing.{HeldOpen}
use Rattle.tied.proofs.Words.{has_below, has_member, conflict_meant}

-- ---- told of the site alone

-- the mark m says w where no vote was
record Voices (w : Word) (m : Mark) : Type 0 where
  now : (d : Verdict) → says_of w (record { mark = m; verdict = d }) ≡ true
  rest : (l : Word) (v : Vote) → NoVote v.mark → (l ≡ w → ⊥) → says_of l (with_mark m v) ≡ says_of l v
  keeps : (c : ℕ → ℕ → Reading ℤ) (r : LedgerRequest ℤ) (i : ℕ) → c 0 i ≡ copy_after w c 0 r 0 i

ok_voices : Voices votes_ok mark.Ok
ok_voices = record { now = λ d. refl; rest = go; keeps = λ c r i. refl }
  where
    go : (l : Word) (v : Vote) → NoVote v.mark → (l ≡ votes_ok → ⊥) → says_of l (with_mark mark.Ok v) ≡ says_of l v
    go votes_ok v n ne = absurd (ne refl)
    go votes_against v n ne = sym n.no_other
    go accepts v n ne = refl
    go rejects v n ne = refl

against_voices : (m : Mark) → is_ok_vote m ≡ false → is_other m ≡ true → Voices votes_against m
against_voices m e f = record { now = λ d. f; rest = go; keeps = λ c r i. refl }
  where
    go : (l : Word) (v : Vote) → NoVote v.mark → (l ≡ votes_against → ⊥) → says_of l (with_mark m v) ≡ says_of l v
    go votes_ok v n ne = e ∙ sym n.no_ok
    go votes_against v n ne = absurd (ne refl)
    go accepts v n ne = refl
    go rejects v n ne = refl

-- of the site s, changed to s': its mark of place p is m, and its copies and its last t stay
pub record SetsMark (p : ℕ) (m : Mark) (s s' : Site) : Type 0 where
  pub says : SaysAt p (with_mark m (vote_at s.votes p)) s s'
  pub copies : CopiesOf s s'
  pub last : s'.last ≡ s.last

-- the copies stay
pub reading_same : {s s' : Site} → CopiesOf s s' → (i : ℕ) → reading_at s' i ≡ reading_at s i
reading_same c i = λ d. record { stamp = get_or (c.stamps d) i 0; value = get_or (c.values d) i (pos 0) }

mark_speaks : (w : Word) (m : Mark) (p : ℕ) (r : LedgerRequest ℤ) {s s' : Site} → Voices w m → NoVote (vote_at s.votes p).mark → SetsMark p m s s' → Speaks w p r s s'
mark_speaks w m p r {s} {s'} v none k = record {
  now = ap (says_of w) k.says.here ∙ v.now (vote_at s.votes p).verdict;
  rest = λ l q ne. by_eq q p
      (λ e. rw e (ap (says_of l) k.says.here ∙ v.rest l (vote_at s.votes p) none (λ f. ne f e)))
      (λ n. ap (says_of l) (k.says.elsewhere q n));
  copy = λ i. reading_same k.copies i ∙ v.keeps (λ u. reading_at s) r i;
  last = k.last;
}

-- ---- in the table

-- a verdict that is not open
pub judged_by : (d : Verdict) → is_open d ≡ false → (is_accepted d ≡ true) ⊎ (is_rejected d ≡ true)
judged_by verdict.Open e = clash refl e
judged_by verdict.Accepted e = inl refl
judged_by verdict.Rejected e = inr refl

-- a used place is held
pub held_of : (t : Table) (p : ℕ) → p < 16 → ((place_at t p).stamp ≡ 0 → ⊥) → (view_of t).held p ≡ true
unfolding view_of
held_of t p h used = rw (lt-ltb p 16 h, ne_eqb (place_at t p).stamp 0 used)

pub held_below : (t : Table) (p : ℕ) → (view_of t).held p ≡ true → p < 16
unfolding view_of
held_below t p e = ltb-true p 16 (and_left (ltb p 16) (used_place t p) e)

module _ (t : Table) (k : ℕ) (fits : k < length t.sites) (s : Site) (p : ℕ) where
  -- a request that conflicts and that the site voted OK has its verdict there, where p is free to be voted OK
  clear_at
      : Free (heads_of t.requests) s.votes s.stamps (place_at t p) → (q : ℕ) → q < 16 → is_ok_vote (vote_at s.votes q).mark ≡ true
      → Conflict (request_of (place_at t q)) (request_of (place_at t p)) → is_open (vote_at s.votes q).verdict ≡ false
  unfolding is_pending
  clear_at f q h m c = by_test (is_open (vote_at s.votes q).verdict)
      (λ o. clash (conflicts_turned (head_of (place_at t p)) (head_of (place_at t q)) ∙ conflict_meant (place_at t q) (place_at t p) c)
      (rw (heads_at t.requests q h) at (f.none_pending q h (both_true m o))))
      (λ n. n)

  pub ok_can
      : p < 16 → NoVote (vote_at s.votes p).mark → considered (heads_of t.requests) s.votes s.stamps (request_in t.requests p) ≡ outcome.Ok
      → CanOk t.count (view_of (with_site k s t)) k p
  unfolding view_of
  ok_can h none e =
      let f = ok_means (heads_of t.requests) s.votes s.stamps (place_at t p) (rw (request_in_lem t.requests p h) at e) in
      record {
        free = rw (site_same t k s fits) none.no_other;
        same = λ i b. rw (site_same t k s fits) (f.stamps.same i (has_below (place_at t p).base i b) (has_member (place_at t p).base i b));
        clear = λ q held m c. rw (site_same t k s fits)
            (judged_by (vote_at s.votes q).verdict (clear_at f q (ltb-true q 16 (and_left (ltb q 16) (used_place t q) held)) (rw (site_same t k s fits) at m) c));
      }

  module _ (on : k < t.count) (s' : Site) (o : HeldOpen t p s) (none : NoVote (vote_at s.votes p).mark) where
    held : (view_of (with_site k s t)).held p ≡ true
    held = held_of (with_site k s t) p o.below o.used

    -- it votes OK, having considered the request
    pub ok_says : considered (heads_of t.requests) s.votes s.stamps (request_in t.requests p) ≡ outcome.Ok → SetsMark p mark.Ok s s'
        → Says t.count votes_ok k p (view_of (with_site k s t)) (view_of (with_site k s' t))
    ok_says e m =
        site_says t k fits on s s' votes_ok p held (mark_speaks votes_ok mark.Ok p (request_of (place_at t p)) ok_voices none m) (ok_can o.below none e)

    -- it votes DR or REJ
    pub against_says : (m : Mark) → is_ok_vote m ≡ false → is_other m ≡ true → SetsMark p m s s'
        → Says t.count votes_against k p (view_of (with_site k s t)) (view_of (with_site k s' t))
    unfolding view_of
    against_says m e f w =
        site_says t k fits on s s' votes_against p held (mark_speaks votes_against m p (request_of (place_at t p)) (against_voices m e f) none w)
        (rw (site_same t k s fits) none.no_ok)

    -- it votes as it must, having considered the request
    pub vote_goes
        : (x : Outcome) → considered (heads_of t.requests) s.votes s.stamps (request_in t.requests p) ≡ x → defers x ≡ false → SetsMark p (mark_of x) s s'
        → Goes t.count (view_of (with_site k s t)) (view_of (with_site k s' t)) (vote_event k (request_of (place_at t p)) (mark_of x))
    unfolding view_of
    vote_goes outcome.Rej e d m = goes_says votes_against k p (against_says mark.Rej refl refl m)
    vote_goes outcome.DeferBase e d m = clash refl d
    vote_goes outcome.Dr e d m = goes_says votes_against k p (against_says mark.Dr refl refl m)
    vote_goes outcome.DeferPending e d m = clash refl d
    vote_goes outcome.Ok e d m = goes_says votes_ok k p (ok_says e m)

-- ---- the two votes: of a request that is new to the site, and of one in its queue

-- the site s, number k, changed to s', votes m on place p, which "counts at once among the voters the site knows"
pub record Casts (k p : ℕ) (m : Mark) (s s' : Site) : Type 0 where
  pub marks : SetsMark p m s s'
  pub oks : (u : ℕ) → u < 7 → knows s'.oks p u ≡ (knows s.oks p u || (is_ok_vote m && (eqb p p && eqb k u)))
  pub others : (u : ℕ) → u < 7 → knows s'.others p u ≡ (knows s.others p u || (not (is_ok_vote m) && (eqb p p && eqb k u)))

module _ (k : ℕ) (s : Site) (g : ShapedSite s) (p : ℕ) (h : p < 16) (m : Mark) where
  room : p < length s.votes
  room = rw g.votes h

  pub voted_casts : Casts k p m s (voted k s p m)
  voted_casts =
      let keep = voted_keeps k s p m in
      record {
        marks = record { says = voted_says s p room k m; copies = record { stamps = keep.stamps; values = keep.values }; last = keep.last };
        oks = λ u l. voted_oks k s p m p u h h l g.oks;
        others = λ u l. voted_others k s p m p u h h l g.others;
      }

  pub voted_from_casts : (i : ℕ) → Casts k p m s (voted_from_queue k s i p m)
  unfolding voted_from_queue
  voted_from_casts i =
      let keep = voted_from_keeps k s i p m in
      let out = leaves_keeps s i in
      record {
        marks = record { says = voted_from_says k s i p m room; copies = record { stamps = keep.stamps; values = keep.values }; last = keep.last };
        oks = λ u l. voted_oks k (leaves_queue s i) p m p u h h l (ap length out.oks ∙ g.oks) ∙ rw out.oks;
        others = λ u l. voted_others k (leaves_queue s i) p m p u h h l (ap length out.others ∙ g.others) ∙ rw out.others;
      }

-- ---- the voters known are those that voted, after a vote too

-- a mark of a kind that the site did not have is there after the change, where it was
module _ (t : Table) (k : ℕ) (fits : k < length t.sites) (s s' : Site) (p : ℕ) where
  pub mark_stays
      : (kind : Mark → Bool) → (kind (vote_at s.votes p).mark ≡ true → kind (vote_at s'.votes p).mark ≡ true) → (u : ℕ)
      → kind (mark_at (with_site k s t) u p) ≡ true → kind (mark_at (with_site k s' t) u p) ≡ true
  mark_stays kind keeps u =
      each_site (λ j x. kind (vote_at (site_at (with_site k s t) j).votes p).mark ≡ true → kind (vote_at x.votes p).mark ≡ true) t k s' u fits
      (rw (site_same t k s fits) keeps) (λ ne. rw (site_other t k s u ne) (λ e. e))

  mark_here : mark_at (with_site k s' t) k p ≡ (vote_at s'.votes p).mark
  mark_here = ap (λ (x : Site). (vote_at x.votes p).mark) (site_same t k s' fits)

  -- who is known then: who was, and the voter itself
  known_then : (a b : Bool) (u : ℕ) {P : Type 0} → (a || (b && (eqb p p && eqb k u))) ≡ true → (a ≡ true → P) → (b ≡ true → k ≡ u → P) → P
  known_then true b u e old new = old refl
  known_then false b u e old new =
      new (and_left b (eqb p p && eqb k u) e) (eqb-true k u (and_right (eqb p p) (eqb k u) (and_right b (eqb p p && eqb k u) e)))

  pub known_cast : (m : Mark) → is_other m ≡ not (is_ok_vote m) → NoVote (vote_at s.votes p).mark → Casts k p m s s' → Known (with_site k s t) p s → Known (with_site k s' t) p s'
  known_cast m either none c h =
      let is : mark_at (with_site k s' t) k p ≡ m = mark_here ∙ ap (λ (v : Vote). v.mark) c.marks.says.here in
      record {
        oks = λ u l e. known_then (knows s.oks p u) (is_ok_vote m) u (sym (c.oks u l) ∙ e)
            (λ o. mark_stays is_ok_vote (λ y. clash y none.no_ok) u (h.oks u l o)) (λ b q. rw (← q) (ap is_ok_vote is ∙ b));
        others = λ u l e. known_then (knows s.others p u) (not (is_ok_vote m)) u (sym (c.others u l) ∙ e)
            (λ o. mark_stays is_other (λ y. clash y none.no_other) u (h.others u l o)) (λ b q. rw (← q) (ap is_other is ∙ either ∙ b));
      }
