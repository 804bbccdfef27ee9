-- A vote, a deferral and voters heard of, at one site: the table stays sound, or sound but for that place.
use mathlib.Core.Path.{◌≡◌, refl, sym, ap, ◌∙◌}
use mathlib.Core.Bool.{Bool, true, false, not, ◌&&◌, ◌||◌, and-false, or-false, or-true}
use mathlib.Core.List.{List}
use Prim.Native.Nat.{ℕ, ◌<◌}
use borrow.Author.Tests.{eq-eqb, ne_eqb, eqb-true}
use lib.Dec.{eqb}
use lib.ListN.{length}
use Rattle.kit.proofs.Bools.{clash, and_left, and_right, by_test, by_eq}
use Rattle.table.specs.Places.{place_at, mark_at, with_site}
use Rattle.table.specs.Sound.{marks_ok, marks_other}
use Rattle.table.specs.declared.data.Table.{Table}
use Rattle.table.proofs.Nothing.{nothing_means}
use Rattle.vote.specs.Consider.{mark_of, defers}
use Rattle.vote.specs.Data.{is_ok_vote, is_other, is_unmarked, is_deferred, is_open, vote_at, with_known}
use Rattle.vote.specs.Queue.{queued_at, leaves_queue}
use Rattle.vote.specs.Verdicts.{verdict_due}
use Rattle.vote.specs.Voters.{knows, has_voter, join_voters}
use Rattle.vote.specs.Voting.{with_mark, voted, deferred, voted_from_queue}
use Rattle.vote.specs.declared.consider.Outcome.{Outcome}
use Rattle.vote.specs.declared.data.Mark.{Mark}
use Rattle.vote.specs.declared.data.Mark.TheVariants as mark
use Rattle.vote.specs.declared.data.Site.{Site}
use Rattle.vote.specs.declared.data.Vote.{Vote}
use Rattle.vote.proofs.After.{voted_oks, voted_others, voted_from_queue_lem, deferred_queue}
use Rattle.vote.proofs.Fields.{Kept, stays, may_change, voted_keeps, voted_from_keeps, deferred_keeps, leaves_keeps}
use Rattle.vote.proofs.KnownVoters.{knows_joined_row}
use Rattle.vote.proofs.MarkKinds.{NoVote, vote_kind, unmarked_no_vote, deferred_no_vote, unmarked_not_deferred}
use Rattle.vote.proofs.Queues.{Waits}
use Rattle.vote.proofs.Said.{Says, voted_says, voted_from_says, deferred_says}
use Rattle.vote.proofs.Shapes.{SameShape, voted_shape, voted_from_shape, deferred_shape, shaped_as, joined_shape}
use Rattle.upkeep.specs.But.{HoldingBut, SoundBut}
use Rattle.upkeep.proofs.Carried.{Grown, SiteRight, backed_grown, right_carried}
use Rattle.upkeep.proofs.Lifting.{At, Fine, FineBut, Changed, site_in, here, held_at, right_at, nothing_at, fine_but, later_changed, grown_changed, lifted}
use Rattle.upkeep.proofs.Queueing.{Queued, queued_same, queued_joined, queued_left}
use Rattle.upkeep.proofs.Ruling.{copies_right, queue_right, right_of, settled_fine}

-- ---- marks

-- a mark that is a vote: OK, DR or REJ
pub record IsVote (m : Mark) : Type 0 where
  pub either : is_other m ≡ not (is_ok_vote m)

pub vote_of : (o : Outcome) → defers o ≡ false → IsVote (mark_of o)
vote_of o e = record { either = vote_kind o e }

pub vote_not_deferred : (m : Mark) → IsVote m → is_deferred m ≡ false
vote_not_deferred mark.None v = refl
vote_not_deferred mark.Deferred v = clash v.either refl
vote_not_deferred mark.Ok v = refl
vote_not_deferred mark.Dr v = refl
vote_not_deferred mark.Rej v = refl

pub vote_marked : (m : Mark) → IsVote m → is_unmarked m ≡ false
vote_marked mark.None v = clash v.either refl
vote_marked mark.Deferred v = refl
vote_marked mark.Ok v = refl
vote_marked mark.Dr v = refl
vote_marked mark.Rej v = refl

-- ---- a vote, whether from the queue or not

-- of the site s, number k, changed to s': it voted m on place p
record VotedAs (k p : ℕ) (m : Mark) (s s' : Site) : Type 0 where
  says : Says p (with_mark m (vote_at s.votes p)) s s'
  oks : (q u : ℕ) → q < 16 → u < 7 → knows s'.oks q u ≡ (knows s.oks q u || (is_ok_vote m && (eqb p q && eqb k u)))
  others : (q u : ℕ) → q < 16 → u < 7 → knows s'.others q u ≡ (knows s.others q u || (not (is_ok_vote m) && (eqb p q && eqb k u)))
  last : s'.last ≡ s.last
  stamps : s'.stamps ≡ s.stamps
  values : s'.values ≡ s.values
  shape : SameShape s s'

voted_as : (k p : ℕ) (m : Mark) (s : Site) → p < 16 → length s.votes ≡ 16 → length s.oks ≡ 112 → length s.others ≡ 112 → VotedAs k p m s (voted k s p m)
voted_as k p m s hp lv lo lx =
    let keep = voted_keeps k s p m in
    record {
      says = voted_says s p (rw lv hp) k m;
      oks = λ q u hq hu. voted_oks k s p m q u hp hq hu lo;
      others = λ q u hq hu. voted_others k s p m q u hp hq hu lx;
      last = keep.last;
      stamps = keep.stamps;
      values = keep.values;
      shape = voted_shape k s p m;
    }

voted_from_as
    : (k i p : ℕ) (m : Mark) (s : Site) → p < 16 → length s.votes ≡ 16 → length s.oks ≡ 112 → length s.others ≡ 112 → VotedAs k p m s (voted_from_queue k s i p m)
unfolding voted_from_queue
voted_from_as k i p m s hp lv lo lx =
    let keep = voted_from_keeps k s i p m in
    let out = leaves_keeps s i in
    record {
      says = voted_from_says k s i p m (rw lv hp);
      oks = λ q u hq hu. voted_oks k (leaves_queue s i) p m q u hp hq hu (ap length out.oks ∙ lo) ∙ ap (λ (l : List Bool). knows l q u || (is_ok_vote m && (eqb p q && eqb k u))) out.oks;
      others = λ q u hq hu. voted_others k (leaves_queue s i) p m q u hp hq hu (ap length out.others ∙ lx) ∙ ap (λ (l : List Bool). knows l q u || (not (is_ok_vote m) && (eqb p q && eqb k u))) out.others;
      last = keep.last;
      stamps = keep.stamps;
      values = keep.values;
      shape = voted_from_shape k s i p m;
    }

-- who is known then: who was, and the voter itself
known_then : (x b : Bool) (p k u : ℕ) {P : Type 0} → (x || (b && (eqb p p && eqb k u))) ≡ true → (x ≡ true → P) → (b ≡ true → k ≡ u → P) → P
known_then true b p k u e old new = old refl
known_then false b p k u e old new =
    new (and_left b (eqb p p && eqb k u) e) (eqb-true k u (and_right (eqb p p) (eqb k u) (and_right b (eqb p p && eqb k u) e)))

known_self : (x b : Bool) (p k : ℕ) → b ≡ true → (x || (b && (eqb p p && eqb k k))) ≡ true
known_self x b p k e = rw (e, eq-eqb p p refl, eq-eqb k k refl, or-true)

known_elsewhere : (x b : Bool) (p q k u : ℕ) → (q ≡ p → ⊥) → (x || (b && (eqb p q && eqb k u))) ≡ x
known_elsewhere x b p q k u ne = rw (ne_eqb p q (λ e. ne (sym e)), and-false, or-false)

module _ (t : Table) (k : ℕ) (a : At t k) where
  abbrev T : Site → Table
  T s = with_site k s t

  -- its own mark, in the table
  mark_here : (s : Site) (q : ℕ) → mark_at (T s) k q ≡ (vote_at s.votes q).mark
  mark_here s q = ap (λ (x : Site). (vote_at x.votes q).mark) (here t k a s)

  -- what a site defers or has marked is used
  pub marked_used : (s : Site) (p q : ℕ) → p < 16 → FineBut t k q s → is_unmarked (vote_at s.votes p).mark ≡ false → (place_at t p).stamp ≡ 0 → ⊥
  marked_used s p q hp f m z = clash (nothing_means s p (nothing_at t k a s p hp f.sound z)).unmarked m

  module _ (s s' : Site) (p : ℕ) (m : Mark) (hp : p < 16) (f : FineBut t k p s) (w : VotedAs k p m s s') (v : IsVote m) (none : NoVote (vote_at s.votes p).mark) where
    vote_changed : Changed p s s'
    vote_changed = record {
      last = w.last;
      elsewhere = λ q hq ne. record {
        vote = w.says.elsewhere q ne;
        oks = λ u hu. w.oks q u hq hu ∙ known_elsewhere (knows s.oks q u) (is_ok_vote m) p q k u ne;
        others = λ u hu. w.others q u hq hu ∙ known_elsewhere (knows s.others q u) (not (is_ok_vote m)) p q k u ne;
      };
      keeps_ok = λ e. clash e none.no_ok;
      keeps_other = λ e. clash e none.no_other;
    }

    mark_new : mark_at (T s') k p ≡ m
    mark_new = mark_here s' p ∙ ap (λ (x : Vote). x.mark) w.says.here

    vote_held : HoldingBut (T s') s' k p
    vote_held =
        let h : HoldingBut (T s) s k p = held_at t k a p hp f.sound in
        let g : Grown (T s) (T s') p = grown_changed t k a p s s' vote_changed p hp in
        let is : (vote_at s'.votes p).mark ≡ m = ap (λ (x : Vote). x.mark) w.says.here in
        record {
          known_ok = λ u l e. known_then (knows s.oks p u) (is_ok_vote m) p k u (sym (w.oks p u hp l) ∙ e)
              (λ o. g.ok u l (h.known_ok u l o)) (λ b q. rw (← q) (ap is_ok_vote mark_new ∙ b));
          known_other = λ u l e. known_then (knows s.others p u) (not (is_ok_vote m)) p k u (sym (w.others p u hp l) ∙ e)
              (λ o. g.other u l (h.known_other u l o)) (λ b q. rw (← q) (ap is_other mark_new ∙ v.either ∙ b));
          own_ok = λ e. w.oks p k hp (site_in t k a) ∙ known_self (knows s.oks p k) (is_ok_vote m) p k (sym (ap is_ok_vote is) ∙ e);
          own_other = λ e. w.others p k hp (site_in t k a) ∙ known_self (knows s.others p k) (not (is_ok_vote m)) p k (sym v.either ∙ sym (ap is_other is) ∙ e);
          backing = rw w.says.here (backed_grown (T s) (T s') p (vote_at s.votes p).verdict refl g h.backing);
          judged = λ o. ap is_deferred is ∙ vote_not_deferred m v;
        }

    vote_fine : Queued s' → ((place_at t p).stamp ≡ 0 → ⊥) → FineBut t k p s'
    vote_fine q used =
        let c = copies_right (right_at t k a f.sound) in
        record {
          shaped = shaped_as w.shape f.shaped;
          sound = lifted t k a p s s' vote_changed hp used f.sound
              (right_carried refl (later_changed t k a p s s' vote_changed) (right_of q (rw (w.stamps, w.values) c))) vote_held;
        }

  -- a vote on a used place with no mark
  pub voted_fine
      : (s : Site) (p : ℕ) (m : Mark) → p < 16 → ((place_at t p).stamp ≡ 0 → ⊥) → FineBut t k p s → IsVote m → is_unmarked (vote_at s.votes p).mark ≡ true
      → FineBut t k p (voted k s p m)
  voted_fine s p m hp used f v u =
      let w = voted_as k p m s hp f.shaped.votes f.shaped.oks f.shaped.others in
      let keep = voted_keeps k s p m in
      vote_fine s (voted k s p m) p m hp f w v (unmarked_no_vote _ u)
      (queued_same (queue_right f.shaped (right_at t k a f.sound)) (record { queue = keep.queue; waiting = keep.waiting })
      (λ x h. by_eq x p
      (λ e. rw e (ap (λ (y : Vote). is_deferred y.mark) w.says.here ∙ vote_not_deferred m v ∙ sym (unmarked_not_deferred (vote_at s.votes p).mark u)))
      (λ ne. ap (λ (y : Vote). is_deferred y.mark) (w.says.elsewhere x ne))))
      used

  -- a vote on the request at place i of the queue
  module _ (s : Site) (i : ℕ) (f : Fine t k s) (h : i < s.waiting) where
    abbrev p : ℕ
    p = queued_at s.queue i

    queue_now : Queued s
    queue_now = queue_right f.shaped (right_at t k a (fine_but t k a 0 f).sound)

    waits_now : Waits s p
    waits_now = record { place = i; inside = h; there = refl }

    pub queued_below : p < 16
    queued_below = queue_now.inside p waits_now

    pub queued_used : (place_at t p).stamp ≡ 0 → ⊥
    queued_used = marked_used s p 0 queued_below (fine_but t k a 0 f) (marked_is (vote_at s.votes p).mark (queue_now.deferred p waits_now))
      where
        marked_is : (m : Mark) → is_deferred m ≡ true → is_unmarked m ≡ false
        marked_is mark.None e = clash e refl
        marked_is mark.Deferred e = refl
        marked_is mark.Ok e = refl
        marked_is mark.Dr e = refl
        marked_is mark.Rej e = refl

    pub voted_from_fine : (m : Mark) → IsVote m → FineBut t k p (voted_from_queue k s i p m)
    voted_from_fine m v =
        let w = voted_from_as k i p m s queued_below f.shaped.votes f.shaped.oks f.shaped.others in
        vote_fine s (voted_from_queue k s i p m) p m queued_below (fine_but t k a p f) w v (deferred_no_vote _ (queue_now.deferred p waits_now))
        (queued_left i queue_now h refl (voted_from_queue_lem k s i p m) w.says (vote_not_deferred m v)) queued_used

    -- the mark that it leaves
    pub voted_from_marked : (m : Mark) → IsVote m → is_unmarked (vote_at (voted_from_queue k s i p m).votes p).mark ≡ false
    voted_from_marked m v =
        ap (λ (y : Vote). is_unmarked y.mark) (voted_from_says k s i p m (rw f.shaped.votes queued_below)).here ∙ vote_marked m v

  -- ---- a deferral, and voters heard of

  -- an open place with no mark, at which nothing is due, is deferred
  pub deferred_fine
      : (s : Site) (p : ℕ) → p < 16 → ((place_at t p).stamp ≡ 0 → ⊥) → FineBut t k p s → is_open (vote_at s.votes p).verdict ≡ true
      → is_unmarked (vote_at s.votes p).mark ≡ true → is_open (verdict_due t.count s.oks s.others p) ≡ true → Fine t k (deferred s p)
  deferred_fine s p hp used f o u e =
      settled_fine t k a p (record { shaped = shaped_as (deferred_shape s p) f.shaped; sound = new }) (rw (keep.oks, keep.others) e)
      (ap (λ (y : Vote). is_unmarked y.mark) says.here)
    where
      keep : Kept stays may_change may_change stays s (deferred s p)
      keep = deferred_keeps s p

      says : Says p (with_mark mark.Deferred (vote_at s.votes p)) s (deferred s p)
      says = deferred_says s p (rw f.shaped.votes hp)

      none : NoVote (vote_at s.votes p).mark
      none = unmarked_no_vote (vote_at s.votes p).mark u

      changed : Changed p s (deferred s p)
      changed = record {
        last = keep.last;
        elsewhere = λ q hq ne. record {
          vote = says.elsewhere q ne;
          oks = λ v l. ap (λ (known : List Bool). knows known q v) keep.oks;
          others = λ v l. ap (λ (known : List Bool). knows known q v) keep.others;
        };
        keeps_ok = λ y. clash y none.no_ok;
        keeps_other = λ y. clash y none.no_other;
      }

      queue : Queued (deferred s p)
      queue =
          queued_joined (queue_right f.shaped (right_at t k a f.sound)) f.shaped.queue hp (unmarked_not_deferred (vote_at s.votes p).mark u) (deferred_queue s p) says refl

      held : HoldingBut (T (deferred s p)) (deferred s p) k p
      held =
          let h : HoldingBut (T s) s k p = held_at t k a p hp f.sound in
          let g : Grown (T s) (T (deferred s p)) p = grown_changed t k a p s (deferred s p) changed p hp in
          record {
            known_ok = λ v l y. g.ok v l (h.known_ok v l (rw keep.oks at y));
            known_other = λ v l y. g.other v l (h.known_other v l (rw keep.others at y));
            own_ok = λ y. clash y (ap (λ (x : Vote). is_ok_vote x.mark) says.here);
            own_other = λ y. clash y (ap (λ (x : Vote). is_other x.mark) says.here);
            backing = rw says.here (backed_grown (T s) (T (deferred s p)) p (vote_at s.votes p).verdict refl g h.backing);
            judged = λ y. clash (ap (λ (x : Vote). is_open x.verdict) says.here ∙ o) y;
          }

      new : SoundBut (T (deferred s p)) k p
      new =
          lifted t k a p s (deferred s p) changed hp used f.sound
          (right_carried refl (later_changed t k a p s (deferred s p) changed) (right_of queue (rw (keep.stamps, keep.values) (copies_right (right_at t k a f.sound))))) held

  -- voters that have those marks of their own are joined to the known ones of a used place
  pub joined_fine
      : (s : Site) (p : ℕ) (oks others : List Bool) → p < 16 → ((place_at t p).stamp ≡ 0 → ⊥) → FineBut t k p s
      → ((u : ℕ) → u < 7 → has_voter oks u ≡ true → marks_ok (T s) p u ≡ true) → ((u : ℕ) → u < 7 → has_voter others u ≡ true → marks_other (T s) p u ≡ true)
      → FineBut t k p (with_known (join_voters s.oks p oks) (join_voters s.others p others) s)
  joined_fine s p oks others hp used f mo mx = record {
    shaped = shaped_as (joined_shape s p oks others) f.shaped;
    sound = lifted t k a p s more changed hp used f.sound
        (right_carried refl (later_changed t k a p s more changed) (right_of (queued_same (queue_right f.shaped right) (record { queue = refl; waiting = refl }) (λ x h. refl)) (copies_right right))) held;
  }
    where
      more : Site
      more = with_known (join_voters s.oks p oks) (join_voters s.others p others) s

      right : SiteRight (T s) s
      right = right_at t k a f.sound

      known : (old row : List Bool) → length old ≡ 112 → (q u : ℕ) → q < 16 → u < 7 → knows (join_voters old p row) q u ≡ (knows old q u || (eqb p q && has_voter row u))
      known old row l q u hq hu = knows_joined_row old p row q u l hp hq hu

      there : (old row : List Bool) → length old ≡ 112 → (q : ℕ) → q < 16 → (q ≡ p → ⊥) → (u : ℕ) → u < 7 → knows (join_voters old p row) q u ≡ knows old q u
      there old row l q hq ne u hu = known old row l q u hq hu ∙ rw (ne_eqb p q (λ e. ne (sym e)), or-false)

      changed : Changed p s more
      changed = record {
        last = refl;
        elsewhere = λ q hq ne. record { vote = refl; oks = there s.oks oks f.shaped.oks q hq ne; others = there s.others others f.shaped.others q hq ne };
        keeps_ok = λ e. e;
        keeps_other = λ e. e;
      }

      -- who is known now was known, or was heard of
      now : (old row : List Bool) → length old ≡ 112 → (u : ℕ) → u < 7 → {P : Type 0} → knows (join_voters old p row) p u ≡ true → (knows old p u ≡ true → P) → (has_voter row u ≡ true → P) → P
      now old row l u hu e was new =
          by_test (knows old p u) was
          (λ n. new (and_right (eqb p p) (has_voter row u) (sym (rw n at (known old row l p u hp hu)) ∙ e)))

      still : (old row : List Bool) → length old ≡ 112 → knows old p k ≡ true → knows (join_voters old p row) p k ≡ true
      still old row l e = known old row l p k hp (site_in t k a) ∙ rw e

      held : HoldingBut (T more) more k p
      held =
          let h : HoldingBut (T s) s k p = held_at t k a p hp f.sound in
          let g : Grown (T s) (T more) p = grown_changed t k a p s more changed p hp in
          record {
            known_ok = λ u l e. g.ok u l (now s.oks oks f.shaped.oks u l e (h.known_ok u l) (mo u l));
            known_other = λ u l e. g.other u l (now s.others others f.shaped.others u l e (h.known_other u l) (mx u l));
            own_ok = λ e. still s.oks oks f.shaped.oks (h.own_ok e);
            own_other = λ e. still s.others others f.shaped.others (h.own_other e);
            backing = backed_grown (T s) (T more) p (vote_at s.votes p).verdict refl g h.backing;
            judged = h.judged;
          }
