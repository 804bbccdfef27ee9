-- A verdict at one site: a site with nothing due is quiet, a verdict due is backed, and a backed verdict leaves the table sound.
use mathlib.Core.Path.{◌≡◌, refl, sym, ap, ◌∙◌}
use mathlib.Core.Bool.{Bool, true, false, ◌&&◌}
use mathlib.Core.List.{List}
use Prim.Native.Nat.{ℕ, ◌≤◌, ◌<◌}
use native.Mathlib.Omega.{arith}
use lib.IntN.{ℤ, pos}
use lib.ListN.{get_or}
use Rattle.kit.specs.Range.{all, implies}
use Rattle.kit.proofs.Bools.{clash, and_right, implied, by_test, by_eq, of_cond}
use Rattle.kit.proofs.Ranges.{all_at}
use Rattle.readings.specs.Readings.{in_range}
use Rattle.sets.specs.Sets.{member}
use Rattle.stamps.specs.Stamps.{time_of, well_formed}
use Rattle.stamps.proofs.Laws.{well_issued}
use Rattle.table.specs.Meaning.{SoundPlace}
use Rattle.table.specs.Places.{place_at, last_of, with_site}
use Rattle.table.specs.Sound.{sets_allowed, base_stamps_allowed, values_allowed, request_allowed, backed}
use Rattle.table.specs.declared.data.Table.{Table}
use Rattle.table.proofs.Backing.{due_backed}
use Rattle.vote.specs.Data.{is_ok_vote, is_other, is_unmarked, is_deferred, is_open, vote_at, request_in}
use Rattle.vote.specs.Queue.{place_in_queue}
use Rattle.vote.specs.Shape.{ShapedSite}
use Rattle.vote.specs.Verdicts.{verdict_due, writes_item, written_site, ruled}
use Rattle.vote.specs.Voters.{knows}
use Rattle.vote.specs.declared.data.Request.{Request}
use Rattle.vote.specs.declared.data.Site.{Site}
use Rattle.vote.specs.declared.data.Verdict.{Verdict}
use Rattle.vote.specs.declared.data.Verdict.TheVariants as verdict
use Rattle.vote.proofs.After.{CopiesOf, released_queue, ruled_queue_deferred, ruled_queue_other, ruled_accepted, ruled_other}
use Rattle.vote.proofs.Fields.{ruled_keeps}
use Rattle.vote.proofs.MarkKinds.{open_is, after_not_deferred, after_ok, after_other, request_in_lem}
use Rattle.vote.proofs.Queues.{waits_found, place_hit}
use Rattle.vote.proofs.Said.{Says, mark_after, ruled_says}
use Rattle.vote.proofs.Shapes.{ruled_shape, shaped_as}
use Rattle.vote.proofs.VerdictsDue.{open_due}
use Rattle.vote.proofs.Writes.{written_stamp, written_value, writes_facts}
use Rattle.upkeep.specs.But.{HoldingBut, SoundBut}
use Rattle.upkeep.proofs.Carried.{Grown, SiteRight, backed_grown, right_carried}
use Rattle.upkeep.proofs.Lifting.{At, Fine, FineBut, Changed, held_at, right_at, fine_whole, later_changed, grown_changed, lifted}
use Rattle.upkeep.proofs.Queueing.{Queued, queued_means, queued_of, queued_same, queued_left}

-- ---- the copies

-- of a site of t, these are the stamps and values
pub record CopiesRight (t : Table) (stamps : List ℕ) (values : List ℤ) : Type 0 where
  pub form : (i : ℕ) → i < 24 → well_formed t.count (get_or stamps i 0) ≡ true
  pub time : (i : ℕ) → i < 24 → time_of (get_or stamps i 0) ≤ last_of t (get_or stamps i 0)
  pub value : (i : ℕ) → i < 24 → in_range (get_or values i (pos 0)) ≡ true
  pub blank : (i : ℕ) → i < 24 → get_or stamps i 0 ≡ 0 → get_or values i (pos 0) ≡ pos 0

pub copies_right : {t : Table} {s : Site} → SiteRight t s → CopiesRight t s.stamps s.values
copies_right h = record { form = h.copy_form; time = h.copy_time; value = h.copy_value; blank = h.copy_blank }

pub queue_right : {t : Table} {s : Site} → ShapedSite s → SiteRight t s → Queued s
queue_right {t} {s} g h = queued_means s g.queue h.queue_end h.queue

pub right_of : {t : Table} {s : Site} → Queued s → CopiesRight t s.stamps s.values → SiteRight t s
right_of {t} {s} q c = record {
  queue_end = λ i h l. q.tidy.blank i l;
  queue = queued_of s q;
  copy_form = c.form;
  copy_time = c.time;
  copy_value = c.value;
  copy_blank = c.blank;
}

-- the request's values are in range
value_in : (n : ℕ) (q : Request) (i : ℕ) → request_allowed n q ≡ true → i < 24 → member q.update i ≡ true → in_range (get_or q.values i (pos 0)) ≡ true
unfolding request_allowed values_allowed
value_in n q i e h m =
    let sets : Bool = sets_allowed q.base q.update in
    let base : Bool = base_stamps_allowed n q.base q.stamps in
    let vals : Bool = all 24 (λ j. implies (member q.update j) (in_range (get_or q.values j (pos 0)))) in
    implied _ _ (all_at (λ j. implies (member q.update j) (in_range (get_or q.values j (pos 0)))) 24 i (and_right base vals (and_right sets (base && vals) e)) h) m

-- what a used request writes is right
written_right : (t : Table) (s : Site) (p : ℕ) → ShapedSite s → SoundPlace t p → ((place_at t p).stamp ≡ 0 → ⊥) → CopiesRight t s.stamps s.values
    → CopiesRight t (written_site s (place_at t p)).stamps (written_site s (place_at t p)).values
written_right t s p g place used c =
    let q : Request = place_at t p in
    let w : ℕ → Bool = writes_item s.stamps q in
    record {
      form = λ i h. rw (written_stamp s q i h g.stamps) (of_cond (λ x. well_formed t.count x ≡ true) (w i) (λ y. well_issued t.count q.stamp (place.form used)) (λ n. c.form i h));
      time = λ i h. rw (written_stamp s q i h g.stamps) (of_cond (λ x. time_of x ≤ last_of t x) (w i) (λ y. place.time) (λ n. c.time i h));
      value = λ i h. rw (written_value s q i h g.values) (of_cond (λ x. in_range x ≡ true) (w i) (λ y. value_in t.count q i (place.allowed used) h (writes_facts s.stamps q i y).0) (λ n. c.value i h));
      blank = λ i h. rw (written_stamp s q i h g.stamps, written_value s q i h g.values)
          (by_test (w i) (λ y. rw y (λ z. absurd (used z))) (λ n. rw n (c.blank i h)));
    }

-- ---- at site k of t

module _ (t : Table) (k : ℕ) (a : At t k) where
  abbrev T : Site → Table
  T s = with_site k s t

  -- nothing is due, and the request was marked
  pub settled_fine
      : {s : Site} (p : ℕ) → FineBut t k p s → is_open (verdict_due t.count s.oks s.others p) ≡ true → is_unmarked (vote_at s.votes p).mark ≡ false
      → Fine t k s
  settled_fine {s} p f e m =
      let d = open_due t.count s.oks s.others p (open_is _ e) in
      fine_whole t k a p f (record { few_oks = λ o. d.0; few_others = λ o. d.1; unheard_oks = λ o u. clash u m; unheard_others = λ o u. clash u m })

  -- a verdict that is due there is backed
  pub due_backed_at : {s : Site} (p : ℕ) → p < 16 → FineBut t k p s → backed (T s) p (verdict_due t.count s.oks s.others p) ≡ true
  due_backed_at {s} p hp f = let h = held_at t k a p hp f.sound in due_backed (T s) p s (record { oks = h.known_ok; others = h.known_other })

  module _ (s : Site) (p : ℕ) (d : Verdict) (hp : p < 16) (f : FineBut t k p s) where
    abbrev s' : Site
    s' = ruled s (place_at t p) p d

    says : Says p (record { mark = mark_after (vote_at s.votes p).mark; verdict = d }) s s'
    says = ruled_says s (place_at t p) p d (rw f.shaped.votes hp)

    ruled_changed : Changed p s s'
    ruled_changed =
        let keep = ruled_keeps s (place_at t p) p d in
        record {
          last = keep.last;
          elsewhere = λ q h ne. record {
            vote = says.elsewhere q ne;
            oks = λ u l. ap (λ (known : List Bool). knows known q u) keep.oks;
            others = λ u l. ap (λ (known : List Bool). knows known q u) keep.others;
          };
          keeps_ok = λ e. ap (λ v. is_ok_vote v.mark) says.here ∙ after_ok (vote_at s.votes p).mark ∙ e;
          keeps_other = λ e. ap (λ v. is_other v.mark) says.here ∙ after_other (vote_at s.votes p).mark ∙ e;
        }

    ruled_held : backed (T s) p d ≡ true → HoldingBut (T s') s' k p
    ruled_held b =
        let keep = ruled_keeps s (place_at t p) p d in
        let h : HoldingBut (T s) s k p = held_at t k a p hp f.sound in
        let g : Grown (T s) (T s') p = grown_changed t k a p s s' ruled_changed p hp in
        let mk = (vote_at s.votes p).mark in
        record {
          known_ok = λ u l e. g.ok u l (h.known_ok u l (rw keep.oks at e));
          known_other = λ u l e. g.other u l (h.known_other u l (rw keep.others at e));
          own_ok = λ e. rw keep.oks (h.own_ok (sym (after_ok mk) ∙ sym (ap (λ v. is_ok_vote v.mark) says.here) ∙ e));
          own_other = λ e. rw keep.others (h.own_other (sym (after_other mk) ∙ sym (ap (λ v. is_other v.mark) says.here) ∙ e));
          backing = rw says.here (backed_grown (T s) (T s') p d refl g b);
          judged = λ o. rw says.here (after_not_deferred mk);
        }

    ruled_queued : Queued s'
    ruled_queued =
        let q : Queued s = queue_right f.shaped (right_at t k a f.sound) in
        let mk = (vote_at s.votes p).mark in
        by_test (is_deferred mk)
        (λ e. let found = waits_found s p (q.waits p hp e) in
        let of-r = ruled_queue_deferred s p (place_at t p) d e in
        let of-l = released_queue s p found in
        queued_left (place_in_queue s.queue s.waiting p) q found (place_hit s.queue s.waiting p found)
        (record { queue = of-r.queue ∙ of-l.queue; waiting = of-r.waiting ∙ of-l.waiting }) says (after_not_deferred mk))
        (λ e. queued_same q (ruled_queue_other s p (place_at t p) d e)
        (λ x h. by_eq x p (λ z. rw z (ap (λ v. is_deferred v.mark) says.here ∙ after_not_deferred mk ∙ sym e)) (λ ne. ap (λ v. is_deferred v.mark) (says.elsewhere x ne))))

    ruled_copies : ((place_at t p).stamp ≡ 0 → ⊥) → CopiesRight (T s) s'.stamps s'.values
    ruled_copies used = go d refl
      where
        old : CopiesRight (T s) s.stamps s.values
        old = copies_right (right_at t k a f.sound)

        of : (u : Site) → CopiesOf u s' → CopiesRight (T s) u.stamps u.values → CopiesRight (T s) s'.stamps s'.values
        of u c h = rw (c.stamps, c.values) h

        go : (x : Verdict) → d ≡ x → CopiesRight (T s) s'.stamps s'.values
        go verdict.Open e = of s (ruled_other s (place_at t p) p d (λ z. let y : ◌≡◌ {A = ℕ} 0 1 = cc in let w : ⊥ = omega arith in w)) old
        go verdict.Rejected e = of s (ruled_other s (place_at t p) p d (λ z. let y : ◌≡◌ {A = ℕ} 0 1 = cc in let w : ⊥ = omega arith in w)) old
        go verdict.Accepted e =
            of (written_site s (place_at t p)) (rw e (ruled_accepted s (place_at t p) p)) (written_right (T s) s p f.shaped (f.sound.place p hp) used old)

    -- a backed verdict on a used place
    pub ruled_place_fine : ((place_at t p).stamp ≡ 0 → ⊥) → is_open d ≡ false → backed (T s) p d ≡ true → Fine t k s'
    ruled_place_fine used o b =
        let new : SoundBut (T s') k p = lifted t k a p s s' ruled_changed hp used f.sound
        (right_carried refl (later_changed t k a p s s' ruled_changed) (right_of ruled_queued (ruled_copies used))) (ruled_held b) in
        let shut : is_open (vote_at s'.votes p).verdict ≡ false = ap (λ v. is_open v.verdict) says.here ∙ o in
        fine_whole t k a p (record { shaped = shaped_as (ruled_shape s (place_at t p) p d) f.shaped; sound = new })
        (record { few_oks = λ e. clash e shut; few_others = λ e. clash e shut; unheard_oks = λ e u. clash e shut; unheard_others = λ e u. clash e shut })

  pub ruled_fine
      : (s : Site) (p : ℕ) (d : Verdict) → p < 16 → ((place_at t p).stamp ≡ 0 → ⊥) → FineBut t k p s → is_open d ≡ false → backed (T s) p d ≡ true
      → Fine t k (ruled s (request_in t.requests p) p d)
  ruled_fine s p d hp used f o b = rw (request_in_lem t.requests p hp) (ruled_place_fine s p d hp f used o b)
