-- The other changes of a table that keep it sound: a message put or lost, a site put up or down, a request entered or retired.
use mathlib.Core.Path.{◌≡◌, refl, sym, ap, ◌∙◌}
use mathlib.Core.Bool.{Bool, true, false, cond}
use mathlib.Core.List.{List}
use Prim.Native.Nat.{ℕ, suc, ◌-◌, ◌≤◌, ◌<◌}
use native.Mathlib.Omega.{arith}
use lib.ListN.{length, length-set}
use lib.Seq.{get_or-set_same, get_or-set_other}
use Rattle.kit.specs.Lists.{changed}
use Rattle.kit.proofs.Bools.{clash, by_eq, by_lt, of_cond}
use Rattle.kit.proofs.Changes.{length_changed, changed_at, each_set}
use Rattle.stamps.specs.Stamps.{time_of, digit_of, issued_form}
use Rattle.stamps.proofs.Laws.{form_some}
use Rattle.table.specs.Blank.{holds_nothing}
use Rattle.table.specs.Fresh.{blank_message}
use Rattle.table.specs.Meaning.{ShapedRequest, ShapedMessage, ShapedTable, Holding, SoundSite, SoundPlace, SoundMessage, Sound}
use Rattle.table.specs.Places.{no_site, no_message, site_at, message_at, place_at, mark_at, verdict_at, last_of, with_sites, with_site, with_request, with_message}
use Rattle.table.specs.Sound.{times_queued, request_allowed, queue_exact, marks_ok, marks_other, backed}
use Rattle.table.specs.declared.data.Message.{Message}
use Rattle.table.specs.declared.data.Table.{Table}
use Rattle.table.proofs.Nothing.{Nothing, nothing_means, blank_holds}
use Rattle.table.proofs.Places.{site_same, site_other, each_site, shaped_with_site, shaped_with_request, shaped_with_message}
use Rattle.vote.specs.Data.{no_request, is_ok_vote, is_other, is_unmarked, is_deferred, is_open, vote_at, blank_request, with_up, with_last}
use Rattle.vote.specs.Shape.{ShapedSite}
use Rattle.vote.specs.Voters.{knows, voters_of, has_voter, no_row}
use Rattle.vote.specs.declared.data.Request.{Request}
use Rattle.vote.specs.declared.data.Site.{Site}
use Rattle.vote.specs.declared.data.Vote.{Vote}
use Rattle.vote.proofs.KnownVoters.{length_voters_of}
use Rattle.vote.proofs.MarkKinds.{unmarked_not_deferred}
use Rattle.vote.proofs.Rows.{row_known, row_none}
use Rattle.upkeep.proofs.Blanks.{nothing_held, nothing_quiet, blank_place, blank_message_lem, blank_stamp, shaped_blank_request, shaped_blank_message}
use Rattle.upkeep.proofs.Buts.{holding_but, holding_quiet, holding_of}
use Rattle.upkeep.proofs.Carried.{Grown, Later, SameHeld, SiteRight, nothing_carried, held_carried, quiet_carried, site_right, site_sound, right_carried, place_carried, message_carried, backed_grown}
use Rattle.upkeep.proofs.Forgetting.{forgets, forgets_shaped, forgets_elsewhere, forgets_here, forgets_blank}
use Rattle.upkeep.proofs.Queueing.{queued_same}
use Rattle.upkeep.proofs.Ruling.{copies_right, queue_right, right_of}

-- ---- sites that stay as they were, but for being up and a later last t

pub record AsBefore (s s' : Site) : Type 0 where
  pub last : s.last ≤ s'.last
  pub stamps : s'.stamps ≡ s.stamps
  pub values : s'.values ≡ s.values
  pub queue : s'.queue ≡ s.queue
  pub waiting : s'.waiting ≡ s.waiting
  pub votes : s'.votes ≡ s.votes
  pub oks : s'.oks ≡ s.oks
  pub others : s'.others ≡ s.others

before_same : (s : Site) → AsBefore s s
before_same s = record { last = omega arith; stamps = refl; values = refl; queue = refl; waiting = refl; votes = refl; oks = refl; others = refl }

before_held : {s s' : Site} (q : ℕ) → AsBefore s s' → SameHeld s s' q
before_held q a = record {
  vote = ap (λ (l : List Vote). vote_at l q) a.votes;
  oks = λ u l. ap (λ (known : List Bool). knows known q u) a.oks;
  others = λ u l. ap (λ (known : List Bool). knows known q u) a.others;
}

before_exact : (s s' : Site) → AsBefore s s' → queue_exact s ≡ true → queue_exact s' ≡ true
unfolding queue_exact times_queued
before_exact s s' a e = rw (a.waiting, a.queue, a.votes) e

before_right : {t : Table} {s s' : Site} → AsBefore s s' → SiteRight t s → SiteRight t s'
before_right {t} {s} {s'} a h = record {
  queue_end = rw (a.waiting, a.queue) h.queue_end;
  queue = before_exact s s' a h.queue;
  copy_form = rw a.stamps h.copy_form;
  copy_time = rw a.stamps h.copy_time;
  copy_value = rw a.values h.copy_value;
  copy_blank = rw (a.stamps, a.values) h.copy_blank;
}

module _ (t t' : Table) (n : t'.count ≡ t.count) (same : (j : ℕ) → j < 7 → AsBefore (site_at t j) (site_at t' j))
    (blank : (j : ℕ) → j < 7 → t.count ≤ j → site_at t' j ≡ site_at t j) (b : Sound t) where
  later_again : Later t t'
  later_again = record { last = λ j h. (same j h).last }

  grown_again : (q : ℕ) → Grown t t' q
  grown_again q = record {
    ok = λ u h e. ap (λ (l : List Vote). is_ok_vote (vote_at l q).mark) (same u h).votes ∙ e;
    other = λ u h e. ap (λ (l : List Vote). is_other (vote_at l q).mark) (same u h).votes ∙ e;
  }

  site_again : (j : ℕ) → j < 7 → SoundSite t' j
  site_again j h =
      site_sound t' j (λ l. let c : t.count ≤ j = rw n at l in rw (blank j h c) ((b.site j h).unused c))
      (right_carried n later_again (before_right (same j h) (site_right (b.site j h))))

  nothing_again : (j q : ℕ) → j < 7 → holds_nothing (site_at t j) q ≡ true → holds_nothing (site_at t' j) q ≡ true
  nothing_again j q h e = nothing_carried (before_held q (same j h)) e

  holding_again : (j q : ℕ) → j < 7 → q < 16 → Holding t' j q
  holding_again j q h l =
      holding_of t' j q (held_carried n h (grown_again q) (before_held q (same j h)) (holding_but (b.holding j q h l)))
      (rw n (quiet_carried (before_held q (same j h)) (holding_quiet (b.holding j q h l))))

  -- a place that stays as it was, under places that stayed
  place_again : (q : ℕ) → q < 16 → place_at t' q ≡ place_at t q → (((place_at t q).stamp ≡ 0 → ⊥) → (r : ℕ) → r < q → (place_at t' r).stamp ≡ (place_at t q).stamp → ⊥) → SoundPlace t' q
  place_again q h e new = place_carried n later_again e (λ z j l. nothing_again j q l ((b.place q h).free_held z j l)) new (b.place q h)

  message_again
      : (i : ℕ) → i < 64 → message_at t' i ≡ message_at t i
      → ((message_at t i).used ≡ true → (place_at t' (message_at t i).request).stamp ≡ 0 → (place_at t (message_at t i).request).stamp ≡ 0) → SoundMessage t' i
  message_again i h e place = message_carried n e place (λ u. grown_again (message_at t i).request) (b.message i h)

  sound_again : ((q : ℕ) → q < 16 → SoundPlace t' q) → ((i : ℕ) → i < 64 → SoundMessage t' i) → Sound t'
  sound_again places messages = record {
    count_from = rw n b.count_from;
    count_to = rw n b.count_to;
    site = site_again;
    place = places;
    message = messages;
    holding = holding_again;
  }

-- ---- a message

-- what a message may say in t
pub record MessageRight (t : Table) (m : Message) : Type 0 where
  pub used : m.used ≡ true
  pub place : m.request < 16
  pub request : (place_at t m.request).stamp ≡ 0 → ⊥
  pub from : m.from < t.count
  pub to : m.to < t.count
  pub two : m.from ≡ m.to → ⊥
  pub oks : (u : ℕ) → u < 7 → has_voter m.oks u ≡ true → marks_ok t m.request u ≡ true
  pub others : (u : ℕ) → u < 7 → has_voter m.others u ≡ true → marks_other t m.request u ≡ true
  pub backing : backed t m.request m.verdict ≡ true

module _ (t : Table) (i : ℕ) (m : Message) (g : ShapedTable t) (b : Sound t) (hi : i < 64) where
  abbrev M : Table
  M = with_message i m t

  message_here : message_at M i ≡ m
  message_here = get_or-set_same t.messages i m no_message (rw g.messages hi)

  grown_message : (q : ℕ) → Grown t M q
  grown_message q = grown_again t M refl (λ j h. before_same (site_at t j)) (λ j h l. refl) b q

  put_with : SoundMessage M i → Sound M
  put_with new =
      sound_again t M refl (λ j h. before_same (site_at t j)) (λ j h l. refl) b
      (λ q h. place_again t M refl (λ j h. before_same (site_at t j)) (λ j h l. refl) b q h refl (b.place q h).own_stamp)
      (λ j h. by_eq j i (λ e. rw e new)
      (λ ne. message_again t M refl (λ j h. before_same (site_at t j)) (λ j h l. refl) b j h (get_or-set_other t.messages i j m no_message ne) (λ u z. z)))

  right_message : MessageRight t m → SoundMessage M i
  right_message r = record {
    unused = rw message_here (λ u. clash r.used u);
    names_place = rw message_here (λ u. r.place);
    names_request = rw message_here (λ u. r.request);
    names_from = rw message_here (λ u. r.from);
    names_to = rw message_here (λ u. r.to);
    names_two = rw message_here (λ u. r.two);
    sent_ok = rw message_here r.oks;
    sent_other = rw message_here r.others;
    sent_is_backed = rw message_here (backed_grown t M m.request m.verdict refl (grown_message m.request) r.backing);
  }

  -- put at a place of the table
  pub put_sound : ShapedMessage m → MessageRight t m → Sound M × ShapedTable M
  put_sound h r = (put_with (right_message r), shaped_with_message t i m hi g h)

-- lost
pub dropped_sound : (t : Table) (i : ℕ) → ShapedTable t → Sound t → i < 64 → Sound (with_message i blank_message t) × ShapedTable (with_message i blank_message t)
dropped_sound t i g b hi = (
  put_with t i blank_message g b hi (blank_message_lem (with_message i blank_message t) i (message_here t i blank_message g b hi)),
  shaped_with_message t i blank_message hi g shaped_blank_message,
)

length_none : length no_row ≡ 7
unfolding no_row
length_none = refl

-- told: site k tells site j what it holds of place p
module _ (t : Table) (k j p : ℕ) where
  abbrev pub tells : Message
  tells = record {
    used = true;
    request = p;
    from = k;
    to = j;
    verdict = verdict_at t k p;
    oks = cond (is_open (verdict_at t k p)) (voters_of (site_at t k).oks p) no_row;
    others = cond (is_open (verdict_at t k p)) (voters_of (site_at t k).others p) no_row;
  }

  pub told_sound
      : (i : ℕ) → ShapedTable t → Sound t → i < 64 → k < t.count → j < t.count → (k ≡ j → ⊥) → p < 16 → ((place_at t p).stamp ≡ 0 → ⊥)
      → Sound (with_message i tells t) × ShapedTable (with_message i tells t)
  told_sound i g b hi hk hj two hp used = put_sound t i tells g b hi shape right
    where
      seven : t.count ≤ 7
      seven = b.count_to

      held : Holding t k p
      held = b.holding k p (omega (arith, seven)) hp

      long : (known : List Bool) → length (cond (is_open (verdict_at t k p)) (voters_of known p) no_row) ≡ 7
      long known = of_cond (λ l. length l ≡ 7) (is_open (verdict_at t k p)) (λ o. length_voters_of known p) (λ o. length_none)

      shape : ShapedMessage tells
      shape = record { oks = long (site_at t k).oks; others = long (site_at t k).others }

      said : (known : List Bool) (mark : ℕ → Bool) → ((u : ℕ) → u < 7 → knows known p u ≡ true → mark u ≡ true) → (u : ℕ) → u < 7
          → has_voter (cond (is_open (verdict_at t k p)) (voters_of known p) no_row) u ≡ true → mark u ≡ true
      said known mark h u l =
          of_cond (λ row. has_voter row u ≡ true → mark u ≡ true) (is_open (verdict_at t k p)) (λ o e. h u l (sym (row_known known p u l) ∙ e)) (λ o e. clash e (row_none u))

      right : MessageRight t tells
      right = record {
        used = refl;
        place = hp;
        request = used;
        from = hk;
        to = hj;
        two = two;
        oks = said (site_at t k).oks (marks_ok t p) held.known_ok;
        others = said (site_at t k).others (marks_other t p) held.known_other;
        backing = held.backing;
      }

-- ---- a site put up or down, with a later last t

module _ (t : Table) (k : ℕ) (s' : Site) (g : ShapedTable t) (b : Sound t) (hk : k < t.count) (a : AsBefore (site_at t k) s') where
  abbrev S : Table
  S = with_site k s' t

  in_seven : k < 7
  in_seven = let z = b.count_to in omega arith

  sites_before : (j : ℕ) → j < 7 → AsBefore (site_at t j) (site_at S j)
  sites_before j h = each_site (λ i x. AsBefore (site_at t i) x) t k s' j (rw g.sites in_seven) a (λ ne. before_same (site_at t j))

  sites_blank : (j : ℕ) → j < 7 → t.count ≤ j → site_at S j ≡ site_at t j
  sites_blank j h l = site_other t k s' j (λ e. let z : ⊥ = omega arith in z)

  before_shaped : ShapedSite s'
  before_shaped =
      let o = g.site k in_seven in
      record {
        stamps = ap length a.stamps ∙ o.stamps;
        values = ap length a.values ∙ o.values;
        queue = ap length a.queue ∙ o.queue;
        votes = ap length a.votes ∙ o.votes;
        oks = ap length a.oks ∙ o.oks;
        others = ap length a.others ∙ o.others;
      }

  shaped_before : ShapedTable S
  shaped_before = shaped_with_site t k s' in_seven g before_shaped

  pub moved_on_sound : Sound S × ShapedTable S
  moved_on_sound = (
    sound_again t S refl sites_before sites_blank b (λ q h. place_again t S refl sites_before sites_blank b q h refl (b.place q h).own_stamp)
        (λ i h. message_again t S refl sites_before sites_blank b i h refl (λ u z. z)),
    shaped_before,
  )

pub put_up_sound
    : (t : Table) (k : ℕ) (up : Bool) → ShapedTable t → Sound t → k < t.count
    → Sound (with_site k (with_up up (site_at t k)) t) × ShapedTable (with_site k (with_up up (site_at t k)) t)
put_up_sound t k up g b hk =
    moved_on_sound t k (with_up up (site_at t k)) g b hk
    (record { last = omega arith; stamps = refl; values = refl; queue = refl; waiting = refl; votes = refl; oks = refl; others = refl })

-- ---- a request entered at a free place by its own site

module _ (t : Table) (k p : ℕ) (q : Request) (last : ℕ) (g : ShapedTable t) (b : Sound t) (hk : k < t.count) (hp : p < 16) (free : (place_at t p).stamp ≡ 0)
    (allowed : request_allowed t.count q ≡ true) (form : issued_form t.count q.stamp ≡ true) (digit : digit_of q.stamp ≡ suc k)
    (after : (site_at t k).last < time_of q.stamp) (until : time_of q.stamp ≤ last) where
  abbrev s' : Site
  s' = with_last last (site_at t k)

  abbrev U : Table
  U = with_site k s' t

  abbrev E : Table
  E = with_request p q U

  on_site : AsBefore (site_at t k) s'
  on_site = record { last = omega arith; stamps = refl; values = refl; queue = refl; waiting = refl; votes = refl; oks = refl; others = refl }

  sites_on : (j : ℕ) → j < 7 → AsBefore (site_at t j) (site_at E j)
  sites_on = sites_before t k s' g b hk on_site

  sites_off : (j : ℕ) → j < 7 → t.count ≤ j → site_at E j ≡ site_at t j
  sites_off = sites_blank t k s' g b hk on_site

  request_here : place_at E p ≡ q
  request_here = get_or-set_same t.requests p q no_request (rw g.requests hp)

  request_there : (r : ℕ) → (r ≡ p → ⊥) → place_at E r ≡ place_at t r
  request_there r ne = get_or-set_other t.requests p r q no_request ne

  stamp_here : (place_at E p).stamp ≡ q.stamp
  stamp_here = ap (λ (x : Request). x.stamp) request_here

  -- its site's last t is now `last`
  last_here : last_of E q.stamp ≡ last
  last_here =
      let at : digit_of q.stamp - 1 ≡ k = omega arith in
      ap (λ (j : ℕ). (site_at E j).last) at ∙ ap (λ (x : Site). x.last) (site_same t k s' (rw g.sites (in_seven t k s' g b hk on_site)))

  last_there : last_of t q.stamp ≡ (site_at t k).last
  last_there = let at : digit_of q.stamp - 1 ≡ k = omega arith in ap (λ (j : ℕ). (site_at t j).last) at

  -- no request has its stamp
  stamp_new : (r : ℕ) → r < 16 → (place_at t r).stamp ≡ q.stamp → ⊥
  stamp_new r h e =
      let old : time_of q.stamp ≤ last_of t q.stamp = rw e at (b.place r h).time in
      let z = last_there in
      omega arith

  place_new : SoundPlace E p
  place_new =
      record {
        free_request = λ z. absurd (form_some t.count q.stamp form (sym stamp_here ∙ z));
        free_held = λ z. absurd (form_some t.count q.stamp form (sym stamp_here ∙ z));
        allowed = λ ne. rw request_here allowed;
        form = λ ne. rw request_here form;
        time = rw (request_here, last_here) until;
        own_stamp = λ ne r l e. stamp_new r (omega arith) (ap (λ (x : Request). x.stamp) (sym (request_there r (λ z. omega arith))) ∙ e ∙ stamp_here);
      }

  place_old : (r : ℕ) → r < 16 → (r ≡ p → ⊥) → SoundPlace E r
  place_old r h ne =
      place_again t E refl sites_on sites_off b r h (request_there r ne)
      (λ used x l e. by_eq x p (λ z. stamp_new r h (sym (sym (ap (λ (y : ℕ). (place_at E y).stamp) z ∙ stamp_here) ∙ e)))
      (λ nx. (b.place r h).own_stamp used x l (ap (λ (y : Request). y.stamp) (sym (request_there x nx)) ∙ e)))

  pub entered_sound : ShapedRequest q → Sound E × ShapedTable E
  entered_sound shape = (
    sound_again t E refl sites_on sites_off b (λ r h. by_eq r p (λ e. rw e place_new) (λ ne. place_old r h ne))
        (λ i h. message_again t E refl sites_on sites_off b i h refl
        (λ u z. by_eq (message_at t i).request p (λ e. rw e free) (λ ne. ap (λ (y : Request). y.stamp) (sym (request_there (message_at t i).request ne)) ∙ z))),
    shaped_with_request U p q hp (shaped_before t k s' g b hk on_site) shape,
  )

  -- its site has not heard of it
  site_entered : site_at E k ≡ s'
  site_entered = site_same t k s' (rw g.sites (in_seven t k s' g b hk on_site))

  unheard : Nothing (site_at t k) p
  unheard = nothing_means (site_at t k) p ((b.place p hp).free_held free k (in_seven t k s' g b hk on_site))

  pub entered_used : (place_at E p).stamp ≡ 0 → ⊥
  entered_used z = form_some t.count q.stamp form (sym stamp_here ∙ z)

  pub entered_open : is_open (verdict_at E k p) ≡ true
  entered_open = ap (λ (x : Site). is_open (vote_at x.votes p).verdict) site_entered ∙ unheard.unruled

  pub entered_unmarked : is_unmarked (mark_at E k p) ≡ true
  entered_unmarked = ap (λ (x : Site). is_unmarked (vote_at x.votes p).mark) site_entered ∙ unheard.unmarked

-- ---- a request retired: every site has a verdict on it, and no message names it

module _ (t : Table) (p : ℕ) (f : ℕ → Site → Site) (is : (j : ℕ) (s : Site) → f j s ≡ forgets p s) (g : ShapedTable t) (b : Sound t) (hp : p < 16)
    (judged : (k : ℕ) → k < t.count → is_open (verdict_at t k p) ≡ false) (unnamed : (i : ℕ) → i < 64 → (message_at t i).used ≡ true → (message_at t i).request ≡ p → ⊥) where
  abbrev R : Table
  R = with_request p blank_request (with_sites (changed 7 f t.sites) t)

  site_then : (j : ℕ) → j < 7 → site_at R j ≡ forgets p (site_at t j)
  site_then j h = changed_at 7 f t.sites no_site j h (rw g.sites h) ∙ is j (site_at t j)

  request_then : (r : ℕ) → (r ≡ p → ⊥) → place_at R r ≡ place_at t r
  request_then r ne = get_or-set_other t.requests p r blank_request no_request ne

  request_gone : place_at R p ≡ blank_request
  request_gone = get_or-set_same t.requests p blank_request no_request (rw g.requests hp)

  same_then : (j q : ℕ) → j < 7 → q < 16 → (q ≡ p → ⊥) → SameHeld (site_at t j) (site_at R j) q
  same_then j q h hq ne = rw (site_then j h) (forgets_elsewhere p (site_at t j) (g.site j h) hp q hq ne)

  nothing_then : (j : ℕ) → j < 7 → Nothing (site_at R j) p
  nothing_then j h = rw (site_then j h) (forgets_here p (site_at t j) (g.site j h) hp)

  later_then : Later t R
  later_then = record { last = λ j h. rw (site_then j h) (omega arith) }

  grown_then : (q : ℕ) → q < 16 → (q ≡ p → ⊥) → Grown t R q
  grown_then q hq ne = record {
    ok = λ u h e. ap (λ (v : Vote). is_ok_vote v.mark) (same_then u q h hq ne).vote ∙ e;
    other = λ u h e. ap (λ (v : Vote). is_other v.mark) (same_then u q h hq ne).vote ∙ e;
  }

  -- it was deferred nowhere
  undeferred : (j : ℕ) → j < 7 → is_deferred (mark_at t j p) ≡ false
  undeferred j h =
      by_lt j t.count (λ l. (b.holding j p h hp).judged (judged j l))
      (λ l. unmarked_not_deferred (mark_at t j p) (nothing_means (site_at t j) p (blank_holds (site_at t j) ((b.site j h).unused l) p hp)).unmarked)

  right_then : (j : ℕ) → j < 7 → SiteRight R (forgets p (site_at t j))
  right_then j h =
      let old : SiteRight t (site_at t j) = site_right (b.site j h) in
      right_carried {t = t} refl later_then (right_of
      (queued_same (queue_right (g.site j h) old) (record { queue = refl; waiting = refl })
      (λ x l. by_eq x p
      (λ e. rw e (unmarked_not_deferred (vote_at (forgets p (site_at t j)).votes p).mark (forgets_here p (site_at t j) (g.site j h) hp).unmarked ∙ sym (undeferred j h)))
      (λ ne. ap (λ (v : Vote). is_deferred v.mark) (forgets_elsewhere p (site_at t j) (g.site j h) hp x l ne).vote)))
      (copies_right old))

  site_retired : (j : ℕ) → j < 7 → SoundSite R j
  site_retired j h =
      site_sound R j (λ l. rw (site_then j h) (forgets_blank p (site_at t j) (g.site j h) hp ((b.site j h).unused l)))
      (rw (site_then j h) (right_then j h))

  place_retired : (r : ℕ) → r < 16 → SoundPlace R r
  place_retired r h =
      by_eq r p (λ e. rw e (blank_place R p request_gone (λ k l. nothing_then k l)))
      (λ ne. place_carried {t = t} refl later_then (request_then r ne) (λ z j l. nothing_carried (same_then j r l h ne) ((b.place r h).free_held z j l))
      (λ used x l e. by_eq x p (λ y. used (sym e ∙ ap (λ (w : ℕ). (place_at R w).stamp) y ∙ ap (λ (w : Request). w.stamp) request_gone ∙ blank_stamp))
      (λ nx. (b.place r h).own_stamp used x l (ap (λ (w : Request). w.stamp) (sym (request_then x nx)) ∙ e)))
      (b.place r h))

  message_retired : (i : ℕ) → i < 64 → SoundMessage R i
  message_retired i h =
      message_carried {t = t} refl refl (λ u z. ap (λ (w : Request). w.stamp) (sym (request_then (message_at t i).request (unnamed i h u))) ∙ z)
      (λ u. grown_then (message_at t i).request ((b.message i h).names_place u) (unnamed i h u)) (b.message i h)

  holding_retired : (j q : ℕ) → j < 7 → q < 16 → Holding R j q
  holding_retired j q h l =
      by_eq q p
      (λ e. rw e (holding_of R j p (nothing_held R (site_at R j) j p (nothing_then j h)) (nothing_quiet t.count (site_at R j) p (nothing_then j h))))
      (λ ne. holding_of R j q (held_carried {t = t} refl h (grown_then q l ne) (same_then j q h l ne) (holding_but (b.holding j q h l)))
      (quiet_carried (same_then j q h l ne) (holding_quiet (b.holding j q h l))))

  pub retired_sound : Sound R × ShapedTable R
  retired_sound = (
    record { count_from = b.count_from; count_to = b.count_to; site = site_retired; place = place_retired; message = message_retired; holding = holding_retired },
    record {
      sites = length_changed 7 f t.sites ∙ g.sites;
      requests = length-set t.requests p blank_request ∙ g.requests;
      messages = g.messages;
      site = λ j h. rw (site_then j h) (forgets_shaped p (site_at t j) (g.site j h));
      request = λ r h. each_set (λ i. ShapedRequest) t.requests p r blank_request no_request (rw g.requests hp) shaped_blank_request (λ ne. g.request r h);
      message = g.message;
    },
  )
