-- What the ways through tell, retire and begin come to, over the values that the code has at hand.
use Rattle.std.proofs.Common.{Some, None, Ok, Err, ◌≡◌, ℕ, ◌-◌, ◌<◌, ◌≤◌, true, false, refl, sym, ap, arith}
use mathlib.Core.Path.{◌∙◌}
use borrow.Author.Tests.{ne_eqb, leb-true}
use Rattle.kit.proofs.Bools.{and_left, and_right}
use Rattle.std.specs.Prelude.{pos, not, ◌&&◌, ◌||◌, cond, eqb, leb, get_or, set, Option, Result}
use Rattle.kit.proofs.Ranges.{first_le}
use Rattle.plans.proofs.Found.{found_there, missing, none_with, none_free}
use Rattle.plans.proofs.FreeSet.{free_message_is, lowest_free}
use Rattle.plans.proofs.Given.{refused_as as given_refused, given_as}
use Rattle.plans.specs.Answers.{quiet_results}
use Rattle.plans.specs.Changes.{message_from, stored}
use Rattle.plans.specs.Free.{free_among, free_message_in, lowest_in}
use Rattle.plans.specs.Pieces.{found, free_in, place_in, given_for}
use Rattle.plans.specs.declared.answer.Results.{Results}
use Rattle.plans.specs.declared.free.FreePlaces.{FreePlaces}
use Rattle.record.specs.declared.Step.{Step}
use Rattle.refusals.proofs.Numbers.{above_zero}
use Rattle.refusals.specs.Numbers.{number_of}
use Rattle.refusals.specs.declared.Refusal.{Refusal}
use Rattle.refusals.specs.declared.Refusal.TheVariants as refusal
use Rattle.stamps.specs.declared.Given.{Given}
use Rattle.table.specs.Places.{no_message, no_site, site_at, mark_at, verdict_at, with_message}
use Rattle.table.specs.Sound.{count_right, sound_table}
use Rattle.table.specs.declared.data.Message.{Message}
use Rattle.table.specs.declared.data.Table.{Table}
use Rattle.vote.specs.Data.{is_ok_vote, is_other, is_open, with_last}
use Rattle.vote.specs.declared.data.Request.{Request}
use Rattle.vote.specs.declared.data.Site.{Site}
use Rattle.walk.specs.Hearing.{taken_up}
use Rattle.walk.specs.Walking.{accepts, rejects, counts_of}
use Rattle.walk.specs.declared.walking.Settled.{Settled}
use Rattle.steps.specs.Answers.{stepped_from}
use Rattle.steps.specs.Numbers.{free_place, free_message, place_of, cannot_tell, begin_number, tell_number}
use Rattle.steps.specs.Steps.{unless_refused, entered, begun, told}

-- ---- places

module _ (t : Table) (stamp : ℕ) {r : Option ℕ} (h : r ≡ found 16 (place_in t.requests stamp)) where
  pub no_place : r ≡ None → place_of t stamp ≡ 16
  unfolding place_of place_in
  no_place e = none_with t.requests stamp (sym h ∙ e)

  pub that_place : {p : ℕ} → r ≡ Some p → (place_of t stamp ≡ p) × (p < 16)
  unfolding place_of place_in
  that_place e = found_there 16 (place_in t.requests stamp) (sym h ∙ e)

module _ (t : Table) {r : Option ℕ} (h : r ≡ found 16 (free_in t.requests)) where
  pub no_free_place : r ≡ None → free_place t ≡ 16
  unfolding free_place free_in
  no_free_place e = none_free t.requests (sym h ∙ e)

  pub that_free_place : {p : ℕ} → r ≡ Some p → (free_place t ≡ p) × (p < 16)
  unfolding free_place free_in
  that_free_place e = found_there 16 (free_in t.requests) (sym h ∙ e)

-- the free message places: none, or the lowest
module _ (t : Table) {f : FreePlaces} (e : f ≡ free_among t.messages) {r : Option ℕ} (h : r ≡ lowest_in f) where
  free_here : free_message_in f.set ≡ free_message t
  unfolding free_message
  free_here = ap (λ (x : FreePlaces). free_message_in x.set) e ∙ free_message_is t.messages

  free_le : free_message t ≤ 64
  unfolding free_message
  free_le = first_le 64 (λ j. not (get_or t.messages j no_message).used)

  pub no_message_free : r ≡ None → free_message t ≡ 64
  no_message_free n = let m = missing 64 (free_message_in f.set) (sym h ∙ n) in let l = free_le in let q = free_here in omega arith

  pub that_message : {j : ℕ} → r ≡ Some j → (j ≡ free_message t) × (j < 64)
  that_message s = let w = found_there 64 (free_message_in f.set) (sym h ∙ s) in (sym w.0 ∙ free_here, w.1)

pub message_unused : (t : Table) {j : ℕ} → (j ≡ free_message t) × (j < 64) → (get_or t.messages j no_message).used ≡ false
unfolding free_message
message_unused t h = lowest_free t.messages h.0 h.1

-- ---- tell

module _ (t : Table) (a : Step) where
  module _
      {p : ℕ} (hs : (leb 1 a.site && leb a.site t.count) ≡ true) (ht : (leb 1 a.to && leb a.to t.count) ≡ true) (up : (site_at t (a.site - 1)).up ≡ true) (hp : place_of t a.stamp ≡ p) (lp : p < 16)
      (hw : ((is_ok_vote (mark_at t (a.site - 1) p) || is_other (mark_at t (a.site - 1) p)) || not (is_open (verdict_at t (a.site - 1) p))) ≡ true) (ne : a.site ≡ a.to → ⊥) where
    -- 64 messages are under way
    pub tells_full : free_message t ≡ 64 → stepped_from (Err refusal.MessagesFull) t ≡ unless_refused (tell_number t a) (told t a) t
    unfolding tell_number cannot_tell
    tells_full full = rw (hs, ht, up, hp, ne_eqb p 16 (λ e. omega arith), hw, ne_eqb a.site a.to ne, full) refl

    -- the message is put
    pub tells
        : {j : ℕ} {m : Message} {q : Results} → j ≡ free_message t → j < 64 → m ≡ message_from (site_at t (a.site - 1)) p (a.site - 1) (a.to - 1) → q ≡ quiet_results (pos j) 0
        → stepped_from (Ok q) (with_message j m t) ≡ unless_refused (tell_number t a) (told t a) t
    unfolding tell_number cannot_tell told accepts rejects
    tells {j} hj lj hm hq = rw (hq, hm, hs, ht, up, hp, ne_eqb p 16 (λ e. omega arith), hw, ne_eqb a.site a.to ne, ← hj, ne_eqb j 64 (λ e. omega arith)) refl

-- ---- begin

module _ (t : Table) (a : Step) (hs : (leb 1 a.site && leb a.site t.count) ≡ true) (up : (site_at t (a.site - 1)).up ≡ true) where
  -- refused by 5 to 8
  pub begin_refused
      : {r : Refusal} {x : Result Results Refusal} → given_for t.count (site_at t (a.site - 1)).last a ≡ Err r → x ≡ Err r
      → stepped_from x t ≡ unless_refused (begin_number t a) (begun t a) t
  unfolding begin_number
  begin_refused {r} h e =
      let z : 0 < number_of r = above_zero r in
      rw (e, hs, up, given_refused t.count (site_at t (a.site - 1)).last a (cond (eqb (free_place t) 16) 9 0) h, ne_eqb (number_of r) 0 (λ e. omega arith)) refl

  module _ {g : Given} (h : given_for t.count (site_at t (a.site - 1)).last a ≡ Ok g) where
    numbered : begin_number t a ≡ cond (eqb (free_place t) 16) 9 0
    unfolding begin_number
    numbered = rw (hs, up, (given_as t.count (site_at t (a.site - 1)).last a (cond (eqb (free_place t) 16) 9 0) h).0) refl

    -- 16 requests are held
    pub begin_full : free_place t ≡ 16 → stepped_from (Err refusal.RequestsFull) t ≡ unless_refused (begin_number t a) (begun t a) t
    begin_full e = rw (numbered, e) refl

    -- the request q is stored at place p, and its site considers it
    pub begins
        : {p : ℕ} {q : Request} {s : Site} {c : Settled} → free_place t ≡ p → p < 16 → q ≡ stored a g.stamp
        → s ≡ (taken_up (a.site - 1) t.count (set t.requests p q) (get_or (set t.sites (a.site - 1) (with_last g.t (site_at t (a.site - 1)))) (a.site - 1) no_site) p).site
        → c ≡ counts_of (taken_up (a.site - 1) t.count (set t.requests p q) (get_or (set t.sites (a.site - 1) (with_last g.t (site_at t (a.site - 1)))) (a.site - 1) no_site) p).log
        → stepped_from (Ok (record { first = pos g.stamp; second = p; accepted = c.accepted; rejected = c.rejected }))
        (record { count = t.count; sites = set (set t.sites (a.site - 1) (with_last g.t (site_at t (a.site - 1)))) (a.site - 1) s; requests = set t.requests p q; messages = t.messages })
        ≡ unless_refused (begin_number t a) (begun t a) t
    unfolding begun entered
    begins {p} hp lp hq hs₁ hc =
        rw (numbered, hp, ne_eqb p 16 (λ e. omega arith), (given_as t.count (site_at t (a.site - 1)).last a 0 h).1, hs₁, hc, hq) refl

-- ---- soundness

-- a sound table has at most 7 sites
pub sound_count : (t : Table) → sound_table t ≡ true → t.count ≤ 7
unfolding sound_table count_right
sound_count t e = leb-true t.count 7 (and_right (leb 1 t.count) _ (and_left (count_right t) _ e))
