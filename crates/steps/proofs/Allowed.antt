-- Where no number applies to a step, what each number speaks of is not so.
use mathlib.Core.Path.{◌≡◌, refl, sym, ◌∙◌}
use mathlib.Core.Bool.{Bool, true, false, not, ◌&&◌, ◌||◌, cond}
use Prim.Native.Nat.{ℕ, suc, ◌-◌, ◌≤◌, ◌<◌}
use native.Mathlib.Omega.{arith}
use borrow.Author.Tests.{eqb-true, eqb-false, leb-true, ltb-true, not-true, not-false, eq-eqb, lt-ltb}
use lib.Dec.{eqb, leb, ltb}
use Rattle.kit.specs.Range.{any, first}
use Rattle.kit.proofs.Bools.{clash, and_left, and_right, or_left, or_right, by_test, by_eq}
use Rattle.kit.proofs.Ranges.{any_at, first_hit, first_none, first_le}
use Rattle.stamps.specs.Issue.{given, issue_number}
use Rattle.stamps.proofs.Laws.{given_unless}
use Rattle.record.specs.declared.Step.{Step}
use Rattle.table.specs.Places.{site_at, message_at, place_at, used_place, is_site, mark_at, verdict_at}
use Rattle.table.specs.Sound.{sets_allowed, base_stamps_allowed, values_allowed}
use Rattle.table.specs.declared.data.Table.{Table}
use Rattle.vote.specs.Data.{is_ok_vote, is_other, is_open}
use Rattle.steps.specs.Numbers.{no_such_site, is_down, free_place, free_message, place_of, cannot_tell, no_message_at, cannot_retire, begin_number, tell_number, deliver_number, drop_number, down_number, up_number, retire_number, read_number}
use Rattle.steps.specs.Steps.{issue_for}

-- a number that does not apply, and the rest of the list
pub passed : (b : Bool) (n m : ℕ) → eqb n 0 ≡ false → cond b n m ≡ 0 → (b ≡ false) × (m ≡ 0)
passed true n m ne e = absurd (eqb-false n 0 ne e)
passed false n m ne e = (refl, e)

-- ---- sites

site_is : (t : Table) (site : ℕ) → no_such_site t site ≡ false → (1 ≤ site) × (site ≤ t.count)
site_is t site e =
    let h : (leb 1 site && leb site t.count) ≡ true = not-false _ e in
    (leb-true 1 site (and_left (leb 1 site) (leb site t.count) h), leb-true site t.count (and_right (leb 1 site) (leb site t.count) h))

-- its index is one of the table's
pub site_index_lem : (t : Table) (site : ℕ) → no_such_site t site ≡ false → (site - 1 < t.count) × (site ≡ suc (site - 1))
site_index_lem t site e = let h = site_is t site e in (omega (arith, h.0, h.1), omega (arith, h.0))

-- ---- places

pub free_place_lem : (t : Table) → (free_place t ≡ 16 → ⊥) → (free_place t < 16) × ((place_at t (free_place t)).stamp ≡ 0)
unfolding free_place
free_place_lem t ne =
    by_test (any 16 (λ p. not (used_place t p)))
    (λ e. let h = first_hit 16 (λ p. not (used_place t p)) e in (h.0, eqb-true _ _ (not-false _ (not-true _ h.1))))
    (λ e. absurd (ne (first_none 16 (λ p. not (used_place t p)) e)))

pub free_message_lem : (t : Table) → (free_message t ≡ 64 → ⊥) → free_message t < 64
unfolding free_message
free_message_lem t ne = let h = first_le 64 (λ j. not (message_at t j).used) in omega (arith, ne)

-- the place of a stamp is used
pub named_place : (t : Table) (stamp : ℕ) → (place_of t stamp ≡ 16 → ⊥) → (place_of t stamp < 16) × ((place_at t (place_of t stamp)).stamp ≡ 0 → ⊥)
unfolding place_of
named_place t stamp ne =
    by_eq stamp 0 (λ z. absurd (ne (rw (eq-eqb stamp 0 z))))
    (λ nz. by_test (eqb stamp 0) (λ e. absurd (nz (eqb-true stamp 0 e)))
    (λ f. rw f (found (λ e. ne (rw f e)) nz)))
  where
    found : (first 16 (λ p. eqb (place_at t p).stamp stamp) ≡ 16 → ⊥) → (stamp ≡ 0 → ⊥)
        → (first 16 (λ p. eqb (place_at t p).stamp stamp) < 16) × ((place_at t (first 16 (λ p. eqb (place_at t p).stamp stamp))).stamp ≡ 0 → ⊥)
    found miss nz =
        by_test (any 16 (λ p. eqb (place_at t p).stamp stamp))
        (λ e. let h = first_hit 16 (λ p. eqb (place_at t p).stamp stamp) e in (h.0, λ z. nz (sym (eqb-true _ _ h.1) ∙ z)))
        (λ e. absurd (miss (first_none 16 (λ p. eqb (place_at t p).stamp stamp) e)))

pub message_there : (t : Table) (j : ℕ) → no_message_at t j ≡ false → (j < 64) × ((message_at t j).used ≡ true)
unfolding no_message_at
message_there t j e =
    let h : (ltb j 64 && (message_at t j).used) ≡ true = not-false _ e in
    (ltb-true j 64 (and_left (ltb j 64) (message_at t j).used h), and_right (ltb j 64) (message_at t j).used h)

-- ---- step by step

module _ (t : Table) (a : Step) where
  pub record MayBegin : Type 0 where
    pub site : no_such_site t a.site ≡ false
    pub sets : sets_allowed a.base a.update ≡ true
    pub bases : base_stamps_allowed t.count a.base a.stamps ≡ true
    pub values : values_allowed a.update a.values ≡ true
    pub stamp : eqb (issue_number (issue_for t a)) 8 ≡ false
    pub place : free_place t ≡ 16 → ⊥

  pub may_begin : begin_number t a ≡ 0 → MayBegin
  unfolding begin_number
  may_begin e =
      let r1 = passed (no_such_site t a.site) 3 _ refl e in
      let r2 = passed (is_down t a.site) 4 _ refl r1.1 in
      let r3 = passed (not (sets_allowed a.base a.update)) 5 _ refl r2.1 in
      let r4 = passed (not (base_stamps_allowed t.count a.base a.stamps)) 6 _ refl r3.1 in
      let r5 = passed (not (values_allowed a.update a.values)) 7 _ refl r4.1 in
      let r6 = passed (eqb (issue_number (issue_for t a)) 8) 8 _ refl r5.1 in
      let r7 = passed (eqb (free_place t) 16) 9 0 refl r6.1 in
      record {
        site = r1.0;
        sets = not-false _ r3.0;
        bases = not-false _ r4.0;
        values = not-false _ r5.0;
        stamp = r6.0;
        place = eqb-false _ _ r7.0;
      }

  pub record MayTell : Type 0 where
    pub from : no_such_site t a.site ≡ false
    pub to : no_such_site t a.to ≡ false
    pub place : place_of t a.stamp ≡ 16 → ⊥
    pub two : a.site ≡ a.to → ⊥
    pub message : free_message t ≡ 64 → ⊥

  tells_other : (from p to : ℕ) → cannot_tell t from p to ≡ false → from ≡ to → ⊥
  unfolding cannot_tell
  tells_other from p to e =
      eqb-false from to
      (or_right (not ((is_ok_vote (mark_at t (from - 1) p) || is_other (mark_at t (from - 1) p)) || not (is_open (verdict_at t (from - 1) p)))) (eqb from to) e)

  pub may_tell : tell_number t a ≡ 0 → MayTell
  unfolding tell_number
  may_tell e =
      let r1 = passed (no_such_site t a.site || no_such_site t a.to) 3 _ refl e in
      let r2 = passed (is_down t a.site) 4 _ refl r1.1 in
      let r3 = passed (eqb (place_of t a.stamp) 16) 10 _ refl r2.1 in
      let r4 = passed (cannot_tell t a.site (place_of t a.stamp) a.to) 11 _ refl r3.1 in
      let r5 = passed (eqb (free_message t) 64) 12 0 refl r4.1 in
      record {
        from = or_left (no_such_site t a.site) (no_such_site t a.to) r1.0;
        to = or_right (no_such_site t a.site) (no_such_site t a.to) r1.0;
        place = eqb-false _ _ r3.0;
        two = tells_other a.site (place_of t a.stamp) a.to r4.0;
        message = eqb-false _ _ r5.0;
      }

  pub may_deliver : deliver_number t a ≡ 0 → no_message_at t a.place ≡ false
  unfolding deliver_number
  may_deliver e = (passed (no_message_at t a.place) 13 0 refl (passed (not (no_message_at t a.place) && not (site_at t (message_at t a.place).to).up) 4 _ refl e).1).0

  pub may_drop : drop_number t a ≡ 0 → no_message_at t a.place ≡ false
  unfolding drop_number
  may_drop e = (passed (no_message_at t a.place) 13 0 refl e).0

  pub may_down : down_number t a ≡ 0 → no_such_site t a.site ≡ false
  unfolding down_number
  may_down e = (passed (no_such_site t a.site) 3 _ refl e).0

  pub may_up : up_number t a ≡ 0 → no_such_site t a.site ≡ false
  unfolding up_number
  may_up e = (passed (no_such_site t a.site) 3 _ refl e).0

  pub may_read : read_number t a ≡ 0 → no_such_site t a.site ≡ false
  unfolding read_number
  may_read e = (passed (no_such_site t a.site) 3 _ refl e).0

  pub record MayRetire : Type 0 where
    pub place : place_of t a.stamp ≡ 16 → ⊥
    pub judged : (k : ℕ) → k < 7 → k < t.count → is_open (verdict_at t k (place_of t a.stamp)) ≡ false
    pub unnamed : (j : ℕ) → j < 64 → (message_at t j).used ≡ true → (message_at t j).request ≡ place_of t a.stamp → ⊥

  pub may_retire : retire_number t a ≡ 0 → MayRetire
  unfolding retire_number cannot_retire
  may_retire e =
      let p : ℕ = place_of t a.stamp in
      let open-there : ℕ → Bool = λ k. is_site t k && is_open (verdict_at t k p) in
      let named : ℕ → Bool = λ j. (message_at t j).used && eqb (message_at t j).request p in
      let r1 = passed (eqb p 16) 10 _ refl e in
      let r2 = passed (any 7 open-there || any 64 named) 14 0 refl r1.1 in
      record {
        place = eqb-false _ _ r1.0;
        judged = λ k h l. by_test (is_open (verdict_at t k p))
            (λ o. clash (both k l o) (any_at open-there 7 k (or_left (any 7 open-there) (any 64 named) r2.0) h)) (λ f. f);
        unnamed = λ j h u z. clash (same j u z) (any_at named 64 j (or_right (any 7 open-there) (any 64 named) r2.0) h);
      }
    where
      both : (k : ℕ) → k < t.count → is_open (verdict_at t k (place_of t a.stamp)) ≡ true → (is_site t k && is_open (verdict_at t k (place_of t a.stamp))) ≡ true
      both k l o = rw (lt-ltb k t.count l, o)

      same : (j : ℕ) → (message_at t j).used ≡ true → (message_at t j).request ≡ place_of t a.stamp → ((message_at t j).used && eqb (message_at t j).request (place_of t a.stamp)) ≡ true
      same j u z = rw (u, eq-eqb (message_at t j).request (place_of t a.stamp) z)

-- a stamp was given
pub given_of : (t : Table) (a : Step) → eqb (issue_number (issue_for t a)) 8 ≡ false → (stamp : ℕ) × (time : ℕ) × (issue_for t a ≡ given stamp time)
given_of t a e = given_unless a.site a.clock (site_at t (a.site - 1)).last a.base a.stamps e
