-- One site of a table changed at one place: what is shown of that site and place is lifted to the table.
use mathlib.Core.Path.{◌≡◌, refl}
use mathlib.Core.Bool.{Bool, true}
use Prim.Native.Nat.{ℕ, ◌≤◌, ◌<◌}
use native.Mathlib.Omega.{arith}
use lib.ListN.{length}
use Rattle.kit.proofs.Bools.{by_eq}
use Rattle.table.specs.Blank.{holds_nothing, is_blank_site}
use Rattle.table.specs.Meaning.{ShapedTable, SoundSite, SoundPlace, SoundMessage, Sound}
use Rattle.table.specs.Places.{site_at, message_at, place_at, mark_at, with_site}
use Rattle.table.specs.declared.data.Table.{Table}
use Rattle.table.proofs.Places.{site_same, site_other, each_site, site_back}
use Rattle.vote.specs.Data.{is_ok_vote, is_other, vote_at}
use Rattle.vote.specs.Shape.{ShapedSite}
use Rattle.vote.specs.declared.data.Mark.{Mark}
use Rattle.vote.specs.declared.data.Site.{Site}
use Rattle.upkeep.specs.But.{HoldingBut, Quiet, SoundBut}
use Rattle.upkeep.proofs.Buts.{holding_quiet, sound_but, sound_whole}
use Rattle.upkeep.proofs.Carried.{Grown, Later, SameHeld, SiteRight, site_right, site_sound, held_carried, quiet_carried, nothing_carried, right_carried, place_carried, message_carried}

-- k is a site of the table t, whose lists have their lengths
pub record At (t : Table) (k : ℕ) : Type 0 where
  pub shaped : ShapedTable t
  pub of_table : k < t.count
  pub seven : t.count ≤ 7

-- with s for its site k, the table is sound, or sound but for place p
pub record Fine (t : Table) (k : ℕ) (s : Site) : Type 0 where
  pub shaped : ShapedSite s
  pub sound : Sound (with_site k s t)

pub record FineBut (t : Table) (k p : ℕ) (s : Site) : Type 0 where
  pub shaped : ShapedSite s
  pub sound : SoundBut (with_site k s t) k p

-- of the site s, changed to s' at place p: its last t stays, each other place too, and a vote on p stays of its kind
pub record Changed (p : ℕ) (s s' : Site) : Type 0 where
  pub last : s'.last ≡ s.last
  pub elsewhere : (q : ℕ) → q < 16 → (q ≡ p → ⊥) → SameHeld s s' q
  pub keeps_ok : is_ok_vote (vote_at s.votes p).mark ≡ true → is_ok_vote (vote_at s'.votes p).mark ≡ true
  pub keeps_other : is_other (vote_at s.votes p).mark ≡ true → is_other (vote_at s'.votes p).mark ≡ true

pub held_same : (s : Site) (q : ℕ) → SameHeld s s q
held_same s q = record { vote = refl; oks = λ u l. refl; others = λ u l. refl }

module _ (t : Table) (k : ℕ) (a : At t k) where
  abbrev T : Site → Table
  T s = with_site k s t

  pub site_in : k < 7
  site_in = omega arith

  in_sites : k < length t.sites
  in_sites = rw a.shaped.sites site_in

  pub here : (s : Site) → site_at (T s) k ≡ s
  here s = site_same t k s in_sites

  -- ---- from the table to the site

  pub held_at : {p : ℕ} {s : Site} (q : ℕ) → q < 16 → SoundBut (T s) k p → HoldingBut (T s) s k q
  held_at {p} {s} q hq b = rw (here s) at (b.holding k q site_in hq)

  pub right_at : {p : ℕ} {s : Site} → SoundBut (T s) k p → SiteRight (T s) s
  right_at {p} {s} b = rw (here s) at (site_right (b.site k site_in))

  pub nothing_at : {p : ℕ} (s : Site) (q : ℕ) → q < 16 → SoundBut (T s) k p → (place_at t q).stamp ≡ 0 → holds_nothing s q ≡ true
  nothing_at s q hq b z = rw (here s) at ((b.place q hq).free_held z k site_in)

  pub quiet_at : {s : Site} (q : ℕ) → q < 16 → Sound (T s) → Quiet t.count s q
  quiet_at {s} q hq b = rw (here s) at (holding_quiet (b.holding k q site_in hq))

  -- ---- and back

  pub fine_but : {s : Site} (p : ℕ) → Fine t k s → FineBut t k p s
  fine_but p f = record { shaped = f.shaped; sound = sound_but k p f.sound }

  pub fine_whole : {s : Site} (p : ℕ) → FineBut t k p s → Quiet t.count s p → Fine t k s
  fine_whole {s} p f z = record { shaped = f.shaped; sound = sound_whole (T s) k p f.sound (rw (here s) z) }

  -- the site as it is
  pub fine_now : Sound t → Fine t k (site_at t k)
  fine_now b = record { shaped = a.shaped.site k site_in; sound = rw (site_back t k) b }

  module _ (p : ℕ) (s s' : Site) (c : Changed p s s') where
    pub later_changed : Later (T s) (T s')
    later_changed = record {
      last = λ j hj. each_site (λ i x. (site_at (T s) i).last ≤ x.last) t k s' j in_sites (rw (here s, c.last) (omega arith)) (λ ne. rw (site_other t k s j ne) (omega arith));
    }

    kind_kept
        : (kind : Mark → Bool) → (kind (vote_at s.votes p).mark ≡ true → kind (vote_at s'.votes p).mark ≡ true)
        → (q : ℕ) → q < 16 → (u : ℕ) → kind (mark_at (T s) u q) ≡ true → kind (mark_at (T s') u q) ≡ true
    kind_kept kind keeps q hq u =
        each_site (λ i x. kind (vote_at (site_at (T s) i).votes q).mark ≡ true → kind (vote_at x.votes q).mark ≡ true) t k s' u in_sites
        (rw (here s) (by_eq q p (λ e. rw e keeps) (λ ne o. rw (c.elsewhere q hq ne).vote o))) (λ ne. rw (site_other t k s u ne) (λ o. o))

    pub grown_changed : (q : ℕ) → q < 16 → Grown (T s) (T s') q
    grown_changed q hq = record { ok = λ u hu. kind_kept is_ok_vote c.keeps_ok q hq u; other = λ u hu. kind_kept is_other c.keeps_other q hq u }

    module _ (hp : p < 16) (used : (place_at t p).stamp ≡ 0 → ⊥) (b : SoundBut (T s) k p) (right : SiteRight (T s') s') (held : HoldingBut (T s') s' k p) where
      site_lifted : (j : ℕ) → j < 7 → SoundSite (T s') j
      site_lifted j hj =
          site_sound (T s') j
          (each_site (λ i x. t.count ≤ i → is_blank_site x ≡ true) t k s' j in_sites (λ h. absurd (let z : ⊥ = omega arith in z)) (λ ne. rw (site_other t k s j ne) at (b.site j hj).unused))
          (each_site (λ i x. SiteRight (T s') x) t k s' j in_sites right (λ ne. right_carried refl later_changed (rw (site_other t k s j ne) at (site_right (b.site j hj)))))

      place_lifted : (q : ℕ) → q < 16 → SoundPlace (T s') q
      place_lifted q hq =
          place_carried {t = T s} refl later_changed refl
          (λ z j hj. each_site (λ i x. holds_nothing x q ≡ true) t k s' j in_sites
          (by_eq q p (λ e. absurd (used (rw e at z))) (λ ne. nothing_carried (c.elsewhere q hq ne) (nothing_at s q hq b z)))
          (λ ne. rw (site_other t k s j ne) at ((b.place q hq).free_held z j hj)))
          (b.place q hq).own_stamp (b.place q hq)

      message_lifted : (i : ℕ) → i < 64 → SoundMessage (T s') i
      message_lifted i hi =
          message_carried {t = T s} refl refl (λ u z. z) (λ u. grown_changed (message_at t i).request ((b.message i hi).names_place u)) (b.message i hi)

      holding_lifted : (j q : ℕ) → j < 7 → q < 16 → HoldingBut (T s') (site_at (T s') j) j q
      holding_lifted j q hj hq =
          each_site (λ i x. HoldingBut (T s') x i q) t k s' j in_sites
          (by_eq q p (λ e. rw e held) (λ ne. held_carried refl site_in (grown_changed q hq) (c.elsewhere q hq ne) (held_at q hq b)))
          (λ ne. held_carried {t = T s} refl hj (grown_changed q hq) (held_same (site_at t j) q) (rw (site_other t k s j ne) at (b.holding j q hj hq)))

      quiet_lifted : (j q : ℕ) → j < 7 → q < 16 → (j ≡ k → q ≡ p → ⊥) → Quiet t.count (site_at (T s') j) q
      quiet_lifted j q hj hq =
          each_site (λ i x. (i ≡ k → q ≡ p → ⊥) → Quiet t.count x q) t k s' j in_sites
          (λ n. quiet_carried (c.elsewhere q hq (n refl)) (rw (here s) at (b.quiet k q site_in hq n)))
          (λ ne n. rw (site_other t k s j ne) at (b.quiet j q hj hq n))

      pub lifted : SoundBut (T s') k p
      lifted = record {
        count_from = b.count_from;
        count_to = b.count_to;
        site = site_lifted;
        place = place_lifted;
        message = message_lifted;
        holding = holding_lifted;
        quiet = quiet_lifted;
      }
