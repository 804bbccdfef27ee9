-- What a site of a sound table does with one request keeps the table sound: walking, resolving, considering, hearing, receiving.
use mathlib.Core.Path.{◌≡◌, sym, subst}
use mathlib.Core.Bool.{Bool, true, false}
use mathlib.Core.List.{List}
use Prim.Native.Nat.{ℕ, ◌<◌}
use Rattle.table.specs.Meaning.{ShapedTable, Sound}
use Rattle.table.specs.Places.{site_at, message_at, place_at, mark_at, verdict_at, with_site}
use Rattle.table.specs.Sound.{marks_ok, marks_other, backed}
use Rattle.table.specs.declared.data.Table.{Table}
use Rattle.table.proofs.Places.{site_back, shaped_with_site}
use Rattle.vote.specs.Data.{is_unmarked, is_open}
use Rattle.vote.specs.Voters.{has_voter}
use Rattle.vote.specs.declared.data.Site.{Site}
use Rattle.vote.specs.declared.data.Verdict.{Verdict}
use Rattle.walk.specs.Hearing.{settled, taken_up, heard, received}
use Rattle.walk.specs.Walking.{walked, resolved}
use Rattle.upkeep.proofs.Lifting.{At, Fine, fine_but, fine_now, site_in}
use Rattle.upkeep.proofs.Walking.{walked_fine, resolved_fine, settled_walk_fine, taken_up_fine, due_none, heard_fine, received_fine}

module _ (t : Table) (k : ℕ) (g : ShapedTable t) (b : Sound t) (hk : k < t.count) where
  at_site : At t k
  at_site = record { shaped = g; of_table = hk; seven = b.count_to }

  now : Fine t k (site_at t k)
  now = fine_now t k at_site b

  kept : {s : Site} → Fine t k s → Sound (with_site k s t) × ShapedTable (with_site k s t)
  kept {s} f = (f.sound, shaped_with_site t k s (site_in t k at_site) g f.shaped)

  -- a fact of the table is one of the table with its own site put back
  put_back : (P : Table → Type 0) → P t → P (with_site k (site_at t k) t)
  put_back P h = subst P (sym (site_back t k)) h

  pub walked_sound
      : (i : ℕ)
      → Sound (with_site k (walked k t.count t.requests (site_at t k) i).site t) × ShapedTable (with_site k (walked k t.count t.requests (site_at t k) i).site t)
  walked_sound i = kept (walked_fine t k at_site (site_at t k) i now)

  module _ (p : ℕ) (hp : p < 16) (used : (place_at t p).stamp ≡ 0 → ⊥) where
    pub resolved_sound
        : (d : Verdict) → is_open d ≡ false → backed t p d ≡ true
        → Sound (with_site k (resolved k t.count t.requests (site_at t k) p d).site t)
        × ShapedTable (with_site k (resolved k t.count t.requests (site_at t k) p d).site t)
    resolved_sound d o e = kept (resolved_fine t k at_site p hp used (site_at t k) d (fine_but t k at_site p now) o (put_back (λ x. backed x p d ≡ true) e))

    pub settled_sound
        : is_unmarked (mark_at t k p) ≡ false
        → Sound (with_site k (settled k t.count t.requests (site_at t k) p).site t)
        × ShapedTable (with_site k (settled k t.count t.requests (site_at t k) p).site t)
    settled_sound m = kept (settled_walk_fine t k at_site p hp used (site_at t k) (fine_but t k at_site p now) m)

    pub taken_up_sound
        : is_open (verdict_at t k p) ≡ true → is_unmarked (mark_at t k p) ≡ true
        → Sound (with_site k (taken_up k t.count t.requests (site_at t k) p).site t)
        × ShapedTable (with_site k (taken_up k t.count t.requests (site_at t k) p).site t)
    taken_up_sound o u = kept (taken_up_fine t k at_site p hp used (site_at t k) (fine_but t k at_site p now) o u (due_none t k at_site p hp used (site_at t k) now o))

    module _ (oks others : List Bool) (mo : (u : ℕ) → u < 7 → has_voter oks u ≡ true → marks_ok t p u ≡ true)
        (mx : (u : ℕ) → u < 7 → has_voter others u ≡ true → marks_other t p u ≡ true) where
      pub heard_sound
          : is_open (verdict_at t k p) ≡ true
          → Sound (with_site k (heard k t.count t.requests (site_at t k) p oks others).site t)
          × ShapedTable (with_site k (heard k t.count t.requests (site_at t k) p oks others).site t)
      heard_sound o =
          kept (heard_fine t k at_site p hp used (site_at t k) now oks others (put_back (λ x. (u : ℕ) → u < 7 → has_voter oks u ≡ true → marks_ok x p u ≡ true) mo)
          (put_back (λ x. (u : ℕ) → u < 7 → has_voter others u ≡ true → marks_other x p u ≡ true) mx) o)

      pub received_sound
          : (sent : Verdict) → backed t p sent ≡ true
          → Sound (with_site k (received k t.count t.requests (site_at t k) p sent oks others).site t)
          × ShapedTable (with_site k (received k t.count t.requests (site_at t k) p sent oks others).site t)
      received_sound sent e =
          kept (received_fine t k at_site p hp used (site_at t k) now oks others (put_back (λ x. (u : ℕ) → u < 7 → has_voter oks u ≡ true → marks_ok x p u ≡ true) mo)
          (put_back (λ x. (u : ℕ) → u < 7 → has_voter others u ≡ true → marks_other x p u ≡ true) mx) sent (put_back (λ x. backed x p sent ≡ true) e))

-- so a message delivered does: what it says is backed
pub delivered_sound
    : (t : Table) (i : ℕ) → ShapedTable t → Sound t → i < 64 → (message_at t i).used ≡ true
    → Sound (with_site (message_at t i).to (received (message_at t i).to t.count t.requests (site_at t (message_at t i).to) (message_at t i).request (message_at t i).verdict (message_at t i).oks (message_at t i).others).site t)
    × ShapedTable (with_site (message_at t i).to (received (message_at t i).to t.count t.requests (site_at t (message_at t i).to) (message_at t i).request (message_at t i).verdict (message_at t i).oks (message_at t i).others).site t)
delivered_sound t i g b hi u =
    let m = b.message i hi in
    received_sound t (message_at t i).to g b (m.names_to u) (message_at t i).request (m.names_place u) (m.names_request u) (message_at t i).oks (message_at t i).others
    m.sent_ok m.sent_other (message_at t i).verdict m.sent_is_backed
