-- Which readings are never refused: those that a site's copy in a sound table has.
use mathlib.Core.Path.{◌≡◌, refl, sym, ◌∙◌}
use mathlib.Core.Bool.{true, false}
use mathlib.Core.List.{List}
use Prim.Native.Nat.{ℕ, ◌≤◌, ◌<◌}
use native.Mathlib.Omega.{arith}
use borrow.Author.Tests.{eq-eqb, ne_eqb, le-ltb}
use lib.IntN.{ℤ, pos}
use lib.ListN.{length, get_or}
use Rattle.kit.proofs.Bools.{by_eq}
use Rattle.kit.proofs.Ranges.{none_of}
use Rattle.stamps.specs.Stamps.{well_formed}
use Rattle.stamps.proofs.Laws.{IssuedBy, form_of, form_some, form_wider, well_zero, well_issued, well_other}
use Rattle.readings.specs.Readings.{in_range}
use Rattle.readings.proofs.Orders.{zero_of, zero_in_range}
use Rattle.sitefile.specs.Entries.{file_of}
use Rattle.sitefile.specs.Write.{wrong_item, not_written, file_written}
use Rattle.sitefile.proofs.Taken.{site_not_wrong, reading_not_wrong}
use Rattle.sitefile.proofs.RoundTrips.{file_length}

-- "copy stamps are well formed, copy values in range, and 0 at stamp 0"
pub record Copied (n stamp : ℕ) (value : ℤ) : Type 0 where
  pub formed : well_formed n stamp ≡ true
  pub in_reach : in_range value ≡ true
  pub blank : stamp ≡ 0 → value ≡ pos 0

-- a blank item, and one with a stamp that some site may have issued
pub copied_blank : (n : ℕ) → Copied n 0 (pos 0)
copied_blank n = record { formed = well_zero n; in_reach = zero_in_range; blank = λ z. refl }

pub copied_issued : (n stamp : ℕ) (value : ℤ) → IssuedBy n stamp → in_range value ≡ true → Copied n stamp value
copied_issued n stamp value i r =
    let f = form_of i in
    record { formed = well_issued n stamp f; in_reach = r; blank = λ z. absurd (form_some n stamp f z) }

pub copied_right : (n stamp : ℕ) (value : ℤ) → n ≤ 7 → Copied n stamp value → wrong_item stamp value ≡ false
unfolding wrong_item
copied_right n stamp value h c =
    by_eq stamp 0 (λ z. rw (eq-eqb stamp 0 z, c.blank z, zero_of))
    (λ ne. rw (ne_eqb stamp 0 ne) (reading_not_wrong stamp value (form_wider n 7 stamp h (sym (well_other n stamp ne) ∙ c.formed)) c.in_reach))

module _ (room site n : ℕ) (stamps : List ℕ) (values : List ℤ) (low : 1 ≤ site) (high : site ≤ 7) (sites : n ≤ 7)
    (copied : (i : ℕ) → i < 24 → Copied n (get_or stamps i 0) (get_or values i (pos 0))) where
  -- only a buffer that is too short can refuse them
  pub writable_in : length (file_of site stamps values) ≤ room → not_written room site stamps values ≡ false
  unfolding not_written
  writable_in h =
      rw (le-ltb room (length (file_of site stamps values)) h, site_not_wrong site low high)
      (none_of 24 (λ i. wrong_item (get_or stamps i 0) (get_or values i (pos 0))) (λ i l. copied_right n (get_or stamps i 0) (get_or values i (pos 0)) sites (copied i l)))

  -- and 248 bytes are always enough
  pub writable : 248 ≤ room → file_written room site stamps values ≡ record { number = 0; length = length (file_of site stamps values) }
  unfolding file_written
  writable h = rw (writable_in (omega (arith, (file_length site stamps values).1)))
