-- A request begun: it is stored with the stamp that its site issues, and considered there. The table stays sound.
use mathlib.Core.Path.{◌≡◌, ◌∙◌}
use mathlib.Core.Bool.{true, cond}
use mathlib.Core.List.{List}
use Prim.Native.Nat.{ℕ, suc, ◌≤◌, ◌<◌}
use native.Mathlib.Omega.{arith}
use lib.IntN.{ℤ, pos}
use lib.ListN.{get_or}
use Rattle.kit.specs.Lists.{listed}
use Rattle.kit.specs.Range.{implies}
use Rattle.kit.proofs.Bools.{both_true, implied, implying}
use Rattle.kit.proofs.Listings.{length_listed, listed_at}
use Rattle.kit.proofs.Ranges.{all_at, all_of}
use Rattle.readings.specs.Readings.{in_range}
use Rattle.sets.specs.Sets.{member}
use Rattle.stamps.specs.Issue.{given, issued}
use Rattle.stamps.specs.Stamps.{time_of, digit_of, issued_form, well_formed}
use Rattle.stamps.proofs.Laws.{given_facts, given_digit, given_time, given_form}
use Rattle.table.specs.Meaning.{ShapedRequest, ShapedTable, Sound}
use Rattle.table.specs.Places.{site_at, place_at, with_site, with_request}
use Rattle.table.specs.Sound.{sets_allowed, base_stamps_allowed, values_allowed, request_allowed}
use Rattle.table.specs.declared.data.Table.{Table}
use Rattle.vote.specs.Data.{with_last}
use Rattle.vote.specs.declared.data.Request.{Request}
use Rattle.walk.specs.Hearing.{taken_up}
use Rattle.upkeep.proofs.Changing.{entered_sound, entered_used, entered_open, entered_unmarked}
use Rattle.upkeep.proofs.Kept.{taken_up_sound}

-- ---- what is stored

module _ (base update : ℕ) (stamps : List ℕ) (values : List ℤ) (stamp : ℕ) where
  -- numbers given for items outside the sets are stored as 0
  abbrev pub stored_as : Request
  stored_as = record {
    stamp = stamp;
    base = base;
    update = update;
    stamps = listed 24 (λ i. cond (member base i) (get_or stamps i 0) 0);
    values = listed 24 (λ i. cond (member update i) (get_or values i (pos 0)) (pos 0));
  }

  pub shaped_stored : ShapedRequest stored_as
  shaped_stored = record {
    stamps = length_listed 24 (λ i. cond (member base i) (get_or stamps i 0) 0);
    values = length_listed 24 (λ i. cond (member update i) (get_or values i (pos 0)) (pos 0));
  }

  bases_stored : (n : ℕ) → base_stamps_allowed n base stamps ≡ true → base_stamps_allowed n base stored_as.stamps ≡ true
  unfolding base_stamps_allowed
  bases_stored n e =
      all_of 24 _ (λ i h. implying (member base i) (λ m.
      rw (listed_at 24 i (λ j. cond (member base j) (get_or stamps j 0) 0) 0 h, m)
      (implied _ _ (all_at (λ j. implies (member base j) (well_formed n (get_or stamps j 0))) 24 i e h) m)))

  values_stored : values_allowed update values ≡ true → values_allowed update stored_as.values ≡ true
  unfolding values_allowed
  values_stored e =
      all_of 24 _ (λ i h. implying (member update i) (λ m.
      rw (listed_at 24 i (λ j. cond (member update j) (get_or values j (pos 0)) (pos 0)) (pos 0) h, m)
      (implied _ _ (all_at (λ j. implies (member update j) (in_range (get_or values j (pos 0)))) 24 i e h) m)))

  pub stored_allowed
      : (n : ℕ) → sets_allowed base update ≡ true → base_stamps_allowed n base stamps ≡ true → values_allowed update values ≡ true → request_allowed n stored_as ≡ true
  unfolding request_allowed
  stored_allowed n a b c = both_true a (both_true (bases_stored n b) (values_stored c))

-- ---- begun at site k, whose digit is `site`, at the free place p

module _ (t : Table) (k p : ℕ) (g : ShapedTable t) (b : Sound t) (hk : k < t.count) (hp : p < 16) (free : (place_at t p).stamp ≡ 0)
    (site clock base update : ℕ) (stamps : List ℕ) (values : List ℤ) (stamp time : ℕ) (is : site ≡ suc k)
    (sets : sets_allowed base update ≡ true) (bases : base_stamps_allowed t.count base stamps ≡ true) (vals : values_allowed update values ≡ true)
    (given : issued site clock (site_at t k).last base stamps ≡ given stamp time) where
  abbrev pub entered_as : Table
  entered_as = with_request p (stored_as base update stamps values stamp) (with_site k (with_last time (site_at t k)) t)

  seven : t.count ≤ 7
  seven = b.count_to

  allowed : request_allowed t.count (stored_as base update stamps values stamp) ≡ true
  allowed = stored_allowed base update stamps values stamp t.count sets bases vals

  form : issued_form t.count stamp ≡ true
  form = given_form site clock (site_at t k).last base stamps t.count given (omega arith) (omega arith) seven

  digit : digit_of stamp ≡ suc k
  digit = given_digit site clock (site_at t k).last base stamps given (omega (arith, seven)) ∙ is

  times : time_of stamp ≡ time
  times = given_time site clock (site_at t k).last base stamps given (omega (arith, seven))

  after : (site_at t k).last < time_of stamp
  after = rw times (given_facts site clock (site_at t k).last base stamps given).after_last

  until : time_of stamp ≤ time
  until = let z = times in omega arith

  pub begun_entered : Sound entered_as × ShapedTable entered_as
  begun_entered =
      entered_sound t k p (stored_as base update stamps values stamp) time g b hk hp free allowed form digit after until (shaped_stored base update stamps values stamp)

  pub begun_sound
      : Sound (with_site k (taken_up k t.count entered_as.requests (site_at entered_as k) p).site entered_as)
      × ShapedTable (with_site k (taken_up k t.count entered_as.requests (site_at entered_as k) p).site entered_as)
  begun_sound =
      let q : Request = stored_as base update stamps values stamp in
      taken_up_sound entered_as k begun_entered.1 begun_entered.0 hk p hp
      (entered_used t k p q time g b hk hp free allowed form digit after until) (entered_open t k p q time g b hk hp free allowed form digit after until)
      (entered_unmarked t k p q time g b hk hp free allowed form digit after until)
