-- What holds of a list of bytes that the reader takes, and that nothing else is asked of one.
use mathlib.Core.Path.{◌≡◌, refl, sym, ap, ◌∙◌}
use mathlib.Core.Bool.{true, false, not, ◌||◌}
use mathlib.Core.List.{List}
use Prim.Native.Nat.{ℕ, suc, ◌+◌, ◌-◌, ◌*◌, ◌≤◌, ◌<◌}
use native.Mathlib.Omega.{arith}
use borrow.Author.Tests.{eq-eqb, eqb-true, le-ltb, ltb-false, ltb-true, not-false}
use lib.Dec.{ltb}
use lib.IntN.{ℤ}
use lib.ListN.{length, take}
use Rattle.kit.specs.Range.{any}
use Rattle.kit.proofs.Bools.{or_left, or_right}
use Rattle.kit.proofs.Passing.{Rising, rising_of}
use Rattle.kit.proofs.Ranges.{any_at, none_of}
use Rattle.stamps.specs.Stamps.{issued_form}
use Rattle.readings.specs.Readings.{in_range}
use Rattle.fnv.specs.Fnv.{fnv_of}
use Rattle.sitefile.specs.Frame.{Form, entry_at, site_in, count_in, distance_in, check_in}
use Rattle.sitefile.specs.Entries.{rate_form}
use Rattle.sitefile.specs.Read.{wrong_length, wrong_site, wrong_distance, wrong_check, wrong_reading, rises, wrong_entry, no_site_file}
use Rattle.sitefile.specs.declared.Entry.{Entry}
use Rattle.sitefile.proofs.Frames.{Framed}

-- ---- a site, a reading, an entry

pub site_right : (site : ℕ) → wrong_site site ≡ false → (1 ≤ site) × (site ≤ 7)
unfolding wrong_site
site_right site e = (ltb-false site 1 (or_left (ltb site 1) (ltb 7 site) e), ltb-false 7 site (or_right (ltb site 1) (ltb 7 site) e))

pub site_not_wrong : (site : ℕ) → 1 ≤ site → site ≤ 7 → wrong_site site ≡ false
unfolding wrong_site
site_not_wrong site l h = rw (le-ltb site 1 l, le-ltb 7 site h)

pub reading_right : (stamp : ℕ) (value : ℤ) → wrong_reading stamp value ≡ false → (issued_form 7 stamp ≡ true) × (in_range value ≡ true)
unfolding wrong_reading
reading_right stamp value e =
    (not-false _ (or_left (not (issued_form 7 stamp)) (not (in_range value)) e), not-false _ (or_right (not (issued_form 7 stamp)) (not (in_range value)) e))

pub reading_not_wrong : (stamp : ℕ) (value : ℤ) → issued_form 7 stamp ≡ true → in_range value ≡ true → wrong_reading stamp value ≡ false
unfolding wrong_reading
reading_not_wrong stamp value f r = rw (f, r)

pub record Right (entry : ℕ → Entry) (k : ℕ) : Type 0 where
  pub rising : rises entry k ≡ true
  pub low : (entry k).item ≤ 23
  pub reading : wrong_reading (entry k).stamp (entry k).value ≡ false

module _ (entry : ℕ → Entry) (k : ℕ) where
  pub entry_right : wrong_entry entry k ≡ false → Right entry k
  unfolding wrong_entry
  entry_right e =
      let t₁ = not (rises entry k) in
      let t₂ = ltb 23 (entry k).item in
      let t₃ = wrong_reading (entry k).stamp (entry k).value in
      let r = or_right t₁ (t₂ || t₃) e in
      record { rising = not-false _ (or_left t₁ (t₂ || t₃) e); low = ltb-false 23 (entry k).item (or_left t₂ t₃ r); reading = or_right t₂ t₃ r }

  pub entry_not_wrong : Right entry k → wrong_entry entry k ≡ false
  unfolding wrong_entry
  entry_not_wrong r = rw (r.rising, le-ltb 23 (entry k).item r.low, r.reading)

-- the first entry rises, and a later one where its item is above that of the one before
pub rises_first : (entry : ℕ → Entry) (k : ℕ) → k ≡ 0 → true ≡ rises entry k
unfolding rises
rises_first entry k e = rw e

pub rises_next : (entry : ℕ → Entry) (k : ℕ) (last own : Entry) → (k ≡ 0 → ⊥) → last ≡ entry (k - 1) → own ≡ entry k → ltb last.item own.item ≡ rises entry k
unfolding rises
rises_next entry k last own ne a b =
    let q : k ≡ suc (k - 1) = omega (arith, ne) in
    rw (a, b) (ap (λ (j : ℕ). ltb (entry (k - 1)).item (entry j).item) q ∙ step (k - 1) ∙ ap (rises entry) (sym q))
  where
    step : (j : ℕ) → ltb (entry j).item (entry (suc j)).item ≡ rises entry (suc j)
    step j = refl

-- items that rise
pub rising_items : (entry : ℕ → Entry) (n : ℕ) → ((k : ℕ) → k < n → rises entry k ≡ true) → Rising (λ k. (entry k).item) n
unfolding rises
rising_items entry n h = rising_of (λ k. (entry k).item) n (λ k l. ltb-true (entry k).item (entry (suc k)).item (h (suc k) l))

-- ---- a list of bytes

-- it is framed, with at most 24 entries, and each is right: whatever an entry's form
pub record Taken (f : Form Entry) (b : List ℕ) : Type 0 where
  pub few : count_in b ≤ 24
  pub frame : Framed f.width (site_in b) (count_in b) b
  pub entries : (k : ℕ) → k < count_in b → Right (entry_at f b) k

module _ (b : List ℕ) where
  pub taken : no_site_file b ≡ false → (wrong_site (site_in b) ≡ false) × Taken rate_form b
  unfolding no_site_file wrong_length wrong_distance wrong_check rate_form
  taken e =
      let t₁ = ltb (length b) 8 in
      let t₂ = wrong_length 10 b in
      let t₃ = wrong_site (site_in b) in
      let t₄ = ltb 24 (count_in b) in
      let t₅ = wrong_distance 10 b in
      let t₆ = wrong_check b in
      let t₇ = any (count_in b) (wrong_entry (entry_at rate_form b)) in
      let e₂ = or_right t₁ (t₂ || (t₃ || (t₄ || (t₅ || (t₆ || t₇))))) e in
      let e₃ = or_right t₂ (t₃ || (t₄ || (t₅ || (t₆ || t₇)))) e₂ in
      let e₄ = or_right t₃ (t₄ || (t₅ || (t₆ || t₇))) e₃ in
      let e₅ = or_right t₄ (t₅ || (t₆ || t₇)) e₄ in
      let e₆ = or_right t₅ (t₆ || t₇) e₅ in (
        or_left t₃ (t₄ || (t₅ || (t₆ || t₇))) e₃,
        record {
          few = ltb-false 24 (count_in b) (or_left t₄ (t₅ || (t₆ || t₇)) e₄);
          frame = record {
            size = eqb-true (length b) (10 * count_in b + 8) (not-false _ (or_left t₂ (t₃ || (t₄ || (t₅ || (t₆ || t₇)))) e₂));
            site_is = refl;
            count_is = refl;
            distance_is = eqb-true (distance_in b) (10 * count_in b) (not-false _ (or_left t₅ (t₆ || t₇) e₅));
            check_is = eqb-true (check_in b) (fnv_of (take (length b - 4) b)) (not-false _ (or_left t₆ t₇ e₆));
          };
          entries = λ k h. entry_right (entry_at rate_form b) k (any_at (wrong_entry (entry_at rate_form b)) (count_in b) k (or_right t₆ t₇ e₆) h);
        },
      )

  pub not_refused : wrong_site (site_in b) ≡ false → Taken rate_form b → no_site_file b ≡ false
  unfolding no_site_file wrong_length wrong_distance wrong_check rate_form
  not_refused s t =
      let size : length b ≡ 10 * count_in b + 8 = t.frame.size in
      rw (
        le-ltb (length b) 8 (omega arith),
        eq-eqb (length b) (10 * count_in b + 8) size,
        s,
        le-ltb 24 (count_in b) t.few,
        eq-eqb (distance_in b) (10 * count_in b) t.frame.distance_is,
        eq-eqb (check_in b) (fnv_of (take (length b - 4) b)) t.frame.check_is,
      )
      (none_of (count_in b) (wrong_entry (entry_at rate_form b)) (λ k h. entry_not_wrong (entry_at rate_form b) k (t.entries k h)))

  -- "8 to 248 bytes"
  pub taken_length : no_site_file b ≡ false → (8 ≤ length b) × (length b ≤ 248)
  unfolding rate_form
  taken_length e = let t = (taken e).1 in (omega (arith, t.frame.size), omega (arith, t.frame.size, t.few))

  -- the item of an entry has its place
  pub item_low : (k : ℕ) → no_site_file b ≡ false → k < count_in b → (entry_at rate_form b k).item < 24
  item_low k e h = let low : (entry_at rate_form b k).item ≤ 23 = ((taken e).1.entries k h).low in omega arith
