-- There and back over definitions, for entries of any form: the entries of readings that may be written are read as these readings, and
-- readings that were read are written as the bytes that held them.
use mathlib.Core.Path.{◌≡◌, refl, sym, ap, ap₂, ◌∙◌, subst}
use mathlib.Core.Bool.{true, false}
use mathlib.Core.List.{List, map, append_assoc}
use Prim.Native.Nat.{ℕ, zero, suc, ◌*◌, ◌≤◌, ◌<◌}
use native.Mathlib.Nat.{lt_of_le_of_lt, mul-le-mul_left}
use native.Mathlib.Omega.{arith}
use borrow.Author.Tests.{eq-eqb, ne_eqb, eqb-true, eqb-false, lt-ltb, not-true, not-false}
use lib.Dec.{eqb}
use lib.IntN.{ℤ, pos}
use lib.ListN.{length, get_or, length-map, get_or-map}
use Rattle.kit.specs.Lists.{listed}
use Rattle.kit.specs.Range.{any, passing}
use Rattle.kit.proofs.Bools.{by_test}
use Rattle.kit.proofs.Listings.{length_listed, listed_at, listed_same, listed_of, map_listed}
use Rattle.kit.proofs.Passing.{Rising, passing_nth, passing_rises, passing_items}
use Rattle.kit.proofs.Ranges.{any_at, any_one, any_hit, number_le}
use Rattle.stamps.proofs.Laws.{form_some}
use Rattle.readings.proofs.Orders.{zero_is, zero_of}
use Rattle.sitefile.specs.Frame.{Form, joined, entry_at, trailer_of, checked, framed, site_in, count_in}
use Rattle.sitefile.specs.Entries.{measured, entry_of, entries_of, told}
use Rattle.sitefile.specs.Read.{wrong_reading, rises, readings_of}
use Rattle.sitefile.specs.Write.{wrong_item}
use Rattle.sitefile.specs.declared.Entry.{Entry}
use Rattle.sitefile.proofs.Forms.{Bytes, Lawful, length_joined, joined_read, read_joined}
use Rattle.sitefile.proofs.Frames.{Framed, framed_written, written_framed}
use Rattle.sitefile.proofs.Rates.{length_entries}
use Rattle.sitefile.proofs.Taken.{Right, Taken, reading_right, rising_items}
use Rattle.sitefile.proofs.Tellings.{told_none, told_at, told_passing}

-- ---- items that may be written

-- a measured item's reading is right
pub item_measured : (stamps : List ℕ) (values : List ℤ) (i : ℕ) → measured stamps i ≡ true → wrong_item (get_or stamps i 0) (get_or values i (pos 0)) ≡ false
    → wrong_reading (get_or stamps i 0) (get_or values i (pos 0)) ≡ false
unfolding measured wrong_item
item_measured stamps values i m e = rw (not-true (eqb (get_or stamps i 0) 0) m) at e

-- another item is blank
pub item_stamp : (stamps : List ℕ) (i : ℕ) → measured stamps i ≡ false → get_or stamps i 0 ≡ 0
unfolding measured
item_stamp stamps i m = eqb-true (get_or stamps i 0) 0 (not-false (eqb (get_or stamps i 0) 0) m)

pub item_value : (stamps : List ℕ) (values : List ℤ) (i : ℕ) → measured stamps i ≡ false → wrong_item (get_or stamps i 0) (get_or values i (pos 0)) ≡ false → get_or values i (pos 0) ≡ pos 0
unfolding measured wrong_item
item_value stamps values i m e = zero_is (get_or values i (pos 0)) (not-false _ (rw (not-false (eqb (get_or stamps i 0) 0) m) at e))

-- ---- a file that was written is read as the readings that were written

-- f is any form in which the entries of right readings are lawful, site any byte
module _ (f : Form Entry) (Fit : Entry → Type 0) (law : Lawful f Fit) (narrow : f.width * 24 < 65536)
    (fit : (e : Entry) → e.item < 24 → wrong_reading e.stamp e.value ≡ false → Fit e)
    (site : ℕ) (small : site < 256) (stamps : List ℕ) (values : List ℤ)
    (right : (i : ℕ) → i < 24 → wrong_item (get_or stamps i 0) (get_or values i (pos 0)) ≡ false) where
  abbrev file : List ℕ
  file = framed f site (entries_of stamps values)

  -- place k of the measured items, and the entry there
  abbrev item_at : ℕ → ℕ
  item_at k = get_or (passing 24 (measured stamps)) k 0

  length_passed : length (passing 24 (measured stamps)) ≡ length (entries_of stamps values)
  unfolding entries_of
  length_passed = sym (length-map (passing 24 (measured stamps)) (entry_of stamps values))

  entry_is : (k : ℕ) → get_or (entries_of stamps values) k (entry_of stamps values 0) ≡ entry_of stamps values (item_at k)
  unfolding entries_of
  entry_is k = get_or-map (entry_of stamps values) (passing 24 (measured stamps)) k 0

  right_at : (k : ℕ) → k < length (entries_of stamps values) → (item_at k < 24) × (measured stamps (item_at k) ≡ true) × (wrong_reading (get_or stamps (item_at k) 0) (get_or values (item_at k) (pos 0)) ≡ false)
  right_at k h =
      let p = passing_nth 24 (measured stamps) k (omega (arith, length_passed)) in
      (p.below, p.passes, item_measured stamps values (item_at k) p.passes (right (item_at k) p.below))

  fits : (k : ℕ) → k < length (entries_of stamps values) → Fit (get_or (entries_of stamps values) k (entry_of stamps values 0))
  fits k h = let r = right_at k h in subst Fit (sym (entry_is k)) (fit (entry_of stamps values (item_at k)) r.0 r.2)

  -- entry k of the file is that of place k
  read_at : (k : ℕ) → k < length (entries_of stamps values) → entry_at f file k ≡ entry_of stamps values (item_at k)
  unfolding framed checked
  read_at k h =
      ap (λ (b : List ℕ). entry_at f b k) (append_assoc (joined f (entries_of stamps values)) (trailer_of f.width site (length (entries_of stamps values))) _)
      ∙ read_joined f Fit law (entries_of stamps values) _ (entry_of stamps values 0) fits k h ∙ entry_is k

  few : length (entries_of stamps values) ≤ 24
  few = rw length_entries (number_le 24 (measured stamps))

  frame : Framed f.width site (length (entries_of stamps values)) file
  unfolding framed
  frame =
      framed_written f.width site (length (entries_of stamps values)) (joined f (entries_of stamps values)) (length_joined f Fit law (entries_of stamps values)) small
      (omega (arith, few)) (lt_of_le_of_lt (mul-le-mul_left f.width few) narrow)

  right_entry : (k : ℕ) → k < length (entries_of stamps values) → Right (entry_at f file) k
  unfolding rises
  right_entry k h =
      let r = right_at k h in
      let e = read_at k h in
      record { rising = rising k h; low = rw e (omega (arith, r.0)); reading = rw e r.2 }
    where
      rising : (k : ℕ) → k < length (entries_of stamps values) → rises (entry_at f file) k ≡ true
      rising zero h = refl
      rising (suc k) h = rw (read_at k (omega arith), read_at (suc k) h) (lt-ltb (item_at k) (item_at (suc k)) (passing_rises 24 (measured stamps) k (suc k) (omega arith) (omega (arith, length_passed))))

  pub taken_written : (site_in file ≡ site) × Taken f file
  taken_written = (
    frame.site_is,
    record { few = rw frame.count_is few; frame = rw (frame.site_is, frame.count_is) frame; entries = λ k h. right_entry k (rw frame.count_is at h) },
  )

  -- what its entries tell of an item: a part of the item's entry
  told_back : {A : Type 0} (d : A) (part : Entry → A) → ((i : ℕ) → i < 24 → measured stamps i ≡ false → part (entry_of stamps values i) ≡ d) → (i : ℕ) → i < 24
      → told d (λ k. (entry_at f file k).item) (λ k. part (entry_at f file k)) (length (entries_of stamps values)) i ≡ part (entry_of stamps values i)
  told_back d part blank i h =
      let entry = entry_at f file in
      rw (← length_passed)
      (told_passing d (λ k. (entry k).item) (λ k. part (entry k)) 24 (measured stamps) (λ j. part (entry_of stamps values j))
      (λ k l. ap (λ (e : Entry). e.item) (read_at k (omega (arith, length_passed))))
      (λ k l. let e = read_at k (omega (arith, length_passed)) in ap part e ∙ ap (λ (x : Entry). part (entry_of stamps values x.item)) (sym e))
      i h (blank i h))

  pub read_back : (own : ℕ) → length stamps ≡ 24 → length values ≡ 24
      → readings_of own (entry_at f file) (count_in file) ≡ record { number = 0; site = own; stamps = stamps; values = values }
  unfolding readings_of
  read_back own ls lv =
      rw frame.count_is
      (ap₂ (λ (s : List ℕ) (v : List ℤ). record { number = 0; site = own; stamps = s; values = v })
      (listed_same 24 (told 0 (λ k. (entry_at f file k).item) (λ k. (entry_at f file k).stamp) (length (entries_of stamps values))) (λ i. get_or stamps i 0)
      (λ i h. told_back 0 (λ e. e.stamp) (λ j l m. item_stamp stamps j m) i h) ∙ sym (listed_of 24 stamps 0 ls))
      (listed_same 24 (told (pos 0) (λ k. (entry_at f file k).item) (λ k. (entry_at f file k).value) (length (entries_of stamps values))) (λ i. get_or values i (pos 0))
      (λ i h. told_back (pos 0) (λ e. e.value) (λ j l m. item_value stamps values j m (right j l)) i h) ∙ sym (listed_of 24 values (pos 0) lv)))

-- ---- a file that was read is written as the same bytes

module _ (f : Form Entry) (b : List ℕ) (t : Taken f b) where
  abbrev entry : ℕ → Entry
  entry k = entry_at f b k

  abbrev item : ℕ → ℕ
  item k = (entry_at f b k).item

  rising : Rising item (count_in b)
  rising = rising_items (entry_at f b) (count_in b) (λ k h. (t.entries k h).rising)

  abbrev stamps_read : List ℕ
  stamps_read = listed 24 (told 0 item (λ k. (entry_at f b k).stamp) (count_in b))

  abbrev values_read : List ℤ
  values_read = listed 24 (told (pos 0) item (λ k. (entry_at f b k).value) (count_in b))

  -- an item's reading is that of its entry
  stamp_of : (k : ℕ) → k < count_in b → get_or stamps_read (item k) 0 ≡ (entry k).stamp
  stamp_of k h = listed_at 24 (item k) (told 0 item _ (count_in b)) 0 (omega (arith, (t.entries k h).low)) ∙ told_at 0 item (λ j. (entry_at f b j).stamp) (count_in b) k rising h

  value_of : (k : ℕ) → k < count_in b → get_or values_read (item k) (pos 0) ≡ (entry k).value
  value_of k h = listed_at 24 (item k) (told (pos 0) item _ (count_in b)) (pos 0) (omega (arith, (t.entries k h).low)) ∙ told_at (pos 0) item (λ j. (entry_at f b j).value) (count_in b) k rising h

  -- and an item of which there is none is blank
  by_entry : {P : Type 0} (i : ℕ) → i < 24 → ((k : ℕ) → k < count_in b → item k ≡ i → P)
      → (any (count_in b) (λ k. eqb (item k) i) ≡ false → get_or stamps_read i 0 ≡ 0 → get_or values_read i (pos 0) ≡ pos 0 → P) → P
  by_entry i h some none =
      by_test (any (count_in b) (λ k. eqb (item k) i))
      (λ e. let r = any_one (count_in b) (λ k. eqb (item k) i) e in some r.0 r.1 (eqb-true (item r.0) i r.2))
      (λ e.
      let other : (k : ℕ) → k < count_in b → item k ≡ i → ⊥ = λ k l. eqb-false (item k) i (any_at (λ j. eqb (item j) i) (count_in b) k e l) in
      none e
      (listed_at 24 i (told 0 item _ (count_in b)) 0 h ∙ told_none 0 item (λ j. (entry_at f b j).stamp) (count_in b) i other)
      (listed_at 24 i (told (pos 0) item _ (count_in b)) (pos 0) h ∙ told_none (pos 0) item (λ j. (entry_at f b j).value) (count_in b) i other))

  some_stamp : (k : ℕ) → k < count_in b → (entry k).stamp ≡ 0 → ⊥
  some_stamp k h = form_some 7 (entry k).stamp (reading_right (entry k).stamp (entry k).value (t.entries k h).reading).0

  measured_read : (i : ℕ) → i < 24 → measured stamps_read i ≡ any (count_in b) (λ k. eqb (item k) i)
  unfolding measured
  measured_read i h =
      by_entry i h
      (λ k l e.
      let s : get_or stamps_read i 0 ≡ (entry k).stamp = ap (λ (j : ℕ). get_or stamps_read j 0) (sym e) ∙ stamp_of k l in
      rw (ne_eqb (get_or stamps_read i 0) 0 (λ z. some_stamp k l (sym s ∙ z))) (sym (any_hit (count_in b) k (λ j. eqb (item j) i) l (eq-eqb (item k) i e))))
      (λ none s v. rw (eq-eqb (get_or stamps_read i 0) 0 s, none))

  entries_back : entries_of stamps_read values_read ≡ listed (count_in b) (entry_at f b)
  unfolding entries_of
  entries_back =
      ap (map (entry_of stamps_read values_read)) (passing_items 24 (count_in b) item (measured stamps_read) rising (λ k h. omega (arith, (t.entries k h).low)) measured_read)
      ∙ map_listed (entry_of stamps_read values_read) (count_in b) item
      ∙ listed_same (count_in b) (λ k. entry_of stamps_read values_read (item k)) (entry_at f b) (λ k h. rw (stamp_of k h, value_of k h))

  pub file_back : (Fit : Entry → Type 0) → Lawful f Fit → Bytes b → framed f (site_in b) (entries_of stamps_read values_read) ≡ b
  unfolding framed
  file_back Fit law bytes =
      let n = count_in b in
      rw (entries_back, joined_read f Fit law b n bytes (omega (arith, t.frame.size)), length_listed n (entry_at f b))
      (written_framed f.width (site_in b) n b bytes t.frame)

  -- and what was read may be written
  pub items_right : (i : ℕ) → i < 24 → wrong_item (get_or stamps_read i 0) (get_or values_read i (pos 0)) ≡ false
  unfolding wrong_item
  items_right i h =
      by_entry i h
      (λ k l e.
      rw (← e, stamp_of k l, value_of k l, ne_eqb (entry k).stamp 0 (some_stamp k l)) (t.entries k l).reading)
      (λ none s v. rw (s, v, zero_of))
