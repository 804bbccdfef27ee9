-- There and back. Readings that may be written, written and read, give the same site and readings; every file that the reader takes, written
-- again, gives the same bytes.
use mathlib.Core.Path.{◌≡◌, refl, ap, ◌∙◌}
use mathlib.Core.Bool.{true, false, ◌||◌}
use mathlib.Core.List.{List, ◌++◌}
use Prim.Native.Nat.{ℕ, ◌≤◌, ◌<◌}
use native.Mathlib.Omega.{arith}
use borrow.Author.Tests.{le-ltb, leb-true}
use lib.Dec.{lit<, leb, ltb}
use lib.IntN.{ℤ, pos, negsuc}
use lib.ListN.{length, get_or, take, drop}
use lib.Seq.{take-append_seam}
use mir.Syntax.{w32}
use mir.Val.{SFits}
use Rattle.kit.specs.Range.{any, number}
use Rattle.kit.proofs.Bools.{by_test, and_left, and_right, or_left, or_right}
use Rattle.kit.proofs.Ranges.{any_at, none_of, number_le}
use Rattle.stamps.proofs.Laws.{form_lt}
use Rattle.readings.specs.Readings.{in_range}
use Rattle.sitefile.specs.Entries.{rate_form, measured, file_of}
use Rattle.sitefile.specs.Read.{wrong_site, wrong_reading, no_site_file, readings_of, file_read}
use Rattle.sitefile.specs.Write.{wrong_item, not_written, file_written, buffer_after}
use Rattle.sitefile.specs.declared.Entry.{Entry}
use Rattle.sitefile.proofs.Backs.{taken_written, read_back, file_back, items_right}
use Rattle.sitefile.proofs.Forms.{Bytes}
use Rattle.sitefile.proofs.Rates.{Fitting, rate_lawful, length_file}
use Rattle.sitefile.proofs.Taken.{taken, not_refused, reading_right, site_right}

-- a value in range has 32 bits
pub range_fits : (value : ℤ) → in_range value ≡ true → SFits w32 value
unfolding in_range
range_fits (pos n) e = record { sfits = let h = leb-true n 8640000 (and_right true (leb n 8640000) e) in omega arith }
range_fits (negsuc n) e = record { sfits = let h = leb-true n 8639999 (and_left (leb n 8639999) true e) in omega arith }

-- so the entry of a right reading fits its fields
rate_fit : (e : Entry) → e.item < 24 → wrong_reading e.stamp e.value ≡ false → Fitting e
rate_fit e h w =
    let r = reading_right e.stamp e.value w in
    record { item = omega arith; stamp = omega (arith, form_lt 7 e.stamp r.0); value = range_fits e.value r.1 }

-- ---- the two round trips

-- what the writer does not refuse
pub written_right : (room site : ℕ) (stamps : List ℕ) (values : List ℤ) → not_written room site stamps values ≡ false
    → (wrong_site site ≡ false) × ((i : ℕ) → i < 24 → wrong_item (get_or stamps i 0) (get_or values i (pos 0)) ≡ false)
unfolding not_written
written_right room site stamps values e =
    let short = ltb room (length (file_of site stamps values)) in
    let items = any 24 (λ i. wrong_item (get_or stamps i 0) (get_or values i (pos 0))) in
    let f = or_right short (wrong_site site || items) e in
    (or_left (wrong_site site) items f, λ i h. any_at (λ j. wrong_item (get_or stamps j 0) (get_or values j (pos 0))) 24 i (or_right (wrong_site site) items f) h)

-- readings that the writer takes, written and read: the same site and the same readings
pub read_written : (room site : ℕ) (stamps : List ℕ) (values : List ℤ) → length stamps ≡ 24 → length values ≡ 24 → not_written room site stamps values ≡ false
    → file_read (file_of site stamps values) ≡ record { number = 0; site = site; stamps = stamps; values = values }
unfolding file_read file_of rate_form
read_written room site stamps values ls lv e =
    let w = written_right room site stamps values e in
    let small : site < 256 = omega (arith, (site_right site w.0).1) in
    let t = taken_written rate_form Fitting rate_lawful (lit< tt) rate_fit site small stamps values w.1 in
    rw (not_refused (file_of site stamps values) (ap wrong_site t.0 ∙ w.0) t.1, t.0)
    (read_back rate_form Fitting rate_lawful (lit< tt) rate_fit site small stamps values w.1 site ls lv)

-- number 0 is no refusal
pub number_0 : (room site : ℕ) (stamps : List ℕ) (values : List ℤ) → (file_written room site stamps values).number ≡ 0 → not_written room site stamps values ≡ false
unfolding file_written
number_0 room site stamps values z =
    by_test (not_written room site stamps values) (λ t. let n : ◌≡◌ {A = ℕ} 19 0 = rw t at z in absurd (omega arith)) (λ f. f)

-- and so from the buffer: the bytes that the writer says it wrote
pub read_buffer : (d : List ℕ) (site : ℕ) (stamps : List ℕ) (values : List ℤ) → length stamps ≡ 24 → length values ≡ 24 → (file_written (length d) site stamps values).number ≡ 0
    → file_read (take (file_written (length d) site stamps values).length (buffer_after d site stamps values)) ≡ record { number = 0; site = site; stamps = stamps; values = values }
unfolding file_written buffer_after
read_buffer d site stamps values ls lv z =
    let e = number_0 (length d) site stamps values z in
    rw e (ap file_read (take-append_seam (file_of site stamps values) (drop (length (file_of site stamps values)) d)) ∙ read_written (length d) site stamps values ls lv e)

-- a file that the reader takes, written again from what was read: the same bytes
pub written_read : (b : List ℕ) → Bytes b → no_site_file b ≡ false → file_of (file_read b).site (file_read b).stamps (file_read b).values ≡ b
unfolding file_read readings_of file_of
written_read b bytes e = rw e (file_back rate_form b (taken b e).1 Fitting rate_lawful bytes)

-- the writer takes it in any buffer that has room for it
pub written_again : (b : List ℕ) (room : ℕ) → Bytes b → no_site_file b ≡ false → length b ≤ room → not_written room (file_read b).site (file_read b).stamps (file_read b).values ≡ false
unfolding not_written file_read readings_of
written_again b room bytes e h =
    rw (written_read b bytes e, le-ltb room (length b) h) (again e)
  where
    again : no_site_file b ≡ false → (wrong_site (file_read b).site || any 24 (λ i. wrong_item (get_or (file_read b).stamps i 0) (get_or (file_read b).values i (pos 0)))) ≡ false
    again e = rw (e, (taken b e).0) (none_of 24 _ (items_right rate_form b (taken b e).1))

-- and nothing behind it changes
pub written_buffer : (b d : List ℕ) → Bytes b → no_site_file b ≡ false → length b ≤ length d
    → (file_written (length d) (file_read b).site (file_read b).stamps (file_read b).values ≡ record { number = 0; length = length b })
    × (buffer_after d (file_read b).site (file_read b).stamps (file_read b).values ≡ b ++ drop (length b) d)
unfolding file_written buffer_after
written_buffer b d bytes e h = rw (written_again b (length d) bytes e h, written_read b bytes e) (refl, refl)

-- "8 to 248 bytes"
pub file_length : (site : ℕ) (stamps : List ℕ) (values : List ℤ) → (8 ≤ length (file_of site stamps values)) × (length (file_of site stamps values) ≤ 248)
file_length site stamps values =
    let few : number 24 (measured stamps) ≤ 24 = number_le 24 (measured stamps) in
    (omega (arith, length_file site stamps values), omega (arith, length_file site stamps values))
