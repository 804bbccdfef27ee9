-- Bench cases 10 and 11 of document 01.
use mathlib.Core.Path.{◌≡◌, refl, ap, ◌∙◌}
use mathlib.Core.Bool.{true, false}
use mathlib.Core.List.{List, [], ◌∷◌, map}
use Prim.Native.Nat.{ℕ, ◌*◌, ◌+◌}
use native.Mathlib.Omega.{arith}
use borrow.Author.Tests.{lt-ltb}
use lib.IntN.{pos, negsuc}
use lib.ListN.{length, replicate}
use Rattle.kit.specs.Range.{number, passing}
use Rattle.kit.specs.Bytes.{bytes_of}
use Rattle.stamps.specs.Stamps.{issued_form}
use Rattle.readings.specs.Readings.{in_range}
use Rattle.fnv.specs.Fnv.{cut_product, fnv_step, fnv_from, fnv_of}
use Rattle.sitefile.specs.Frame.{joined, trailer_of, checked, framed}
use Rattle.sitefile.specs.Entries.{rate_form, measured, entries_of, file_of}
use Rattle.sitefile.specs.Read.{wrong_reading, no_site_file, no_file, file_read}
use Rattle.sitefile.proofs.Rates.{length_file}

-- "Values 8,640,000 and -8,640,000 pass; one beyond": not, at an entry with the stamp 8001
pub case_10 : map (wrong_reading 8001) (pos 8640000 ∷ negsuc 8639999 ∷ pos 8640001 ∷ negsuc 8640000 ∷ []) ≡ (false ∷ false ∷ true ∷ true ∷ [])
unfolding wrong_reading issued_form in_range
case_10 = refl

-- "No entries: a file of 8 bytes."
pub case_11 : (site : ℕ) → length (file_of site (replicate 24 0) (replicate 24 (pos 0))) ≡ 8
unfolding number measured
case_11 site = length_file site (replicate 24 0) (replicate 24 (pos 0)) ∙ ap (λ (n : ℕ). 10 * n + 8) none
  where
    none : number 24 (measured (replicate 24 0)) ≡ 0
    none = refl

-- that of site 3, byte by byte
pub case_11_bytes : file_of 3 (replicate 24 0) (replicate 24 (pos 0)) ≡ (3 ∷ 0 ∷ 0 ∷ 0 ∷ 38 ∷ 52 ∷ 194 ∷ 155 ∷ [])
unfolding file_of entries_of passing measured framed joined rate_form trailer_of checked bytes_of fnv_of fnv_from fnv_step cut_product
case_11_bytes = refl

-- "Seven bytes: 18."
pub case_11_short : (b : List ℕ) → length b ≡ 7 → file_read b ≡ no_file
unfolding file_read no_site_file
case_11_short b e = rw (lt-ltb (length b) 8 (omega arith)) refl
