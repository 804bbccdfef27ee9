-- Document 01, "The site file": which bytes are refused as 18, and what the others say.
use Rattle.std.specs.Prelude.{ℕ, zero, suc, ◌+◌, ◌-◌, ◌*◌, Bool, true, not, ◌||◌, cond, List, eqb, ltb, ℤ, pos, length, take, set, replicate, Result, Ok, Err}
use Rattle.kit.specs.Range.{any}
use Rattle.kit.specs.Lists.{listed}
use Rattle.stamps.specs.Stamps.{issued_form}
use Rattle.readings.specs.Readings.{in_range}
use Rattle.fnv.specs.Fnv.{fnv_of}
use Rattle.refusals.specs.Numbers.{number_of}
use Rattle.refusals.specs.declared.Refusal.{Refusal}
use Rattle.sitefile.specs.Frame.{entry_at, site_in, count_in, distance_in, check_in}
use Rattle.sitefile.specs.Entries.{rate_form, told}
use Rattle.sitefile.specs.declared.Entry.{Entry}
use Rattle.sitefile.specs.declared.SiteFile as code

-- "length not 10 × count + 8", for entries of w bytes
unfoldable pub wrong_length : ℕ → List ℕ → Bool
wrong_length w b = not (eqb (length b) (w * count_in b + 8))

-- "site not 1 to 7": the reader's and the writer's
unfoldable pub wrong_site : ℕ → Bool
wrong_site site = ltb site 1 || ltb 7 site

-- "distance wrong", for entries of w bytes
unfoldable pub wrong_distance : ℕ → List ℕ → Bool
wrong_distance w b = not (eqb (distance_in b) (w * count_in b))

-- "check wrong": not FNV-1a of all bytes before it
unfoldable pub wrong_check : List ℕ → Bool
wrong_check b = not (eqb (check_in b) (fnv_of (take (length b - 4) b)))

-- "a stamp with t 0 or above its limit or digit not 1 to 7, or a value out of range"
unfoldable pub wrong_reading : ℕ → ℤ → Bool
wrong_reading stamp value = not (issued_form 7 stamp) || not (in_range value)

-- "items rising": the item of entry k is above that of the entry before it
unfoldable pub rises : (ℕ → Entry) → ℕ → Bool
rises entry zero = true
rises entry (suc k) = ltb (entry k).item (entry (suc k)).item

-- "items not rising or above 23", or a wrong reading
unfoldable pub wrong_entry : (ℕ → Entry) → ℕ → Bool
wrong_entry entry k = not (rises entry k) || (ltb 23 (entry k).item || wrong_reading (entry k).stamp (entry k).value)

-- "Refused as 18 exactly if shorter than 8, length not 10 × count + 8, site not 1 to 7, count above 24, distance or check wrong, items not
-- rising or above 23, a stamp with t 0 or above its limit or digit not 1 to 7, or a value out of range."
unfoldable pub no_site_file : List ℕ → Bool
no_site_file b =
    ltb (length b) 8
    || (wrong_length 10 b
    || (wrong_site (site_in b)
    || (ltb 24 (count_in b)
    || (wrong_distance 10 b
    || (wrong_check b
    || any (count_in b) (wrong_entry (entry_at rate_form b)))))))

-- what the reader answers: document 01's number, 0 or 18, and the site's readings, all zeros beside 18
pub record SiteFile : Type 0 where
  pub number : ℕ
  pub site : ℕ
  pub stamps : List ℕ
  pub values : List ℤ

-- the readings of the first n entries: an item of which none tells is blank
unfoldable pub readings_of : ℕ → (ℕ → Entry) → ℕ → SiteFile
readings_of site entry n = record {
  number = 0;
  site = site;
  stamps = listed 24 (told 0 (λ k. (entry k).item) (λ k. (entry k).stamp) n);
  values = listed 24 (told (pos 0) (λ k. (entry k).item) (λ k. (entry k).value) n);
}

-- the readings r, with those of one entry more
abbrev pub with_entry : SiteFile → Entry → SiteFile
with_entry r e = record { number = r.number; site = r.site; stamps = set r.stamps e.item e.stamp; values = set r.values e.item e.value }

-- 18, and zeros beside it
abbrev pub no_file : SiteFile
no_file = record { number = 18; site = 0; stamps = replicate 24 0; values = replicate 24 (pos 0) }

-- what the reader answers
unfoldable pub file_read : List ℕ → SiteFile
file_read b = cond (no_site_file b) no_file (readings_of (site_in b) (entry_at rate_form b) (count_in b))

-- what the code answers, so told: readings stand beside 0, and a refusal beside zeros
abbrev pub told_file : code.SiteFile → SiteFile
told_file f = record { number = 0; site = f.site; stamps = f.stamps; values = f.values }

abbrev pub file_answer : Result code.SiteFile Refusal → SiteFile
file_answer (Ok f) = told_file f
file_answer (Err r) = record { number = number_of r; site = 0; stamps = replicate 24 0; values = replicate 24 (pos 0) }
