-- Document 01, "The site file": the entries.
use Rattle.std.specs.Prelude.{ℕ, zero, suc, ◌+◌, Bool, not, cond, List, map, ◌++◌, eqb, ℤ, pos, get_or}
use Rattle.std.specs.Int.{w32}
use Rattle.std.proofs.Common.{to_z, of_z}
use Rattle.kit.specs.Range.{passing}
use Rattle.kit.specs.Bytes.{bytes_of, field_at}
use Rattle.sitefile.specs.Frame.{Form, framed}
use Rattle.sitefile.specs.declared.Entry.{Entry}

-- "item 1, stamp 5, value 4"
unfoldable pub rate_form : Form Entry
rate_form = record {
  width = 10;
  bytes = λ e. bytes_of 1 e.item ++ (bytes_of 5 e.stamp ++ bytes_of 4 (of_z w32 e.value));
  read = λ b at. record { item = field_at b at 1; stamp = field_at b (at + 1) 5; value = to_z w32 (field_at b (at + 6) 4) };
}

-- "Stamp 0 marks an item never measured"
unfoldable pub measured : List ℕ → ℕ → Bool
measured stamps i = not (eqb (get_or stamps i 0) 0)

-- the entry of an item
abbrev pub entry_of : List ℕ → List ℤ → ℕ → Entry
entry_of stamps values i = record { item = i; stamp = get_or stamps i 0; value = get_or values i (pos 0) }

-- "One entry for each measured item, items rising"
unfoldable pub entries_of : List ℕ → List ℤ → List Entry
entries_of stamps values = map (entry_of stamps values) (passing 24 (measured stamps))

-- the site file of some readings
unfoldable pub file_of : ℕ → List ℕ → List ℤ → List ℕ
file_of site stamps values = framed rate_form site (entries_of stamps values)

-- what the first n entries tell of an item, and d where none is of it
unfoldable pub told : {A : Type 0} → A → (ℕ → ℕ) → (ℕ → A) → ℕ → ℕ → A
told d item part zero i = d
told d item part (suc n) i = cond (eqb (item n) i) (part n) (told d item part n i)
