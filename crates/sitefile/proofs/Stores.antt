-- What the reader's code stores: the readings of all entries, entry after entry.
use mathlib.Core.Path.{◌≡◌, refl}
use Prim.Native.Nat.{ℕ, ◌+◌}
use native.Mathlib.Numerals.{add-one}
use lib.IntN.{pos}
use lib.ListN.{replicate}
use Rattle.kit.specs.Lists.{listed}
use Rattle.sitefile.specs.Entries.{told}
use Rattle.sitefile.specs.Read.{readings_of, with_entry}
use Rattle.sitefile.specs.declared.Entry.{Entry}
use Rattle.sitefile.proofs.Tellings.{told_turn}

module _ (site : ℕ) (entry : ℕ → Entry) where
  pub read_none : record { number = 0; site = site; stamps = replicate 24 0; values = replicate 24 (pos 0) } ≡ readings_of site entry 0
  unfolding readings_of listed told
  read_none = refl

  pub read_more : (k : ℕ) → with_entry (readings_of site entry k) (entry k) ≡ readings_of site entry (k + 1)
  unfolding readings_of
  read_more k = rw (told_turn 0 (λ j. (entry j).item) (λ j. (entry j).stamp) 24 k, told_turn (pos 0) (λ j. (entry j).item) (λ j. (entry j).value) 24 k, add-one k) refl
