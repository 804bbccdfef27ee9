-- A site's copy in a sound table, written into a buffer: what stands at its front is the file.
use mathlib.Core.Path.{◌≡◌, refl, sym, ap, subst, ◌∙◌}
use mathlib.Core.Bool.{true}
use mathlib.Core.List.{List, ◌++◌}
use Prim.Native.Nat.{ℕ, suc, ◌+◌, ◌≤◌, ◌<◌}
use native.Mathlib.Omega.{arith}
use lib.ListN.{length, take, drop}
use Rattle.sitefile.specs.Entries.{file_of}
use Rattle.sitefile.specs.Write.{file_written, buffer_after}
use Rattle.sitefile.specs.Write.{Written}
use Rattle.sitefile.proofs.RoundTrips.{file_length}
use Rattle.table.specs.Places.{site_at}
use Rattle.table.specs.Sound.{sound_table}
use Rattle.table.specs.declared.data.Table.{Table}
use Rattle.filed.proofs.Filed.{copy_not_refused, copy_written}
use Rattle.stream.proofs.Laws.{in_front}

-- the buffer d became e when the writer answered w for the site of this digit and the readings at place i: the front of e is the file of site k
abbrev Filed : (t : Table) (k : ℕ) (d e : List ℕ) (w : Written) → ℕ → ℕ → Type 0
Filed t k d e w i digit =
    w ≡ file_written (length d) digit (site_at t i).stamps (site_at t i).values
    → e ≡ buffer_after d digit (site_at t i).stamps (site_at t i).values
    → ((w.length ≤ length e) × (w.length ≡ length (take w.length e))) × (take w.length e ≡ file_of digit (site_at t k).stamps (site_at t k).values)

module _ (t : Table) (k : ℕ) (d e : List ℕ) (w : Written) (sound : sound_table t ≡ true) (here : k < t.count) (room : 248 ≤ length d) where
  file : List ℕ
  file = file_of (suc k) (site_at t k).stamps (site_at t k).values

  front : buffer_after d (suc k) (site_at t k).stamps (site_at t k).values ≡ file ++ drop (length file) d
  unfolding buffer_after file
  front = let short = (file_length (suc k) (site_at t k).stamps (site_at t k).values).1 in rw (copy_not_refused t sound k here (length d) (omega arith)) refl

  filed : Filed t k d e w k (suc k)
  unfolding file
  filed a b = in_front file (drop (length file) d) e w.length (ap (λ (v : Written). v.length) (a ∙ copy_written t sound k here (length d) room)) (b ∙ front)

  pub copy_in : (i : ℕ) → i ≡ k → Filed t k d e w i (k + 1)
  copy_in i p = let n : suc k ≡ k + 1 = omega arith in subst (λ (j : ℕ). Filed t k d e w j (k + 1)) (sym p) (subst (Filed t k d e w k) n filed)
