-- Writing the copy of any site of a sound table is never refused for its readings.
use mathlib.Core.Path.{◌≡◌}
use mathlib.Core.Bool.{true, false}
use Prim.Native.Nat.{ℕ, suc, ◌≤◌, ◌<◌}
use native.Mathlib.Omega.{arith}
use lib.IntN.{pos}
use lib.ListN.{length, get_or}
use Rattle.sitefile.specs.Entries.{file_of}
use Rattle.sitefile.specs.Write.{not_written, file_written}
use Rattle.sitefile.proofs.Writable.{Copied, writable_in, writable}
use Rattle.table.specs.Places.{site_at}
use Rattle.table.specs.Sound.{sound_table}
use Rattle.table.specs.declared.data.Table.{Table}
use Rattle.table.proofs.Meaning.{means}

module _ (t : Table) (sound : sound_table t ≡ true) (k : ℕ) (here : k < t.count) (room : ℕ) where
  few : t.count ≤ 7
  few = (means t sound).count_to

  -- each item of its copy can stand in a file
  copied : (i : ℕ) → i < 24 → Copied t.count (get_or (site_at t k).stamps i 0) (get_or (site_at t k).values i (pos 0))
  copied i l =
      let s = (means t sound).site k (omega (arith, few)) in
      record { formed = s.copy_form i l; in_reach = s.copy_value i l; blank = s.copy_blank i l }

  -- only a buffer that is too short refuses it
  pub copy_not_refused : length (file_of (suc k) (site_at t k).stamps (site_at t k).values) ≤ room → not_written room (suc k) (site_at t k).stamps (site_at t k).values ≡ false
  copy_not_refused = writable_in room (suc k) t.count (site_at t k).stamps (site_at t k).values (omega arith) (omega (arith, few)) few copied

  -- and 248 bytes are always enough
  pub copy_written
      : 248 ≤ room
      → file_written room (suc k) (site_at t k).stamps (site_at t k).values
      ≡ record { number = 0; length = length (file_of (suc k) (site_at t k).stamps (site_at t k).values) }
  copy_written = writable room (suc k) t.count (site_at t k).stamps (site_at t k).values (omega arith) (omega (arith, few)) few copied
