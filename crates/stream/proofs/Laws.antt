-- What the loop from input to output needs: a line lies at the front of its buffer, and what a run leaves is sound and still inside.
use mathlib.Core.Path.{◌≡◌, sym, ap, ◌∙◌}
use mathlib.Core.Bool.{true}
use mathlib.Core.List.{List, [], ◌++◌}
use Prim.Native.Nat.{ℕ, ◌+◌, ◌-◌, ◌≤◌}
use native.Mathlib.Omega.{arith}
use lib.ListN.{length, take, drop, length-append, length-drop}
use lib.Seq.{length-take-le, take-append_seam}
use Rattle.kit.specs.Lists.{placed}
use Rattle.kit.proofs.Puts.{placed_in, put_front}
use Rattle.lines.specs.Lines.{fitted}
use Rattle.lines.proofs.Writes.{fitted_in}
use Rattle.table.specs.Fresh.{fresh_for}
use Rattle.table.specs.Meaning.{ShapedTable}
use Rattle.table.specs.Sound.{sound_table}
use Rattle.table.specs.declared.data.Table.{Table}
use Rattle.table.specs.declared.fresh.FreshTable.{FreshTable}
use Rattle.table.proofs.Meaning.{means, meant}
use Rattle.steps.specs.Night.{ran}
use Rattle.steps.proofs.Nights.{part_leads, fresh_well}
use Rattle.steps.proofs.Upkeep.{Well}
use Rattle.stream.specs.Counts.{IsPrefixLen}
use Rattle.stream.specs.Stands.{Stands}

-- ---- at the front of a buffer

-- what a buffer begins with, and as many bytes as that has
pub in_front : (e rest d' : List ℕ) (n : ℕ) → n ≡ length e → d' ≡ e ++ rest → IsPrefixLen n d' × (take n d' ≡ e)
in_front e rest d' n long bytes =
    let inside : n ≤ length d' = rw (long, bytes, length-append e rest) (omega arith) in
    ((inside, sym (length-take-le n d' inside)), rw (long, bytes) (take-append_seam e rest))

-- a line for which the buffer d has room is whole there when it was written
pub line_in_front : (d e d' : List ℕ) (n : ℕ) → length e ≤ length d → n ≡ fitted d 0 e → d' ≡ placed d 0 e → IsPrefixLen n d' × (take n d' ≡ e)
line_in_front d e d' n h a b = in_front e (drop (length e) d) d' n (a ∙ fitted_in d 0 e (omega arith)) (b ∙ placed_in d 0 e (omega arith) ∙ put_front d e)

-- ---- tables

-- a fresh table that was not refused is sound, and has its shape
module _ (n : ℕ) (f : FreshTable) (e : f ≡ fresh_for n) (z : f.number ≡ 0) where
  well : Well (fresh_for n).table
  well = fresh_well n (sym (ap (λ (g : FreshTable). g.number) e) ∙ z)

  pub fresh_sound : sound_table f.table ≡ true
  fresh_sound = rw e (meant (fresh_for n).table well.sound)

  pub fresh_shaped : ShapedTable f.table
  fresh_shaped = rw e well.shaped

-- a sound table has at most 7 sites
pub sound_few : (t : Table) → sound_table t ≡ true → t.count ≤ 7
sound_few t e = (means t e).count_to

-- ---- where a night stands

-- nothing waits yet
pub begins : {t : Table} {room : ℕ} → sound_table t ≡ true → ShapedTable t → Stands t 0 0 room
begins e g = record { sound = e; shaped = g; inside = omega arith; fits = omega arith }

module _ {t : Table} {at end room : ℕ} (s : Stands t at end room) where
  -- a run leaves a sound table
  left_well : (nth : ℕ) (b : List ℕ) (w : ℕ) → Well (ran t nth b w).table
  unfolding ran
  left_well nth b w = rw s.sound (part_leads t nth b [] w (record { sound = means t s.sound; shaped = s.shaped })).well

  -- and what waits behind the bytes that it took is inside
  pub runs_on : (nth : ℕ) (b : List ℕ) (w : ℕ) {u : Table} {at' : ℕ} → u ≡ (ran t nth b w).table → at' ≤ end → Stands u at' end room
  runs_on nth b w e h = rw e (record { sound = meant (ran t nth b w).table (left_well nth b w).sound; shaped = (left_well nth b w).shaped; inside = h; fits = s.fits })

-- what is taken of the bytes that wait ends where they end, or before
pub part_length : {k : ℕ} (at end : ℕ) (b : List ℕ) → at ≤ end → k ≤ length (take (end - at) (drop at b)) → end ≤ length b → at + k ≤ end
part_length {k} at end b h l f =
    let n : length (take (end - at) (drop at b)) ≡ end - at = length-take-le (end - at) (drop at b) (rw length-drop (omega arith)) in
    omega arith
