-- `table::marks::marks_of` meets its contract: filled from the front.
use mathlib.Core.Path.{◌≡◌}
use Prim.Native.Nat.{ℕ, ◌/◌, ◌%◌, ◌<◌}
use lib.ListN.{length, get_or}
use Rattle.vote.specs.Data.{vote_at}
use Rattle.vote.specs.declared.data.Mark.TheVariants as mark
use Rattle.table.specs.Places.{no_site}
use Rattle.table.proofs.marks.marks_of.Given as goal

abbrev pub invariant-loop-i : goal.invariant-loop-i
invariant-loop-i l = (length l.mark-items ≡ 112) × ((k : ℕ) → k < l.i → get_or l.mark-items k mark.None ≡ (vote_at (get_or l.sites (k % 7) no_site).votes (k / 7)).mark)
