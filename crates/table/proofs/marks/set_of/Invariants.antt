-- `table::marks::set_of` meets its contract: after u turns the first u voters are in the set.
use mathlib.Core.Path.{◌≡◌}
use Rattle.sets.specs.Sets.{set_of}
use Rattle.vote.specs.Voters.{has_voter}
use Rattle.table.proofs.marks.set_of.Given as goal

abbrev pub invariant-loop-u : goal.invariant-loop-u
invariant-loop-u l = l.set ≡ set_of l.u (has_voter l.row)
