-- `plans::free::FreePlaces::among` meets its contract: after j turns the set has the free places below j.
use Prim.Native.Nat.{◌≤◌}
use Rattle.sets.specs.Sets.{set_of}
use Rattle.table.specs.Places.{no_message}
use lib.ListN.{get_or}
use mathlib.Core.Bool.{not}
use mathlib.Core.Path.{◌≡◌}
use Rattle.plans.proofs.free.FreePlaces.among.Given as goal

abbrev pub invariant-loop-j : goal.invariant-loop-j
invariant-loop-j l = (l.set ≡ set_of l.j (λ j. not (get_or l.messages j no_message).used))
