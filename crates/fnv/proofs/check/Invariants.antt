-- `fnv::check`: from the check so far, the bytes left give the check of all.
use mathlib.Core.Path.{◌≡◌}
use lib.ListN.{drop}
use Rattle.fnv.specs.Fnv.{fnv_from, fnv_of}
use Rattle.fnv.proofs.check.Given as goal

abbrev pub invariant-loop-b : goal.invariant-loop-b
invariant-loop-b l = fnv_from l.h (drop l.b-index l.s) ≡ fnv_of l.s
