-- `table::requests::each_allowed` meets its contract: a loop over the items of a set that returns at the first that fails, whatever is asked.
use Rattle.std.proofs.Common.{◌≡◌, ℕ, Bool, true, ◌<◌, get_or}
use Rattle.table.proofs.Runs.{Passed}
use Rattle.table.proofs.requests.each_allowed.Given as goal

abbrev pub invariant-loop-left : goal.invariant-loop-left
invariant-loop-left g l =
    record {
      gone : Passed l.set (λ i. true) l.left;
      passed : (none : _) (test : ℕ → Bool) → ((i : ℕ) (r : Bool) → i < 24 → goal.F-post g l.allowed (get_or l.row i none) r → r ≡ test i) → Passed l.set test l.left;
    }

abbrev pub decreases-loop-left : goal.decreases-loop-left
decreases-loop-left g l = l.left
