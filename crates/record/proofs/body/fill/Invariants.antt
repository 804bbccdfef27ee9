-- The invariant: the items that are gone from what is left of the set are read, whatever is read of a place. The measure is what is left.
use Rattle.std.proofs.Common.{◌≡◌, ℕ, replicate}
use Rattle.record.proofs.Items.{Placed, Walked}
use Rattle.record.proofs.body.fill.Given as goal

abbrev pub invariant-loop-left : goal.invariant-loop-left
invariant-loop-left g l =
    record {
      placed : Placed l.start l.width l.set l.left l.at;
      walked : (none : _) (number : ℕ → _) → l.initial.r ≡ replicate 24 none → ((at : ℕ) (x : _) → goal.F-post g l.read at x → x ≡ number at) → Walked l.start l.width l.set none number l.left l.r;
    }

abbrev pub decreases-loop-left : goal.decreases-loop-left
decreases-loop-left g l = l.left
