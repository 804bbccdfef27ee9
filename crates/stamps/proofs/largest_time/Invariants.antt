-- `stamps::largest_time`: so far the largest t of the base items below this one, and it has 61 bits.
use Rattle.std.proofs.Common.{◌≡◌, ◌<◌, ◌^◌, get_or}
use Rattle.kit.specs.Range.{largest}
use Rattle.sets.specs.Sets.{member}
use Rattle.stamps.specs.Stamps.{time_of}
use Rattle.stamps.proofs.largest_time.Given as goal

abbrev pub invariant-loop-item : goal.invariant-loop-item
invariant-loop-item l = (l.top ≡ largest l.item (member l.base) (λ i. time_of (get_or l.stamps i 0))) × (l.top < 2 ^ 61)
