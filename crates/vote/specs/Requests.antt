-- Two requests beside each other.
use Rattle.std.specs.Prelude.{Bool, ◌&&◌, ◌||◌, eqb, get_or}
use Rattle.kit.specs.Range.{all, implies}
use Rattle.sets.specs.Sets.{member, meets}
use Rattle.stamps.specs.Stamps.{higher}
use Rattle.vote.specs.declared.data.Head.{Head}
use Rattle.vote.specs.declared.data.Request.{Request}

-- "A covers B if A's update set meets B's base set."
unfoldable pub covers : Head → Head → Bool
covers a b = meets a.update b.base

-- "They conflict if either covers the other."
unfoldable pub conflicts : Head → Head → Bool
conflicts a b = covers a b || covers b a

-- "They are concurrent if each item in both base sets has equal base stamps in both."
unfoldable pub concurrent : Request → Request → Bool
concurrent a b =
    all 24 (λ i. implies (member a.base i && member b.base i) (eqb (get_or a.stamps i 0) (get_or b.stamps i 0)))

-- a has higher priority than b
abbrev pub outranks : Head → Head → Bool
outranks a b = higher a.stamp b.stamp
