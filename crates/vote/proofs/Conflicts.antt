-- Two requests beside each other: covering, conflict and concurrence, item by item.
use mathlib.Core.Path.{◌≡◌, refl}
use mathlib.Core.Bool.{Bool, true, false, ◌&&◌, ◌||◌}
use mathlib.Core.List.{List}
use mathlib.Core.Logic.{◌⊎◌, inl, inr}
use Prim.Native.Nat.{ℕ, ◌<◌}
use borrow.Author.Tests.{eqb-true, eq-eqb}
use lib.Dec.{eqb}
use lib.ListN.{get_or}
use Rattle.kit.specs.Range.{implies}
use Rattle.kit.proofs.Bools.{or_left, or_right, by_test, implied, implying, and_left, and_right, both_true}
use Rattle.kit.proofs.Listings.{listed_at}
use Rattle.kit.proofs.Ranges.{Common, all_at, all_of}
use Rattle.sets.specs.Sets.{member}
use Rattle.sets.proofs.Members.{meets_item, meets_of, apart_at}
use Rattle.vote.specs.Data.{no_head, head_of, head_at, heads_of, request_at}
use Rattle.vote.specs.Requests.{covers, conflicts, concurrent}
use Rattle.vote.specs.declared.data.Head.{Head}
use Rattle.vote.specs.declared.data.Request.{Request}

-- the head at a place
pub heads_at : (rs : List Request) (j : ℕ) → j < 16 → head_at (heads_of rs) j ≡ head_of (request_at rs j)
unfolding heads_of
heads_at rs j h = listed_at 16 j (λ k. head_of (request_at rs k)) no_head h

module _ (a b : Head) where
  -- a covers b where an item that a updates is in b's base set
  pub covers_item : covers a b ≡ true → Common 32 (member a.update) (member b.base)
  unfolding covers
  covers_item e = meets_item a.update b.base e

  pub covers_of : (i : ℕ) → i < 32 → member a.update i ≡ true → member b.base i ≡ true → covers a b ≡ true
  unfolding covers
  covers_of i h u m = meets_of a.update b.base i h u m

  -- where it does not, none is
  pub covers_none : (i : ℕ) → covers a b ≡ false → i < 32 → member a.update i ≡ true → member b.base i ≡ false
  unfolding covers
  covers_none i e h u = apart_at a.update b.base i e h u

  -- a conflict is that either covers the other
  pub conflicts_way : conflicts a b ≡ true → (covers a b ≡ true) ⊎ (covers b a ≡ true)
  unfolding conflicts
  conflicts_way e = by_test (covers a b) (λ t. inl t) (λ f. inr (rw f at e))

  pub conflicts_first : covers a b ≡ true → conflicts a b ≡ true
  unfolding conflicts
  conflicts_first e = rw e

  pub conflicts_none : conflicts a b ≡ false → (covers a b ≡ false) × (covers b a ≡ false)
  unfolding conflicts
  conflicts_none e = (or_left (covers a b) (covers b a) e, or_right (covers a b) (covers b a) e)

-- and goes both ways
pub conflicts_turned : (a b : Head) → conflicts a b ≡ conflicts b a
unfolding conflicts
conflicts_turned a b = turned (covers a b) (covers b a)
  where
    turned : (x y : Bool) → (x || y) ≡ (y || x)
    turned true true = refl
    turned true false = refl
    turned false true = refl
    turned false false = refl

-- concurrent: an item in both base sets has one base stamp
pub concurrent_at
    : (a b : Request) (i : ℕ) → concurrent a b ≡ true → i < 24 → member a.base i ≡ true → member b.base i ≡ true
    → get_or a.stamps i 0 ≡ get_or b.stamps i 0
unfolding concurrent
concurrent_at a b i e h m n =
    eqb-true _ _
    (implied (member a.base i && member b.base i) _
    (all_at (λ k. implies (member a.base k && member b.base k) (eqb (get_or a.stamps k 0) (get_or b.stamps k 0))) 24 i e h) (both_true m n))

pub concurrent_of
    : (a b : Request) → ((i : ℕ) → i < 24 → member a.base i ≡ true → member b.base i ≡ true → get_or a.stamps i 0 ≡ get_or b.stamps i 0)
    → concurrent a b ≡ true
unfolding concurrent
concurrent_of a b f =
    all_of 24 (λ k. implies (member a.base k && member b.base k) (eqb (get_or a.stamps k 0) (get_or b.stamps k 0)))
    (λ i h. implying (member a.base i && member b.base i)
    (λ m. eq-eqb _ _ (f i h (and_left (member a.base i) (member b.base i) m) (and_right (member a.base i) (member b.base i) m))))
