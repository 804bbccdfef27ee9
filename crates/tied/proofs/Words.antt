-- The table's words are the ledger's: covering, conflict and concurrence of two requests, as tests and as facts.
use Prim.Native.Nat.{ℕ, ◌<◌}
use mathlib.Core.Bool.{true, not, ◌&&◌}
use mathlib.Core.Logic.{inl, inr, ⊎_map}
use mathlib.Core.Path.{◌≡◌, ◌∙◌}
use native.Mathlib.Omega.{arith}
use borrow.Author.Tests.{lt-ltb, ltb-true, le-leb, not-true}
use lib.Dec.{eqb, leb, ltb}
use Rattle.kit.specs.Range.{any}
use Rattle.kit.proofs.Bools.{clash, and_left, and_right, both_true, by_lt}
use Rattle.kit.proofs.Ranges.{any_at}
use Rattle.ledger.specs.Ledger.{Covers, Conflict, Concurrent}
use Rattle.sets.specs.Sets.{member, inside, of_items}
use Rattle.table.specs.Meaning.{Sound}
use Rattle.table.specs.Places.{place_at}
use Rattle.table.specs.Sound.{sets_allowed, request_allowed, base_stamps_allowed, values_allowed}
use Rattle.table.specs.declared.data.Table.{Table}
use Rattle.vote.specs.Data.{head_of}
use Rattle.vote.specs.Requests.{covers, conflicts, concurrent}
use Rattle.vote.specs.declared.data.Request.{Request}
use Rattle.vote.proofs.Conflicts.{covers_item, covers_of, conflicts_way, conflicts_first, conflicts_turned, concurrent_at, concurrent_of}
use Rattle.tied.specs.Views.{has_item, request_of}

-- ---- items

pub has_below : (items i : ℕ) → has_item items i ≡ true → i < 24
has_below items i e = ltb-true i 24 (and_left (ltb i 24) (member items i) e)

pub has_member : (items i : ℕ) → has_item items i ≡ true → member items i ≡ true
has_member items i e = and_right (ltb i 24) (member items i) e

pub has_of : (items i : ℕ) → i < 24 → member items i ≡ true → has_item items i ≡ true
has_of items i h m = both_true (lt-ltb i 24 h) m

-- a set that has no item above 23 has none from there to the end of its word
pub items_in : (items i : ℕ) → of_items items ≡ true → i < 32 → member items i ≡ true → i < 24
unfolding of_items
items_in items i e h m = by_lt i 24 (λ l. l)
    (λ l. clash (both_true (le-leb 24 i l) m) (any_at (λ j. leb 24 j && member items j) 32 i (not-true (any 32 (λ j. leb 24 j && member items j)) e) h))

-- ---- two requests

pub covers_meant : (a b : Request) → Covers (request_of a) (request_of b) → covers (head_of a) (head_of b) ≡ true
covers_meant a b c =
    let i = c.item in
    covers_of (head_of a) (head_of b) i (let l : i < 24 = has_below b.base i c.based in omega arith)
    (has_member a.update i c.updates) (has_member b.base i c.based)

pub covers_means : (a b : Request) → of_items b.base ≡ true → covers (head_of a) (head_of b) ≡ true → Covers (request_of a) (request_of b)
covers_means a b e f =
    let c = covers_item (head_of a) (head_of b) f in
    let l : c.0 < 24 = items_in b.base c.0 e c.1 c.3 in
    record { item = c.0; updates = has_of a.update c.0 l c.2; based = has_of b.base c.0 l c.3 }

module _ (a b : Request) where
  pub conflict_meant : Conflict (request_of a) (request_of b) → conflicts (head_of a) (head_of b) ≡ true
  conflict_meant (inl c) = conflicts_first (head_of a) (head_of b) (covers_meant a b c)
  conflict_meant (inr c) = conflicts_turned (head_of a) (head_of b) ∙ conflicts_first (head_of b) (head_of a) (covers_meant b a c)

  pub conflict_means : of_items a.base ≡ true → of_items b.base ≡ true → conflicts (head_of a) (head_of b) ≡ true → Conflict (request_of a) (request_of b)
  conflict_means e f c = ⊎_map (covers_means a b f) (covers_means b a e) (conflicts_way (head_of a) (head_of b) c)

  pub concurrent_meant : Concurrent (request_of a) (request_of b) → concurrent a b ≡ true
  concurrent_meant c = concurrent_of a b (λ i h m n. c i (has_of a.base i h m) (has_of b.base i h n))

  pub concurrent_means : concurrent a b ≡ true → Concurrent (request_of a) (request_of b)
  concurrent_means e i m n = concurrent_at a b i e (has_below a.base i m) (has_member a.base i m) (has_member b.base i n)

-- ---- the requests of a sound table have no item above 23

pub sets_items : (base update : ℕ) → sets_allowed base update ≡ true → of_items base ≡ true
unfolding sets_allowed
sets_items base update e =
    and_right (inside update base) (of_items base) (and_right (not (eqb update 0)) (inside update base && of_items base) e)

pub place_items : (t : Table) → Sound t → (p : ℕ) → p < 16 → ((place_at t p).stamp ≡ 0 → ⊥) → of_items (place_at t p).base ≡ true
unfolding request_allowed
place_items t s p h used =
    let q = place_at t p in
    sets_items q.base q.update
    (and_left (sets_allowed q.base q.update) (base_stamps_allowed t.count q.base q.stamps && values_allowed q.update q.values) ((s.place p h).allowed used))

-- so of two that it holds the tests say what the ledger says
module _ (t : Table) (s : Sound t) (p q : ℕ) (hp : p < 16) (hq : q < 16) (used-p : (place_at t p).stamp ≡ 0 → ⊥) (used-q : (place_at t q).stamp ≡ 0 → ⊥) where
  pub covers_at : covers (head_of (place_at t p)) (head_of (place_at t q)) ≡ true → Covers (request_of (place_at t p)) (request_of (place_at t q))
  covers_at e = covers_means (place_at t p) (place_at t q) (place_items t s q hq used-q) e

  pub conflict_at : conflicts (head_of (place_at t p)) (head_of (place_at t q)) ≡ true → Conflict (request_of (place_at t p)) (request_of (place_at t q))
  conflict_at e = conflict_means (place_at t p) (place_at t q) (place_items t s p hp used-p) (place_items t s q hq used-q) e
