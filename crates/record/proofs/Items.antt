-- A loop over the items of a set, lowest first, that fills an array at each turn's item.
use mathlib.Core.Path.{◌≡◌, sym, ap, ◌∙◌}
use mathlib.Core.Bool.{true, false, cond}
use mathlib.Core.List.{List}
use Prim.Native.Nat.{ℕ, ◌+◌, ◌-◌, ◌*◌, ◌^◌, ◌≤◌, ◌<◌}
use native.Mathlib.Nat.{mul-suc, mul-zero, add-zero, add_assoc, mul-le-mul_left, le_trans}
use native.Mathlib.Numerals.{add-one}
use native.Mathlib.Omega.{arith}
use lib.Bits.{bit_and}
use lib.Count.{count_trailing_zeros}
use lib.ListN.{replicate, set}
use Rattle.kit.specs.Range.{number}
use Rattle.kit.proofs.Bools.{cond_yes, cond_no}
use Rattle.kit.proofs.Listings.{Filled, filled_start, filled_put, filled_skip, filled_end}
use Rattle.kit.proofs.Ranges.{number_suc, number_le}
use Rattle.sets.specs.Sets.{member}
use Rattle.sets.proofs.Lowest.{Done, done_start, done_in, done_below, done_less, done_more, done_before, done_over}
use Rattle.record.specs.Bodies.{entry_at, by_item}

-- ---- where the entries stand

-- the first begins at the start
pub entry_first : (start w s : ℕ) → entry_at start w s 0 ≡ start
unfolding entry_at number
entry_first start w s = rw (mul-zero, add-zero)

-- w bytes more for an item of the set, and none for the others
entry_next : (start w s i : ℕ) → member s i ≡ true → entry_at start w s (i + 1) ≡ entry_at start w s i + w
unfolding entry_at
entry_next start w s i e = rw (add-one, number_suc, e, add-one, mul-suc, ← add_assoc)

entry_same : (start w s i : ℕ) → member s i ≡ false → entry_at start w s (i + 1) ≡ entry_at start w s i
unfolding entry_at
entry_same start w s i e = rw (add-one, number_suc, e, add-zero)

entry_le : (start w s i : ℕ) → i ≤ 24 → entry_at start w s i ≤ start + w * 24
unfolding entry_at
entry_le start w s i h = let l : w * number i (member s) ≤ w * 24 = mul-le-mul_left w (le_trans (number_le i (member s)) h) in omega arith

-- ---- the loop

-- `at` is where the entry of the next item begins
module _ (start w s : ℕ) where
  pub record Placed (left at : ℕ) : Type 0 where
    pub small : s < 2 ^ 24
    pub done : Done 24 s (λ i. at ≡ entry_at start w s i) left

  pub placed_start : s < 2 ^ 24 → Placed s start
  placed_start h = record { small = h; done = done_start (omega arith) (sym (entry_first start w s)) }

  passed : {at : ℕ} (i : ℕ) → member s i ≡ false → at ≡ entry_at start w s i → at ≡ entry_at start w s (i + 1)
  passed i e h = h ∙ sym (entry_same start w s i e)

  module _ {left at : ℕ} (v : Placed left at) where
    pub placed_room : at ≤ start + w * 24
    placed_room = rw v.done.so_far (entry_le start w s v.done.from v.done.in_reach)

    module _ (ne : left ≡ 0 → ⊥) where
      pub placed_item : count_trailing_zeros 32 left < 24
      placed_item = done_below v.done ne 24 v.small

      placed_at : at ≡ entry_at start w s (count_trailing_zeros 32 left)
      placed_at = done_before passed v.done ne

      pub placed_turn : Placed (bit_and left (left - 1)) (at + w)
      placed_turn = record {
        small = v.small;
        done = done_more v.done ne placed_item (ap (λ (x : ℕ). x + w) placed_at ∙ sym (entry_next start w s (count_trailing_zeros 32 left) (done_in v.done ne)));
      }

      pub placed_less : bit_and left (left - 1) < left
      placed_less = done_less v.done ne

  -- the entries of the items that are gone are read into r
  module _ {A : Type 0} (none : A) (f : ℕ → A) where
    -- what the set says of an item
    abbrev entry : ℕ → A
    entry i = cond (member s i) (f (entry_at start w s i)) none

    abbrev pub Walked : ℕ → List A → Type 0
    Walked left r = Done 24 s (λ i. Filled none 24 entry i r) left

    pub walked_start : s < 2 ^ 24 → Walked s (replicate 24 none)
    walked_start h = done_start (omega arith) (filled_start none 24 entry)

    no_entry : {r : List A} (i : ℕ) → member s i ≡ false → Filled none 24 entry i r → Filled none 24 entry (i + 1) r
    no_entry {r} i e v = filled_skip none 24 entry i r (sym (cond_no (f (entry_at start w s i)) none e)) v

    module _ {left : ℕ} {r : List A} (v : Walked left r) where
      pub walked_turn : {at : ℕ} → Placed left at → (left ≡ 0 → ⊥) → (a : A) → a ≡ f at → Walked (bit_and left (left - 1)) (set r (count_trailing_zeros 32 left) a)
      walked_turn p ne a e =
          done_more v ne (placed_item p ne)
          (filled_put none 24 entry (count_trailing_zeros 32 left) r a (placed_item p ne) (e ∙ ap f (placed_at p ne) ∙ sym (cond_yes _ none (done_in v ne))) (done_before no_entry v ne))

      pub walked_end : left ≡ 0 → r ≡ by_item none f start w s
      unfolding by_item
      walked_end z = filled_end none 24 entry 24 r (omega arith) (done_over no_entry v z)
