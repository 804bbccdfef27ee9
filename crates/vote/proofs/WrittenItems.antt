-- Accepting a request writes its copy, item by item: what a turn does with one.
use Prim.Native.Nat.{ℕ, ◌+◌, ◌≤◌, ◌<◌}
use mathlib.Core.Bool.{Bool, true, false, cond}
use mathlib.Core.List.{List}
use mathlib.Core.Path.{◌≡◌, refl, sym, ap, ◌∙◌}
use native.Mathlib.Nat.{le_refl}
use lib.IntN.{ℤ, pos}
use lib.ListN.{get_or, set}
use Rattle.kit.specs.Lists.{changed}
use Rattle.kit.proofs.Changes.{changed_none, changed_rest, changed_if}
use Rattle.sets.specs.Sets.{member}
use Rattle.vote.specs.Verdicts.{writes_item, new_stamp, new_value, stamps_written, values_written}
use Rattle.vote.specs.declared.data.Request.{Request}
use Rattle.vote.proofs.Writes.{writes_of, writes_outside, writes_late}

module _ (held : List ℕ) (old : List ℤ) (q : Request) where
  -- of a copy with the stamps `held` and the values `old`, the first i items are written
  pub record Written (stamps : List ℕ) (values : List ℤ) (i : ℕ) : Type 0 where
    pub stamps_are : stamps ≡ changed i (new_stamp held q) held
    pub values_are : values ≡ changed i (new_value held q) old

  pub written_none : Written held old 0
  written_none = record { stamps_are = sym (changed_none (new_stamp held q) held); values_are = sym (changed_none (new_value held q) old) }

  -- an item that is not passed yet has the stamp that it had
  writes_same : (i : ℕ) → writes_item (changed i (new_stamp held q) held) q i ≡ writes_item held q i
  unfolding writes_item
  writes_same i = rw (changed_rest i (new_stamp held q) held 0 i (le_refl i))

module _ {held : List ℕ} {old : List ℤ} {q : Request} {w : List ℕ} {x : List ℤ} where
  pub written_all : Written held old q w x 24 → (w ≡ stamps_written held q) × (x ≡ values_written held q old)
  unfolding stamps_written values_written
  written_all k = (k.stamps_are, k.values_are)

  module _ (i : ℕ) {t : List ℕ} {v : List ℤ} (k : Written held old q w x i) where
    -- t and v are what is made of w and x
    turn
        : (b : Bool) → writes_item w q i ≡ b → t ≡ cond b (set w i q.stamp) w → v ≡ cond b (set x i (get_or q.values i (pos 0))) x
        → Written held old q t v (i + 1)
    turn b e f g =
        let same : writes_item held q i ≡ b = sym (writes_same held old q i) ∙ ap (λ (l : List ℕ). writes_item l q i) (sym k.stamps_are) ∙ e in record {
          stamps_are = f ∙ rw k.stamps_are (changed_if i (new_stamp held q) held 0 b q.stamp (rw same));
          values_are = g ∙ rw k.values_are (changed_if i (new_value held q) old (pos 0) b (get_or q.values i (pos 0)) (rw same));
        }

    -- an update item with a smaller stamp is written
    pub written_more
        : {a : ℤ} → member q.update i ≡ true → get_or w i 0 < q.stamp → t ≡ set w i q.stamp → v ≡ set x i a → a ≡ get_or q.values i (pos 0)
        → Written held old q t v (i + 1)
    written_more m l f g e = turn true (writes_of w q i m l) f (rw (← e) g)

    -- one with another stamp stays
    pub written_late : q.stamp ≤ get_or w i 0 → t ≡ w → v ≡ x → Written held old q t v (i + 1)
    written_late l f g = turn false (writes_late w q i l) f g

  -- and so does one that is no update item
  pub written_other : (i : ℕ) → member q.update i ≡ false → Written held old q w x i → Written held old q w x (i + 1)
  written_other i m k = turn i k false (writes_outside w q i m) refl refl
