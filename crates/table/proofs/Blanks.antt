-- What the code of blank rows asks: each element by itself.
use mathlib.Core.Path.{◌≡◌, refl, sym, ap, ◌∙◌}
use mathlib.Core.Bool.{Bool, false, not}
use mathlib.Core.List.{List}
use Prim.Native.Nat.{ℕ, ◌+◌, ◌<◌}
use lib.IntN.{ℤ, pos}
use lib.ListN.{length, get_or}
use native.Mathlib.Omega.{arith}
use Rattle.std.specs.Ordering.{int_eq}
use Rattle.std.proofs.lemmas.List.{get_or_default}
use Rattle.std.proofs.lemmas.Bool.Decides.{Decides-int_eq}
use Rattle.kit.specs.Range.{all}
use Rattle.kit.proofs.Bools.{same_test}
use Rattle.kit.proofs.Loops.{Held, held_more}
use Rattle.kit.proofs.Ranges.{all_same}
use Rattle.readings.specs.Readings.{is_zero}
use Rattle.readings.proofs.Orders.{zero_is, zero_of}
use Rattle.table.specs.Blank.{zero_values}

module _
    {X : Type 0} (eq : X → X → Bool) (l : List X) (x y : X) {n i : ℕ} {r : Bool} (e : length l ≡ n) (held : Held n (λ k. eq (get_or l k x) x) i) (h : i < n)
    (f : r ≡ not (eq (get_or l i y) x)) where
  asked : r ≡ not (eq (get_or l i x) x)
  asked = f ∙ ap (λ (z : X). not (eq z x)) (get_or_default l i y x (omega arith))

  pub one_more : r ≡ false → Held n (λ k. eq (get_or l k x) x) (i + 1)
  one_more z = held_more held h refl (sym asked ∙ z)

pub zero_test : (v : ℤ) → int_eq v (pos 0) ≡ is_zero v
zero_test v = same_test (int_eq v (pos 0)) (is_zero v) (λ t. rw ((Decides-int_eq v (pos 0)).0 t) zero_of) (λ t. (Decides-int_eq v (pos 0)).1 (zero_is v t))

pub each_zero : {r : Bool} (l : List ℤ) → r ≡ all 24 (λ i. int_eq (get_or l i (pos 0)) (pos 0)) → r ≡ zero_values l
unfolding zero_values
each_zero l e = e ∙ all_same (λ i. int_eq (get_or l i (pos 0)) (pos 0)) (λ i. is_zero (get_or l i (pos 0))) 24 (λ i h. zero_test (get_or l i (pos 0)))
