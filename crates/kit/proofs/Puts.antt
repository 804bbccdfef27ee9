-- Pieces put into a buffer: `put d at e`, `placed d at e`, one behind the other.
use mathlib.Core.Path.{◌≡◌, sym, ap, ap₂, ◌∙◌}
use mathlib.Core.List.{List, [], ◌∷◌, ◌++◌, append-nil, append_assoc}
use Prim.Native.Nat.{ℕ, suc, ◌+◌, ◌-◌, ◌≤◌, ◌<◌}
use native.Mathlib.Nat.{add-zero, zero-add, add_assoc}
use native.Mathlib.Numerals.{add-one}
use native.Mathlib.Omega.{arith}
use borrow.Author.Tests.{le-leb, lt-leb}
use borrow.Rule.Slice.PartMut.{put_mid}
use lib.ListN.{length, take, drop, set, length-append, length-drop, length-set, take-append-drop}
use lib.Seq.{length-take-le, take_at, take-set-le, drop-append-add, drop-drop, drop-cons, drop-set-lt, get_or-set_same, set_split, append_snoc}
use Rattle.kit.specs.Lists.{put, placed}

module _ {A : Type 0} where
  pub length_put : (d : List A) (at : ℕ) (e : List A) → at + length e ≤ length d → length (put d at e) ≡ length d
  unfolding put
  length_put d at e h = let l : at ≤ length d = omega arith in simp (length-append, length-take-le at d l, length-drop) (omega arith)

  pub put_none : (d : List A) (at : ℕ) → put d at [] ≡ d
  unfolding put
  put_none d at = ap₂ (λ (r : List A) (k : ℕ). r ++ drop k d) (append-nil (take at d)) (add-zero at) ∙ take-append-drop at d

  -- at the front
  pub put_front : (d e : List A) → put d 0 e ≡ e ++ drop (length e) d
  unfolding put
  put_front d e = ap (λ (k : ℕ). e ++ drop k d) (zero-add (length e))

  -- one element
  pub put_one : (d : List A) (at : ℕ) (x : A) → at < length d → put d at (x ∷ []) ≡ set d at x
  unfolding put
  put_one d at x h = rw (add-one at, append_snoc (take at d) x (drop (suc at) d), set_split d at x h)

  -- the last element first, then those before it
  pub put_last : (d : List A) (at : ℕ) (e : List A) (x : A) → at + length e < length d → put (set d (at + length e) x) at e ≡ put d at (e ++ (x ∷ []))
  unfolding put
  put_last d at e x h =
      let p : ℕ = at + length e in
      let s : List A = set d p x in
      let hs : p < length s = omega (arith, length-set d p x) in
      let front : take at s ≡ take at d = take-set-le at d p x (omega arith) in
      let back : drop p s ≡ (x ∷ drop (suc p) d) =
      drop-cons s p x hs ∙ ap₂ (λ (a : A) (l : List A). a ∷ l) (get_or-set_same d p x x h) (drop-set-lt (suc p) d p x (omega arith)) in
      let long : suc p ≡ at + length (e ++ (x ∷ [])) = omega (arith, length-append e (x ∷ [])) in
      ap₂ (λ (a b : List A). a ++ e ++ b) front (back ∙ ap (λ (k : ℕ). x ∷ drop k d) long)
      ∙ sym (append_snoc (take at d ++ e) x (drop (at + length (e ++ (x ∷ []))) d))
      ∙ ap (λ (a : List A). a ++ drop (at + length (e ++ (x ∷ []))) d) (append_assoc (take at d) e (x ∷ []))

  -- the second begins where the first ends
  pub put_put : (d : List A) (at at' : ℕ) (e f : List A) → at' ≡ at + length e → at' ≤ length d → put (put d at e) at' f ≡ put d at (e ++ f)
  unfolding put
  put_put d at at' e f q h =
      let p : List A = take at d ++ e in
      let rest : List A = drop (at + length e) d in
      let l : at ≤ length d = omega arith in
      let lp : length p ≡ at' = length-append (take at d) e ∙ ap (λ (k : ℕ). k + length e) (length-take-le at d l) ∙ sym q in
      let back : drop (at' + length f) (p ++ rest) ≡ drop (at + (length e + length f)) d =
      ap (λ (k : ℕ). drop (k + length f) (p ++ rest)) (sym lp) ∙ drop-append-add p rest (length f) ∙ drop-drop (length f) (at + length e) d
      ∙ ap (λ (k : ℕ). drop k d) (add_assoc at (length e) (length f)) in
      ap₂ (λ (x y : List A). x ++ f ++ y) (take_at p rest at' lp) back
      ∙ ap₂ (λ (x : List A) (k : ℕ). x ++ drop (at + k) d) (append_assoc (take at d) e f) (sym (length-append e f))

  -- what stands up to the end of the piece
  pub take_put : (d : List A) (at : ℕ) (e : List A) → at + length e ≤ length d → take (at + length e) (put d at e) ≡ take at d ++ e
  unfolding put
  take_put d at e h =
      let l : at ≤ length d = omega arith in
      take_at (take at d ++ e) (drop (at + length e) d) (at + length e) (length-append (take at d) e ∙ ap (λ (k : ℕ). k + length e) (length-take-le at d l))

  -- what ends inside the buffer is put, and what does not leaves it as it was
  pub placed_in : (d : List A) (at : ℕ) (e : List A) → at + length e ≤ length d → placed d at e ≡ put d at e
  unfolding placed
  placed_in d at e h = rw (le-leb (at + length e) (length d) h)

  pub placed_out : (d : List A) (at : ℕ) (e : List A) → length d < at + length e → placed d at e ≡ d
  unfolding placed
  placed_out d at e h = rw (lt-leb (at + length e) (length d) h)

  -- a part that was lent, as it comes back with a piece of its length
  pub put_part : (d e f : List A) (at n : ℕ) → n ≡ length e → f ≡ e → put_mid at (at + n - at) d f ≡ put d at e
  unfolding put
  put_part d e f at n h w =
      let k : at + n - at ≡ length e = omega arith in
      ap₂ (λ (x : List A) (m : ℕ). take at d ++ (x ++ drop m (drop at d))) w k ∙ ap (λ (x : List A). take at d ++ (e ++ x)) (drop-drop (length e) at d) ∙ sym (append_assoc (take at d) e (drop (at + length e) d))

  -- ---- pieces placed one behind the other

  -- one piece more
  pub placed_more : (d d₁ d₂ : List A) (at p : ℕ) (x y : List A) → d₁ ≡ put d at x → p ≡ at + length x → p + length y ≤ length d → d₂ ≡ placed d₁ p y → d₂ ≡ put d at (x ++ y)
  placed_more d d₁ d₂ at p x y e q h f =
      let l : length d₁ ≡ length d = ap length e ∙ length_put d at x (omega arith) in
      f ∙ placed_in d₁ p y (omega arith) ∙ ap (λ (b : List A). put b p y) e ∙ put_put d at p x y q (omega arith)

  -- three pieces
  pub placed_three : (d d₁ d₂ d₃ : List A) (at p q : ℕ) (x y z : List A) → p ≡ at + length x → q ≡ p + length y → q + length z ≤ length d
      → d₁ ≡ placed d at x → d₂ ≡ placed d₁ p y → d₃ ≡ placed d₂ q z → d₃ ≡ put d at (x ++ (y ++ z))
  placed_three d d₁ d₂ d₃ at p q x y z hp hq room e₁ e₂ e₃ =
      let one : d₁ ≡ put d at x = e₁ ∙ placed_in d at x (omega arith) in
      let two : d₂ ≡ put d at (x ++ y) = placed_more d d₁ d₂ at p x y one hp (omega arith) e₂ in
      placed_more d d₂ d₃ at q (x ++ y) z two (omega (arith, length-append x y)) room e₃ ∙ ap (put d at) (append_assoc x y z)
