-- Entries and their bytes, whatever an entry holds and however long it is: what is written is read, and what is read is written.
use mathlib.Core.Path.{◌≡◌, refl, sym, ap, ap₂, ◌∙◌}
use mathlib.Core.List.{List, [], ◌∷◌, ◌++◌, append_assoc}
use Prim.Native.Nat.{ℕ, zero, suc, ◌+◌, ◌*◌, ◌≤◌, ◌<◌}
use native.Mathlib.Nat.{not-suc-le-zero, le_of_suc-le-suc, mul-zero, mul-suc, add-zero, zero-add, add_comm}
use native.Mathlib.Omega.{arith}
use lib.ListN.{length, get_or, take, drop, length-append}
use lib.Seq.{take-add, drop-drop}
use Rattle.kit.specs.Lists.{listed}
use Rattle.kit.proofs.Listings.{listed_same}
use Rattle.sitefile.specs.Frame.{Form, joined, entry_at}

-- every element is a byte
abbrev pub Bytes : List ℕ → Type 0
Bytes b = (i : ℕ) → get_or b i 0 < 256

-- ---- a form in which an entry that fits is written and read

pub record Lawful {E : Type 0} (f : Form E) (Fit : E → Type 0) : Type 0 where
  pub long : (e : E) → length (f.bytes e) ≡ f.width
  pub read_bytes : (e : E) (p rest b : List ℕ) (at : ℕ) → Fit e → length p ≡ at → b ≡ p ++ (f.bytes e ++ rest) → f.read b at ≡ e
  pub bytes_read : (b : List ℕ) (at : ℕ) → Bytes b → at + f.width ≤ length b → f.bytes (f.read b at) ≡ take f.width (drop at b)

module _ {E : Type 0} (f : Form E) where
  pub joined_append : (xs ys : List E) → joined f (xs ++ ys) ≡ joined f xs ++ joined f ys
  unfolding joined
  joined_append [] ys = refl
  joined_append (x ∷ xs) ys = ap (λ (l : List ℕ). f.bytes x ++ l) (joined_append xs ys) ∙ sym (append_assoc (f.bytes x) (joined f xs) (joined f ys))

  -- a place one entry on
  next_place : (at k : ℕ) → at + f.width * suc k ≡ at + f.width + f.width * k
  next_place at k = let e : f.width * suc k ≡ f.width * k + f.width = mul-suc f.width k in omega arith

module _ {E : Type 0} (f : Form E) (Fit : E → Type 0) (law : Lawful f Fit) where
  pub length_joined : (es : List E) → length (joined f es) ≡ f.width * length es
  unfolding joined
  length_joined [] = sym (mul-zero f.width)
  length_joined (e ∷ es) =
      let ih : length (joined f es) ≡ f.width * length es = length_joined es in
      length-append (f.bytes e) (joined f es) ∙ omega (arith, law.long e, mul-suc f.width (length es))

  -- entry k of a list of entries that stands behind p
  read_from : (es : List E) (k : ℕ) (d : E) (p rest b : List ℕ) (at : ℕ) → ((j : ℕ) → j < length es → Fit (get_or es j d)) → k < length es
      → length p ≡ at → b ≡ p ++ (joined f es ++ rest) → f.read b (at + f.width * k) ≡ get_or es k d
  unfolding joined
  read_from [] k d p rest b at fit h l e = absurd (not-suc-le-zero h)
  read_from (x ∷ es) zero d p rest b at fit h l e =
      ap (f.read b) (ap (λ (n : ℕ). at + n) (mul-zero f.width) ∙ add-zero at)
      ∙ law.read_bytes x p (joined f es ++ rest) b at (fit 0 h) l (e ∙ ap (λ (y : List ℕ). p ++ y) (append_assoc (f.bytes x) (joined f es) rest))
  read_from (x ∷ es) (suc k) d p rest b at fit h l e =
      ap (f.read b) (next_place f at k)
      ∙ read_from es k d (p ++ f.bytes x) rest b (at + f.width) (λ j g. fit (suc j) (omega arith)) (le_of_suc-le-suc h)
      (length-append p (f.bytes x) ∙ ap₂ (λ (m n : ℕ). m + n) l (law.long x))
      (e ∙ ap (λ (y : List ℕ). p ++ y) (append_assoc (f.bytes x) (joined f es) rest) ∙ sym (append_assoc p (f.bytes x) (joined f es ++ rest)))

  -- what is written is read
  pub read_joined : (es : List E) (rest : List ℕ) (d : E) → ((j : ℕ) → j < length es → Fit (get_or es j d)) → (k : ℕ) → k < length es
      → entry_at f (joined f es ++ rest) k ≡ get_or es k d
  unfolding entry_at
  read_joined es rest d fit k h =
      ap (f.read (joined f es ++ rest)) (sym (zero-add (f.width * k))) ∙ read_from es k d [] rest (joined f es ++ rest) 0 fit h refl refl

  -- what is read is written
  joined_from : (b : List ℕ) → Bytes b → (n at : ℕ) → at + f.width * n ≤ length b → joined f (listed n (λ k. f.read b (at + f.width * k))) ≡ take (f.width * n) (drop at b)
  unfolding joined listed
  joined_from b h zero at l = ap (λ (n : ℕ). take n (drop at b)) (sym (mul-zero f.width))
  joined_from b h (suc n) at l =
      let w = f.width in
      let first : f.bytes (f.read b (at + w * 0)) ≡ take w (drop at b) =
      ap (λ (m : ℕ). f.bytes (f.read b m)) (ap (λ (m : ℕ). at + m) (mul-zero w) ∙ add-zero at) ∙ law.bytes_read b at h (omega (arith, mul-suc w n)) in
      let rest : joined f (listed n (λ k. f.read b (at + w * suc k))) ≡ take (w * n) (drop (at + w) b) =
      ap (joined f) (listed_same n (λ k. f.read b (at + w * suc k)) (λ k. f.read b (at + w + w * k)) (λ k g. ap (f.read b) (next_place f at k)))
      ∙ joined_from b h n (at + w) (omega (arith, mul-suc w n)) in
      ap₂ (λ (x y : List ℕ). x ++ y) first (rest ∙ ap (take (w * n)) (sym (drop-drop w at b)))
      ∙ sym (ap (λ (m : ℕ). take m (drop at b)) (mul-suc w n ∙ add_comm (w * n) w) ∙ take-add w (w * n) (drop at b))

  pub joined_read : (b : List ℕ) (n : ℕ) → Bytes b → f.width * n ≤ length b → joined f (listed n (entry_at f b)) ≡ take (f.width * n) b
  unfolding entry_at
  joined_read b n h l =
      ap (joined f) (listed_same n (entry_at f b) (λ k. f.read b (0 + f.width * k)) (λ k g. ap (f.read b) (sym (zero-add (f.width * k)))))
      ∙ joined_from b h n 0 (omega arith)
