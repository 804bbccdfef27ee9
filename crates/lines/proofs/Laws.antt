-- What the layers above cite: how long a line can be, and that no two answers have the same line.
use mathlib.Core.Path.{◌≡◌, refl, sym, ap, ◌∙◌}
use mathlib.Core.List.{List, [], ◌∷◌, ◌++◌, append_assoc}
use Prim.Native.Nat.{ℕ, suc, ◌+◌, ◌-◌, ◌*◌, ◌/◌, ◌%◌, ◌^◌, ◌≤◌, ◌<◌}
use native.Mathlib.Omega.{arith}
use lib.IntN.{ℤ, pos, negsuc, nat_abs}
use lib.Dec.{lit<}
use lib.ListN.{length}
use lib.Seq.{append_snoc}
use Rattle.kit.proofs.Bools.{by_le}
use Rattle.lines.specs.Lines.{digit, decimal_of, signed_of, field, line_of, fitted}
use Rattle.lines.proofs.Decimals.{decimal_small, decimal_more, by_digits, length_le}
use Rattle.lines.proofs.Tails.{line_with_lem, with_short}
use Rattle.lines.proofs.Writes.{fitted_in, fitted_out, length_line}

-- ---- how long

module _ (nth number : ℕ) (first : ℤ) (second accepted rejected : ℕ) where
  -- a line is never empty
  pub line_some : 1 ≤ length (line_of nth number first second accepted rejected)
  line_some = omega (arith, length_line nth number first second accepted rejected)

  -- and has at most 20 bytes in front of its tail
  pub line_short : nth < 2 ^ 64 → number < 2 ^ 8 → nat_abs first ≤ 2 ^ 63 → second < 2 ^ 64 → accepted < 2 ^ 32 → rejected < 2 ^ 32 → length (line_of nth number first second accepted rejected) ≤ 89
  line_short h₁ h₂ h₃ h₄ h₅ h₆ =
      rw (line_with_lem number first second accepted rejected nth)
      (with_short number first second accepted rejected (decimal_of nth) (length_le 19 nth (omega arith)) h₂ h₃ h₄ h₅ h₆)

  -- so the length 0 tells that it did not fit, and any other that it did
  module _ (d : List ℕ) (at : ℕ) where
    pub line_out : 0 ≡ fitted d at (line_of nth number first second accepted rejected) → length d < at + length (line_of nth number first second accepted rejected)
    line_out e =
        by_le (at + length (line_of nth number first second accepted rejected)) (length d)
        (λ h. omega (arith, line_some, fitted_in d at (line_of nth number first second accepted rejected) h)) (λ h. h)

    pub line_in : (0 ≡ fitted d at (line_of nth number first second accepted rejected) → ⊥) → at + length (line_of nth number first second accepted rejected) ≤ length d
    line_in f =
        by_le (at + length (line_of nth number first second accepted rejected)) (length d)
        (λ h. h) (λ h. absurd (f (sym (fitted_out d at (line_of nth number first second accepted rejected) h))))

-- ---- the number that digits stand for

-- v, and behind it the digits of s
unfoldable pub value_from : ℕ → List ℕ → ℕ
value_from v [] = v
value_from v (b ∷ s) = value_from (v * 10 + (b - 48)) s

value_last : (v : ℕ) (s : List ℕ) (b : ℕ) → value_from v (s ++ (b ∷ [])) ≡ value_from v s * 10 + (b - 48)
unfolding value_from
value_last v [] b = refl
value_last v (a ∷ s) b = value_last (v * 10 + (a - 48)) s b

-- the digits of n stand for n
pub decimal_value : (n : ℕ) → value_from 0 (decimal_of n) ≡ n
unfolding value_from
decimal_value =
    by_digits (λ (n : ℕ). value_from 0 (decimal_of n) ≡ n)
    (λ n h. rw (decimal_small n h) (omega arith))
    (λ n h ih. rw (decimal_more n h, value_last 0 (decimal_of (n / 10)) (digit (n % 10)), ih) (omega arith))

-- two different numbers never have the same digits
pub decimal_same : (m n : ℕ) → decimal_of m ≡ decimal_of n → m ≡ n
decimal_same m n e = sym (decimal_value m) ∙ ap (value_from 0) e ∙ decimal_value n

-- ---- which bytes

-- every byte of s passes P
abbrev pub Each : (ℕ → Type 0) → List ℕ → Type 0
Each P [] = Unit
Each P (b ∷ s) = P b × Each P s

each_last : (P : ℕ → Type 0) (s : List ℕ) (b : ℕ) → Each P s → P b → Each P (s ++ (b ∷ []))
each_last P [] b h p = (p, tt)
each_last P (a ∷ s) b h p = (h.0, each_last P s b h.1 p)

each_more : (P Q : ℕ → Type 0) → ((b : ℕ) → P b → Q b) → (s : List ℕ) → Each P s → Each Q s
each_more P Q f [] h = tt
each_more P Q f (b ∷ s) h = (f b h.0, each_more P Q f s h.1)

-- every byte of a number is a digit, 48 to 57
abbrev pub IsDigit : ℕ → Type 0
IsDigit b = (48 ≤ b) × (b ≤ 57)

pub decimal_bytes : (n : ℕ) → Each IsDigit (decimal_of n)
decimal_bytes =
    by_digits (λ (n : ℕ). Each IsDigit (decimal_of n))
    (λ n h. rw (decimal_small n h) ((omega arith, omega arith), tt))
    (λ n h ih. rw (decimal_more n h) (each_last IsDigit (decimal_of (n / 10)) (digit (n % 10)) ih (omega arith, omega arith)))

-- so none of them is a byte that ends a field, nor is the sign
abbrev pub NoEnd : ℕ → Type 0
NoEnd b = 33 ≤ b

plain : (n : ℕ) → Each NoEnd (decimal_of n)
plain n = each_more IsDigit NoEnd (λ b h. omega arith) (decimal_of n) (decimal_bytes n)

pub signed_bytes : (z : ℤ) → Each NoEnd (signed_of z)
unfolding signed_of
signed_bytes (pos n) = plain n
signed_bytes (negsuc n) = (omega arith, plain (suc n))

-- a number has no sign
no_sign : (n : ℕ) (s : List ℕ) → decimal_of n ≡ (45 ∷ s) → ⊥
no_sign n s e = let h : Each IsDigit (45 ∷ s) = rw e at (decimal_bytes n) in omega arith

-- two different signed numbers never have the same text
pub signed_same : (y z : ℤ) → signed_of y ≡ signed_of z → y ≡ z
unfolding signed_of
signed_same (pos m) (pos n) e = ap pos (decimal_same m n e)
signed_same (pos m) (negsuc n) e = absurd (no_sign m (decimal_of (suc n)) e)
signed_same (negsuc m) (pos n) e = absurd (no_sign n (decimal_of (suc m)) (sym e))
signed_same (negsuc m) (negsuc n) e =
    let d : decimal_of (suc m) ≡ decimal_of (suc n) = cc in
    let q : m ≡ n = omega (arith, decimal_same (suc m) (suc n) d) in
    ap negsuc q

-- ---- no two answers have the same line

-- a field ends where its first end byte stands
cut : (b : ℕ) → b < 33 → (x y s t : List ℕ) → Each NoEnd x → Each NoEnd y → x ++ (b ∷ s) ≡ y ++ (b ∷ t) → (x ≡ y) × (s ≡ t)
cut b h [] [] s t f g e = (refl, cc)
cut b h [] (a ∷ y) s t f g e = let q : b ≡ a = cc in absurd (let z : ⊥ = omega arith in z)
cut b h (a ∷ x) [] s t f g e = let q : a ≡ b = cc in absurd (let z : ⊥ = omega arith in z)
cut b h (a ∷ x) (c ∷ y) s t f g e =
    let q : a ≡ c = cc in
    let ih = cut b h x y s t f.1 g.1 (cc) in
    let r : x ≡ y = ih.0 in
    (cc, ih.1)

field_cut : (b : ℕ) → b < 33 → (x y s t : List ℕ) → Each NoEnd x → Each NoEnd y → field x b ++ s ≡ field y b ++ t → (x ≡ y) × (s ≡ t)
unfolding field
field_cut b h x y s t f g e = cut b h x y s t f g (rw (append_snoc x b s, append_snoc y b t) at e)

number_cut : (b : ℕ) → b < 33 → (m n : ℕ) (s t : List ℕ) → field (decimal_of m) b ++ s ≡ field (decimal_of n) b ++ t → (m ≡ n) × (s ≡ t)
number_cut b h m n s t e = let p = field_cut b h (decimal_of m) (decimal_of n) s t (plain m) (plain n) e in (decimal_same m n p.0, p.1)

signed_cut : (b : ℕ) → b < 33 → (y z : ℤ) (s t : List ℕ) → field (signed_of y) b ++ s ≡ field (signed_of z) b ++ t → (y ≡ z) × (s ≡ t)
signed_cut b h y z s t e = let p = field_cut b h (signed_of y) (signed_of z) s t (signed_bytes y) (signed_bytes z) e in (signed_same y z p.0, p.1)

-- a line, and what follows it
opened : (nth number : ℕ) (first : ℤ) (second accepted rejected : ℕ) (s : List ℕ) → line_of nth number first second accepted rejected ++ s
    ≡ field (decimal_of nth) 32 ++ (field (decimal_of number) 32 ++ (field (signed_of first) 32 ++ (field (decimal_of second) 32 ++ (field (decimal_of accepted) 32 ++ (field (decimal_of rejected) 10 ++ s)))))
unfolding line_of
opened nth number first second accepted rejected s = simp append_assoc

module _ (r n : ℕ) (f : ℤ) (s a j r' n' : ℕ) (f' : ℤ) (s' a' j' : ℕ) where
  -- whatever follows: the first line of a text tells its six fields, and where it ends
  pub line_first : (t t' : List ℕ) → line_of r n f s a j ++ t ≡ line_of r' n' f' s' a' j' ++ t' → (r ≡ r') × (n ≡ n') × (f ≡ f') × (s ≡ s') × (a ≡ a') × (j ≡ j') × (t ≡ t')
  line_first t t' e =
      let p₁ = number_cut 32 (lit< tt) r r' _ _ (sym (opened r n f s a j t) ∙ e ∙ opened r' n' f' s' a' j' t') in
      let p₂ = number_cut 32 (lit< tt) n n' _ _ p₁.1 in
      let p₃ = signed_cut 32 (lit< tt) f f' _ _ p₂.1 in
      let p₄ = number_cut 32 (lit< tt) s s' _ _ p₃.1 in
      let p₅ = number_cut 32 (lit< tt) a a' _ _ p₄.1 in
      let p₆ = number_cut 10 (lit< tt) j j' _ _ p₅.1 in
      (p₁.0, p₂.0, p₃.0, p₄.0, p₅.0, p₆.0, p₆.1)

  -- two different answers never print the same line
  pub line_same : line_of r n f s a j ≡ line_of r' n' f' s' a' j' → (r ≡ r') × (n ≡ n') × (f ≡ f') × (s ≡ s') × (a ≡ a') × (j ≡ j')
  line_same e =
      let p = line_first [] [] (ap (λ (l : List ℕ). l ++ []) e) in
      (p.0, p.1, p.2, p.3, p.4, p.5)
