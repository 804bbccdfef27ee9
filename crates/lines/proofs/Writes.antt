-- What the writers' code writes: digits from the last to the first, and fields one behind the other.
use mathlib.Core.Path.{◌≡◌, refl, sym, ap, ap₂, ◌∙◌}
use mathlib.Core.Bool.{true, false}
use mathlib.Core.List.{List, [], ◌∷◌, ◌++◌}
use Prim.Native.Nat.{ℕ, suc, ◌+◌, ◌-◌, ◌/◌, ◌%◌, ◌≤◌, ◌<◌}
use native.Mathlib.Omega.{arith}
use borrow.Author.Tests.{le-leb, lt-leb}
use lib.IntN.{ℤ, pos, nat_abs}
use lib.Signed.{le_z}
use lib.ListN.{length, set, length-append, length-set}
use mir.Syntax.{w64}
use mir.Val.{SFits, to_z, of_z}
use Rattle.kit.specs.Lists.{put}
use Rattle.kit.proofs.Bools.{by_lt}
use Rattle.kit.proofs.Puts.{length_put, put_put, put_one, put_last}
use Rattle.lines.specs.Lines.{decimal_of, signed_of, field, line_of, fitted, Wrote}
use Rattle.lines.proofs.Decimals.{decimal_small, decimal_more, length_small, length_more, length_some}
use Rattle.lines.proofs.Signs.{signed_plus, signed_minus}

-- ---- the digits of a number: what is left to write are those of `rest`, which end at i

pub record Left (d₀ : List ℕ) (at n : ℕ) (d : List ℕ) (i rest : ℕ) : Type 0 where
  pub place : i ≡ at + length (decimal_of rest)
  pub inside : i ≤ length d₀
  pub long : length d ≡ length d₀
  pub bytes : put d at (decimal_of rest) ≡ put d₀ at (decimal_of n)

-- before each digit, from the last to the first: those of `rest` are left to write; at the place of the first one, none are
pub record Behind (d₀ : List ℕ) (at n : ℕ) (d : List ℕ) (i rest : ℕ) : Type 0 where
  pub left : at < i → Left d₀ at n d i rest
  pub over : i ≤ at → d ≡ put d₀ at (decimal_of n)

pub left_start : (d : List ℕ) (at n k : ℕ) → k ≡ length (decimal_of n) → at + length (decimal_of n) ≤ length d → Behind d at n d (at + k) n
left_start d at n k e h =
    record { left = λ l. record { place = omega arith; inside = omega arith; long = refl; bytes = refl }; over = λ l. let s = length_some n in absurd (omega arith) }

pub left_turn : (d₀ d : List ℕ) (at n i rest : ℕ) → at < i → Behind d₀ at n d i rest → Behind d₀ at n (set d (i - 1) (48 + rest % 10)) (i - 1) (rest / 10)
left_turn d₀ d at n i rest g b =
    let l = b.left g in
    by_lt rest 10
    (λ h.
    let p : i - 1 ≡ at = omega (arith, l.place, length_small rest h) in
    let r : rest % 10 ≡ rest = omega arith in
    record {
      left = λ k. absurd (omega arith);
      over = λ k.
          ap₂ (λ (j x : ℕ). set d j (48 + x)) p r
          ∙ sym (put_one d at (48 + rest) (omega (arith, l.place, l.inside, l.long, length_small rest h)))
          ∙ ap (put d at) (sym (decimal_small rest h))
          ∙ l.bytes;
    })
    (λ h.
    let q = length_more rest h in
    let s = length_some (rest / 10) in
    let p : i - 1 ≡ at + length (decimal_of (rest / 10)) = omega (arith, l.place) in
    record {
      left = λ k. record {
        place = p;
        inside = omega (arith, l.inside);
        long = length-set d (i - 1) (48 + rest % 10) ∙ l.long;
        bytes =
            ap (λ (k : ℕ). put (set d k (48 + rest % 10)) at (decimal_of (rest / 10))) p
            ∙ put_last d at (decimal_of (rest / 10)) (48 + rest % 10) (omega (arith, l.place, l.inside, l.long))
            ∙ ap (put d at) (sym (decimal_more rest h))
            ∙ l.bytes;
      };
      over = λ k. absurd (omega arith);
    })

pub left_end : (d₀ d : List ℕ) (at n k i rest : ℕ) → k ≡ length (decimal_of n) → i ≤ at → Behind d₀ at n d i rest → Wrote d₀ at (decimal_of n) (at + k) d
left_end d₀ d at n k i rest e h b = record { place = ap (λ (m : ℕ). at + m) e; bytes = b.over h }

pub digit_room : (d : List ℕ) (at n : ℕ) → n < 10 → at + length (decimal_of n) ≤ length d → at < length d
digit_room d at n h l = omega (arith, length_small n h)

pub one_digit : (d : List ℕ) (at n : ℕ) → n < 10 → at < length d → Wrote d at (decimal_of n) (at + 1) (set d at (48 + n))
one_digit d at n h l = rw (decimal_small n h) (record { place = refl; bytes = sym (put_one d at (48 + n) l) })

-- ---- pieces, one behind the other

module _ (d : List ℕ) (at : ℕ) (e : List ℕ) (room : at + length e ≤ length d) where
  pub wrote_long : (p : ℕ) (d₁ : List ℕ) → Wrote d at e p d₁ → length d₁ ≡ length d
  wrote_long p d₁ w = ap length w.bytes ∙ length_put d at e room

module _ (d : List ℕ) (at : ℕ) (e f : List ℕ) (room : at + length (e ++ f) ≤ length d) where
  -- there is room for both: for the first, and then for the second behind it
  pub room_first : at + length e ≤ length d
  room_first = omega (arith, length-append e f)

  pub room_next : (p : ℕ) (d₁ : List ℕ) → Wrote d at e p d₁ → p + length f ≤ length d₁
  room_next p d₁ w = omega (arith, length-append e f, w.place, wrote_long d at e room_first p d₁ w)

  pub wrote_both : (p q : ℕ) (d₁ d₂ : List ℕ) → Wrote d at e p d₁ → Wrote d₁ p f q d₂ → Wrote d at (e ++ f) q d₂
  wrote_both p q d₁ d₂ v w =
      record {
        place = omega (arith, v.place, w.place, length-append e f);
        bytes = w.bytes ∙ ap (λ (b : List ℕ). put b p f) v.bytes ∙ put_put d at p e f v.place (omega (arith, v.place, length-append e f));
      }

-- ---- a field: its text, and the byte that ends it

pub length_field : (text : List ℕ) (end : ℕ) → length (field text end) ≡ length text + 1
unfolding field
length_field text end = length-append text (end ∷ [])

module _ (d : List ℕ) (at : ℕ) (text : List ℕ) (room : at + length text < length d) (p : ℕ) (d₁ : List ℕ) (w : Wrote d at text p d₁) where
  pub end_room : p < length d₁
  end_room = omega (arith, w.place, wrote_long d at text (omega arith) p d₁ w)

  pub field_wrote : (end : ℕ) → Wrote d at (field text end) (p + 1) (set d₁ p end)
  unfolding field
  field_wrote end =
      wrote_both d at text (end ∷ []) (omega (arith, length-append text (end ∷ []))) p (p + 1) d₁ (set d₁ p end) w
      (record { place = refl; bytes = sym (put_one d₁ p end end_room) })

-- the same of a signed number
module _ (d : List ℕ) (at : ℕ) (z : ℤ) (f : SFits w64 z) (m : ℕ) (e : m ≡ nat_abs (to_z w64 (of_z w64 z))) (room : at + length (signed_of z) < length d) where
  module _ (t : le_z (pos 0) (to_z w64 (of_z w64 z)) ≡ true) where
    pub plus_room : at + length (decimal_of m) < length d
    plus_room = rw (← signed_plus z f m e t) room

    pub plus_wrote : (end q : ℕ) (d₁ : List ℕ) → Wrote d at (field (decimal_of m) end) q d₁ → Wrote d at (field (signed_of z) end) q d₁
    plus_wrote end q d₁ w = rw (signed_plus z f m e t) w

  module _ (t : le_z (pos 0) (to_z w64 (of_z w64 z)) ≡ false) where
    long : length (signed_of z) ≡ suc (length (decimal_of m))
    long = ap length (signed_minus z f m e t)

    pub sign_room : at < length d
    sign_room = omega (arith, long)

    pub minus_room : (x : ℕ) → at + 1 + length (decimal_of m) < length (set d at x)
    minus_room x = omega (arith, long, length-set d at x)

    pub minus_wrote : (end q : ℕ) (d₁ : List ℕ) → Wrote (set d at 45) (at + 1) (field (decimal_of m) end) q d₁ → Wrote d at (field (signed_of z) end) q d₁
    unfolding field
    minus_wrote end q d₁ w =
        rw (signed_minus z f m e t)
        (wrote_both d at (45 ∷ []) (field (decimal_of m) end) (omega (arith, long, length_field (decimal_of m) end)) (at + 1) q (set d at 45) d₁
        (record { place = refl; bytes = sym (put_one d at 45 sign_room) }) w)

-- ---- three fields: there is room for each, whatever bytes end them, and all are written

module _ (d : List ℕ) (at : ℕ) (x y z : List ℕ) (b₁ b₂ b₃ : ℕ) (room : at + length (field x b₁ ++ field y b₂ ++ field z b₃) ≤ length d) where
  three_long : length (field x b₁ ++ field y b₂ ++ field z b₃) ≡ length x + 1 + (length y + 1) + (length z + 1)
  three_long = simp (length-append, length_field)

  pub room_one : at + length x < length d
  room_one = omega (arith, three_long)

  module _ (e₁ p : ℕ) (d₁ : List ℕ) (u : Wrote d at (field x e₁) p d₁) where
    -- behind the first
    behind : (p ≡ at + (length x + 1)) × (length d₁ ≡ length d)
    behind =
        let l = length_field x e₁ in
        (u.place ∙ ap (λ (k : ℕ). at + k) l, wrote_long d at (field x e₁) (omega (arith, three_long)) p d₁ u)

    pub room_two : p + length y < length d₁
    room_two = omega (arith, three_long, behind)

    pub room_three : (e₂ q : ℕ) (d₂ : List ℕ) → Wrote d₁ p (field y e₂) q d₂ → q + length z < length d₂
    room_three e₂ q d₂ v =
        let h = behind in
        let l = length_field y e₂ in
        omega (arith, three_long, v.place, wrote_long d₁ p (field y e₂) (omega (arith, three_long)) q d₂ v)

  pub wrote_three : (p : ℕ) (d₁ : List ℕ) → Wrote d at (field x b₁) p d₁ → (q : ℕ) (d₂ : List ℕ) → Wrote d₁ p (field y b₂) q d₂ → (r : ℕ) (d₃ : List ℕ) → Wrote d₂ q (field z b₃) r d₃
      → Wrote d at (field x b₁ ++ field y b₂ ++ field z b₃) r d₃
  wrote_three p d₁ u q d₂ v r d₃ w =
      let first_two : at + length (field x b₁ ++ field y b₂) ≤ length d = room_first d at (field x b₁ ++ field y b₂) (field z b₃) room in
      wrote_both d at (field x b₁ ++ field y b₂) (field z b₃) room q r d₂ d₃ (wrote_both d at (field x b₁) (field y b₂) first_two p q d₁ d₂ u v) w

-- ---- what fits

pub fitted_in : (d : List ℕ) (at : ℕ) (e : List ℕ) → at + length e ≤ length d → fitted d at e ≡ length e
unfolding fitted
fitted_in d at e h = rw (le-leb (at + length e) (length d) h)

pub fitted_out : (d : List ℕ) (at : ℕ) (e : List ℕ) → length d < at + length e → fitted d at e ≡ 0
unfolding fitted
fitted_out d at e h = rw (lt-leb (at + length e) (length d) h)

-- ---- the line

pub length_line : (nth number : ℕ) (first : ℤ) (second accepted rejected : ℕ) → length (line_of nth number first second accepted rejected)
    ≡ length (decimal_of nth) + 1 + (length (decimal_of number) + 1) + (length (signed_of first) + 1) + (length (decimal_of second) + 1) + (length (decimal_of accepted) + 1) + (length (decimal_of rejected) + 1)
unfolding line_of
length_line nth number first second accepted rejected = simp (length-append, length_field)
