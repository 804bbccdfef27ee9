-- What stands behind the first field of a line: three zeros written at once, and the fields written over the bytes behind the number.
use mathlib.Core.Path.{◌≡◌, refl, sym, ap, ap₂, ◌∙◌}
use mathlib.Core.List.{List, [], ◌∷◌, ◌++◌, append_assoc}
use Prim.Native.Nat.{ℕ, ◌+◌, ◌-◌, ◌^◌, ◌≤◌, ◌<◌}
use native.Mathlib.Omega.{arith}
use borrow.Rule.Slice.PartMut.{put_mid}
use lib.IntN.{ℤ, nat_abs}
use lib.ListN.{length, take, drop, set, length-append, length-set, take-append-drop}
use lib.Seq.{length-take-le, take_at, drop-append-add, drop-drop}
use mir.Syntax.{w8, w32, w64}
use lib.Signed.{nat_abs-le}
use mir.Val.{Fits, SFits, to_z, of_z}
use mir.Facts.{to_z-of_z}
use Rattle.kit.specs.Lists.{put}
use Rattle.kit.proofs.Puts.{length_put, put_put, put_one, put_part}
use Rattle.lines.specs.Lines.{digits_of, decimal_of, signed_of, field, line_of, back_of, Wrote}
use Rattle.lines.specs.Counts.{line_with, tail_of}
use Rattle.lines.proofs.Decimals.{length_some, length_le}
use Rattle.lines.proofs.Signs.{signed_le}
use Rattle.lines.proofs.Writes.{length_field, wrote_long, wrote_both, room_next}

-- ---- three zeros

-- a piece that was copied into a part
pub part_wrote : (d e f : List ℕ) (at n : ℕ) → n ≡ length e → f ≡ e → Wrote d at e (at + n) (put_mid at (at + n - at) d f)
part_wrote d e f at n h w = record { place = ap (λ (m : ℕ). at + m) h; bytes = put_part d e f at n h w }

-- the last fields of a line, where all are 0
module _ (second accepted rejected : ℕ) (e : second ≡ 0) (f : accepted ≡ 0) (g : rejected ≡ 0) where
  zeros_are : back_of second accepted rejected ≡ (48 ∷ 32 ∷ 48 ∷ 32 ∷ 48 ∷ 10 ∷ [])
  unfolding field decimal_of digits_of
  zeros_are = rw (e, f, g)

  module _ (d : List ℕ) (at : ℕ) where
    pub zeros_room : at + length (back_of second accepted rejected) ≤ length d → at + 6 ≤ length d
    zeros_room room = omega (arith, ap length zeros_are)

    pub zeros_back : (q : ℕ) (d₁ : List ℕ) → Wrote d at (48 ∷ 32 ∷ 48 ∷ 32 ∷ 48 ∷ 10 ∷ []) q d₁ → Wrote d at (back_of second accepted rejected) q d₁
    zeros_back q d₁ w = rw zeros_are w

-- ---- a piece put over the end of another

-- at the same place, and at least as long
put_same : (d : List ℕ) (at : ℕ) (e f : List ℕ) → length e ≤ length f → at + length e ≤ length d → put (put d at e) at f ≡ put d at f
unfolding put
put_same d at e f h l =
    let p : List ℕ = take at d ++ e in
    let rest : List ℕ = drop (at + length e) d in
    let m : ℕ = length f - length e in
    let front : length (take at d) ≡ at = length-take-le at d (omega arith) in
    let lp : length p ≡ at + length e = length-append (take at d) e ∙ ap (λ (k : ℕ). k + length e) front in
    let far : at + length f ≡ length p + m = omega arith in
    let back : drop (at + length f) (p ++ rest) ≡ drop (at + length f) d =
    ap (λ (k : ℕ). drop k (p ++ rest)) far ∙ drop-append-add p rest m ∙ drop-drop m (at + length e) d
    ∙ ap (λ (k : ℕ). drop k d) (let z : at + length e + m ≡ at + length f = omega arith in z) in
    ap₂ (λ (x y : List ℕ). x ++ f ++ y) (ap (take at) (append_assoc (take at d) e rest) ∙ take_at (take at d) (e ++ rest) at front) back

-- k places behind, and ending no earlier: only the first k of the first piece stay
pub put_over : (d : List ℕ) (at k : ℕ) (e f : List ℕ) → k ≤ length e → length e ≤ k + length f → at + length e ≤ length d → put (put d at e) (at + k) f ≡ put d at (take k e ++ f)
put_over d at k e f h l room =
    let front : length (take k e) ≡ k = length-take-le k e h in
    let place : at + k ≡ at + length (take k e) = ap (λ (m : ℕ). at + m) (sym front) in
    let whole : length (take k e) + length (drop k e) ≡ length e = sym (length-append (take k e) (drop k e)) ∙ ap length (take-append-drop k e) in
    let long : length (put d at (take k e)) ≡ length d = length_put d at (take k e) (omega arith) in
    ap (λ (b : List ℕ). put (put d at b) (at + k) f) (sym (take-append-drop k e))
    ∙ ap (λ (b : List ℕ). put b (at + k) f) (sym (put_put d at (at + k) (take k e) (drop k e) place (omega arith)))
    ∙ put_same (put d at (take k e)) (at + k) (drop k e) f (omega arith) (omega arith)
    ∙ put_put d at (at + k) (take k e) f place (omega arith)

-- ---- the tail

module _ (number : ℕ) (first : ℤ) (second accepted rejected : ℕ) where
  pub line_with_lem : (nth : ℕ) → line_of nth number first second accepted rejected ≡ line_with (decimal_of nth) number first second accepted rejected
  unfolding line_of line_with
  line_with_lem nth = refl

  -- a line is its first field and its tail
  pub with_tail : (bytes : List ℕ) → line_with bytes number first second accepted rejected ≡ bytes ++ tail_of number first second accepted rejected
  unfolding line_with field
  with_tail bytes = simp append_assoc

  pub length_tail : length (tail_of number first second accepted rejected)
      ≡ 1 + (length (decimal_of number) + 1) + (length (signed_of first) + 1) + (length (decimal_of second) + 1) + (length (decimal_of accepted) + 1) + (length (decimal_of rejected) + 1)
  length_tail = simp (length-append, length_field) (omega arith)

  pub length_with : (bytes : List ℕ) → length (line_with bytes number first second accepted rejected) ≡ length bytes + length (tail_of number first second accepted rejected)
  length_with bytes = ap length (with_tail bytes) ∙ length-append bytes (tail_of number first second accepted rejected)

  -- it is longer than the digits that are kept
  pub tail_some : 8 ≤ length (tail_of number first second accepted rejected)
  tail_some = omega (arith, length_tail, length_some number, length_some second, length_some accepted, length_some rejected)

  -- and has at most 1 + 3 + 1 + 20 + 1 + 20 + 1 + 10 + 1 + 10 + 1 bytes
  pub tail_short : number < 2 ^ 8 → nat_abs first ≤ 2 ^ 63 → second < 2 ^ 64 → accepted < 2 ^ 32 → rejected < 2 ^ 32 → length (tail_of number first second accepted rejected) ≤ 69
  tail_short h₂ h₃ h₄ h₅ h₆ =
      let l₂ = length_le 2 number (omega arith) in
      let l₃ = signed_le first h₃ in
      let l₄ = length_le 19 second (omega arith) in
      let l₅ = length_le 9 accepted (omega arith) in
      let l₆ = length_le 9 rejected (omega arith) in
      omega (arith, length_tail)

  -- so a line whose first field has at most 20 has at most 89
  pub with_short : (bytes : List ℕ) → length bytes ≤ 20 → number < 2 ^ 8 → nat_abs first ≤ 2 ^ 63 → second < 2 ^ 64 → accepted < 2 ^ 32 → rejected < 2 ^ 32
      → length (line_with bytes number first second accepted rejected) ≤ 89
  with_short bytes h₁ h₂ h₃ h₄ h₅ h₆ = omega (arith, length_with bytes, tail_short h₂ h₃ h₄ h₅ h₆)

  -- so it fits where 69 bytes do
  pub tail_fits : (d : List ℕ) (at : ℕ) → at + 69 ≤ length d → Fits w8 number → SFits w64 first → Fits w64 second → Fits w32 accepted → Fits w32 rejected
      → at + length (tail_of number first second accepted rejected) ≤ length d
  tail_fits d at h f₁ f₂ f₃ f₄ f₅ =
      let short = tail_short (omega arith) (nat_abs-le first f₂.sfits) (omega arith) (omega arith) (omega arith) in
      omega arith

  -- and so do the number and the first result before it is known that the rest does
  module _ (d : List ℕ) (at : ℕ) (h : at + 69 ≤ length d) (f₁ : Fits w8 number) where
    pub number_fits : at + 1 + length (decimal_of number) < length (set d at 32)
    number_fits = let l = length_le 2 number (omega arith) in omega (arith, length-set d at 32)

    pub signed_fits : SFits w64 first → (p : ℕ) (d₁ : List ℕ) → Wrote (set d at 32) (at + 1) (field (decimal_of number) 32) p d₁ → p + length (signed_of (to_z w64 (of_z w64 first))) < length d₁
    signed_fits f₂ p d₁ u =
        let l₂ = length_le 2 number (omega arith) in
        let l₃ = signed_le first (nat_abs-le first f₂.sfits) in
        let s = length-set d at 32 in
        let f = length_field (decimal_of number) 32 in
        let w = wrote_long (set d at 32) (at + 1) (field (decimal_of number) 32) (omega arith) p d₁ u in
        rw (to_z-of_z f₂) (omega (arith, u.place))

  -- written: the space, and the fields one behind the other
  module _ (d : List ℕ) (at : ℕ) (room : at + length (tail_of number first second accepted rejected) ≤ length d) where
    rest : List ℕ
    rest = field (decimal_of number) 32 ++ (field (signed_of first) 32 ++ back_of second accepted rejected)

    pub tail_blank : at < length d
    tail_blank = omega (arith, tail_some)

    blank_wrote : Wrote d at (32 ∷ []) (at + 1) (set d at 32)
    blank_wrote = record { place = refl; bytes = sym (put_one d at 32 tail_blank) }

    rest_room : at + 1 + length rest ≤ length (set d at 32)
    unfolding rest
    rest_room = room_next d at (32 ∷ []) rest room (at + 1) (set d at 32) blank_wrote

    module _ (fit : SFits w64 first) (p : ℕ) (d₁ : List ℕ) (u : Wrote (set d at 32) (at + 1) (field (decimal_of number) 32) p d₁) where
      signed_room : p + length (field (signed_of first) 32 ++ back_of second accepted rejected) ≤ length d₁
      unfolding rest
      signed_room = room_next (set d at 32) (at + 1) (field (decimal_of number) 32) (field (signed_of first) 32 ++ back_of second accepted rejected) rest_room p d₁ u

      module _ (q : ℕ) (d₂ : List ℕ) (v : Wrote d₁ p (field (signed_of (to_z w64 (of_z w64 first))) 32) q d₂) where
        signed_wrote : Wrote d₁ p (field (signed_of first) 32) q d₂
        signed_wrote = rw (to_z-of_z fit) at v

        pub tail_back : q + length (back_of second accepted rejected) ≤ length d₂
        tail_back = room_next d₁ p (field (signed_of first) 32) (back_of second accepted rejected) signed_room q d₂ signed_wrote

        pub tail_wrote : (r : ℕ) (d₃ : List ℕ) → Wrote d₂ q (back_of second accepted rejected) r d₃ → Wrote d at (tail_of number first second accepted rejected) r d₃
        unfolding rest
        tail_wrote r d₃ w =
            wrote_both d at (32 ∷ []) rest room (at + 1) r (set d at 32) d₃ blank_wrote
            (wrote_both (set d at 32) (at + 1) (field (decimal_of number) 32) (field (signed_of first) 32 ++ back_of second accepted rejected) rest_room p r d₁ d₃ u
            (wrote_both d₁ p (field (signed_of first) 32) (back_of second accepted rejected) signed_room q r d₂ d₃ signed_wrote w))
