-- Little-endian fields of n bytes: each law once, over the width n.
use mathlib.Core.Path.{◌≡◌, refl, sym, ap, ap₂, ◌∙◌, subst}
use mathlib.Core.Bool.{Bool, true, false, not, ◌&&◌}
use mathlib.Core.List.{List, [], ◌∷◌, ◌++◌, append-nil}
use Prim.Native.Nat.{ℕ, zero, suc, ◌+◌, ◌-◌, ◌*◌, ◌/◌, ◌%◌, ◌^◌, ◌≤◌, ◌<◌}
use native.Mathlib.Nat.{not-suc-le-zero, le_of_suc-le-suc, pow-suc, pow-le-pow_right, lt_of_lt_of_le, mod-one, div-one, div-div-eq-div-mul, mul_comm, one-le-pow, sub_self, sub-zero, add-zero, mod-eq_of_lt}
use native.Mathlib.Omega.{arith}
use borrow.Author.Tests.{le-leb, leb-true, leb-false, not-true, not-false}
use lib.Arith.{mod-mul}
use lib.Dec.{lit<, leb}
use lib.ListN.{length, get_or, take, drop, set, length-append, length-drop}
use borrow.Rule.Slice.PartMut.{put_mid}
use lib.Seq.{get_or-drop, paste, length-take-le, drop_at, drop-append-le}
use Rattle.std.proofs.lemmas.List.{drop_all}
use Rattle.std.proofs.lemmas.List.Edits.{paste_more, paste_all}
use mir.Syntax.{w8, w32}
use mir.Val.{Fits}
use Rattle.kit.specs.Bytes.{le, bytes_of, field_at}
use Rattle.kit.specs.Lists.{placed}
use Rattle.kit.proofs.Bools.{of_cond}
use Rattle.kit.proofs.Puts.{placed_in, placed_out, put_part}

-- ---- the number of n bytes

le_nil : (n : ℕ) → le n [] ≡ 0
unfolding le
le_nil zero = refl
le_nil (suc n) = refl

-- one byte, and the rest
pub le_step : (n at : ℕ) (s : List ℕ) → le (suc n) (drop at s) ≡ get_or s at 0 + 256 * le n (drop (suc at) s)
unfolding le
le_step n zero [] = sym (ap (λ (x : ℕ). 0 + 256 * x) (le_nil n))
le_step n (suc at) [] = sym (ap (λ (x : ℕ). 0 + 256 * x) (le_nil n))
le_step n zero (b ∷ s) = refl
le_step n (suc at) (b ∷ s) = le_step n at s

-- n bytes are below 256 ^ n
pub le_lt : (n : ℕ) (s : List ℕ) → ((i : ℕ) → get_or s i 0 < 256) → le n s < 256 ^ n
unfolding le
le_lt zero s h = lit< tt
le_lt (suc n) [] h = subst (λ (x : ℕ). 0 < x) (sym (pow-suc 256 n)) (let p : 1 ≤ 256 ^ n = one-le-pow n 256 (lit< tt) in omega arith)
le_lt (suc n) (b ∷ s) h =
    subst (λ (x : ℕ). b + 256 * le n s < x) (sym (pow-suc 256 n)) (let l : le n s < 256 ^ n = le_lt n s (λ i. h (suc i)) in omega (arith, h 0))

pub le_lt_at : (n at : ℕ) (s : List ℕ) → ((i : ℕ) → get_or s i 0 < 256) → le n (drop at s) < 256 ^ n
le_lt_at n at s h = le_lt n (drop at s) (λ i. rw get_or-drop (h (at + i)))

-- ---- the n bytes of a number

pub length_bytes : (n v : ℕ) → length (bytes_of n v) ≡ n
unfolding bytes_of
length_bytes zero v = refl
length_bytes (suc n) v = ap suc (length_bytes n (v / 256))

pub bytes_at : (n k v : ℕ) → k < n → get_or (bytes_of n v) k 0 ≡ v / 256 ^ k % 256
unfolding bytes_of
bytes_at zero k v h = absurd (not-suc-le-zero h)
bytes_at (suc n) zero v h = ap (λ (x : ℕ). x % 256) (sym (div-one v))
bytes_at (suc n) (suc k) v h = bytes_at n k (v / 256) (le_of_suc-le-suc h) ∙ ap (λ (x : ℕ). x % 256) (div-div-eq-div-mul v 256 (256 ^ k) ∙ ap (λ (x : ℕ). v / x) (mul_comm 256 (256 ^ k) ∙ sym (pow-suc 256 k)))

-- ---- what is written is read, and what is read is written

pub read_written : (n v : ℕ) (rest : List ℕ) → le n (bytes_of n v ++ rest) ≡ v % 256 ^ n
unfolding le bytes_of
read_written zero v rest = sym (mod-one v)
read_written (suc n) v rest =
    let e : v % 256 ^ suc n ≡ (v / 256 % 256 ^ n) * 256 + v % 256 = ap (λ (x : ℕ). v % x) (pow-suc 256 n) ∙ mod-mul v (one-le-pow n 256 (lit< tt)) (lit< tt) in
    let ih : le n (bytes_of n (v / 256) ++ rest) ≡ v / 256 % 256 ^ n = read_written n (v / 256) rest in
    omega arith

pub written_read : (n : ℕ) (s : List ℕ) → ((i : ℕ) → get_or s i 0 < 256) → n ≤ length s → bytes_of n (le n s) ≡ take n s
unfolding le bytes_of
written_read zero s h l = refl
written_read (suc n) [] h l = absurd (not-suc-le-zero l)
written_read (suc n) (b ∷ s) h l =
    let hb : b < 256 = h 0 in
    let low : (b + 256 * le n s) % 256 ≡ b = omega arith in
    let high : (b + 256 * le n s) / 256 ≡ le n s = omega arith in
    ap₂ (λ (x : ℕ) (r : List ℕ). x ∷ r) low (ap (bytes_of n) high ∙ written_read n s (λ i. h (suc i)) (le_of_suc-le-suc l))

-- ---- a field that lies in the slice is its bytes' number

pub field_in : (s : List ℕ) (at n : ℕ) → n ≤ 8 → at + n ≤ length s → field_at s at n ≡ le n (drop at s)
unfolding field_at
field_in s at n h l = rw (le-leb n 8 h, le-leb (at + n) (length s) l)

-- the code's test of it, r, as it asks `if !r`
pub ends_in : (r : Bool) (at n len : ℕ) → r ≡ leb (at + n) len → not r ≡ false → at + n ≤ len
ends_in r at n len e f = leb-true (at + n) len (sym e ∙ not-false r f)

pub ends_out : (r : Bool) (at n len : ℕ) → r ≡ leb (at + n) len → not r ≡ true → len < at + n
ends_out r at n len e f = leb-false (at + n) len (sym e ∙ not-true r f)

-- a field of n bytes is below 256 ^ n
pub field_lt : (s : List ℕ) (at n : ℕ) → ((i : ℕ) → get_or s i 0 < 256) → field_at s at n < 256 ^ n
unfolding field_at
field_lt s at n h =
    of_cond (λ (v : ℕ). v < 256 ^ n) (leb n 8 && leb (at + n) (length s)) (λ t. le_lt_at n at s h) (λ f. one-le-pow n 256 (lit< tt))

-- and so fits a number of that width
pub field_byte : {r : ℕ} (b : List ℕ) (at : ℕ) → ((i : ℕ) → Fits w8 (get_or b i 0)) → r ≡ field_at b at 1 → Fits w8 r
field_byte b at h e = record { fits = rw e (field_lt b at 1 (λ i. (h i).fits)) }

pub field_word : {r : ℕ} (b : List ℕ) (at : ℕ) → ((i : ℕ) → Fits w8 (get_or b i 0)) → r ≡ field_at b at 4 → Fits w32 r
field_word b at h e = record { fits = rw e (field_lt b at 4 (λ i. (h i).fits)) }

-- ---- a field and the bytes around it

-- bytes behind the field do not count
le_front : (n : ℕ) (l r : List ℕ) → n ≤ length l → le n (l ++ r) ≡ le n l
unfolding le
le_front zero l r h = refl
le_front (suc n) [] r h = absurd (let z : ⊥ = omega arith in z)
le_front (suc n) (b ∷ l) r h = ap (λ (x : ℕ). b + 256 * x) (le_front n l r (omega arith))

pub field_front : (l r : List ℕ) (at n : ℕ) → n ≤ 8 → at + n ≤ length l → field_at (l ++ r) at n ≡ field_at l at n
field_front l r at n h k =
    field_in (l ++ r) at n h (rw length-append (omega arith))
    ∙ ap (le n) (drop-append-le at l r (omega arith))
    ∙ le_front n (drop at l) r (rw length-drop (omega arith))
    ∙ sym (field_in l at n h k)

-- a number of n bytes that was written behind p is read there
pub field_read : (n v : ℕ) (p rest b : List ℕ) (at : ℕ) → n ≤ 8 → v < 256 ^ n → length p ≡ at → b ≡ p ++ (bytes_of n v ++ rest) → field_at b at n ≡ v
field_read n v p rest b at few h l e =
    let long : length b ≡ length p + (n + length rest) = ap length e ∙ simp (length-append, length_bytes) in
    field_in b at n few (omega arith) ∙ ap (λ (x : List ℕ). le n (drop at x)) e ∙ ap (le n) (drop_at p (bytes_of n v ++ rest) at l)
    ∙ read_written n v rest ∙ mod-eq_of_lt h

-- a field that was read, written again: its bytes
pub field_written : (n at : ℕ) (b : List ℕ) → ((i : ℕ) → get_or b i 0 < 256) → n ≤ 8 → at + n ≤ length b → bytes_of n (field_at b at n) ≡ take n (drop at b)
field_written n at b h few l =
    ap (bytes_of n) (field_in b at n few l) ∙ written_read n (drop at b) (λ i. rw get_or-drop (h (at + i))) (rw length-drop (omega arith))

-- the front part of bytes is bytes
pub take_small : (n : ℕ) (l : List ℕ) → ((i : ℕ) → get_or l i 0 < 256) → (i : ℕ) → get_or (take n l) i 0 < 256
take_small zero l h i = lit< tt
take_small (suc n) [] h i = lit< tt
take_small (suc n) (a ∷ l) h zero = h 0
take_small (suc n) (a ∷ l) h (suc i) = take_small n l (λ j. h (suc j)) i

-- ---- the loop that reads: what is read are the bytes from k on

pub read_start : (n : ℕ) (l : List ℕ) → 0 ≡ le (n - n) l
unfolding le
read_start n l = rw sub_self

pub read_turn : (s : List ℕ) (at n k v w : ℕ) → 0 < k → k ≤ n → v ≡ le (n - k) (drop (at + k) s) → w ≡ get_or s (at + (k - 1)) 0 → v * 256 + w ≡ le (n - (k - 1)) (drop (at + (k - 1)) s)
read_turn s at n k v w hk hn hv hw =
    let e : n - (k - 1) ≡ suc (n - k) = omega arith in
    let f : suc (at + (k - 1)) ≡ at + k = omega arith in
    let g : le (n - (k - 1)) (drop (at + (k - 1)) s) ≡ get_or s (at + (k - 1)) 0 + 256 * le (n - k) (drop (at + k) s) =
    ap (λ (m : ℕ). le m (drop (at + (k - 1)) s)) e ∙ le_step (n - k) (at + (k - 1)) s ∙ ap (λ (m : ℕ). get_or s (at + (k - 1)) 0 + 256 * le (n - k) (drop m s)) f in
    omega arith

pub read_end : (s : List ℕ) (at n k v : ℕ) → k ≤ 0 → v ≡ le (n - k) (drop (at + k) s) → v ≡ le n (drop at s)
read_end s at n k v h e =
    let z : k ≡ 0 = omega arith in
    e ∙ ap (λ (m : ℕ). le (n - m) (drop (at + m) s)) z ∙ ap₂ (λ (i j : ℕ). le i (drop j s)) (sub-zero n) (add-zero at)

-- a number of m bytes, m at most 7, has room for one more
pub room : (m v : ℕ) → m ≤ 7 → v < 256 ^ m → v < 72057594037927936
room m v h l = lt_of_lt_of_le l (pow-le-pow_right (lit< tt) h)

-- ---- the loop that writes: after k turns the first k bytes stand in the buffer

pub div_more : (v k : ℕ) → v / 256 ^ k / 256 ≡ v / 256 ^ suc k
div_more v k = div-div-eq-div-mul v (256 ^ k) 256 ∙ ap (λ (x : ℕ). v / x) (sym (pow-suc 256 k))

-- the part of n bytes from a place on
length_part : (d : List ℕ) (at n : ℕ) → at + n ≤ length d → length (take (at + n - at) (drop at d)) ≡ n
length_part d at n h = length-take-le (at + n - at) (drop at d) (omega (arith, length-drop at d)) ∙ omega arith

-- a byte more in a part of n bytes
pub write_turn : (d p : List ℕ) (at n v k rest : ℕ) → at + n ≤ length d → k < length (take (at + n - at) (drop at d)) → rest ≡ v / 256 ^ k
    → p ≡ paste (take (at + n - at) (drop at d)) 0 (bytes_of n v) k → set p k (rest % 256) ≡ paste (take (at + n - at) (drop at d)) 0 (bytes_of n v) (k + 1)
write_turn d p at n v k rest room_left h hr hp =
    let q = take (at + n - at) (drop at d) in
    let m : length q ≡ n = length_part d at n room_left in
    let z : k ≡ 0 + k = omega arith in
    ap (λ (j : ℕ). set p j (rest % 256)) z
    ∙ ap₂ (λ (l : List ℕ) (x : ℕ). set l (0 + k) x) hp (ap (λ (x : ℕ). x % 256) hr ∙ sym (bytes_at n k v (omega arith)))
    ∙ paste_more q 0 (bytes_of n v) k 0 (omega arith) (omega (arith, length_bytes n v))

-- all of them
pub write_end : (d p : List ℕ) (at n v k : ℕ) → at + n ≤ length d → k ≤ length (take (at + n - at) (drop at d)) → length (take (at + n - at) (drop at d)) ≤ k
    → p ≡ paste (take (at + n - at) (drop at d)) 0 (bytes_of n v) k → put_mid at (at + n - at) d p ≡ placed d at (bytes_of n v)
write_end d p at n v k room_left h l e =
    let q = take (at + n - at) (drop at d) in
    let m : length q ≡ n = length_part d at n room_left in
    let whole : paste q 0 (bytes_of n v) k ≡ bytes_of n v =
    paste_all q 0 (bytes_of n v) k (omega (arith, length_bytes n v)) ∙ ap (λ (x : List ℕ). bytes_of n v ++ x) (drop_all (0 + k) q (omega arith)) ∙ append-nil (bytes_of n v) in
    put_part d (bytes_of n v) p at n (sym (length_bytes n v)) (e ∙ whole) ∙ sym (placed_in d at (bytes_of n v) (omega (arith, length_bytes n v)))

pub write_none : (d : List ℕ) (at n v : ℕ) → length d < at + n → d ≡ placed d at (bytes_of n v)
write_none d at n v h = sym (placed_out d at (bytes_of n v) (omega (arith, length_bytes n v)))
