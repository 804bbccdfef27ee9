-- The trailer and the check, for entries of any length w: a list of bytes is framed exactly if it is its entries' bytes, the trailer and the check.
use mathlib.Core.Path.{◌≡◌, sym, ap, ◌∙◌}
use mathlib.Core.List.{List, [], ◌++◌, append_assoc, append-nil}
use Prim.Native.Nat.{ℕ, ◌+◌, ◌-◌, ◌*◌, ◌≤◌, ◌<◌}
use native.Mathlib.Nat.{add_assoc}
use native.Mathlib.Omega.{arith}
use lib.Dec.{lit≤}
use lib.ListN.{length, get_or, take, drop, length-append}
use lib.Seq.{take_at, take-add, take_all, drop-drop}
use mir.Syntax.{w8, w16}
use mir.Val.{Fits}
use Rattle.kit.specs.Bytes.{bytes_of, field_at}
use Rattle.kit.proofs.Fields.{length_bytes, field_lt, field_read, field_written}
use Rattle.fnv.specs.Fnv.{fnv_of}
use Rattle.fnv.proofs.Laws.{fnv_lt}
use Rattle.sitefile.specs.Frame.{trailer_of, checked, site_in, count_in, distance_in, check_in}
use Rattle.sitefile.proofs.Forms.{Bytes}

-- two bytes make a number of 16 bits
pub field_half : {r : ℕ} (b : List ℕ) (at : ℕ) → ((i : ℕ) → Fits w8 (get_or b i 0)) → r ≡ field_at b at 2 → Fits w16 r
field_half b at small e = record { fits = rw e (field_lt b at 2 (λ i. (small i).fits)) }

-- b ends in the trailer of n entries of w bytes
pub record Framed (w site n : ℕ) (b : List ℕ) : Type 0 where
  pub size : length b ≡ w * n + 8
  pub site_is : site_in b ≡ site
  pub count_is : count_in b ≡ n
  pub distance_is : distance_in b ≡ w * n
  pub check_is : check_in b ≡ fnv_of (take (length b - 4) b)

pub length_trailer : (w site n : ℕ) → length (trailer_of w site n) ≡ 4
unfolding trailer_of
length_trailer w site n = simp (length-append, length_bytes)

pub length_checked : (s : List ℕ) → length (checked s) ≡ length s + 4
unfolding checked
length_checked s = simp (length-append, length_bytes)

-- ---- what is written is framed

pub framed_written : (w site n : ℕ) (s : List ℕ) → length s ≡ w * n → site < 256 → n < 256 → w * n < 65536 → Framed w site n (checked (s ++ trailer_of w site n))
unfolding trailer_of checked site_in count_in distance_in check_in
framed_written w site n s ls hs hn hw =
    let x = bytes_of 1 site in
    let y = bytes_of 1 n in
    let z = bytes_of 2 (w * n) in
    let t = s ++ trailer_of w site n in
    let c = bytes_of 4 (fnv_of t) in
    let b = checked t in
    let lx : length x ≡ 1 = length_bytes 1 site in
    let ly : length y ≡ 1 = length_bytes 1 n in
    let lt : length t ≡ w * n + 4 = length-append s (trailer_of w site n) ∙ omega (arith, length_trailer w site n) in
    let size : length b ≡ w * n + 8 = length_checked t ∙ omega arith in
    let whole : b ≡ s ++ (x ++ (y ++ (z ++ c))) = simp append_assoc in
    let after-x : b ≡ (s ++ x) ++ (y ++ (z ++ c)) = whole ∙ sym (append_assoc s x (y ++ (z ++ c))) in
    let after-y : b ≡ ((s ++ x) ++ y) ++ (z ++ c) = after-x ∙ sym (append_assoc (s ++ x) y (z ++ c)) in
    record {
      size = size;
      site_is = field_read 1 site s (y ++ (z ++ c)) b (length b - 8) (lit≤ tt) hs (omega arith) whole;
      count_is = field_read 1 n (s ++ x) (z ++ c) b (length b - 7) (lit≤ tt) hn (length-append s x ∙ omega arith) after-x;
      distance_is = field_read 2 (w * n) ((s ++ x) ++ y) c b (length b - 6) (lit≤ tt) hw (length-append (s ++ x) y ∙ omega (arith, length-append s x)) after-y;
      check_is = field_read 4 (fnv_of t) t [] b (length b - 4) (lit≤ tt) (fnv_lt t) (omega arith) (ap (λ (l : List ℕ). t ++ l) (sym (append-nil c)))
          ∙ ap fnv_of (sym (take_at t c (length b - 4) (omega arith)));
    }

-- ---- what is framed is its entries' bytes, written

-- a field of m bytes, counted from the end, is read at a place
field_back : (b : List ℕ) (k m v at : ℕ) → Bytes b → m ≤ 8 → at + m ≤ length b → length b - k ≡ at → field_at b (length b - k) m ≡ v → bytes_of m v ≡ take m (drop at b)
field_back b k m v at h few l q e = ap (bytes_of m) (sym e ∙ ap (λ (j : ℕ). field_at b j m) q) ∙ field_written m at b h few l

pub written_framed : (w site n : ℕ) (b : List ℕ) → Bytes b → Framed w site n b → checked (take (w * n) b ++ trailer_of w site n) ≡ b
unfolding trailer_of checked site_in count_in distance_in check_in
written_framed w site n b h f =
    let p = w * n in
    let size : length b ≡ p + 8 = f.size in
    let x : bytes_of 1 site ≡ take 1 (drop p b) = field_back b 8 1 site p h (lit≤ tt) (omega arith) (omega arith) f.site_is in
    let y : bytes_of 1 n ≡ take 1 (drop (p + 1) b) = field_back b 7 1 n (p + 1) h (lit≤ tt) (omega arith) (omega arith) f.count_is in
    let z : bytes_of 2 p ≡ take 2 (drop (p + 2) b) = field_back b 6 2 p (p + 2) h (lit≤ tt) (omega arith) (omega arith) f.distance_is in
    let front : take p b ++ trailer_of w site n ≡ take (p + 4) b =
    rw (x, y, z) (sym (take-add p 4 b ∙ ap (λ (l : List ℕ). take p b ++ l) (parts p))) in
    let all-before : fnv_of (take (length b - 4) b) ≡ fnv_of (take (p + 4) b) = (let q : length b - 4 ≡ p + 4 = omega arith in ap (λ (j : ℕ). fnv_of (take j b)) q) in
    let c : bytes_of 4 (fnv_of (take (p + 4) b)) ≡ take 4 (drop (p + 4) b) =
    field_back b 4 4 (fnv_of (take (p + 4) b)) (p + 4) h (lit≤ tt) (omega arith) (omega arith) (f.check_is ∙ all-before) in
    rw (front, c) (sym (take-add (p + 4) 4 b) ∙ take_all (p + 4 + 4) b (omega arith))
  where
    parts : (p : ℕ) → take 4 (drop p b) ≡ take 1 (drop p b) ++ (take 1 (drop (p + 1) b) ++ take 2 (drop (p + 2) b))
    parts p =
        take-add 1 3 (drop p b)
        ∙ ap (λ (l : List ℕ). take 1 (drop p b) ++ l)
        (ap (take 3) (drop-drop 1 p b) ∙ take-add 1 2 (drop (p + 1) b) ∙ ap (λ (l : List ℕ). take 1 (drop (p + 1) b) ++ take 2 l) (drop-drop 1 (p + 1) b ∙ ap (λ (k : ℕ). drop k b) (add_assoc p 1 1)))
