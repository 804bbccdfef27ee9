-- The form of an entry with a rate: 10 bytes, written and read back; and the length of a file of such entries.
use mathlib.Core.Path.{◌≡◌, sym, ap, ◌∙◌}
use mathlib.Core.List.{List, ◌++◌, append_assoc}
use Prim.Native.Nat.{ℕ, ◌+◌, ◌*◌, ◌^◌, ◌≤◌, ◌<◌}
use native.Mathlib.Omega.{arith}
use lib.Dec.{lit≤}
use lib.IntN.{ℤ}
use lib.ListN.{length, take, drop, length-append, length-map}
use lib.Seq.{take-add, drop-drop}
use mir.Syntax.{w32}
use mir.Val.{SFits, Fits, of_z}
use mir.Facts.{to_z-of_z, of_z-to_z, Fits-of_z}
use Rattle.kit.specs.Bytes.{bytes_of, field_at}
use Rattle.kit.specs.Range.{number, passing}
use Rattle.kit.proofs.Fields.{length_bytes, field_lt, field_read, field_written}
use Rattle.kit.proofs.Passing.{length_passing}
use Rattle.sitefile.specs.Frame.{joined, trailer_of, framed}
use Rattle.sitefile.specs.Entries.{rate_form, measured, entry_of, entries_of, file_of}
use Rattle.sitefile.specs.declared.Entry.{Entry}
use Rattle.sitefile.proofs.Forms.{Bytes, Lawful, length_joined}
use Rattle.sitefile.proofs.Frames.{length_trailer, length_checked}

-- an entry whose numbers fit their fields
pub record Fitting (e : Entry) : Type 0 where
  pub item : e.item < 256
  pub stamp : e.stamp < 256 ^ 5
  pub value : SFits w32 e.value

rate_long : (e : Entry) → length (rate_form.bytes e) ≡ 10
unfolding rate_form
rate_long e = simp (length-append, length_bytes)

rate_read : (e : Entry) (p rest b : List ℕ) (at : ℕ) → Fitting e → length p ≡ at → b ≡ p ++ (rate_form.bytes e ++ rest) → rate_form.read b at ≡ e
unfolding rate_form
rate_read e p rest b at f l h =
    let x = bytes_of 1 e.item in
    let y = bytes_of 5 e.stamp in
    let z = bytes_of 4 (of_z w32 e.value) in
    let lx : length x ≡ 1 = length_bytes 1 e.item in
    let ly : length y ≡ 5 = length_bytes 5 e.stamp in
    let whole : b ≡ p ++ (x ++ (y ++ (z ++ rest))) = h ∙ simp append_assoc in
    let after-x : b ≡ (p ++ x) ++ (y ++ (z ++ rest)) = whole ∙ sym (append_assoc p x (y ++ (z ++ rest))) in
    let after-y : b ≡ ((p ++ x) ++ y) ++ (z ++ rest) = after-x ∙ sym (append_assoc (p ++ x) y (z ++ rest)) in
    let lpx : length (p ++ x) ≡ at + 1 = length-append p x ∙ omega arith in
    let i : field_at b at 1 ≡ e.item = field_read 1 e.item p (y ++ (z ++ rest)) b at (lit≤ tt) f.item l whole in
    let s : field_at b (at + 1) 5 ≡ e.stamp = field_read 5 e.stamp (p ++ x) (z ++ rest) b (at + 1) (lit≤ tt) f.stamp lpx after-x in
    let v : field_at b (at + 6) 4 ≡ of_z w32 e.value =
    field_read 4 (of_z w32 e.value) ((p ++ x) ++ y) rest b (at + 6) (lit≤ tt) (Fits-of_z f.value).fits (length-append (p ++ x) y ∙ omega arith) after-y in
    rw (i, s, v, to_z-of_z f.value)

rate_written : (b : List ℕ) (at : ℕ) → Bytes b → at + 10 ≤ length b → rate_form.bytes (rate_form.read b at) ≡ take 10 (drop at b)
unfolding rate_form
rate_written b at h l =
    let small : Fits w32 (field_at b (at + 6) 4) = record { fits = field_lt b (at + 6) 4 h } in
    let two : take 9 (drop (at + 1) b) ≡ take 5 (drop (at + 1) b) ++ take 4 (drop (at + 6) b) =
    take-add 5 4 (drop (at + 1) b)
    ∙ ap (λ (r : List ℕ). take 5 (drop (at + 1) b) ++ take 4 r) (drop-drop 5 (at + 1) b ∙ (let q : at + 1 + 5 ≡ at + 6 = omega arith in ap (λ (k : ℕ). drop k b) q)) in
    rw (
      field_written 1 at b h (lit≤ tt) (omega arith),
      field_written 5 (at + 1) b h (lit≤ tt) (omega arith),
      of_z-to_z small,
      field_written 4 (at + 6) b h (lit≤ tt) (omega arith),
    )
    (sym (take-add 1 9 (drop at b) ∙ ap (λ (r : List ℕ). take 1 (drop at b) ++ r) (ap (take 9) (drop-drop 1 at b) ∙ two)))

pub rate_lawful : Lawful rate_form Fitting
unfolding rate_form
rate_lawful = record { long = rate_long; read_bytes = rate_read; bytes_read = rate_written }

-- ---- lengths

pub length_entries : (stamps : List ℕ) (values : List ℤ) → length (entries_of stamps values) ≡ number 24 (measured stamps)
unfolding entries_of
length_entries stamps values = length-map (passing 24 (measured stamps)) (entry_of stamps values) ∙ length_passing 24 (measured stamps)

pub length_rates : (stamps : List ℕ) (values : List ℤ) → length (joined rate_form (entries_of stamps values)) ≡ 10 * number 24 (measured stamps)
unfolding rate_form
length_rates stamps values = length_joined rate_form Fitting rate_lawful (entries_of stamps values) ∙ ap (λ (n : ℕ). 10 * n) (length_entries stamps values)

pub length_file : (site : ℕ) (stamps : List ℕ) (values : List ℤ) → length (file_of site stamps values) ≡ 10 * number 24 (measured stamps) + 8
unfolding file_of framed rate_form
length_file site stamps values =
    let es = entries_of stamps values in
    let t = trailer_of 10 site (length es) in
    length_checked (joined rate_form es ++ t) ∙ omega (arith, length-append (joined rate_form es) t, length_rates stamps values, length_trailer 10 site (length es))
