-- What the writer's code writes: an entry, the entries, the trailer, the file.
use mathlib.Core.Path.{◌≡◌, refl, sym, ap, ap₂, ◌∙◌}
use mathlib.Core.Bool.{Bool, true, false, not, ◌||◌, cond}
use mathlib.Core.List.{List, [], ◌∷◌, ◌++◌, map, map-append, append-nil, append_assoc}
use Prim.Native.Nat.{ℕ, ◌+◌, ◌*◌, ◌≤◌, ◌<◌}
use native.Mathlib.Decide.{le_ind}
use native.Mathlib.Nat.{le_refl}
use native.Mathlib.Numerals.{add-one}
use native.Mathlib.Omega.{arith}
use borrow.Author.Tests.{eq-eqb, ne_eqb, ltb-false}
use lib.Dec.{eqb, ltb}
use lib.IntN.{ℤ, pos}
use lib.ListN.{length, get_or, take, drop, length-append}
use lib.Seq.{take-append_seam, drop-append-add, drop-drop}
use mir.Syntax.{w32}
use mir.Val.{SFits, to_z, of_z}
use mir.Facts.{to_z-of_z}
use Rattle.kit.specs.Bytes.{bytes_of}
use Rattle.kit.specs.Lists.{put, placed}
use Rattle.kit.specs.Range.{any, number, passing}
use Rattle.kit.proofs.Bools.{or_left}
use Rattle.kit.proofs.Fields.{length_bytes}
use Rattle.kit.proofs.Puts.{placed_more, placed_three, put_put, put_none, put_front, take_put}
use Rattle.fnv.specs.Fnv.{fnv_of}
use Rattle.sitefile.specs.Frame.{joined, trailer_of, checked, framed}
use Rattle.sitefile.specs.Entries.{rate_form, measured, entry_of, entries_of, file_of}
use Rattle.sitefile.specs.Read.{wrong_site}
use Rattle.sitefile.specs.Write.{wrong_item, not_written}
use Rattle.sitefile.specs.declared.Entry.{Entry}
use Rattle.sitefile.proofs.Forms.{joined_append}
use Rattle.sitefile.proofs.Rates.{rate_lawful, length_entries, length_rates, length_file}

-- ---- the bytes of an entry, and of the trailer

pub entry_put : (d d₁ d₂ d₃ : List ℕ) (at bits : ℕ) (e : Entry) → at + 10 ≤ length d → SFits w32 e.value → bits ≡ of_z w32 (to_z w32 (of_z w32 e.value))
    → d₁ ≡ placed d at (bytes_of 1 e.item) → d₂ ≡ placed d₁ (at + 1) (bytes_of 5 e.stamp) → d₃ ≡ placed d₂ (at + 6) (bytes_of 4 bits)
    → d₃ ≡ put d at (rate_form.bytes e)
unfolding rate_form
entry_put d d₁ d₂ d₃ at bits e room f hb e₁ e₂ e₃ =
    let v : of_z w32 e.value ≡ bits = sym (hb ∙ ap (of_z w32) (to_z-of_z f)) in
    let lx = length_bytes 1 e.item in
    let ly = length_bytes 5 e.stamp in
    rw v (placed_three d d₁ d₂ d₃ at (at + 1) (at + 6) _ _ _ (omega arith) (omega arith) (omega (arith, length_bytes 4 bits)) e₁ e₂ e₃)

-- the trailer, and the check of all bytes before that
pub trailer_put : (d d₁ d₂ d₃ d₄ : List ℕ) (at site n check : ℕ) → at + 8 ≤ length d
    → d₁ ≡ placed d at (bytes_of 1 site) → d₂ ≡ placed d₁ (at + 1) (bytes_of 1 n) → d₃ ≡ placed d₂ (at + 2) (bytes_of 2 (10 * n))
    → check ≡ fnv_of (take (at + 4) d₃) → d₄ ≡ placed d₃ (at + 4) (bytes_of 4 check) → d₄ ≡ checked (take at d ++ trailer_of 10 site n) ++ drop (at + 8) d
unfolding trailer_of checked put
trailer_put d d₁ d₂ d₃ d₄ at site n check room e₁ e₂ e₃ ec e₄ =
    let t = trailer_of 10 site n in
    let lx = length_bytes 1 site in
    let ly = length_bytes 1 n in
    let lz = length_bytes 2 (10 * n) in
    let lt : length t ≡ 4 = simp (length-append, length_bytes) in
    let three : d₃ ≡ put d at t = placed_three d d₁ d₂ d₃ at (at + 1) (at + 2) _ _ _ (omega arith) (omega arith) (omega arith) e₁ e₂ e₃ in
    let front : take (at + 4) d₃ ≡ take at d ++ t = ap₂ (λ (k : ℕ) (b : List ℕ). take (at + k) b) (sym lt) three ∙ take_put d at t (omega arith) in
    let c = bytes_of 4 (fnv_of (take at d ++ t)) in
    let check_is : bytes_of 4 check ≡ c = ap (bytes_of 4) (ec ∙ ap fnv_of front) in
    let lc : length c ≡ 4 = length_bytes 4 (fnv_of (take at d ++ t)) in
    let long : length (t ++ c) ≡ 8 = length-append t c ∙ omega arith in
    placed_more d d₃ d₄ at (at + 4) t c three (omega arith) (omega arith) (e₄ ∙ ap (placed d₃ (at + 4)) check_is)
    ∙ ap₂ (λ (l : List ℕ) (k : ℕ). l ++ drop (at + k) d) (sym (append_assoc (take at d) t c)) long

-- ---- item after item

-- the entries of the measured items below i
unfoldable pub bytes_to : List ℕ → List ℤ → ℕ → List ℕ
bytes_to stamps values i = joined rate_form (map (entry_of stamps values) (passing i (measured stamps)))

module _ (stamps : List ℕ) (values : List ℤ) where
  bytes_turn : (i : ℕ) → bytes_to stamps values (i + 1) ≡ bytes_to stamps values i ++ cond (eqb (get_or stamps i 0) 0) [] (rate_form.bytes (entry_of stamps values i))
  unfolding bytes_to passing measured joined
  bytes_turn i =
      rw (add-one i)
      (ap (joined rate_form) (map-append (entry_of stamps values) (passing i (measured stamps)) _)
      ∙ joined_append rate_form (map (entry_of stamps values) (passing i (measured stamps))) _
      ∙ ap (λ (l : List ℕ). bytes_to stamps values i ++ l) (last (eqb (get_or stamps i 0) 0)))
    where
      last : (t : Bool) → joined rate_form (map (entry_of stamps values) (cond (not t) (i ∷ []) [])) ≡ cond t [] (rate_form.bytes (entry_of stamps values i))
      last true = refl
      last false = append-nil (rate_form.bytes (entry_of stamps values i))

  bytes_same : (i : ℕ) → get_or stamps i 0 ≡ 0 → bytes_to stamps values (i + 1) ≡ bytes_to stamps values i
  bytes_same i z = bytes_turn i ∙ rw (eq-eqb (get_or stamps i 0) 0 z) (append-nil (bytes_to stamps values i))

  bytes_more : (i : ℕ) → (get_or stamps i 0 ≡ 0 → ⊥) → bytes_to stamps values (i + 1) ≡ bytes_to stamps values i ++ rate_form.bytes (entry_of stamps values i)
  bytes_more i z = bytes_turn i ∙ rw (ne_eqb (get_or stamps i 0) 0 z) refl

  bytes_grow : (i j : ℕ) → i ≤ j → length (bytes_to stamps values i) ≤ length (bytes_to stamps values j)
  bytes_grow i j h = le_ind (λ (m : ℕ). length (bytes_to stamps values i) ≤ length (bytes_to stamps values m)) (le_refl _)
      (λ m l e. omega (arith, ap (λ (k : ℕ). length (bytes_to stamps values k)) (add-one m), ap length (bytes_turn m) ∙ length-append (bytes_to stamps values m) _)) j h

-- what has been written when item i comes
pub record WrittenTo (d₀ stamps : List ℕ) (values : List ℤ) (i at : ℕ) (d : List ℕ) : Type 0 where
  pub place : at ≡ length (bytes_to stamps values i)
  pub so_far : d ≡ put d₀ 0 (bytes_to stamps values i)

pub wrote_none : (d₀ stamps : List ℕ) (values : List ℤ) → WrittenTo d₀ stamps values 0 0 d₀
unfolding bytes_to passing joined
wrote_none d₀ stamps values = record { place = refl; so_far = sym (put_none d₀ 0) }

module _ {d₀ stamps d : List ℕ} {values : List ℤ} {i at : ℕ} (w : WrittenTo d₀ stamps values i at d) where
  pub wrote_same : get_or stamps i 0 ≡ 0 → WrittenTo d₀ stamps values (i + 1) at d
  wrote_same z =
      let e = sym (bytes_same stamps values i z) in
      record { place = w.place ∙ ap length e; so_far = w.so_far ∙ ap (put d₀ 0) e }

  module _ (room : length (joined rate_form (entries_of stamps values)) ≤ length d₀) (h : i < 24) (some : get_or stamps i 0 ≡ 0 → ⊥) where
    abbrev x : List ℕ
    x = bytes_to stamps values i

    abbrev y : List ℕ
    y = rate_form.bytes (entry_of stamps values i)

    long : length y ≡ 10
    unfolding rate_form
    long = rate_lawful.long (entry_of stamps values i)

    fits : length (x ++ y) ≤ length d₀
    unfolding bytes_to entries_of
    fits = omega (arith, bytes_grow stamps values (i + 1) 24 (omega arith), ap length (bytes_more stamps values i some), room)

    pub wrote_room : at + 10 ≤ length d₀
    wrote_room = omega (arith, w.place, long, fits, length-append x y)

    pub wrote_more : (e : Entry) → e ≡ entry_of stamps values i → (d₁ : List ℕ) → d₁ ≡ put d at (rate_form.bytes e) → WrittenTo d₀ stamps values (i + 1) (at + 10) d₁
    wrote_more e own d₁ hd =
        let t : bytes_to stamps values (i + 1) ≡ x ++ y = bytes_more stamps values i some in
        record {
          place = omega (arith, w.place, long, length-append x y) ∙ ap length (sym t);
          so_far =
              hd ∙ ap₂ (λ (b : Entry) (l : List ℕ). put l at (rate_form.bytes b)) own w.so_far
              ∙ put_put d₀ 0 at x y (omega (arith, w.place)) (omega (arith, w.place, fits, length-append x y)) ∙ ap (put d₀ 0) (sym t);
        }

  pub wrote_all : i ≡ 24 → (at ≡ length (joined rate_form (entries_of stamps values))) × (d ≡ put d₀ 0 (joined rate_form (entries_of stamps values)))
  unfolding bytes_to entries_of
  wrote_all e = (w.place ∙ ap (λ (k : ℕ). length (bytes_to stamps values k)) e, w.so_far ∙ ap (λ (k : ℕ). put d₀ 0 (bytes_to stamps values k)) e)

-- ---- the file

pub entries_room : (site room : ℕ) (stamps : List ℕ) (values : List ℤ) → length (file_of site stamps values) ≤ room → length (joined rate_form (entries_of stamps values)) ≤ room
entries_room site room stamps values h = omega (arith, length_rates stamps values, length_file site stamps values)

-- its trailer has 8 bytes
pub trailer_room : (site at room : ℕ) (stamps : List ℕ) (values : List ℤ) → at ≡ length (joined rate_form (entries_of stamps values)) → length (file_of site stamps values) ≤ room → at + 8 ≤ room
trailer_room site at room stamps values e h = omega (arith, length_rates stamps values, length_file site stamps values)

-- the entries at the front, and the trailer behind them
pub file_put : (d d₁ d₂ : List ℕ) (site n at : ℕ) (stamps : List ℕ) (values : List ℤ) → length (file_of site stamps values) ≤ length d → n ≡ number 24 (measured stamps)
    → (at ≡ length (joined rate_form (entries_of stamps values))) × (d₁ ≡ put d 0 (joined rate_form (entries_of stamps values)))
    → d₂ ≡ checked (take at d₁ ++ trailer_of 10 site n) ++ drop (at + 8) d₁
    → (at + 8 ≡ length (file_of site stamps values)) × (d₂ ≡ file_of site stamps values ++ drop (length (file_of site stamps values)) d)
unfolding file_of framed rate_form
file_put d d₁ d₂ site n at stamps values room hn w h =
    let es = entries_of stamps values in
    let x = joined rate_form es in
    let long : at + 8 ≡ length (file_of site stamps values) = omega (arith, w.0, length_rates stamps values, length_file site stamps values) in
    let front : d₁ ≡ x ++ drop (length x) d = w.1 ∙ put_front d x in
    let entries : take at d₁ ≡ x = ap₂ take w.0 front ∙ take-append_seam x (drop (length x) d) in
    let count : n ≡ length es = hn ∙ sym (length_entries stamps values) in
    let rest : drop (at + 8) d₁ ≡ drop (length (file_of site stamps values)) d =
    ap₂ drop (ap (λ (k : ℕ). k + 8) w.0) front ∙ drop-append-add x (drop (length x) d) 8 ∙ drop-drop 8 (length x) d
    ∙ ap (λ (k : ℕ). drop k d) (sym (ap (λ (k : ℕ). k + 8) w.0) ∙ long) in
    (long, h ∙ ap₂ (λ (l r : List ℕ). checked l ++ r) (ap₂ (λ (l : List ℕ) (k : ℕ). l ++ trailer_of 10 site k) entries count) rest)

-- ---- the writer's answer

module _ (d : List ℕ) (site : ℕ) (stamps : List ℕ) (values : List ℤ) where
  -- a file that is written has room
  pub has_room : not_written (length d) site stamps values ≡ false → length (file_of site stamps values) ≤ length d
  unfolding not_written
  has_room e =
      ltb-false (length d) (length (file_of site stamps values))
      (or_left (ltb (length d) (length (file_of site stamps values))) (wrong_site site || any 24 (λ i. wrong_item (get_or stamps i 0) (get_or values i (pos 0)))) e)
