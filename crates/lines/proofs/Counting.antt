-- The number of a record kept as digits: from one line to the next they are the digits of the next number, and a line can begin with them.
use mathlib.Core.Path.{◌≡◌, refl, sym, ap, ap₂, ◌∙◌}
use mathlib.Core.Bool.{Bool, true, false, not, cond, ◌&&◌}
use mathlib.Core.List.{List, ◌++◌}
use Prim.Native.Nat.{ℕ, ◌+◌, ◌-◌, ◌^◌, ◌≤◌, ◌<◌}
use native.Mathlib.Omega.{arith}
use borrow.Author.Tests.{leb-true, le-leb, lt-leb, lt-ltb, le-ltb, ltb-true, not-true, not-false}
use lib.Dec.{ltb, leb}
use lib.IntN.{ℤ}
use lib.ListN.{length, take, length-take}
use lib.Seq.{length-take-le, take-take}
use mir.Syntax.{w64}
use mir.Val.{Fits}
use Rattle.kit.specs.Lists.{put}
use Rattle.kit.proofs.Bools.{and_left, and_right, by_test, of_cond, cond_yes, cond_no}
use Rattle.kit.proofs.Puts.{length_put, put_put, take_put}
use Rattle.kit.proofs.Fields.{ends_in, ends_out}
use Rattle.lines.specs.Lines.{decimal_of, line_of, Wrote}
use Rattle.lines.specs.Counts.{is_kept, counted, is_keepable, counted_digits, counted_length, is_grown, one_more, digits_on, length_on, first_written, line_with, tail_of, ample_placed, ample_fitted}
use Rattle.lines.proofs.Decimals.{length_some, length_le}
use Rattle.lines.proofs.Growing.{more_length, next_number}
use Rattle.lines.proofs.Tails.{put_over, line_with_lem, with_tail, length_with, tail_some}

-- ---- what is kept

module _ (size len : ℕ) where
  module _ (h : is_kept size len ≡ true) where
    pub kept_short : len ≤ 8
    unfolding is_kept
    kept_short = leb-true len 8 (and_right (leb 1 len) _ (and_left (leb 1 len && leb len 8) (leb 8 size) h))

    pub kept_room : 8 ≤ size
    unfolding is_kept
    kept_room = leb-true 8 size (and_right (leb 1 len && leb len 8) (leb 8 size) h)

  -- as the code tests it
  pub kept_none : len < 1 → false ≡ is_kept size len
  unfolding is_kept
  kept_none h = rw (lt-leb 1 len h)

  pub kept_fits : 1 ≤ len → len ≤ 8 → leb 8 size ≡ is_kept size len
  unfolding is_kept
  kept_fits h l = rw (le-leb 1 len h, le-leb len 8 l)

  -- the code asked, r
  module _ (r : Bool) (e : r ≡ is_kept size len) (t : not r ≡ false) where
    pub asked_kept : is_kept size len ≡ true
    asked_kept = sym e ∙ not-false r t

    pub asked_room : len ≤ size
    asked_room = omega (arith, kept_short asked_kept, kept_room asked_kept)

  pub kept_is : 1 ≤ len → len ≤ 8 → 8 ≤ size → is_kept size len ≡ true
  kept_is h l s = sym (kept_fits h l) ∙ le-leb 8 size s

module _ (digits : List ℕ) (len n : ℕ) where
  pub counted_kept : is_kept (length digits) len ≡ true → counted digits len n ≡ take len digits
  unfolding counted
  counted_kept h = cond_yes (take len digits) (decimal_of n) h

  pub counted_none : is_kept (length digits) len ≡ false → counted digits len n ≡ decimal_of n
  unfolding counted
  counted_none h = cond_no (take len digits) (decimal_of n) h

-- no length is one that is kept
pub no_length : (digits : List ℕ) (n : ℕ) → counted digits 0 n ≡ decimal_of n
no_length digits n = counted_none digits 0 n (sym (kept_none (length digits) 0 (omega arith)))

-- ---- a number that is counted from

module _ (digits : List ℕ) (n : ℕ) where
  module _ (h : is_keepable (length digits) n ≡ true) where
    keep_small : n < 100000000
    unfolding is_keepable
    keep_small = ltb-true n 100000000 (and_left _ (leb 8 (length digits)) h)

    keep_room : 8 ≤ length digits
    unfolding is_keepable
    keep_room = leb-true 8 (length digits) (and_right (ltb n 100000000) _ h)

    digits_in : counted_digits digits n ≡ put digits 0 (decimal_of n)
    unfolding counted_digits
    digits_in = cond_yes (put digits 0 (decimal_of n)) digits h

    length_in : counted_length digits n ≡ length (decimal_of n)
    unfolding counted_length
    length_in = cond_yes (length (decimal_of n)) 0 h

  module _ (h : is_keepable (length digits) n ≡ false) where
    digits_out : counted_digits digits n ≡ digits
    unfolding counted_digits
    digits_out = cond_no (put digits 0 (decimal_of n)) digits h

    length_out : counted_length digits n ≡ 0
    unfolding counted_length
    length_out = cond_no (length (decimal_of n)) 0 h

  -- as the code tests it
  too_large : 100000000 ≤ n → is_keepable (length digits) n ≡ false
  unfolding is_keepable
  too_large h = rw (le-ltb n 100000000 h)

  too_few : n < 100000000 → length digits < 8 → is_keepable (length digits) n ≡ false
  unfolding is_keepable
  too_few h l = rw (lt-ltb n 100000000 h, lt-leb 8 (length digits) l)

  keepable : n < 100000000 → 8 ≤ length digits → is_keepable (length digits) n ≡ true
  unfolding is_keepable
  keepable h l = rw (lt-ltb n 100000000 h, le-leb 8 (length digits) l)

  pub large_length : 100000000 ≤ n → 0 ≡ counted_length digits n
  large_length h = sym (length_out (too_large h))

  pub large_digits : 100000000 ≤ n → digits ≡ counted_digits digits n
  large_digits h = sym (digits_out (too_large h))

  pub few_length : n < 100000000 → length digits < 8 → 0 ≡ counted_length digits n
  few_length h l = sym (length_out (too_few h l))

  pub few_digits : n < 100000000 → length digits < 8 → digits ≡ counted_digits digits n
  few_digits h l = sym (digits_out (too_few h l))

  module _ (h : n < 100000000) (l : 8 ≤ length digits) where
    pub front_fits : 0 + length (decimal_of n) ≤ length digits
    front_fits = omega (arith, length_le 7 n (omega arith))

    module _ (r : ℕ) (after : List ℕ) (w : Wrote digits 0 (decimal_of n) r after) where
      pub front_length : r ≡ counted_length digits n
      front_length = let e : r ≡ length (decimal_of n) = omega (arith, w.place) in e ∙ sym (length_in (keepable h l))

      pub front_digits : after ≡ counted_digits digits n
      front_digits = w.bytes ∙ sym (digits_in (keepable h l))

  -- counting from n keeps the digits of n, and as many bytes as before
  pub counted_start : counted (counted_digits digits n) (counted_length digits n) n ≡ decimal_of n
  counted_start =
      by_test (is_keepable (length digits) n)
      (λ h.
      let l = keep_room h in
      let k : length (decimal_of n) ≤ 8 = length_le 7 n (omega (arith, keep_small h)) in
      let some = length_some n in
      let fits : 0 + length (decimal_of n) ≤ length digits = omega arith in
      let long : length (put digits 0 (decimal_of n)) ≡ length digits = length_put digits 0 (decimal_of n) fits in
      ap₂ (λ (d : List ℕ) (m : ℕ). counted d m n) (digits_in h) (length_in h)
      ∙ counted_kept (put digits 0 (decimal_of n)) (length (decimal_of n)) n (kept_is _ _ some k (omega arith))
      ∙ ap (λ (m : ℕ). take m (put digits 0 (decimal_of n))) (let z : length (decimal_of n) ≡ 0 + length (decimal_of n) = omega arith in z)
      ∙ take_put digits 0 (decimal_of n) fits)
      (λ h. ap (λ (m : ℕ). counted (counted_digits digits n) m n) (length_out h) ∙ no_length (counted_digits digits n) n)

-- ---- the next number

module _ (digits : List ℕ) (len n : ℕ) where
  module _ (h : is_kept (length digits) len ≡ false) where
    on_none_digits : digits_on digits len n ≡ digits
    unfolding digits_on
    on_none_digits = rw h

    on_none_length : length_on digits len n ≡ 0
    unfolding length_on
    on_none_length = rw h

  module _ (h : is_kept (length digits) len ≡ true) where
    module _ (g : is_grown len digits ≡ true) where
      on_grown_digits : digits_on digits len n ≡ one_more len digits
      unfolding digits_on
      on_grown_digits = rw (h, g)

      on_grown_length : length_on digits len n ≡ len
      unfolding length_on
      on_grown_length = rw (h, g)

    module _ (g : is_grown len digits ≡ false) where
      on_anew_digits : digits_on digits len n ≡ counted_digits (one_more len digits) n
      unfolding digits_on
      on_anew_digits = rw (h, g)

      on_anew_length : length_on digits len n ≡ counted_length (one_more len digits) n
      unfolding length_on
      on_anew_length = rw (h, g)

  -- the code asked whether digits are kept, r
  module _ (r : Bool) (e : r ≡ is_kept (length digits) len) where
    module _ (t : not r ≡ true) where
      pub stays_digits : digits ≡ digits_on digits len n
      stays_digits = sym (on_none_digits (sym e ∙ not-true r t))

      pub stays_length : 0 ≡ length_on digits len n
      stays_length = sym (on_none_length (sym e ∙ not-true r t))

    module _ (t : not r ≡ false) where
      kept : is_kept (length digits) len ≡ true
      kept = asked_kept (length digits) len r e t

      -- and whether one grew when one was added, g
      module _ (g : Bool) (grown : g ≡ is_grown len digits) (more : List ℕ) (added : more ≡ one_more len digits) where
        pub grows_digits : g ≡ true → more ≡ digits_on digits len n
        grows_digits l = added ∙ sym (on_grown_digits kept (sym grown ∙ l))

        pub grows_length : g ≡ true → len ≡ length_on digits len n
        grows_length l = sym (on_grown_length kept (sym grown ∙ l))

        pub anew_digits : g ≡ false → (after : List ℕ) → after ≡ counted_digits more n → after ≡ digits_on digits len n
        anew_digits l after w = w ∙ ap (λ (d : List ℕ). counted_digits d n) added ∙ sym (on_anew_digits kept (sym grown ∙ l))

        pub anew_length : g ≡ false → (m : ℕ) → m ≡ counted_length more n → m ≡ length_on digits len n
        anew_length l m w = w ∙ ap (λ (d : List ℕ). counted_length d n) added ∙ sym (on_anew_length kept (sym grown ∙ l))

-- counting on keeps the digits of the next number
pub counted_on : (digits : List ℕ) (len n : ℕ) → counted digits len n ≡ decimal_of n → counted (digits_on digits len (n + 1)) (length_on digits len (n + 1)) (n + 1) ≡ decimal_of (n + 1)
counted_on digits len n e =
    by_test (is_kept (length digits) len)
    (λ h.
    by_test (is_grown len digits)
    (λ g.
    let few = kept_short (length digits) len h in
    let room = kept_room (length digits) len h in
    ap₂ (λ (d : List ℕ) (m : ℕ). counted d m (n + 1)) (on_grown_digits digits len (n + 1) h g) (on_grown_length digits len (n + 1) h g)
    ∙ counted_kept (one_more len digits) len (n + 1) (rw (more_length len digits) h)
    ∙ next_number len n digits (omega arith) (sym (counted_kept digits len n h) ∙ e) g)
    (λ g.
    ap₂ (λ (d : List ℕ) (m : ℕ). counted d m (n + 1)) (on_anew_digits digits len (n + 1) h g) (on_anew_length digits len (n + 1) h g)
    ∙ counted_start (one_more len digits) (n + 1)))
    (λ h. ap (λ (m : ℕ). counted (digits_on digits len (n + 1)) m (n + 1)) (on_none_length digits len (n + 1) h) ∙ no_length (digits_on digits len (n + 1)) (n + 1))

-- ---- the line that begins with them

module _ (d : List ℕ) (at : ℕ) (line : List ℕ) where
  module _ (h : at + 89 ≤ length d) where
    pub ample_length : ample_fitted d at line ≡ length line
    unfolding ample_fitted
    ample_length = cond_yes (length line) 0 (le-leb (at + 89) (length d) h)

    pub ample_bytes : ample_placed d at line ≡ put d at line
    unfolding ample_placed
    ample_bytes = cond_yes (put d at line) d (le-leb (at + 89) (length d) h)

  module _ (h : length d < at + 89) where
    pub scant_length : ample_fitted d at line ≡ 0
    unfolding ample_fitted
    scant_length = cond_no (length line) 0 (lt-leb (at + 89) (length d) h)

    pub scant_bytes : ample_placed d at line ≡ d
    unfolding ample_placed
    scant_bytes = cond_no (put d at line) d (lt-leb (at + 89) (length d) h)

  -- the code asked for room, r
  module _ (r : Bool) (e : r ≡ leb (at + 89) (length d)) (t : not r ≡ true) where
    pub no_room_length : 0 ≡ ample_fitted d at line
    no_room_length = sym (scant_length (ends_out r at 89 (length d) e t))

    pub no_room_bytes : d ≡ ample_placed d at line
    no_room_bytes = sym (scant_bytes (ends_out r at 89 (length d) e t))

-- ---- the bytes of its first field, and those that are written for it

module _ (digits : List ℕ) (len n : ℕ) where
  first_kept : is_kept (length digits) len ≡ true → first_written digits len n ≡ take 8 digits
  unfolding first_written
  first_kept h = cond_yes (take 8 digits) (decimal_of n) h

  first_none : is_kept (length digits) len ≡ false → first_written digits len n ≡ decimal_of n
  unfolding first_written
  first_none h = cond_no (take 8 digits) (decimal_of n) h

  length_kept : is_kept (length digits) len ≡ true → length (counted digits len n) ≡ len
  length_kept h = ap length (counted_kept digits len n h) ∙ length-take-le len digits (omega (arith, kept_short (length digits) len h, kept_room (length digits) len h))

  module _ (h : n < 2 ^ 64) where
    -- both are at most 20
    few : (m : ℕ) → (is_kept (length digits) len ≡ true → m ≤ 8) → length (cond (is_kept (length digits) len) (take m digits) (decimal_of n)) ≤ 20
    few m f = of_cond (λ (s : List ℕ). length s ≤ 20) (is_kept (length digits) len) (λ k. omega (arith, f k, length-take m digits)) (λ k. length_le 19 n (omega arith))

    counted_few : length (counted digits len n) ≤ 20
    unfolding counted
    counted_few = few len (kept_short (length digits) len)

    first_few : length (first_written digits len n) ≤ 20
    unfolding first_written
    first_few = few 8 (λ k. omega arith)

    -- a piece of 8 bytes or more, put behind the field, covers the others
    put_first : (d : List ℕ) (at : ℕ) (f : List ℕ) → at + 20 ≤ length d → 8 ≤ length f
        → put (put d at (first_written digits len n)) (at + length (counted digits len n)) f ≡ put d at (counted digits len n ++ f)
    put_first d at f room l =
        by_test (is_kept (length digits) len)
        (λ k.
        let short = kept_short (length digits) len k in
        let eight : length (take 8 digits) ≡ 8 = length-take-le 8 digits (kept_room (length digits) len k) in
        rw (length_kept k, first_kept k, counted_kept digits len n k)
        (put_over d at len (take 8 digits) f (omega arith) (omega arith) (omega arith) ∙ ap (λ (s : List ℕ). put d at (s ++ f)) (take-take len 8 digits short)))
        (λ k.
        let long = ap length (counted_none digits len n k) in
        rw (first_none k, counted_none digits len n k)
        (put_put d at (at + length (decimal_of n)) (decimal_of n) f refl (omega (arith, counted_few))))

  -- the code asked whether digits are kept, k
  module _ (k : Bool) (e : k ≡ is_kept (length digits) len) (d : List ℕ) (at : ℕ) (room : at + 20 ≤ length d) where
    -- none are: the digits of n were written
    module _ (t : not k ≡ true) where
      none : is_kept (length digits) len ≡ false
      none = sym e ∙ not-true k t

      pub made_room : Fits w64 n → at + length (decimal_of n) ≤ length d
      made_room f = omega (arith, length_le 19 n (omega arith))

      module _ (p : ℕ) (d₁ : List ℕ) (w : Wrote d at (decimal_of n) p d₁) where
        pub made_place : p ≡ at + length (counted digits len n)
        made_place = w.place ∙ ap (λ (s : List ℕ). at + length s) (sym (counted_none digits len n none))

        pub made_bytes : d₁ ≡ put d at (first_written digits len n)
        made_bytes = w.bytes ∙ ap (put d at) (sym (first_none none))

    -- they are: eight bytes were written
    module _ (t : not k ≡ false) where
      some : is_kept (length digits) len ≡ true
      some = asked_kept (length digits) len k e t

      pub number_room : at + len ≤ length d
      number_room = omega (arith, kept_short (length digits) len some)

      pub number_place : at + len ≡ at + length (counted digits len n)
      number_place = ap (λ (m : ℕ). at + m) (sym (length_kept some))

      module _ (q : ℕ) (d₁ : List ℕ) (w : Wrote d at (take 8 digits) q d₁) where
        -- the eight bytes were written
        pub eight_put : d₁ ≡ put d at (first_written digits len n)
        eight_put = w.bytes ∙ ap (put d at) (sym (first_kept some))

      pub eight_enough : 8 ≤ length digits
      eight_enough = kept_room (length digits) len some

      pub eight_room : at + length (take 8 digits) ≤ length d
      eight_room = let e : length (take 8 digits) ≡ 8 = length-take-le 8 digits (kept_room (length digits) len some) in omega arith

-- ---- the line

module _ (digits : List ℕ) (len n number : ℕ) (first : ℤ) (second accepted rejected : ℕ) where
  -- where the digits are those of n, it is the line of n
  pub counted_line : counted digits len n ≡ decimal_of n → line_with (counted digits len n) number first second accepted rejected ≡ line_of n number first second accepted rejected
  counted_line e = ap (λ (s : List ℕ). line_with s number first second accepted rejected) e ∙ sym (line_with_lem number first second accepted rejected n)

  -- the code found room, r
  module _ (d : List ℕ) (at : ℕ) (r : Bool) (e : r ≡ leb (at + 89) (length d)) (t : not r ≡ false) where
    inside : at + 89 ≤ length d
    inside = ends_in r at 89 (length d) e t

    pub first_room : at + 20 ≤ length d
    first_room = omega (arith, inside)

    -- the first field was written, and then the tail over the bytes behind it
    module _ (p : ℕ) (d₁ : List ℕ) (u : p ≡ at + length (counted digits len n)) (v : d₁ ≡ put d at (first_written digits len n)) (f : Fits w64 n) where
      pub tail_room : p + 69 ≤ length d₁
      tail_room =
          let few = counted_few digits len n (omega arith) in
          let long : length d₁ ≡ length d = ap length v ∙ length_put d at (first_written digits len n) (omega (arith, inside, first_few digits len n (omega arith))) in
          omega (arith, inside)

      module _ (q : ℕ) (d₂ : List ℕ) (w : Wrote d₁ p (tail_of number first second accepted rejected) q d₂) where
        pub over_length : q - at ≡ ample_fitted d at (line_with (counted digits len n) number first second accepted rejected)
        over_length =
            let l : q - at ≡ length (line_with (counted digits len n) number first second accepted rejected) =
            omega (arith, w.place, length_with number first second accepted rejected (counted digits len n)) in
            l ∙ sym (ample_length d at (line_with (counted digits len n) number first second accepted rejected) inside)

        pub over_bytes : d₂ ≡ ample_placed d at (line_with (counted digits len n) number first second accepted rejected)
        over_bytes =
            w.bytes
            ∙ ap₂ (λ (b : List ℕ) (m : ℕ). put b m (tail_of number first second accepted rejected)) v u
            ∙ put_first digits len n (omega arith) d at (tail_of number first second accepted rejected) first_room (tail_some number first second accepted rejected)
            ∙ ap (put d at) (sym (with_tail number first second accepted rejected (counted digits len n)))
            ∙ sym (ample_bytes d at (line_with (counted digits len n) number first second accepted rejected) inside)
