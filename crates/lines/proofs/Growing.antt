-- One more in a number that is kept as digits.
use mathlib.Core.Path.{◌≡◌, refl, sym, ap, ap₂, ◌∙◌}
use mathlib.Core.Bool.{true, false, cond}
use mathlib.Core.List.{List, [], ◌∷◌, ◌++◌}
use Prim.Native.Nat.{ℕ, zero, suc, ◌+◌, ◌-◌, ◌/◌, ◌%◌, ◌≤◌, ◌<◌}
use native.Mathlib.Omega.{arith}
use borrow.Author.Tests.{lt-ltb, le-ltb}
use lib.Dec.{ltb}
use lib.ListN.{length, take, get_or, set, length-append, length-set}
use lib.Seq.{length-take-le, get_or-take, get_or-set_same, get_or-set_other, take-suc, take-set-lt, take-set-le, take-take, take_at, set_at, get_or_at}
use Rattle.kit.proofs.Bools.{by_lt, clash, of_cond}
use Rattle.lines.specs.Lines.{digit, decimal_of}
use Rattle.lines.specs.Counts.{is_grown, one_more}
use Rattle.lines.proofs.Decimals.{decimal_small, decimal_more}

-- ---- the digits of the next number

-- all digits but the last one: they stay where the last one is below 9
head_of : ℕ → List ℕ
head_of n = cond (ltb n 10) [] (decimal_of (n / 10))

head_last : (n : ℕ) → decimal_of n ≡ head_of n ++ (digit (n % 10) ∷ [])
unfolding head_of
head_last n =
    by_lt n 10
    (λ h. let e : n % 10 ≡ n = omega arith in rw (lt-ltb n 10 h, e) (decimal_small n h))
    (λ h. rw (le-ltb n 10 h) (decimal_more n h))

head_next : (n : ℕ) → n % 10 < 9 → head_of (n + 1) ≡ head_of n
unfolding head_of
head_next n l =
    by_lt n 10
    (λ h. rw (lt-ltb n 10 h, lt-ltb (n + 1) 10 (omega arith)))
    (λ h. let e : (n + 1) / 10 ≡ n / 10 = omega arith in rw (le-ltb n 10 h, le-ltb (n + 1) 10 (omega arith), e))

head_none : (n : ℕ) → n < 10 → head_of n ≡ []
unfolding head_of
head_none n h = rw (lt-ltb n 10 h)

head_some : (n : ℕ) → 10 ≤ n → head_of n ≡ decimal_of (n / 10)
unfolding head_of
head_some n h = rw (le-ltb n 10 h)

-- where the last digit is below 9, it alone grows
last_grows : (n k : ℕ) → length (decimal_of n) ≡ suc k → get_or (decimal_of n) k 0 < 57 → set (decimal_of n) k (get_or (decimal_of n) k 0 + 1) ≡ decimal_of (n + 1)
last_grows n k e h =
    let p : List ℕ = head_of n in
    let b : ℕ = digit (n % 10) in
    let long : length p ≡ k = omega (arith, ap length (head_last n), length-append p (b ∷ [])) in
    let last : get_or (decimal_of n) k 0 ≡ b = ap (λ (l : List ℕ). get_or l k 0) (head_last n) ∙ get_or_at p b [] 0 k long in
    let small : n % 10 < 9 = omega arith in
    let next : b + 1 ≡ digit ((n + 1) % 10) = omega arith in
    ap₂ (λ (l : List ℕ) (x : ℕ). set l k (x + 1)) (head_last n) last
    ∙ set_at p b [] (b + 1) k long
    ∙ ap₂ (λ (l : List ℕ) (x : ℕ). l ++ (x ∷ [])) (sym (head_next n small)) next
    ∙ sym (head_last (n + 1))

-- where it is 9, it is 0 and the number of those before it grows
last_turns : (n : ℕ) → 10 ≤ n → n % 10 ≡ 9 → decimal_of (n / 10 + 1) ++ (48 ∷ []) ≡ decimal_of (n + 1)
last_turns n h nine =
    let e : n / 10 + 1 ≡ (n + 1) / 10 = omega arith in
    let f : 48 ≡ digit ((n + 1) % 10) = omega arith in
    ap₂ (λ (k x : ℕ). decimal_of k ++ (x ∷ [])) e f ∙ sym (decimal_more (n + 1) (omega arith))

-- ---- a turn: the last digit grows, or it is a nine

module _ (k : ℕ) (digits : List ℕ) where
  module _ (l : get_or digits k 0 < 57) where
    pub more_last : one_more (suc k) digits ≡ set digits k (get_or digits k 0 + 1)
    unfolding one_more
    more_last = rw (lt-ltb (get_or digits k 0) 57 l)

    pub grown_last : is_grown (suc k) digits ≡ true
    unfolding is_grown
    grown_last = rw (lt-ltb (get_or digits k 0) 57 l)

  module _ (l : 57 ≤ get_or digits k 0) where
    pub more_before : one_more (suc k) digits ≡ one_more k (set digits k 48)
    unfolding one_more
    more_before = rw (le-ltb (get_or digits k 0) 57 l)

    pub grown_before : is_grown (suc k) digits ≡ is_grown k (set digits k 48)
    unfolding is_grown
    grown_before = rw (le-ltb (get_or digits k 0) 57 l)

pub none_more : (digits : List ℕ) → one_more 0 digits ≡ digits
unfolding one_more
none_more digits = refl

pub none_grown : (digits : List ℕ) → is_grown 0 digits ≡ false
unfolding is_grown
none_grown digits = refl

-- as many bytes as before, and those behind the number as they were
pub more_length : (k : ℕ) (digits : List ℕ) → length (one_more k digits) ≡ length digits
unfolding one_more
more_length zero digits = refl
more_length (suc k) digits =
    of_cond (λ (d : List ℕ). length d ≡ length digits) (ltb (get_or digits k 0) 57) (λ e. length-set digits k (get_or digits k 0 + 1))
    (λ e. more_length k (set digits k 48) ∙ length-set digits k 48)

more_behind : (k i : ℕ) (digits : List ℕ) → k ≤ i → get_or (one_more k digits) i 0 ≡ get_or digits i 0
unfolding one_more
more_behind zero i digits h = refl
more_behind (suc k) i digits h =
    of_cond (λ (d : List ℕ). get_or d i 0 ≡ get_or digits i 0) (ltb (get_or digits k 0) 57) (λ e. get_or-set_other digits k i (get_or digits k 0 + 1) 0 (λ z. omega arith))
    (λ e. more_behind k i (set digits k 48) (omega arith) ∙ get_or-set_other digits k i 48 0 (λ z. omega arith))

-- ---- so the digits of n become those of n + 1

pub next_number : (k n : ℕ) (digits : List ℕ) → k ≤ length digits → take k digits ≡ decimal_of n → is_grown k digits ≡ true → take k (one_more k digits) ≡ decimal_of (n + 1)
next_number zero n digits h e g = clash g (none_grown digits)
next_number (suc k) n digits h e g =
    by_lt (get_or digits k 0) 57
    (λ l.
    ap (take (suc k)) (more_last k digits l) ∙ take-set-lt (suc k) digits k (get_or digits k 0 + 1) (omega arith)
    ∙ ap₂ (λ (s : List ℕ) (x : ℕ). set s k (x + 1)) e (sym last) ∙ last_grows n k long (omega (arith, last)))
    (λ l.
    let grown : is_grown k (set digits k 48) ≡ true = sym (grown_before k digits l) ∙ g in
    let nine : n % 10 ≡ 9 = omega (arith, last_is) in
    by_lt n 10
    (λ s. let z : k ≡ 0 = omega (arith, head_long, ap length (head_none n s)) in clash grown (rw z (none_grown _)))
    (λ b.
    ap (take (suc k)) (more_before k digits l)
    ∙ take-suc (one_more k (set digits k 48)) k 0 (rw (more_length k (set digits k 48), length-set digits k 48) h)
    ∙ ap₂ (λ (s : List ℕ) (x : ℕ). s ++ (x ∷ []))
    (next_number k (n / 10) (set digits k 48) (rw (length-set digits k 48) (omega arith)) (take-set-le k digits k 48 (omega arith) ∙ front ∙ head_some n b) grown)
    (more_behind k k (set digits k 48) (omega arith) ∙ get_or-set_same digits k 48 0 h)
    ∙ last_turns n b nine))
  where
    long : length (decimal_of n) ≡ suc k
    long = ap length (sym e) ∙ length-take-le (suc k) digits h

    last : get_or (decimal_of n) k 0 ≡ get_or digits k 0
    last = ap (λ (s : List ℕ). get_or s k 0) (sym e) ∙ get_or-take (suc k) digits k 0 (omega arith)

    head_long : length (head_of n) ≡ k
    head_long = omega (arith, long, ap length (head_last n), length-append (head_of n) (digit (n % 10) ∷ []))

    last_is : get_or digits k 0 ≡ digit (n % 10)
    last_is = sym last ∙ ap (λ (s : List ℕ). get_or s k 0) (head_last n) ∙ get_or_at (head_of n) (digit (n % 10)) [] 0 k head_long

    front : take k digits ≡ head_of n
    front = sym (take-take k (suc k) digits (omega arith)) ∙ ap (take k) (e ∙ head_last n) ∙ take_at (head_of n) (digit (n % 10) ∷ []) k head_long

-- ---- the loop from the last digit on: what is left to do with the first i digits is all that was to do

pub record Growing (digits₀ : List ℕ) (len : ℕ) (digits : List ℕ) (i : ℕ) : Type 0 where
  pub long : length digits ≡ length digits₀
  pub inside : i ≤ length digits
  pub more : one_more i digits ≡ one_more len digits₀
  pub grown : is_grown i digits ≡ is_grown len digits₀

module _ (digits₀ : List ℕ) (len : ℕ) (digits : List ℕ) (i : ℕ) (g : Growing digits₀ len digits i) where
  module _ (h : 0 < i) where
    pub growing_inside : i - 1 < length digits
    growing_inside = omega (arith, g.inside)

    turn : i ≡ suc (i - 1)
    turn = omega arith

    -- the digit before place i grows
    module _ (l : get_or digits (i - 1) 0 < 57) where
      pub growing_grew : true ≡ is_grown len digits₀
      growing_grew = sym (grown_last (i - 1) digits l) ∙ ap (λ (k : ℕ). is_grown k digits) (sym turn) ∙ g.grown

      pub growing_digits : set digits (i - 1) (get_or digits (i - 1) 0 + 1) ≡ one_more len digits₀
      growing_digits = sym (more_last (i - 1) digits l) ∙ ap (λ (k : ℕ). one_more k digits) (sym turn) ∙ g.more

    -- or is a nine
    pub growing_on : 57 ≤ get_or digits (i - 1) 0 → Growing digits₀ len (set digits (i - 1) 48) (i - 1)
    growing_on l = record {
      long = length-set digits (i - 1) 48 ∙ g.long;
      inside = rw (length-set digits (i - 1) 48) (omega (arith, growing_inside));
      more = sym (more_before (i - 1) digits l) ∙ ap (λ (k : ℕ). one_more k digits) (sym turn) ∙ g.more;
      grown = sym (grown_before (i - 1) digits l) ∙ ap (λ (k : ℕ). is_grown k digits) (sym turn) ∙ g.grown;
    }

  -- all were
  module _ (h : i ≤ 0) where
    over : i ≡ 0
    over = omega arith

    pub growing_none : false ≡ is_grown len digits₀
    growing_none = sym (none_grown digits) ∙ ap (λ (k : ℕ). is_grown k digits) (sym over) ∙ g.grown

    pub growing_over : digits ≡ one_more len digits₀
    growing_over = sym (none_more digits) ∙ ap (λ (k : ℕ). one_more k digits) (sym over) ∙ g.more
