-- One law set for each kind of loop over 0..n. The invariant is a record, what the turns before the i-th found; `r` is what the turn's test
-- gave, `r ≡ p i` what it means. Answer every need of such a loop by `search` with the kind's ruleset, at the end of this file.
use mathlib.Core.Path.{◌≡◌, refl, sym, ap, ◌∙◌}
use mathlib.Core.Bool.{Bool, true, false, not, cond, ◌||◌}
use Prim.Native.Nat.{ℕ, ◌+◌, ◌≤◌, ◌<◌, max}
use borrow.Author.Tests.{not-true, not-false}
use native.Mathlib.Numerals.{add-one}
use native.Mathlib.Omega.{arith}
use mir.Syntax.{w32}
use mir.Val.{Fits}
use Rattle.kit.specs.Range.{any, all, one, number, first, largest}
use Rattle.kit.proofs.Ranges.{any_suc, all_suc, number_suc, largest_suc, any_hit, all_miss, first_is, first_none, one_le}

-- ---- `for i in 0..n { if test(i) { return true; } } false` computes `any n p`

pub record Missed (n : ℕ) (p : ℕ → Bool) (i : ℕ) : Type 0 where
  pub in_reach : i ≤ n
  pub none : any i p ≡ false

pub missed_none : {n : ℕ} {p : ℕ → Bool} → Missed n p 0
unfolding any
missed_none = record { in_reach = omega arith; none = refl }

pub missed_more : {n : ℕ} {p : ℕ → Bool} {i : ℕ} {r : Bool} → Missed n p i → i < n → r ≡ p i → r ≡ false → Missed n p (i + 1)
missed_more {n} {p} {i} m l e f = record { in_reach = omega arith; none = rw (add-one, any_suc, m.none, sym e ∙ f) }

pub any_found : {n : ℕ} {p : ℕ → Bool} {i : ℕ} {r : Bool} → Missed n p i → i < n → r ≡ p i → r ≡ true → true ≡ any n p
any_found {n} {p} {i} m l e f = sym (any_hit n i p l (sym e ∙ f))

pub any_over : {n : ℕ} {p : ℕ → Bool} {i : ℕ} → Missed n p i → n ≤ i → false ≡ any n p
any_over {n} {p} {i} m l = let e : n ≡ i = omega (arith, m.in_reach) in rw (e, m.none)

-- ---- `for i in 0..n { if test(i) { return false; } } true` computes `not (any n p)`; its invariant is Missed

pub none_found : {n : ℕ} {p : ℕ → Bool} {i : ℕ} {r : Bool} → Missed n p i → i < n → r ≡ p i → r ≡ true → false ≡ not (any n p)
none_found m l e f = ap not (any_found m l e f)

pub none_over : {n : ℕ} {p : ℕ → Bool} {i : ℕ} → Missed n p i → n ≤ i → true ≡ not (any n p)
none_over m l = ap not (any_over m l)

-- ---- `for i in 0..n { if !test(i) { return false; } } true` computes `all n p`

pub record Held (n : ℕ) (p : ℕ → Bool) (i : ℕ) : Type 0 where
  pub in_reach : i ≤ n
  pub every : all i p ≡ true

pub held_none : {n : ℕ} {p : ℕ → Bool} → Held n p 0
unfolding all
held_none = record { in_reach = omega arith; every = refl }

pub held_more : {n : ℕ} {p : ℕ → Bool} {i : ℕ} {r : Bool} → Held n p i → i < n → r ≡ p i → not r ≡ false → Held n p (i + 1)
held_more {n} {p} {i} m l e f = record { in_reach = omega arith; every = rw (add-one, all_suc, m.every, sym e ∙ not-false _ f) }

pub all_failed : {n : ℕ} {p : ℕ → Bool} {i : ℕ} {r : Bool} → Held n p i → i < n → r ≡ p i → not r ≡ true → false ≡ all n p
all_failed {n} {p} {i} m l e f = sym (all_miss n i p l (sym e ∙ not-true _ f))

pub all_over : {n : ℕ} {p : ℕ → Bool} {i : ℕ} → Held n p i → n ≤ i → true ≡ all n p
all_over {n} {p} {i} m l = let e : n ≡ i = omega (arith, m.in_reach) in rw (e, m.every)

-- ---- `for i in 0..n { if test(i) { return i; } } n` computes `first n p`; its invariant is Missed

pub first_found : {n : ℕ} {p : ℕ → Bool} {i : ℕ} {r : Bool} → Missed n p i → i < n → r ≡ p i → r ≡ true → i ≡ first n p
first_found {n} {p} {i} m l e f = sym (first_is n i p m.none l (sym e ∙ f))

pub first_over : {n : ℕ} {p : ℕ → Bool} {i : ℕ} → Missed n p i → n ≤ i → n ≡ first n p
first_over {n} {p} {i} m l = let e : i ≡ n = omega (arith, m.in_reach) in sym (first_none n p (rw e at m.none))

-- ---- `for i in 0..n { k += u64::from(test(i)); } k` computes `number n p`

pub record Counted (n : ℕ) (p : ℕ → Bool) (i k : ℕ) : Type 0 where
  pub in_reach : i ≤ n
  pub few : k ≤ i
  pub so_far : k ≡ number i p

pub counted_none : {n : ℕ} {p : ℕ → Bool} → Counted n p 0 0
unfolding number
counted_none = record { in_reach = omega arith; few = omega arith; so_far = refl }

pub counted_more : {n : ℕ} {p : ℕ → Bool} {i k d : ℕ} {r : Bool} → Counted n p i k → i < n → r ≡ p i → d ≡ one r → Counted n p (i + 1) (k + d)
counted_more {n} {p} {i} {k} {d} {r} c l e f =
    record {
      in_reach = omega arith;
      few = rw f (omega (arith, c.few, one_le r));
      so_far = rw (add-one i, number_suc, ← e, ← f, c.so_far);
    }

pub counted_over : {n : ℕ} {p : ℕ → Bool} {i k : ℕ} → Counted n p i k → n ≤ i → k ≡ number n p
counted_over {n} {p} {i} {k} c l = let e : n ≡ i = omega (arith, c.in_reach) in rw e c.so_far

-- a turn's sum fits the count's type, where n does
pub counted_fits : {n : ℕ} {p : ℕ → Bool} {i k d : ℕ} (r : Bool) → Counted n p i k → i < n → n < 4294967296 → d ≡ one r → Fits w32 (k + d)
counted_fits {n} {p} {i} {k} {d} r c h few e = record { fits = omega (arith, c.few, one_le r) }

-- ---- `for i in 0..n { if test(i) { if m < f(i) { m = f(i); } } } m` computes `largest n p f`; the turn as a call gives d

pub record Topped (n : ℕ) (p : ℕ → Bool) (f : ℕ → ℕ) (i m : ℕ) : Type 0 where
  pub in_reach : i ≤ n
  pub so_far : m ≡ largest i p f

pub topped_none : {n : ℕ} {p : ℕ → Bool} {f : ℕ → ℕ} → Topped n p f 0 0
unfolding largest
topped_none = record { in_reach = omega arith; so_far = refl }

pub topped_more : {n : ℕ} {p : ℕ → Bool} {f : ℕ → ℕ} {i m d : ℕ} {r : Bool} → Topped n p f i m → i < n → r ≡ p i → d ≡ cond r (max m (f i)) m → Topped n p f (i + 1) d
topped_more {n} {p} {f} {i} {m} {d} t l e g = record { in_reach = omega arith; so_far = rw (add-one i, largest_suc, ← t.so_far, ← e) g }

pub topped_over : {n : ℕ} {p : ℕ → Bool} {f : ℕ → ℕ} {i m : ℕ} → Topped n p f i m → n ≤ i → m ≡ largest n p f
topped_over {n} {p} {f} {i} {m} t l = let e : n ≡ i = omega (arith, t.in_reach) in rw e t.so_far

-- ---- the rulesets, one for a kind of loop

pub ruleset somes = (missed_none, missed_more, any_found, any_over, arith)

pub ruleset nones = (missed_none, missed_more, none_found, none_over, arith)

pub ruleset alls = (held_none, held_more, all_failed, all_over, arith)

pub ruleset firsts = (missed_none, missed_more, first_found, first_over, arith)

pub ruleset counts = (counted_none, counted_more, counted_over, arith)

pub ruleset tops = (topped_none, topped_more, topped_over, arith)

-- ---- loops that note whether some one passed, and go on to the end

pub noted_none : (p : ℕ → Bool) → false ≡ any 0 p
unfolding any
noted_none p = refl

pub noted_more : (p : ℕ → Bool) {i : ℕ} {b r : Bool} → b ≡ any i p → r ≡ p i → (b || r) ≡ any (i + 1) p
noted_more p {i} e f = rw (add-one, any_suc i p, e, f) refl

pub noted_over : (p : ℕ → Bool) {n i : ℕ} {b : Bool} → b ≡ any i p → i ≤ n → n ≤ i → b ≡ any n p
noted_over p {n} {i} e h l = let s : i ≡ n = omega arith in rw s at e
