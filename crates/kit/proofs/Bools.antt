-- Tests: what `&&`, `||` and a choice by a test say, and how code that asks one test after the other computes them.
use mathlib.Core.Path.{◌≡◌, refl, sym, ◌∙◌}
use mathlib.Core.Bool.{Bool, true, false, not, ◌&&◌, ◌||◌, cond, false≢true}
use Prim.Native.Nat.{ℕ, ◌≤◌, ◌<◌}
use native.Mathlib.Omega.{arith}
use lib.Dec.{eqb, ltb, leb}
use borrow.Author.Tests.{eqb-true, eqb-false, ltb-true, ltb-false, leb-true, leb-false, le-leb}
use Rattle.kit.specs.Range.{implies}

-- ---- what a test says

-- no test is both true and false
pub clash : {P : Type 0} {b : Bool} → b ≡ true → b ≡ false → P
clash t f = absurd (false≢true (sym f ∙ t))

pub and_left : (a b : Bool) → (a && b) ≡ true → a ≡ true
and_left true b e = refl
and_left false b e = e

pub and_right : (a b : Bool) → (a && b) ≡ true → b ≡ true
and_right true b e = e
and_right false true e = refl
and_right false false e = e

pub both_true : {a b : Bool} → a ≡ true → b ≡ true → (a && b) ≡ true
both_true p q = rw (p, q)

pub or_left : (a b : Bool) → (a || b) ≡ false → a ≡ false
or_left true b e = e
or_left false b e = refl

pub or_right : (a b : Bool) → (a || b) ≡ false → b ≡ false
or_right true true e = e
or_right true false e = refl
or_right false b e = e

pub neither : {a b : Bool} → a ≡ false → b ≡ false → (a || b) ≡ false
neither p q = rw (p, q)

pub implied : (a b : Bool) → implies a b ≡ true → a ≡ true → b ≡ true
implied true b e t = e
implied false b e t = clash t refl

pub implying : (a : Bool) {b : Bool} → (a ≡ true → b ≡ true) → implies a b ≡ true
implying true h = h refl
implying false h = refl

-- `implies` as a test that `&&` leaves as it is
pub implied_and : (a b : Bool) → implies a b ≡ true → (a && b) ≡ a
implied_and true b e = e
implied_and false b e = refl

pub and_implied : (a b : Bool) → (a && b) ≡ a → implies a b ≡ true
and_implied true b e = e
and_implied false b e = refl

-- two tests that say the same of each other are the same
pub same_test : (a b : Bool) → (a ≡ true → b ≡ true) → (b ≡ true → a ≡ true) → a ≡ b
same_test true b f g = sym (f refl)
same_test false true f g = g refl
same_test false false f g = refl

-- a number up to a is up to a larger b
pub up_to : (x a b : ℕ) → a ≤ b → leb x a ≡ true → leb x b ≡ true
up_to x a b h e = let l : x ≤ a = leb-true x a e in le-leb x b (omega arith)

-- ---- by cases on a test, with its equation

pub by_test : {P : Type 0} (b : Bool) → (b ≡ true → P) → (b ≡ false → P) → P
by_test true f g = f refl
by_test false f g = g refl

pub by_eq : {P : Type 0} (a b : ℕ) → (a ≡ b → P) → ((a ≡ b → ⊥) → P) → P
by_eq a b f g = by_test (eqb a b) (λ e. f (eqb-true a b e)) (λ e. g (eqb-false a b e))

pub by_lt : {P : Type 0} (a b : ℕ) → (a < b → P) → (b ≤ a → P) → P
by_lt a b f g = by_test (ltb a b) (λ e. f (ltb-true a b e)) (λ e. g (ltb-false a b e))

pub by_le : {P : Type 0} (a b : ℕ) → (a ≤ b → P) → (b < a → P) → P
by_le a b f g = by_test (leb a b) (λ e. f (leb-true a b e)) (λ e. g (leb-false a b e))

-- what holds of both sides of a choice holds of the choice
pub of_cond : {A : Type 0} (P : A → Type 0) (b : Bool) {x y : A} → (b ≡ true → P x) → (b ≡ false → P y) → P (cond b x y)
of_cond P true f g = f refl
of_cond P false f g = g refl

-- a choice whose test is known
module _ {A : Type 0} {b : Bool} (x y : A) where
  pub cond_yes : b ≡ true → cond b x y ≡ x
  cond_yes e = rw e

  pub cond_no : b ≡ false → cond b x y ≡ y
  cond_no e = rw e

-- ---- code that asks f(..) first: f is what the call gave, a what it means

module _ {f a : Bool} (e : f ≡ a) where
  -- g was asked
  pub and_then : {g b : Bool} → f ≡ true → g ≡ b → g ≡ (a && b)
  and_then t h = rw (← e, t, h)

  pub or_then : {g b : Bool} → f ≡ false → g ≡ b → g ≡ (a || b)
  or_then t h = rw (← e, t, h)

  -- g was not asked
  pub and_stop : (b : Bool) → f ≡ false → f ≡ (a && b)
  and_stop b t = rw (← e, t)

  pub or_stop : (b : Bool) → f ≡ true → f ≡ (a || b)
  or_stop b t = rw (← e, t)

  -- and the code answered at once
  pub and_return : (b : Bool) → f ≡ false → false ≡ (a && b)
  and_return b t = rw (← e, t)

  pub or_return : (b : Bool) → f ≡ true → true ≡ (a || b)
  or_return b t = rw (← e, t)

  -- `if !f(..) { return false; }`
  pub and_refuse : (b : Bool) → not f ≡ true → false ≡ (a && b)
  and_refuse b t = rw (← e) (refused f b t)
    where
      refused : (f b : Bool) → not f ≡ true → false ≡ (f && b)
      refused true b t = clash t refl
      refused false b t = refl

  pub and_passed : {g b : Bool} → not f ≡ false → g ≡ b → g ≡ (a && b)
  and_passed {g} {b} t h = rw (← e) (passed f t)
    where
      passed : (f : Bool) → not f ≡ false → g ≡ (f && b)
      passed true t = h
      passed false t = clash refl t

  -- a test f picks a case
  pub cond_then : {A : Type 0} {x y : A} (z : A) → f ≡ true → x ≡ y → x ≡ cond a y z
  cond_then z t h = rw (← e, t) h

  pub cond_else : {A : Type 0} {x z : A} (y : A) → f ≡ false → x ≡ z → x ≡ cond a y z
  cond_else y t h = rw (← e, t) h

-- ---- a test that is made of other tests: what each of them means goes into what it means

-- r asks t first, which means a
pub and_means : {r t a : Bool} (b : Bool) → r ≡ (t && b) → t ≡ a → r ≡ (a && b)
and_means b e f = rw (e, f)

-- r asks t and then u, which mean a and b
pub implies_means : {r t u a b : Bool} (d : Bool) → r ≡ implies (t && u) d → t ≡ a → u ≡ b → r ≡ implies (a && b) d
implies_means d e f g = rw (e, f, g)

-- r compares x, which is a
pub eqb_means : {r : Bool} {x a : ℕ} (b : ℕ) → r ≡ eqb x b → x ≡ a → r ≡ eqb a b
eqb_means b e f = rw (← f) e

-- ---- the rulesets

-- for a chain of early returns, `&&` and `||`
pub ruleset tests = (and_then, and_stop, or_then, or_stop, cond_then, cond_else)

-- for a chain of `if !f(..) { return false; }`
pub ruleset refusals = (and_refuse, and_passed)
