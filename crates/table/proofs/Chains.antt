-- Code that asks one test after the other, with numbers compared in the code itself; kit's `refusals` has the tests that are calls.
use mathlib.Core.Path.{◌≡◌}
use mathlib.Core.Bool.{Bool, true, false, not, ◌&&◌, cond}
use Prim.Native.Nat.{ℕ, ◌<◌, ◌≤◌}
use borrow.Author.Tests.{not-true, not-false, eq-eqb, ne_eqb, le-leb, lt-leb, lt-ltb, le-ltb}
use lib.Dec.{eqb, leb, ltb}
use lib.IntN.{ℤ}
use lib.Signed.{mag}
use mir.Facts.{to_z-of_z}
use mir.Syntax.{w32}
use mir.Val.{SFits, to_z, of_z}
use Rattle.kit.specs.Range.{implies}
use Rattle.kit.proofs.Bools.{and_refuse, and_passed}
use Rattle.table.specs.Parts.{value_right}

-- ---- `if x != y { return false; }`

pub ne_refuse : {x y : ℕ} (b : Bool) → (x ≡ y → ⊥) → false ≡ (eqb x y && b)
ne_refuse {x} {y} b h = rw (ne_eqb x y h)

pub ne_passed : {x y : ℕ} {g b : Bool} → x ≡ y → g ≡ b → g ≡ (eqb x y && b)
ne_passed {x} {y} h e = rw (eq-eqb x y h) e

-- ---- `if x == y { return false; }`

pub eq_refuse : {x y : ℕ} (b : Bool) → x ≡ y → false ≡ (not (eqb x y) && b)
eq_refuse {x} {y} b h = rw (eq-eqb x y h)

pub eq_passed : {x y : ℕ} {g b : Bool} → (x ≡ y → ⊥) → g ≡ b → g ≡ (not (eqb x y) && b)
eq_passed {x} {y} h e = rw (ne_eqb x y h) e

-- ---- `if y < x { return false; }`

pub lt_refuse : {x y : ℕ} (b : Bool) → y < x → false ≡ (leb x y && b)
lt_refuse {x} {y} b h = rw (lt-leb x y h)

pub lt_passed : {x y : ℕ} {g b : Bool} → x ≤ y → g ≡ b → g ≡ (leb x y && b)
lt_passed {x} {y} h e = rw (le-leb x y h) e

-- ---- `if y <= x { return false; }`

pub le_refuse : {x y : ℕ} (b : Bool) → y ≤ x → false ≡ (ltb x y && b)
le_refuse {x} {y} b h = rw (le-ltb x y h)

pub le_passed : {x y : ℕ} {g b : Bool} → x < y → g ≡ b → g ≡ (ltb x y && b)
le_passed {x} {y} h e = rw (lt-ltb x y h) e

-- ---- `if x <= y { return false; }`, where x and y are what two calls gave

pub many_refuse : {x y a b : ℕ} (d : Bool) → x ≡ a → y ≡ b → x ≤ y → false ≡ (not (leb a b) && d)
many_refuse {x} {y} d e f h = rw (← e, ← f, le-leb x y h)

pub many_passed : {x y a b : ℕ} {g d : Bool} → x ≡ a → y ≡ b → y < x → g ≡ d → g ≡ (not (leb a b) && d)
many_passed {x} {y} e f h k = rw (← e, ← f, lt-leb x y h) k

pub ruleset counted = (many_refuse, many_passed)

-- ---- `if u { return false; }`

pub if_refuse : {u : Bool} (b : Bool) → u ≡ true → false ≡ (not u && b)
if_refuse b h = rw h

pub if_passed : {u g b : Bool} → u ≡ false → g ≡ b → g ≡ (not u && b)
if_passed h e = rw h e

pub ruleset refused = (lt_refuse, lt_passed, le_refuse, le_passed, ne_refuse, ne_passed, eq_refuse, eq_passed, if_refuse, if_passed, and_refuse, and_passed)

-- ---- `if t { return g; } true`

pub asked : {t g b : Bool} → t ≡ true → g ≡ b → g ≡ implies t b
asked h e = rw h e

-- ---- `if x == y { return g; } true`

pub eq_asked : {x y : ℕ} {g b : Bool} → x ≡ y → g ≡ b → g ≡ implies (eqb x y) b
eq_asked {x} {y} h e = rw (eq-eqb x y h) e

pub eq_free : {x y : ℕ} (b : Bool) → (x ≡ y → ⊥) → true ≡ implies (eqb x y) b
eq_free {x} {y} b h = rw (ne_eqb x y h)

-- ---- `if w <= y { return g; } true`, where w is x as an index

pub le_asked : {w x y : ℕ} {g b : Bool} → w ≡ x → w ≤ y → g ≡ b → g ≡ implies (leb x y) b
le_asked {w} {x} {y} d h e = rw (← d, le-leb w y h) e

pub le_free : {w x y : ℕ} (b : Bool) → w ≡ x → y < w → true ≡ implies (leb x y) b
le_free {w} {x} {y} b d h = rw (← d, lt-leb w y h)

pub ruleset askings = (eq_asked, eq_free, le_asked, le_free)

-- ---- `if x == y { return g; } h`

pub eq_then : {x y : ℕ} {g b : Bool} (d : Bool) → x ≡ y → g ≡ b → g ≡ cond (eqb x y) b d
eq_then {x} {y} d h e = rw (eq-eqb x y h) e

pub eq_else : {x y : ℕ} {g d : Bool} (b : Bool) → (x ≡ y → ⊥) → g ≡ d → g ≡ cond (eqb x y) b d
eq_else {x} {y} b h e = rw (ne_eqb x y h) e

-- ---- `if !u { return g; } h`

pub not_then : (u : Bool) {g d : Bool} (b : Bool) → not u ≡ true → g ≡ d → g ≡ cond u b d
not_then u b h e = rw (not-true u h) e

pub not_else : (u : Bool) {g b : Bool} (d : Bool) → not u ≡ false → g ≡ b → g ≡ cond u b d
not_else u d h e = rw (not-false u h) e

pub ruleset choices = (eq_then, eq_else, not_then, not_else)

-- ---- what a call was given goes into what it means

-- a signed number, of which the code knows that it fits
module _ {r : Bool} {v : ℤ} where
  pub value_means : (stamp : ℕ) → r ≡ value_right stamp (to_z w32 (of_z w32 v)) → SFits w32 v → r ≡ value_right stamp v
  value_means stamp e f = rw (to_z-of_z f) at e

-- the same of an element of an array
pub sized : {v : ℤ} → mag v < 2147483648 → SFits w32 v
sized h = record { sfits = h }
