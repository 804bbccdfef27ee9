-- What stands in a list, `a among l`: at its front, or further back.
use Prim.Native.Nat.{ℕ}
use mathlib.Core.Path.{◌≡◌}
use mathlib.Core.Logic.{⊎_elim}
use mathlib.Core.List.Memᴰ
use mathlib.Core.List.{List, [], ◌∷◌}
use native.Mathlib.Omega.{arith}
use Rattle.kit.specs.Lists.{◌among◌}
pub use mathlib.Core.List.Memᴰ.{head as here}
pub use mathlib.Core.List.Memᴰ.{tail as further}

-- nothing stands in the empty list
pub in_none : {A P : Type 0} {a : A} → a among [] → P
in_none m = absurd (Memᴰ.not-nil m)

-- by cases: at the front, or further back
pub in_either : {A P : Type 0} {a b : A} {l : List A} → a among b ∷ l → (a ≡ b → P) → (a among l → P) → P
in_either m f g = ⊎_elim f g (Memᴰ.cases_cons m)

-- what is not at the front is further back; that it is not is a proof of 0 ≡ 1
pub not_front : {A : Type 0} {a b : A} {l : List A} → (a ≡ b → ◌≡◌ {A = ℕ} 0 1) → a among b ∷ l → a among l
not_front other m = in_either m (λ e. let z = other e in absurd (let y : ⊥ = omega arith in y)) (λ k. k)
