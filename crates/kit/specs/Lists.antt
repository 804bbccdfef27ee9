-- Lists: what stands in them; made from their elements, changed place by place, with one place out, with a piece put in.
use Rattle.std.specs.Prelude.{ℕ, zero, suc, ◌+◌, cond, leb, length, take, drop}
use mathlib.Core.List.{List, [], ◌∷◌, ◌++◌, Memᴰ}

-- a stands in the list l
infix 4 ◌among◌
abbrev pub ◌among◌ : {A : Type 0} → A → List A → Type 0
a among l = Memᴰ a l

-- f 0, f 1, .., f (n - 1)
unfoldable pub listed : {A : Type 0} → ℕ → (ℕ → A) → List A
listed zero f = []
listed (suc n) f = f 0 ∷ listed n (λ i. f (suc i))

-- the first n elements of l, each changed by f of its place; the others stay
unfoldable pub changed : {A : Type 0} → ℕ → (ℕ → A → A) → List A → List A
changed zero f l = l
changed (suc n) f [] = []
changed (suc n) f (a ∷ l) = f 0 a ∷ changed n (λ i. f (suc i)) l

-- l without its place i: the later ones move up, and the last place holds d
unfoldable pub without : {A : Type 0} → A → List A → ℕ → List A
without d [] i = []
without d (a ∷ l) zero = l ++ (d ∷ [])
without d (a ∷ l) (suc i) = a ∷ without d l i

-- d with e in it from the place at on
unfoldable pub put : {A : Type 0} → List A → ℕ → List A → List A
put d at e = take at d ++ e ++ drop (at + length e) d

-- d with e in it from the place at on, where e ends inside d; else d as it is
unfoldable pub placed : {A : Type 0} → List A → ℕ → List A → List A
placed d at e = cond (leb (at + length e) (length d)) (put d at e) d
