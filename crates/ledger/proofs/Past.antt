-- What an event of a valid history says of the time when it came.
use Prim.Native.Nat.{ℕ}
use mathlib.Core.Path.{◌≡◌, sym, ◌∙◌, subst}
use mathlib.Core.Logic.{◌⊎◌, inl, inr}
use mathlib.Core.List.Memᴰ
use mathlib.Core.List.{◌∷◌}
use Rattle.kit.specs.Lists.{◌among◌}
use Rattle.kit.proofs.Members.{further, in_none, in_either}
use Rattle.ledger.specs.Ledger.{Event, History, Allowed, Valid, start, next}

module _ {X : Type 0} (n : ℕ) (x : X) where
  -- When e came: the history before it, which allowed it, and of which all is still in h.
  pub record Came (h : History X) (e : Event X) : Type 0 where
    pub before : History X
    pub valid : Valid n x before
    pub allowed : Allowed n x before e
    pub kept : (a : Event X) → a among before → a among h

  -- e came when d was there already
  pub record CameAfter (h : History X) (d e : Event X) : Type 0 where
    pub came : Came h e
    pub there : d among came.before

  -- of two events, they are one, or the second came after the first, or the first after the second
  abbrev pub InTurn : History X → Event X → Event X → Type 0
  InTurn h d e = (d ≡ e) ⊎ CameAfter h d e ⊎ CameAfter h e d

module _ {X : Type 0} {n : ℕ} {x : X} where
  longer : {h : History X} {d e : Event X} → Came n x h e → Came n x (d ∷ h) e
  longer c = record { before = c.before; valid = c.valid; allowed = c.allowed; kept = λ a m. further (c.kept a m) }

  latest : {h : History X} {d e : Event X} → e ≡ d → Valid n x h → Allowed n x h d → Came n x (d ∷ h) e
  latest {h} p v a = record { before = h; valid = v; allowed = subst (Allowed n x h) (sym p) a; kept = λ b m. further m }

  pub came : {h : History X} {e : Event X} → Valid n x h → e among h → Came n x h e
  came start m = in_none m
  came (next v a) m = in_either m (λ p. latest p v a) (λ k. longer (came v k))

  since : {h : History X} {d e f : Event X} → CameAfter n x h d e → CameAfter n x (f ∷ h) d e
  unfolding longer
  since a = record { came = longer a.came; there = a.there }

  turn_still : {h : History X} {d e f : Event X} → InTurn n x h d e → InTurn n x (f ∷ h) d e
  turn_still (inl p) = inl p
  turn_still (inr (inl a)) = inr (inl (since a))
  turn_still (inr (inr a)) = inr (inr (since a))

  pub in_turn : {h : History X} {d e : Event X} → Valid n x h → d among h → e among h → InTurn n x h d e
  unfolding latest
  in_turn start m k = in_none m
  in_turn {d = d} {e} (next {h} {e = f} v a) m k = go (Memᴰ.cases_cons m) (Memᴰ.cases_cons k) (in_turn v)
    where
      go : (d ≡ f) ⊎ (d among h) → (e ≡ f) ⊎ (e among h) → (d among h → e among h → InTurn n x h d e) → InTurn n x (f ∷ h) d e
      go (inl p) (inl q) r = inl (p ∙ sym q)
      go (inl p) (inr q) r = inr (inr (record { came = latest p v a; there = q }))
      go (inr p) (inl q) r = inr (inl (record { came = latest q v a; there = p }))
      go (inr p) (inr q) r = turn_still (r p q)
