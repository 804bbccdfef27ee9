-- Induction over a walk: what each turn keeps, the walk keeps; what each turn adds in front, the walk adds up to.
use Prim.Native.Nat.{ℕ, ◌<◌}
use mathlib.Core.Bool.{Bool, true, false}
use mathlib.Core.List.{List, [], ◌∷◌}
use mathlib.Core.Path.{◌≡◌}
use Rattle.vote.specs.Consider.{defers}
use Rattle.vote.specs.Data.{is_open}
use Rattle.vote.specs.declared.data.Request.{Request}
use Rattle.vote.specs.declared.data.Site.{Site}
use Rattle.walk.specs.Rules.{Walk}
use Rattle.walk.specs.Walking.{Out, Said, queued, outcome_at, voted_at, due_at, ruled_at, says_vote, says_rule, walked}
use Rattle.walk.proofs.Walks.{follows}

module _ (me n : ℕ) (rs : List Request) where
  -- the request at place i of the queue votes; b says whether it is open then
  pub record Turn (b : Bool) (s : Site) (i : ℕ) : Type 0 where
    pub inside : i < s.waiting
    pub votes : defers (outcome_at me n rs s i) ≡ false
    pub due : is_open (due_at me n rs s i) ≡ b

  -- ---- of the site

  -- each turn keeps P
  pub record Keeps (P : Site → Type 0) : Type 0 where
    pub votes : {s : Site} {i : ℕ} → Turn true s i → P s → P (voted_at me n rs s i)
    pub rules : {s : Site} {i : ℕ} → Turn false s i → P s → P (ruled_at me n rs s i)

  pub kept : {P : Site → Type 0} {s : Site} {i : ℕ} {o : Out} → Keeps P → Walk me n rs s i o → P s → P o.site
  kept k (Walk.ends h) x = x
  kept k (Walk.keeps h e w) x = kept k w x
  kept k (Walk.votes h e f w) x = kept k w (k.votes (record { inside = h; votes = e; due = f }) x)
  kept k (Walk.rules h e f w) x = kept k w (k.rules (record { inside = h; votes = e; due = f }) x)

  -- ---- of the site before, what was said, and the site after; P goes along

  pub record Links (P : Site → Type 0) (R : Site → List Said → Site → Type 0) : Type 0 where
    pub ends : {s : Site} → P s → R s [] s
    pub votes : {s : Site} {i : ℕ} {l : List Said} {u : Site} → Turn true s i → P s → R (voted_at me n rs s i) l u → R s (says_vote me n rs s i ∷ l) u
    pub rules : {s : Site} {i : ℕ} {l : List Said} {u : Site} → Turn false s i → P s → R (ruled_at me n rs s i) l u
        → R s (says_vote me n rs s i ∷ says_rule me n rs (queued s i) (due_at me n rs s i) ∷ l) u

  pub linked
      : {P : Site → Type 0} {R : Site → List Said → Site → Type 0} {s : Site} {i : ℕ} {o : Out} → Keeps P → Links P R → Walk me n rs s i o → P s
      → R s o.log o.site
  linked k r (Walk.ends h) x = r.ends x
  linked k r (Walk.keeps h e w) x = linked k r w x
  linked {s = s} {i = i} k r (Walk.votes h e f w) x =
      let t : Turn true s i = record { inside = h; votes = e; due = f } in r.votes t x (linked k r w (k.votes t x))
  linked {s = s} {i = i} k r (Walk.rules h e f w) x =
      let t : Turn false s i = record { inside = h; votes = e; due = f } in r.rules t x (linked k r w (k.rules t x))

  -- ---- of the site before and the site after, step by step

  pub record Grows (P : Site → Type 0) (R : Site → Site → Type 0) : Type 0 where
    pub same : {s : Site} → P s → R s s
    pub then : {s t u : Site} → R s t → R t u → R s u
    pub votes : {s : Site} {i : ℕ} → Turn true s i → P s → R s (voted_at me n rs s i)
    pub rules : {s : Site} {i : ℕ} → Turn false s i → P s → R s (ruled_at me n rs s i)

  pub grows_links : {P : Site → Type 0} {R : Site → Site → Type 0} → Grows P R → Links P (λ s l u. R s u)
  grows_links g = record { ends = λ x. g.same x; votes = λ t x r. g.then (g.votes t x) r; rules = λ t x r. g.then (g.rules t x) r }

  pub grown : {P : Site → Type 0} {R : Site → Site → Type 0} {s : Site} {i : ℕ} {o : Out} → Keeps P → Grows P R → Walk me n rs s i o → P s → R s o.site
  grown {R = R} k g w x = linked {R = λ s l u. R s u} k (grows_links g) w x

  -- ---- the walk that is computed

  pub walked_kept : {P : Site → Type 0} (s : Site) (i : ℕ) → Keeps P → P s → P (walked me n rs s i).site
  walked_kept s i k x = kept k (follows me n rs s i) x

  pub walked_linked
      : {P : Site → Type 0} {R : Site → List Said → Site → Type 0} (s : Site) (i : ℕ) → Keeps P → Links P R → P s
      → R s (walked me n rs s i).log (walked me n rs s i).site
  walked_linked s i k r x = linked k r (follows me n rs s i) x

  pub walked_grown : {P : Site → Type 0} {R : Site → Site → Type 0} (s : Site) (i : ℕ) → Keeps P → Grows P R → P s → R s (walked me n rs s i).site
  walked_grown s i k g x = grown k g (follows me n rs s i) x
