-- Demand 3: what a table promises, over all that ever happened to it.
use Rattle.std.specs.Prelude.{ℕ, ◌≤◌, ◌<◌, ◌≡◌, true}
use Rattle.kit.specs.Lists.{◌among◌}
use Rattle.ledger.specs.Ledger.{Reading, Request, accept, reject, History, Covers, Concurrent, reading, blank, Accepted}
use Rattle.ledger.specs.View.{View}

module _ {X : Type 0} (x : X) where
  -- The reading c of the item i is the one with the largest stamp among the requests changing i of which P holds, or blank if there are none.
  pub data Newest (P : Request X → Type 0) (i : ℕ) (c : Reading X) : Type 0 where
    unchanged : ((q : Request X) → P q → q.update i ≡ true → ⊥) → c ≡ blank x → Newest P i c
    changed_by : (q : Request X) → P q → q.update i ≡ true → c ≡ reading q i
        → ((p : Request X) → P p → p.update i ≡ true → p.stamp ≤ q.stamp) → Newest P i c

module _ {X : Type 0} (n : ℕ) (x : X) where
  -- of a table of n sites that shows v, after the history h
  pub record Promise (v : View X) (h : History X) : Type 0 where
    -- "No request is ever accepted at one site and rejected at any."
    pub agreed : (r : Request X) (s t : ℕ) → accept s r among h → reject t r among h → ⊥
    -- "Of two requests that each change something the other was based on, and that saw equal stamps wherever their bases meet, at most one
    -- is ever accepted."
    pub exclusive : (a b : Request X) → (a ≡ b → ⊥) → Covers a b → Covers b a → Concurrent a b → Accepted h a → Accepted h b → ⊥
    -- "Each site's copy of each item is the reading with the largest stamp among the requests changing that item that the site has
    -- accepted, or blank if there are none."
    pub copies : (s i : ℕ) → s < n → Newest x (λ r. accept s r among h) i (v.copy s i)
