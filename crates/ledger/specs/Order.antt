-- The serial order: the accepted requests as if carried out one after the other on a single copy.
use Rattle.std.specs.Prelude.{ℕ, ◌<◌, ◌≡◌, Bool, true, false, cond, ◌||◌, List, [], ◌∷◌, eqb}
use Rattle.kit.specs.Lists.{◌among◌}
use Rattle.ledger.specs.Ledger.{Reading, Request, accept, History, reading, blank, acceptances, Accepted}
use Rattle.ledger.specs.View.{View}
use Rattle.ledger.specs.Promise.{Newest}

module _ {X : Type 0} where
  -- one of these requests has the stamp k
  unfoldable pub named : ℕ → List (ℕ × Request X) → Bool
  named k [] = false
  named k (p ∷ l) = eqb k p.1.stamp || named k l

  -- each request where it is met first, the last one first
  unfoldable pub first_met : List (ℕ × Request X) → List (Request X)
  first_met [] = []
  first_met (p ∷ l) = cond (named p.1.stamp l) (first_met l) (p.1 ∷ first_met l)

  -- the accepted requests in the order in which each was first accepted at any site, the last one first
  abbrev pub order : History X → List (Request X)
  order h = first_met (acceptances h)

  -- a single copy, once r is carried out on it: each update item is written
  unfoldable pub overwritten : (ℕ → Reading X) → Request X → ℕ → Reading X
  overwritten c r i = cond (r.update i) (reading r i) (c i)

  -- a blank copy, once these requests are carried out on it, the last one first
  unfoldable pub carried : X → List (Request X) → ℕ → Reading X
  carried x [] i = blank x
  carried x (r ∷ rs) i = overwritten (carried x rs) r i

  -- At the turn of each, every base stamp equals the stamp in the copy that those before it left.
  abbrev pub Serial : X → List (Request X) → Type 0
  Serial x [] = Unit {0}
  Serial x (r ∷ rs) = Serial x rs × ((i : ℕ) → r.base i ≡ true → (carried x rs i).stamp ≡ r.base_stamp i)

  -- no two have the same stamp
  abbrev pub Once : List (Request X) → Type 0
  Once [] = Unit {0}
  Once (r ∷ rs) = Once rs × ((q : Request X) → q among rs → q.stamp ≡ r.stamp → ⊥)

module _ {X : Type 0} (n : ℕ) (x : X) where
  -- of a table of n sites that shows v, after the history h
  pub record Ordered (v : View X) (h : History X) : Type 0 where
    -- the order has the requests that were accepted anywhere, each once
    pub every : (r : Request X) → Accepted h r → r among order h
    pub only : (r : Request X) → r among order h → Accepted h r
    pub once : Once (order h)
    -- they can be carried out in it, and then each item has the accepted reading with the largest stamp
    pub serial : Serial x (order h)
    pub last : (i : ℕ) → Newest x (Accepted h) i (carried x (order h) i)
    -- a site that has accepted them all has just that copy
    pub whole : (s : ℕ) → s < n → ((r : Request X) → r among order h → accept s r among h) → (i : ℕ) → v.copy s i ≡ carried x (order h) i
