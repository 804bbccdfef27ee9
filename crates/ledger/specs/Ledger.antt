-- The vote ledger: what has happened, one event after the other, and which event may come next.
-- A history is the list of its events, the newest first. Votes, verdicts and copies are read off it. Messages, queues, deferrals, clocks,
-- sites that are down and places that are freed change nothing here: a request that was begun stays in the history.
-- Sites and items are numbers from 0 on. X is the type of a reading's value, and x the value of a blank item.
use Rattle.std.specs.Prelude.{ℕ, ◌≤◌, ◌<◌, ◌≡◌, ◌⊎◌, Bool, true, cond, ◌&&◌, List, [], ◌∷◌, eqb, ltb}
use Rattle.kit.specs.Lists.{◌among◌}
use Rattle.kit.specs.Range.{number}
use Rattle.majority.specs.Majority.{majority, blocking}

-- "A reading is a daily rate .. with a stamp."
pub record Reading (X : Type 0) : Type 0 where
  pub stamp : ℕ
  pub value : X

-- "A request has a base set and an update set of items, a base stamp for each base item, and a new value for each update item."
pub record Request (X : Type 0) : Type 0 where
  pub stamp : ℕ
  pub base : ℕ → Bool
  pub update : ℕ → Bool
  pub base_stamp : ℕ → ℕ
  pub new_value : ℕ → X

-- What can happen: a request begins; a site votes OK on it, or against it (DR or REJ); a site accepts it; a site rejects it.
pub data Event (X : Type 0) : Type 0 where
  begin : Request X → Event X
  ok against accept reject : ℕ → Request X → Event X

-- what has happened, the newest first
abbrev pub History : Type 0 → Type 0
History X = List (Event X)

module _ {X : Type 0} where
  -- ---- requests

  -- "The update set is not empty and lies inside the base set." Of its stamp: t is at least "1 + the largest t in the base stamps".
  pub record Proper (r : Request X) : Type 0 where
    pub some : (i : ℕ) × (r.update i ≡ true)
    pub inside : (i : ℕ) → r.update i ≡ true → r.base i ≡ true
    pub later : (i : ℕ) → r.base i ≡ true → r.base_stamp i < r.stamp

  -- "A covers B if A's update set meets B's base set."
  pub record Covers (a b : Request X) : Type 0 where
    pub item : ℕ
    pub updates : a.update item ≡ true
    pub based : b.base item ≡ true

  -- "They conflict if either covers the other."
  abbrev pub Conflict : Request X → Request X → Type 0
  Conflict a b = Covers a b ⊎ Covers b a

  -- "They are concurrent if each item in both base sets has equal base stamps in both."
  abbrev pub Concurrent : Request X → Request X → Type 0
  Concurrent a b = (i : ℕ) → a.base i ≡ true → b.base i ≡ true → a.base_stamp i ≡ b.base_stamp i

  -- ---- copies

  -- what r brings to the item i
  abbrev pub reading : Request X → ℕ → Reading X
  reading r i = record { stamp = r.stamp; value = r.new_value i }

  -- "Stamp 0 marks an item never measured"; its value is then x.
  abbrev pub blank : X → Reading X
  blank x = record { stamp = 0; value = x }

  -- "Accepting writes each update item whose copy stamp is smaller than the request's": does it write the item i over the reading c?
  unfoldable pub writes : Request X → ℕ → Reading X → Bool
  writes r i c = r.update i && ltb c.stamp r.stamp

  -- a site's copy, once the site accepts r
  unfoldable pub written : (ℕ → Reading X) → Request X → ℕ → Reading X
  written c r i = cond (writes r i (c i)) (reading r i) (c i)

  -- the copy of a site that has accepted these requests, the last one first
  unfoldable pub copy_of : X → List (Request X) → ℕ → Reading X
  copy_of x [] i = blank x
  copy_of x (r ∷ rs) i = written (copy_of x rs) r i

  -- ---- what a history says

  -- what was accepted, and where, the last one first
  unfoldable pub acceptances : History X → List (ℕ × Request X)
  acceptances [] = []
  acceptances (begin r ∷ h) = acceptances h
  acceptances (ok s r ∷ h) = acceptances h
  acceptances (against s r ∷ h) = acceptances h
  acceptances (accept s r ∷ h) = (s, r) ∷ acceptances h
  acceptances (reject s r ∷ h) = acceptances h

  -- of these, what the site s accepted
  unfoldable pub of_site : ℕ → List (ℕ × Request X) → List (Request X)
  of_site s [] = []
  of_site s (p ∷ l) = cond (eqb s p.0) (p.1 ∷ of_site s l) (of_site s l)

  -- the copy of the site s
  abbrev pub copy_at : X → History X → ℕ → ℕ → Reading X
  copy_at x h s = copy_of x (of_site s (acceptances h))

  -- the site s has its verdict on r
  abbrev pub Settled : History X → ℕ → Request X → Type 0
  Settled h s r = (accept s r among h) ⊎ (reject s r among h)

  -- r was accepted at some site
  abbrev pub Accepted : History X → Request X → Type 0
  Accepted h r = (s : ℕ) × (accept s r among h)

  -- ---- what may come next

  -- "A stamp is also the request's name.": a request begins with a stamp that no other has.
  pub record MayBegin (h : History X) (r : Request X) : Type 0 where
    pub fresh : (q : Request X) → begin q among h → q.stamp ≡ r.stamp → ⊥
    pub proper : Proper r

  -- A site votes OK where the four rules before that one do not fit: its copy has the base stamps, and no pending request (one that it
  -- "marked OK and holds open") conflicts. "A vote is never changed."
  pub record MayOk (x : X) (h : History X) (s : ℕ) (r : Request X) : Type 0 where
    pub begun : begin r among h
    pub free : against s r among h → ⊥
    pub same : (i : ℕ) → r.base i ≡ true → (copy_at x h s i).stamp ≡ r.base_stamp i
    pub clear : (q : Request X) → ok s q among h → Conflict q r → Settled h s q

  -- A site votes DR or REJ. Rules 1 and 3 say when; all that counts here is that "a vote is never changed".
  pub record MayOppose (h : History X) (s : ℕ) (r : Request X) : Type 0 where
    pub begun : begin r among h
    pub free : ok s r among h → ⊥

  -- At least k of the n sites did e: the set `who` has that many, and each of its sites did. ("A voter known anywhere .. has that mark of its
  -- own": so a site that knows k voters has a set of k that voted.)
  pub record Quorum (n k : ℕ) (h : History X) (e : ℕ → Event X) : Type 0 where
    pub who : ℕ → Bool
    pub many : k ≤ number n who
    pub did : (s : ℕ) → s < n → who s ≡ true → e s among h

  -- "A site accepts when it knows m OK voters, and rejects when it knows n - m + 1 voters of DR and REJ together."
  abbrev pub Allowed : ℕ → X → History X → Event X → Type 0
  Allowed n x h (begin r) = MayBegin h r
  Allowed n x h (ok s r) = MayOk x h s r
  Allowed n x h (against s r) = MayOppose h s r
  Allowed n x h (accept s r) = Quorum n (majority n) h (λ t. ok t r)
  Allowed n x h (reject s r) = Quorum n (blocking n) h (λ t. against t r)

  -- the histories that can happen, of n sites
  pub data Valid (n : ℕ) (x : X) : History X → Type 0 where
    start : Valid n x []
    next : {h : History X} {e : Event X} → Valid n x h → Allowed n x h e → Valid n x (e ∷ h)
