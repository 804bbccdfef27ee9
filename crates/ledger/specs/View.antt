-- How a table is tied to a history: what the table shows, what a small change of it may be, and what is written down of each change.
use Rattle.std.specs.Prelude.{ℕ, ◌≤◌, ◌<◌, ◌≡◌, ◌⊎◌, Bool, true, false, cond, ◌∷◌, ◌++◌, eqb}
use Rattle.kit.specs.Lists.{◌among◌}
use Rattle.kit.specs.Range.{number}
use Rattle.majority.specs.Majority.{majority, blocking}
use Rattle.ledger.specs.Ledger.{Reading, Request, Event, begin, ok, against, accept, reject, History}
use Rattle.ledger.specs.Ledger.{Proper, Conflict, written, copy_at, Settled, Valid}

-- What a site can say of a request: its "own mark" where that is a vote, OK or one of the others, and its verdict.
pub data Word : Type 0 where
  votes_ok votes_against accepts rejects : Word
  deriving Discrete as Word-discrete

-- What a table shows. A request is known by its place. `given` has the stamps that may have been issued.
pub record View (X : Type 0) : Type 0 where
  pub held : ℕ → Bool
  pub request : ℕ → Request X
  pub says : Word → ℕ → ℕ → Bool
  pub copy : ℕ → ℕ → Reading X
  pub given : ℕ → Bool

module _ {X : Type 0} where
  -- the event of the site s saying k of r
  abbrev pub event : Word → ℕ → Request X → Event X
  event votes_ok s r = ok s r
  event votes_against s r = against s r
  event accepts s r = accept s r
  event rejects s r = reject s r

  -- the copy of the site t after s said k of r: accepting writes, nothing else does
  abbrev pub copy_after : Word → (ℕ → ℕ → Reading X) → ℕ → Request X → ℕ → ℕ → Reading X
  copy_after votes_ok c s r t = c t
  copy_after votes_against c s r t = c t
  copy_after accepts c s r t = cond (eqb t s) (written (c t) r) (c t)
  copy_after rejects c s r t = c t

  -- a place of the table holds r
  abbrev pub HeldIn : View X → Request X → Type 0
  HeldIn v r = (p : ℕ) × (v.held p ≡ true) × (v.request p ≡ r)

  -- the table shows the verdict of the site s on the request at p
  abbrev pub Judged : View X → ℕ → ℕ → Type 0
  Judged v s p = (v.says accepts s p ≡ true) ⊎ (v.says rejects s p ≡ true)

  -- the place q holds what it held
  pub record Stays (v w : View X) (q : ℕ) : Type 0 where
    pub held : w.held q ≡ v.held q
    pub request : v.held q ≡ true → w.request q ≡ v.request q

module _ {X : Type 0} (n : ℕ) where
  -- ---- the small changes of a table of n sites

  -- The place p is taken by a new request.
  pub record Begins (p : ℕ) (v w : View X) : Type 0 where
    pub free : v.held p ≡ false
    pub now : w.held p ≡ true
    pub proper : Proper (w.request p)
    pub fresh : v.given (w.request p).stamp ≡ false
    pub issued : w.given (w.request p).stamp ≡ true
    pub silent : (k : Word) (s : ℕ) → s < n → w.says k s p ≡ false
    pub same : (q : ℕ) → (q ≡ p → ⊥) → Stays v w q
    pub says : (k : Word) (s q : ℕ) → (q ≡ p → ⊥) → s < n → v.held q ≡ true → w.says k s q ≡ v.says k s q
    pub copies : (s i : ℕ) → s < n → w.copy s i ≡ v.copy s i
    pub given : (k : ℕ) → v.given k ≡ true → w.given k ≡ true

  -- Nothing is said. A request that has its verdict at every site may go (retire).
  pub record Quiet (v w : View X) : Type 0 where
    pub same : (q : ℕ) → Stays v w q ⊎ ((w.held q ≡ false) × ((s : ℕ) → s < n → Judged v s q))
    pub says : (k : Word) (s q : ℕ) → s < n → w.held q ≡ true → w.says k s q ≡ v.says k s q
    pub copies : (s i : ℕ) → s < n → w.copy s i ≡ v.copy s i
    pub given : (k : ℕ) → v.given k ≡ true → w.given k ≡ true

  -- at least m sites say k of the request at p: those of the set `who`
  pub record Enough (m : ℕ) (v : View X) (k : Word) (p : ℕ) : Type 0 where
    pub who : ℕ → Bool
    pub many : m ≤ number n who
    pub did : (s : ℕ) → s < n → who s ≡ true → v.says k s p ≡ true

  -- the site s can vote OK on the request at p
  pub record CanOk (v : View X) (s p : ℕ) : Type 0 where
    pub free : v.says votes_against s p ≡ false
    pub same : (i : ℕ) → (v.request p).base i ≡ true → (v.copy s i).stamp ≡ (v.request p).base_stamp i
    pub clear : (q : ℕ) → v.held q ≡ true → v.says votes_ok s q ≡ true → Conflict (v.request q) (v.request p) → Judged v s q

  -- the site s can say k of the request at p
  abbrev pub Can : Word → View X → ℕ → ℕ → Type 0
  Can votes_ok v s p = CanOk v s p
  Can votes_against v s p = v.says votes_ok s p ≡ false
  Can accepts v s p = Enough (majority n) v votes_ok p
  Can rejects v s p = Enough (blocking n) v votes_against p

  -- The site s says k of the request at p, and nothing else changes but its copy where it accepts.
  pub record Says (k : Word) (s p : ℕ) (v w : View X) : Type 0 where
    pub site : s < n
    pub there : v.held p ≡ true
    pub can : Can k v s p
    pub now : w.says k s p ≡ true
    pub same : (q : ℕ) → Stays v w q
    pub says : (l : Word) (t q : ℕ) → (l ≡ k → t ≡ s → q ≡ p → ⊥) → t < n → v.held q ≡ true → w.says l t q ≡ v.says l t q
    pub copies : (t i : ℕ) → t < n → w.copy t i ≡ copy_after k v.copy s (v.request p) t i
    pub given : (j : ℕ) → v.given j ≡ true → w.given j ≡ true

  -- ---- runs

  -- A table that shows v, after the history h, comes to show u, after the history g.
  pub data Run : View X → History X → View X → History X → Type 0 where
    stay : {v : View X} {h : History X} → Run v h v h
    quiet : {v w u : View X} {h g : History X} → Quiet v w → Run w h u g → Run v h u g
    begins : {v w u : View X} {h g : History X} (p : ℕ) → Begins p v w → Run w (begin (w.request p) ∷ h) u g → Run v h u g
    says : {v w u : View X} {h g : History X} (k : Word) (s p : ℕ) → Says k s p v w → Run w (event k s (v.request p) ∷ h) u g → Run v h u g

  -- The table goes from v to u, whatever went before, and l is what it writes down meanwhile, the newest first.
  pub record Goes (v u : View X) (l : History X) : Type 0 where
    pub run : (h : History X) → Run v h u (l ++ h)

-- ---- the tie

module _ {X : Type 0} (n : ℕ) (x : X) where
  -- The table of n sites that shows v has come to it by the history h.
  pub record Tied (v : View X) (h : History X) : Type 0 where
    pub valid : Valid n x h
    pub begun : (p : ℕ) → v.held p ≡ true → begin (v.request p) among h
    -- a request that the table no longer holds has its verdict at every site
    pub kept : (r : Request X) → begin r among h → HeldIn v r ⊎ ((s : ℕ) → s < n → Settled h s r)
    -- the table shows the votes and verdicts of the history, and no others
    pub said : (k : Word) (s p : ℕ) → s < n → v.held p ≡ true → v.says k s p ≡ true → event k s (v.request p) among h
    pub meant : (k : Word) (s p : ℕ) → s < n → v.held p ≡ true → event k s (v.request p) among h → v.says k s p ≡ true
    pub copies : (s i : ℕ) → s < n → v.copy s i ≡ copy_at x h s i
    pub stamps : (r : Request X) → begin r among h → v.given r.stamp ≡ true
    pub apart : (p q : ℕ) → v.held p ≡ true → v.held q ≡ true → v.request p ≡ v.request q → p ≡ q
