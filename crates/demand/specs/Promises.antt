-- Demand 3, its three sentences in one record, in the table's words.
use Rattle.std.specs.Prelude.{ℕ, ◌≤◌, ◌<◌, true, ◌≡◌, ℤ, pos, get_or}
use Rattle.kit.specs.Lists.{◌among◌}
use Rattle.sets.specs.Sets.{member}
use Rattle.table.specs.Places.{site_at}
use Rattle.table.specs.declared.data.Table.{Table}
use Rattle.vote.specs.Data.{head_of}
use Rattle.vote.specs.Requests.{covers, concurrent}
use Rattle.vote.specs.declared.data.Request.{Request}
use Rattle.vote.specs.declared.data.Verdict.TheVariants as verdict
use Rattle.demand.specs.Nights.{History, ruled}

-- the site s has accepted r, and has rejected it
abbrev pub AcceptedAt : History → ℕ → Request → Type 0
AcceptedAt h s r = ruled s r verdict.Accepted among h

abbrev pub RejectedAt : History → ℕ → Request → Type 0
RejectedAt h s r = ruled s r verdict.Rejected among h

-- some site has accepted it
abbrev pub Accepted : History → Request → Type 0
Accepted h r = (s : ℕ) × AcceptedAt h s r

-- the item i of the site s, with this stamp and value, is the reading with the largest stamp among the requests changing i that s has
-- accepted, or blank if there are none
pub data Newest (h : History) (s i stamp : ℕ) (value : ℤ) : Type 0 where
  blank : ((r : Request) → AcceptedAt h s r → member r.update i ≡ true → ⊥) → stamp ≡ 0 → value ≡ pos 0 → Newest h s i stamp value
  reading : (r : Request) → AcceptedAt h s r → member r.update i ≡ true → stamp ≡ r.stamp → value ≡ get_or r.values i (pos 0)
      → ((q : Request) → AcceptedAt h s q → member q.update i ≡ true → q.stamp ≤ r.stamp) → Newest h s i stamp value

-- what holds of the table t after the history h
pub record Promise (t : Table) (h : History) : Type 0 where
  -- "No request is ever accepted at one site and rejected at any."
  pub agreed : (r : Request) (s u : ℕ) → AcceptedAt h s r → RejectedAt h u r → ⊥
  -- "Of two requests that each change something the other was based on, and that saw equal stamps wherever their bases meet, at most one
  -- is ever accepted."
  pub exclusive : (a b : Request) → (a ≡ b → ⊥) → covers (head_of a) (head_of b) ≡ true → covers (head_of b) (head_of a) ≡ true
      → concurrent a b ≡ true → Accepted h a → Accepted h b → ⊥
  -- "Each site's copy of each item is the reading with the largest stamp among the requests changing that item that the site has accepted,
  -- or blank if there are none."
  pub copies : (s i : ℕ) → s < t.count → i < 24 → Newest h s i (get_or (site_at t s).stamps i 0) (get_or (site_at t s).values i (pos 0))
