-- What each event of a valid history stands on; agreement (T1); the copies (T3). For every number of sites.
use Prim.Native.Nat.{ℕ, ◌≤◌}
use mathlib.Core.Path.{◌≡◌, sym}
use mathlib.Core.Logic.{inl, inr}
use native.Mathlib.Omega.{arith}
use Rattle.kit.specs.Lists.{◌among◌}
use Rattle.kit.proofs.Ranges.{Common, one_of}
use Rattle.majority.specs.Majority.{majority, blocking}
use Rattle.majority.proofs.Majorities.{majorities_meet, verdicts_meet, blocking_some}
use Rattle.ledger.specs.Ledger.{Request, Event, begin, ok, against, accept, reject, History, Proper, Covers, Conflict}
use Rattle.ledger.specs.Ledger.{acceptances, of_site, copy_at, Accepted, Quorum, Valid}
use Rattle.ledger.specs.Promise.{Newest}
use Rattle.ledger.proofs.Past.{InTurn, came, in_turn}
use Rattle.ledger.proofs.Newest.{newest_iff, copy_newest}
use Rattle.ledger.proofs.Acceptances.{in_acceptances, acceptances_in, in_site, site_in}

-- ---- who covers conflicts, and who is covered

ruleset sides = (inl, inr)

module _ {X : Type 0} {a b : Request X} where
  pub covers_conflicts : Covers a b → Conflict a b
  covers_conflicts c = search sides

  pub covered_conflicts : Covers b a → Conflict a b
  covered_conflicts c = search sides

-- ---- quorums

module _ {X : Type 0} {n : ℕ} {h : History X} where
  -- a site of both sets did both
  both : {j k : ℕ} {d e : ℕ → Event X} (p : Quorum n j h d) (q : Quorum n k h e) → Common n p.who q.who
      → (s : ℕ) × (d s among h) × (e s among h)
  both p q c = (c.0, p.did c.0 c.1 c.2, q.did c.0 c.1 c.3)

  -- two majorities meet
  pub majorities : {d e : ℕ → Event X} → Quorum n (majority n) h d → Quorum n (majority n) h e → (s : ℕ) × (d s among h) × (e s among h)
  majorities p q = both p q (majorities_meet n p.who q.who (omega (arith, p.many)) (omega (arith, q.many)))

  -- a majority meets those that are enough to reject
  pub opponents : {d e : ℕ → Event X} → Quorum n (majority n) h d → Quorum n (blocking n) h e → (s : ℕ) × (d s among h) × (e s among h)
  opponents p q = both p q (verdicts_meet n p.who q.who (omega (arith, p.many)) (omega (arith, q.many)))

  -- a quorum of the past is one now, and one of fewer sites
  pub quorum_still : (k : ℕ) {j : ℕ} {g : History X} {e : ℕ → Event X} → k ≤ j → ((a : Event X) → a among g → a among h)
      → Quorum n j g e → Quorum n k h e
  quorum_still k less kept q = record { who = q.who; many = omega (arith, q.many); did = λ s l w. kept _ (q.did s l w) }

module _ {X : Type 0} {n : ℕ} {x : X} {h : History X} (v : Valid n x h) where
  -- ---- what each event of the history stands on

  pub ok_quorum : {s : ℕ} {r : Request X} → accept s r among h → Quorum n (majority n) h (λ t. ok t r)
  unfolding majority blocking
  ok_quorum m = let c = came v m in quorum_still (majority n) (omega arith) c.kept c.allowed

  pub against_quorum : {s : ℕ} {r : Request X} → reject s r among h → Quorum n (blocking n) h (λ t. against t r)
  unfolding majority blocking
  against_quorum m = let c = came v m in quorum_still (blocking n) (omega arith) c.kept c.allowed

  pub ok_begun : {s : ℕ} {r : Request X} → ok s r among h → begin r among h
  ok_begun m = let c = came v m in c.kept _ c.allowed.begun

  pub against_begun : {s : ℕ} {r : Request X} → against s r among h → begin r among h
  against_begun m = let c = came v m in c.kept _ c.allowed.begun

  pub accept_begun : {s : ℕ} {r : Request X} → accept s r among h → begin r among h
  accept_begun m = ok_begun (majorities (ok_quorum m) (ok_quorum m)).1

  pub reject_begun : {s : ℕ} {r : Request X} → reject s r among h → begin r among h
  reject_begun m =
      let q = against_quorum m in
      let c = one_of n q.who (omega (arith, q.many, blocking_some n)) in
      against_begun (q.did c.0 c.1 c.2)

  pub proper : {r : Request X} → begin r among h → Proper r
  proper m = (came v m).allowed.proper

  -- a stamp is a name
  pub one_stamp : {q r : Request X} → begin q among h → begin r among h → q.stamp ≡ r.stamp → q ≡ r
  one_stamp {q} {r} m k e = go (in_turn v m k)
    where
      go : InTurn n x h (begin q) (begin r) → q ≡ r
      go (inl p) = cc
      go (inr (inl a)) = absurd (let z : ⊥ = search a.came.allowed.fresh in z)
      go (inr (inr a)) = absurd (let f = sym e in let z : ⊥ = search a.came.allowed.fresh in z)

  pub accepted_one : {q r : Request X} → Accepted h q → Accepted h r → q.stamp ≡ r.stamp → q ≡ r
  accepted_one m k e = one_stamp (accept_begun m.1) (accept_begun k.1) e

  -- ---- agreement

  -- a site votes one way
  pub one_vote : {s : ℕ} {r : Request X} → ok s r among h → against s r among h → ⊥
  one_vote {s} {r} m k = go (in_turn v m k)
    where
      go : InTurn n x h (ok s r) (against s r) → ⊥
      go (inl p) = let z : ◌≡◌ {A = ℕ} 0 1 = cc in omega arith
      go (inr (inl a)) = search a.came.allowed.free
      go (inr (inr a)) = search a.came.allowed.free

  -- there is no majority for it beside enough against it
  pub one_side : {r : Request X} → Quorum n (majority n) h (λ t. ok t r) → Quorum n (blocking n) h (λ t. against t r) → ⊥
  one_side p q = let c = opponents p q in one_vote c.1 c.2

  -- T1, agreement: what one site accepts, none rejects
  pub agreed : {s t : ℕ} {r : Request X} → accept s r among h → reject t r among h → ⊥
  agreed m k = one_side (ok_quorum m) (against_quorum k)

  -- ---- copies

  -- T3, copies: a site's copy has of each item the reading with the largest stamp among what the site accepted, or a blank
  pub copy_is : (s i : ℕ) → Newest x (λ q. accept s q among h) i (copy_at x h s i)
  copy_is s i = newest_iff (λ q m. acceptances_in h (site_in s (acceptances h) m)) (λ q m. in_site s (acceptances h) (in_acceptances h m))
      (copy_newest x (of_site s (acceptances h)) (λ q m. proper (accept_begun (acceptances_in h (site_in s (acceptances h) m)))) i)
