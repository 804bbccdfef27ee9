-- The order of first acceptance explains all: the accepted requests can be carried out in it, one after the other (T4). So two that are
-- concurrent and cover each other are not both accepted (T2), and what comes too late never is (T5).
use Prim.Native.Nat.{ℕ, ◌≤◌, ◌<◌}
use mathlib.Core.Path.{◌≡◌, refl, sym, ◌∙◌, ap, subst}
use mathlib.Core.Logic.{◌⊎◌, inl, inr}
use mathlib.Core.Bool.{true}
use mathlib.Core.List.Memᴰ
use mathlib.Core.List.{List, [], ◌∷◌, ◌++◌}
use native.Mathlib.Omega.{arith}
use Rattle.kit.specs.Lists.{◌among◌}
use Rattle.kit.proofs.Bools.{of_cond}
use Rattle.kit.proofs.Members.{further, in_none, in_either}
use Rattle.majority.specs.Majority.{majority}
use Rattle.ledger.specs.Ledger.{Reading, Request, begin, ok, against, accept, reject, History, Covers, Concurrent}
use Rattle.ledger.specs.Ledger.{copy_of, acceptances, copy_at, Settled, Accepted, Quorum, Allowed, Valid, start, next}
use Rattle.ledger.specs.Promise.{Newest, unchanged, changed_by}
use Rattle.ledger.specs.Order.{named, first_met, order, carried, Serial}
use Rattle.ledger.proofs.Past.{Came, CameAfter, InTurn, came, in_turn}
use Rattle.ledger.proofs.Newest.{AllProper, bound, newest_iff, newest_one, copy_newest, carried_copy}
use Rattle.ledger.proofs.Acceptances.{in_acceptances, acceptances_in, named_not, met_in, in_met}
use Rattle.ledger.proofs.Safety.{covers_conflicts, covered_conflicts, majorities, ok_quorum, against_quorum, accept_begun}
use Rattle.ledger.proofs.Safety.{proper, accepted_one, one_side, agreed, copy_is}

-- ---- what the order has

module _ {X : Type 0} {n : ℕ} {x : X} {h : History X} (v : Valid n x h) where
  -- it has what was accepted somewhere, and nothing else
  pub in_order : {r : Request X} → Accepted h r → r among order h
  in_order {r} m =
      in_met (acceptances h) (λ p q i j. accepted_one v (p.0, acceptances_in h i) (q.0, acceptances_in h j)) (m.0, r) (in_acceptances h m.1)

  pub order_in : {r : Request X} → r among order h → Accepted h r
  order_in m = let a = met_in (acceptances h) m in (a.0, acceptances_in h a.1)

  order_proper : AllProper (order h)
  order_proper q m = proper v (accept_begun v (order_in m).1)

  -- a site that accepted in this order has of each item the accepted reading with the largest stamp
  order_is : (i : ℕ) → Newest x (Accepted h) i (copy_of x (order h) i)
  order_is i = newest_iff (λ q m. order_in m) (λ q m. in_order m) (copy_newest x (order h) order_proper i)

-- ---- what two OK votes at one site say

-- Of two requests that the site s voted OK, where d changes the item i and b is based on it: d was rejected there, or b is based on d or on
-- something later, or b has its verdict there.
data Told {X : Type 0} (h : History X) (s i : ℕ) (d b : Request X) : Type 0 where
  dropped : reject s d among h → Told h s i d b
  based : d.stamp ≤ b.base_stamp i → Told h s i d b
  settled : Settled h s b → Told h s i d b

module _ {X : Type 0} {n : ℕ} {x : X} {h : History X} (v : Valid n x h) where
  told : {s i : ℕ} {d b : Request X} → (d ≡ b → ⊥) → ok s d among h → ok s b among h → d.update i ≡ true → b.base i ≡ true → Told h s i d b
  told {s} {i} {d} {b} other m k u w = go (in_turn v m k)
    where
      -- b's vote came second
      later : (a : CameAfter n x h (ok s d) (ok s b)) → Settled a.came.before s d → Told h s i d b
      later a (inl t) = based (omega (arith, bound (copy_is a.came.valid s i) d t u, a.came.allowed.same i w))
      later a (inr t) = dropped (a.came.kept _ t)

      -- d's vote came second
      sooner : (a : CameAfter n x h (ok s b) (ok s d)) → Settled a.came.before s b → Told h s i d b
      sooner a (inl t) = settled (inl (a.came.kept _ t))
      sooner a (inr t) = settled (inr (a.came.kept _ t))

      go : InTurn n x h (ok s d) (ok s b) → Told h s i d b
      go (inl p) = absurd (other (cc))
      go (inr (inl a)) = later a (a.came.allowed.clear d a.there (covers_conflicts (record { item = i; updates = u; based = w })))
      go (inr (inr a)) = sooner a (a.came.allowed.clear b a.there (covered_conflicts (record { item = i; updates = u; based = w })))

  -- ---- a majority voted b OK, and no site has accepted it yet: it fits the copy that the accepted ones leave

  module _ {b : Request X} (q : Quorum n (majority n) h (λ t. ok t b)) (new : Accepted h b → ⊥) (i : ℕ) (w : b.base i ≡ true) where
    not_above : (d : Request X) → Accepted h d → d.update i ≡ true → d.stamp ≤ b.base_stamp i
    not_above d m u =
        let c = majorities (ok_quorum v m.1) q in
        go c.0 (told (λ p. new (subst (Accepted h) p m)) c.1 c.2 u w)
      where
        go : (s : ℕ) → Told h s i d b → d.stamp ≤ b.base_stamp i
        go s (dropped t) = absurd (agreed v m.1 t)
        go s (based t) = t
        go s (settled (inl t)) = absurd (new (s, t))
        go s (settled (inr t)) = absurd (one_side v q (against_quorum v t))

    at_most : Newest x (Accepted h) i (copy_of x (order h) i) → (copy_of x (order h) i).stamp ≤ b.base_stamp i
    at_most (unchanged none e) = omega (arith, ap (λ (k : Reading X). k.stamp) e)
    at_most (changed_by d m u e top) = omega (arith, ap (λ (k : Reading X). k.stamp) e, not_above d m u)

    at_least : (s : ℕ) (c : Came n x h (ok s b)) → Newest x (λ d. accept s d among c.before) i (copy_at x c.before s i)
        → b.base_stamp i ≤ (copy_of x (order h) i).stamp
    at_least s c (unchanged none e) = omega (arith, ap (λ (k : Reading X). k.stamp) e, c.allowed.same i w)
    at_least s c (changed_by d m u e top) =
        omega (arith, ap (λ (k : Reading X). k.stamp) e, c.allowed.same i w, bound (order_is v i) d (s, c.kept _ m) u)

    fits : (copy_of x (order h) i).stamp ≡ b.base_stamp i
    fits =
        let a = majorities q q in
        let c = came v a.1 in
        omega (arith, at_most (order_is v i), at_least a.0 c (copy_is c.valid a.0 i))

-- ---- the order explains all

module _ {X : Type 0} {n : ℕ} {x : X} where
  -- T4, the serial order: in the order of first acceptance the requests can be carried out one after the other on a single blank copy
  pub serial : {h : History X} → Valid n x h → Serial x (order h)
  unfolding acceptances first_met
  serial start = tt
  serial (next {e = begin r} v a) = serial v
  serial (next {e = ok s r} v a) = serial v
  serial (next {e = against s r} v a) = serial v
  serial (next {h} {e = accept s r} v a) = of_cond (Serial x) (named r.stamp (acceptances h)) (λ e. serial v)
      (λ e. (
        serial v,
        λ i k.
            ap (λ (c : Reading X). c.stamp) (carried_copy x (order h) (order_proper v) (serial v) i)
            ∙ fits v a (λ m. named_not r.stamp (acceptances h) e (m.0, r) (in_acceptances h m.1) refl) i k,
      ))
  serial (next {e = reject s r} v a) = serial v

module _ {X : Type 0} {n : ℕ} {x : X} {h : History X} (v : Valid n x h) where
  -- T4, the end: after the last, each item has the accepted reading with the largest stamp
  pub carried_is : (i : ℕ) → Newest x (Accepted h) i (carried x (order h) i)
  carried_is i = rw (carried_copy x (order h) (order_proper v) (serial v) i) (order_is v i)

  -- T4, the sites: one that has accepted all of them has just that copy
  pub same_copy : (s : ℕ) → ((r : Request X) → Accepted h r → accept s r among h) → (i : ℕ) → copy_at x h s i ≡ carried x (order h) i
  same_copy s all i = newest_one (λ p q m k. accepted_one v m k)
      (newest_iff (λ q m. (s, m)) (λ q m. all q m) (copy_is v s i)) (carried_is i)

  -- T5, too late: once a request that changes the item i is accepted anywhere, with a stamp above the one that b is based on there, and b is
  -- not yet accepted, b never is
  pub too_late : (d b : Request X) (i : ℕ) → Accepted h d → d.update i ≡ true → b.base i ≡ true → b.base_stamp i < d.stamp → (Accepted h b → ⊥)
      → (g : History X) → Valid n x (g ++ h) → Accepted (g ++ h) b → ⊥
  too_late d b i m u k less new [] w t = new t
  too_late d b i m u k less new (e ∷ g) (next w a) t =
      let new' : Accepted (g ++ h) b → ⊥ = too_late d b i m u k less new g w in
      in_either t.1
      (λ (p : accept t.0 b ≡ e).
      let q : Quorum n (majority n) (g ++ h) (λ s. ok s b) = subst (Allowed n x (g ++ h)) (sym p) a in
      omega (arith, not_above w q new' i k d (m.0, Memᴰ.append_right g m.1) u))
      (λ j. new' (t.0, j))

-- ---- exclusion

module _ {X : Type 0} (x : X) where
  -- where b comes later in the order than d, it is based on d or on something later
  behind : (d b : Request X) (rs : List (Request X)) → AllProper rs → Serial x (b ∷ rs) → d among rs
      → (i : ℕ) → d.update i ≡ true → b.base i ≡ true → d.stamp ≤ b.base_stamp i
  behind d b rs each w m i u k =
      omega (arith, w.1 i k, ap (λ (c : Reading X). c.stamp) (carried_copy x rs each w.0 i), bound (copy_newest x rs each i) d m u)

  -- so, of two that are concurrent, the later is not based on an item that the earlier changes
  unrelated : (d b : Request X) (rs : List (Request X)) → AllProper rs → Serial x (b ∷ rs) → d among rs
      → Covers d b → Concurrent d b → ⊥
  unrelated d b rs each w m c same =
      let p = each d m in
      let k = p.inside c.item c.updates in
      omega (arith, behind d b rs each w m c.item c.updates c.based, same c.item k c.based, p.later c.item k)

  exclude : (d b : Request X) → (d ≡ b → ⊥) → Covers d b → Covers b d → Concurrent d b
      → (rs : List (Request X)) → AllProper rs → Serial x rs → d among rs → b among rs → ⊥
  exclude d b other c e same [] each w m k = in_none m
  exclude d b other c e same (r ∷ rs) each w m k = go (Memᴰ.cases_cons m) (Memᴰ.cases_cons k)
      (exclude d b other c e same rs (λ q j. each q (further j)) w.0)
    where
      -- the one in front is a
      front : {a : Request X} → a ≡ r → Serial x (a ∷ rs)
      front p = subst (λ (a : Request X). Serial x (a ∷ rs)) (sym p) w

      go : (d ≡ r) ⊎ (d among rs) → (b ≡ r) ⊎ (b among rs) → (d among rs → b among rs → ⊥) → ⊥
      go (inl p) (inl q) f = other (p ∙ sym q)
      go (inl p) (inr q) f = unrelated b d rs (λ a j. each a (further j)) (front p) q e (λ i s t. sym (same i t s))
      go (inr p) (inl q) f = unrelated d b rs (λ a j. each a (further j)) (front q) p c same
      go (inr p) (inr q) f = f p q

module _ {X : Type 0} {n : ℕ} {x : X} where
  -- T2, mutual exclusion: of two concurrent requests that cover each other at most one is ever accepted
  pub exclusive : {h : History X} {d b : Request X} → Valid n x h → (d ≡ b → ⊥) → Covers d b → Covers b d → Concurrent d b
      → Accepted h d → Accepted h b → ⊥
  exclusive {h} {d} {b} v other c e same m k =
      exclude x d b other c e same (order h) (order_proper v) (serial v) (in_order v m) (in_order v k)
