-- What a copy holds after a list of requests: of each item, the reading with the largest stamp.
use Prim.Native.Nat.{ℕ, ◌≤◌, ◌<◌}
use mathlib.Core.Path.{◌≡◌, refl, sym, ◌∙◌, ap}
use mathlib.Core.Bool.{true, false}
use mathlib.Core.List.{List, [], ◌∷◌}
use native.Mathlib.Omega.{arith}
use borrow.Author.Tests.{ltb-true, ltb-false, lt-ltb}
use Rattle.kit.specs.Lists.{◌among◌}
use Rattle.kit.proofs.Bools.{clash, and_left, by_test, of_cond}
use Rattle.kit.proofs.Members.{here, further, in_none, in_either}
use Rattle.ledger.specs.Ledger.{Reading, Request, Proper, reading, writes, written, copy_of}
use Rattle.ledger.specs.Promise.{Newest, unchanged, changed_by}
use Rattle.ledger.specs.Order.{overwritten, carried, Serial}

module _ {X : Type 0} where
  abbrev pub AllProper : List (Request X) → Type 0
  AllProper rs = (q : Request X) → q among rs → Proper q

  -- a proper request has a stamp above 0
  pub positive : {r : Request X} → Proper r → 0 < r.stamp
  positive p = omega (arith, p.later p.some.0 (p.inside p.some.0 p.some.1))

  -- ---- when accepting writes

  -- only over a smaller stamp
  pub writes_above : (r : Request X) (i : ℕ) (c : Reading X) → writes r i c ≡ true → c.stamp < r.stamp
  unfolding writes
  writes_above r i c e = by_test (r.update i) (λ u. let t = rw u at e in omega (arith, ltb-true)) (λ u. clash (rw u at e) refl)

  -- and over every smaller one
  pub writes_below : (r : Request X) (i : ℕ) (c : Reading X) → r.update i ≡ true → writes r i c ≡ false → r.stamp ≤ c.stamp
  unfolding writes
  writes_below r i c u e = let t = rw u at e in omega (arith, ltb-false)

  pub writes_item : (r : Request X) (i : ℕ) (c : Reading X) → writes r i c ≡ true → r.update i ≡ true
  unfolding writes
  writes_item r i c e = and_left (r.update i) _ e

  -- ---- the reading with the largest stamp

  pub bound : {x : X} {P : Request X → Type 0} {i : ℕ} {c : Reading X} → Newest x P i c
      → (p : Request X) → P p → p.update i ≡ true → p.stamp ≤ c.stamp
  bound (unchanged none e) p m u = absurd (none p m u)
  bound (changed_by q m u e top) p n v = omega (arith, ap (λ (k : Reading X). k.stamp) e, top p n v)

  -- the same requests, told in another way
  pub newest_iff : {x : X} {P Q : Request X → Type 0} {i : ℕ} {c : Reading X} → ((q : Request X) → P q → Q q) → ((q : Request X) → Q q → P q)
      → Newest x P i c → Newest x Q i c
  newest_iff there back (unchanged none e) = unchanged (λ q m. none q (back q m)) e
  newest_iff there back (changed_by q m u e top) = changed_by q (there q m) u e (λ p n. top p (back p n))

  -- where no two have the same stamp, there is one such reading
  pub newest_one : {x : X} {P : Request X → Type 0} {i : ℕ} {c d : Reading X}
      → ((p q : Request X) → P p → P q → p.stamp ≡ q.stamp → p ≡ q) → Newest x P i c → Newest x P i d → c ≡ d
  newest_one one (unchanged none e) (unchanged none' e') = e ∙ sym e'
  newest_one one (unchanged none e) (changed_by q m u e' top) = absurd (none q m u)
  newest_one one (changed_by q m u e top) (unchanged none e') = absurd (none q m u)
  newest_one {i = i} one (changed_by q m u e top) (changed_by p n v e' top') =
      e ∙ ap (λ (r : Request X). reading r i) (one q p m n (omega (arith, top p n v, top' q m u))) ∙ sym e'

  -- ---- one request more

  -- it writes nothing there: it does not change the item, or its stamp is not the larger
  newest_still : {x : X} {r : Request X} {rs : List (Request X)} {i : ℕ} {c : Reading X} → 0 < r.stamp
      → ((q : Request X) → q ≡ r → q.update i ≡ true → q.stamp ≤ c.stamp)
      → Newest x (λ q. q among rs) i c → Newest x (λ q. q among r ∷ rs) i c
  newest_still h less (unchanged none e) = unchanged (λ q m u. in_either m
      (λ p. omega (arith, less q p u, ap (λ (k : Request X). k.stamp) p, ap (λ (k : Reading X). k.stamp) e))
      (λ k. none q k u)) e
  newest_still h less (changed_by q m u e top) = changed_by q (further m) u e (λ p k v. in_either k
      (λ j. omega (arith, less p j v, ap (λ (k : Reading X). k.stamp) e))
      (λ j. top p j v))

  newest_more : {x : X} (c : ℕ → Reading X) {rs : List (Request X)} (r : Request X) (i : ℕ) → 0 < r.stamp
      → Newest x (λ q. q among rs) i (c i) → Newest x (λ q. q among r ∷ rs) i (written c r i)
  unfolding written
  newest_more {x} c {rs} r i h w = of_cond (Newest x (λ q. q among r ∷ rs) i) (writes r i (c i))
      (λ e. changed_by r (here refl) (writes_item r i (c i) e) refl
      (λ p m u. in_either m (λ j. omega (arith, ap (λ (k : Request X). k.stamp) j)) (λ k. omega (arith, bound w p k u, writes_above r i (c i) e))))
      (λ e. newest_still h (λ q p u. writes_below q i (c i) u (rw (← p) at e)) w)

  pub copy_newest : (x : X) (rs : List (Request X)) → AllProper rs → (i : ℕ) → Newest x (λ q. q among rs) i (copy_of x rs i)
  unfolding copy_of
  copy_newest x [] each i = unchanged (λ q m. in_none m) refl
  copy_newest x (r ∷ rs) each i = newest_more (copy_of x rs) r i (positive (each r (here refl))) (copy_newest x rs (λ q m. each q (further m)) i)

  -- ---- carried out at its turn, a request writes each of its items, as a site would

  at_its_turn : (c d : ℕ → Reading X) (r : Request X) (i : ℕ) → c i ≡ d i → (r.update i ≡ true → (d i).stamp < r.stamp)
      → overwritten c r i ≡ written d r i
  unfolding overwritten written writes
  at_its_turn c d r i e less = by_test (r.update i) (λ u. rw (u, lt-ltb (d i).stamp r.stamp (less u))) (λ u. rw u e)

  pub carried_copy : (x : X) (rs : List (Request X)) → AllProper rs → Serial x rs → (i : ℕ) → carried x rs i ≡ copy_of x rs i
  unfolding copy_of carried
  carried_copy x [] each w i = refl
  carried_copy x (r ∷ rs) each w i =
      let e = carried_copy x rs (λ q m. each q (further m)) w.0 i in
      let p = each r (here refl) in
      at_its_turn (carried x rs) (copy_of x rs) r i e
      (λ u. omega (arith, ap (λ (k : Reading X). k.stamp) e, w.1 i (p.inside i u), p.later i (p.inside i u)))
