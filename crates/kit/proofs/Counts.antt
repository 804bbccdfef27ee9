-- Counting: one that passes, two that do, exactly one, none from here to there, one that fails; and no more different numbers than places.
use mathlib.Core.Path.{◌≡◌, refl, sym, ap, ◌∙◌}
use mathlib.Core.Bool.{Bool, true, false, not, ◌||◌, or-false}
use Prim.Native.Nat.{ℕ, zero, suc, ◌+◌, ◌≤◌, ◌<◌}
use native.Mathlib.Decide.{le_ind}
use native.Mathlib.Nat.{add-zero}
use native.Mathlib.Omega.{arith}
use borrow.Author.Tests.{eq-eqb, ne_eqb, eqb-true}
use lib.Dec.{eqb}
use Rattle.kit.specs.Range.{any, one, number}
use Rattle.kit.proofs.Bools.{by_test, by_eq, by_lt, by_le}
use Rattle.kit.proofs.Ranges.{any_suc, any_one, none_of, one_le, number_suc, number_le, number_mono, number_same, number_grows, number_none}

module _ (p : ℕ → Bool) where
  -- one that passes counts once more
  pub number_in : (i : ℕ) → p i ≡ true → number (suc i) p ≡ suc (number i p)
  number_in i e = number_suc i p ∙ ap (λ (t : Bool). number i p + one t) e ∙ (let q : number i p + 1 ≡ suc (number i p) = omega arith in q)

  -- one that passes makes the count positive
  pub number_some : (n i : ℕ) → i < n → p i ≡ true → 0 < number n p
  number_some n i h e = let b : number (suc i) p ≤ number n p = number_mono p (suc i) n h in omega (arith, number_in i e)

  -- two that pass
  pub number_two : (n i j : ℕ) → i < j → j < n → p i ≡ true → p j ≡ true → 1 < number n p
  number_two n i j h l e f =
      let b : number (suc j) p ≤ number n p = number_mono p (suc j) n l in
      let c : 0 < number j p = number_some j i h e in
      omega (arith, number_in j f)

  -- where at most one passes, two that do are the same
  pub only_one : (n i j : ℕ) → number n p ≤ 1 → i < n → j < n → p i ≡ true → p j ≡ true → i ≡ j
  only_one n i j few h l e f =
      by_eq i j (λ q. q)
      (λ ne. absurd (by_lt i j (λ k. let z : 1 < number n p = number_two n i j k l e f in let y : ⊥ = omega arith in y)
      (λ k. let z : 1 < number n p = number_two n j i (omega (arith, ne)) h f e in let y : ⊥ = omega arith in y)))

  -- none passes from a to b: the count stays
  pub number_gap : (a b : ℕ) → a ≤ b → ((i : ℕ) → a ≤ i → i < b → p i ≡ false) → number b p ≡ number a p
  number_gap a zero h none = let e : a ≡ 0 = omega arith in rw e
  number_gap a (suc b) h none =
      by_le a b (λ l. rw (number_suc, none b l (omega arith), add-zero) (number_gap a b l (λ i x y. none i x (omega arith))))
      (λ l. let e : a ≡ suc b = omega arith in rw e)

  -- one passes and no other
  pub number_single : (n i : ℕ) → i < n → p i ≡ true → ((j : ℕ) → j < n → p j ≡ true → j ≡ i) → number n p ≡ 1
  number_single n i h e alone =
      let low : number i p ≡ 0 = number_none i p (λ j l. other j (omega arith) (λ z. let y : ⊥ = omega arith in y)) in
      let high : number n p ≡ number (suc i) p = number_gap (suc i) n h (λ j g l. other j l (λ z. let y : ⊥ = omega arith in y)) in
      high ∙ number_in i e ∙ ap suc low
    where
      other : (j : ℕ) → j < n → (j ≡ i → ⊥) → p j ≡ false
      other j l ne = by_test (p j) (λ y. absurd (ne (alone j l y))) (λ f. f)

  -- one that fails makes the count less than all
  pub number_less : (n i : ℕ) → i < n → p i ≡ false → number n p < n
  number_less n i h e =
      le_ind (λ (m : ℕ). number m p < m)
      (let a : number (suc i) p ≡ number i p + 0 = rw e at (number_suc i p) in let b : number i p ≤ i = number_le i p in omega arith)
      (λ m l r. let a : number (suc m) p ≡ number m p + one (p m) = number_suc m p in let b : one (p m) ≤ 1 = one_le (p m) in omega arith) n h

-- one more that passes
number_more : (a : ℕ → Bool) (n x : ℕ) → x < n → a x ≡ false → number n (λ p. a p || eqb x p) ≡ number n a + 1
number_more a zero x h e = absurd (let z : ⊥ = omega arith in z)
number_more a (suc n) x h e =
    by_eq x n
    (λ q. let here : a n ≡ false = rw (← q) e in
    let rest : number n (λ p. a p || eqb x p) ≡ number n a = number_same (λ p. a p || eqb x p) a n (λ p l. rw (ne_eqb x p (λ z. omega arith), or-false)) in
    let c : number (suc n) (λ p. a p || eqb x p) ≡ number n (λ p. a p || eqb x p) + 1 = number_suc n (λ p. a p || eqb x p) ∙ rw (here, q, eq-eqb n n refl) in
    let d : number (suc n) a ≡ number n a + 0 = number_suc n a ∙ rw here in
    omega arith)
    (λ ne. let rest : number n (λ p. a p || eqb x p) ≡ number n a + 1 = number_more a n x (omega (arith, ne)) e in
    let c : number (suc n) (λ p. a p || eqb x p) ≡ number n (λ p. a p || eqb x p) + one (a n) = number_suc n (λ p. a p || eqb x p) ∙ rw (ne_eqb x n ne, or-false) in
    let d : number (suc n) a ≡ number n a + one (a n) = number_suc n a in
    omega arith)

-- ---- w different numbers below n, f 0 to f (w - 1)

module _ (f : ℕ → ℕ) (n w : ℕ) (inside : (i : ℕ) → i < w → f i < n) (once : (i j : ℕ) → i < w → j < w → f i ≡ f j → i ≡ j) where
  -- where each of them passes, at least w numbers pass
  pub pigeons : (d : ℕ → Bool) → ((i : ℕ) → i < w → d (f i) ≡ true) → w ≤ number n d
  pigeons d pass =
      rw (hits w inside once)
      (number_grows n (hit w) d (λ p h e. let r = any_one w (λ i. eqb (f i) p) e in let q : f r.0 ≡ p = eqb-true _ _ r.2 in rw (← q) (pass r.0 r.1)))
    where
      hit : ℕ → ℕ → Bool
      hit v p = any v (λ i. eqb (f i) p)

      hits : (v : ℕ) → ((i : ℕ) → i < v → f i < n) → ((i j : ℕ) → i < v → j < v → f i ≡ f j → i ≡ j) → v ≡ number n (hit v)
      hits zero a b = sym (number_none n (hit zero) (λ p h. none_of 0 (λ i. eqb (f i) p) (λ i l. absurd (let z : ⊥ = omega arith in z))))
      hits (suc v) a b =
          let old : v ≡ number n (hit v) = hits v (λ i l. a i (omega arith)) (λ i j l m e. b i j (omega arith) (omega arith) e) in
          let new : number n (λ p. hit v p || eqb (f v) p) ≡ number n (hit v) + 1 = number_more (hit v) n (f v) (a v (omega arith))
          (none_of v (λ i. eqb (f i) (f v)) (λ i l. ne_eqb (f i) (f v) (λ e. let z : i ≡ v = b i v (omega arith) (omega arith) e in let y : ⊥ = omega arith in y))) in
          let same : number n (hit (suc v)) ≡ number n (λ p. hit v p || eqb (f v) p) = number_same (hit (suc v)) (λ p. hit v p || eqb (f v) p) n (λ p l. any_suc v (λ i. eqb (f i) p)) in
          omega arith

  -- where a number below n is not among them, they are fewer than n
  pub room_left : (q : ℕ) → q < n → ((i : ℕ) → i < w → f i ≡ q → ⊥) → w < n
  room_left q h new =
      let many : w ≤ number n (λ i. not (eqb i q)) = pigeons (λ i. not (eqb i q)) (λ i l. rw (ne_eqb (f i) q (new i l))) in
      let less : number n (λ i. not (eqb i q)) < n = number_less (λ i. not (eqb i q)) n q h (rw (eq-eqb q q refl)) in
      omega arith
