-- From `any`, `all`, `number`, `first` and `largest` to each number below n, and back.
use mathlib.Core.Path.{◌≡◌, refl, sym, ap, ◌∙◌}
use mathlib.Core.Bool.{Bool, true, false, ◌&&◌, ◌||◌, cond, or-true, and-false}
use Prim.Native.Nat.{ℕ, zero, suc, ◌+◌, ◌≤◌, ◌<◌, max}
use native.Mathlib.Decide.{dec_lt, le_ind}
use native.Mathlib.Nat.{le_refl, le_trans, add_comm, add_assoc, le-add_right}
use native.Mathlib.Omega.{arith}
use Rattle.std.specs.Ordering.{ord_max, nat_cmp}
use borrow.Author.Tests.{lt-ltb, le-ltb, eq-eqb, ne_eqb}
use Rattle.kit.specs.Range.{any, all, one, number, first, largest}
use Rattle.kit.proofs.Bools.{clash, or_left, or_right, by_test, by_lt}

-- ---- one number more

pub any_suc : (n : ℕ) (p : ℕ → Bool) → any (suc n) p ≡ (any n p || p n)
unfolding any
any_suc n p = refl

pub all_suc : (n : ℕ) (p : ℕ → Bool) → all (suc n) p ≡ (all n p && p n)
unfolding all
all_suc n p = refl

pub number_suc : (n : ℕ) (p : ℕ → Bool) → number (suc n) p ≡ number n p + one (p n)
unfolding number
number_suc n p = refl

pub first_suc : (n : ℕ) (p : ℕ → Bool) → first (suc n) p ≡ cond (any n p) (first n p) (cond (p n) n (suc n))
unfolding first
first_suc n p = refl

pub largest_suc : (n : ℕ) (p : ℕ → Bool) (f : ℕ → ℕ) → largest (suc n) p f ≡ cond (p n) (max (largest n p f) (f n)) (largest n p f)
unfolding largest
largest_suc n p f = refl

-- ---- from one number to the answer

-- one that passes makes `any` true
pub any_hit : (n i : ℕ) (p : ℕ → Bool) → i < n → p i ≡ true → any n p ≡ true
any_hit zero i p l e = absurd (let z : ⊥ = omega arith in z)
any_hit (suc n) i p l e =
    rw any_suc
    (elim (dec_lt i n) [ yes h ↦ rw (any_hit n i p h e) | no h ↦ (let j : n ≡ i = omega arith in rw (j, e, or-true)) ])

-- one that fails makes `all` false
pub all_miss : (n i : ℕ) (p : ℕ → Bool) → i < n → p i ≡ false → all n p ≡ false
all_miss zero i p l e = absurd (let z : ⊥ = omega arith in z)
all_miss (suc n) i p l e =
    rw all_suc
    (elim (dec_lt i n) [ yes h ↦ rw (all_miss n i p h e) | no h ↦ (let j : n ≡ i = omega arith in rw (j, e, and-false)) ])

-- ---- from the answer to each number

pub all_at : (p : ℕ → Bool) (n i : ℕ) → all n p ≡ true → i < n → p i ≡ true
all_at p n i a l = by_test (p i) (λ e. e) (λ e. clash a (all_miss n i p l e))

pub any_at : (p : ℕ → Bool) (n i : ℕ) → any n p ≡ false → i < n → p i ≡ false
any_at p n i a l = by_test (p i) (λ e. clash (any_hit n i p l e) a) (λ e. e)

-- ---- from every number to the answer

pub all_of : (n : ℕ) (p : ℕ → Bool) → ((i : ℕ) → i < n → p i ≡ true) → all n p ≡ true
unfolding all
all_of zero p h = refl
all_of (suc n) p h = rw (all_of n p (λ i l. h i (omega arith)), h n (omega arith))

pub none_of : (n : ℕ) (p : ℕ → Bool) → ((i : ℕ) → i < n → p i ≡ false) → any n p ≡ false
unfolding any
none_of zero p h = refl
none_of (suc n) p h = rw (none_of n p (λ i l. h i (omega arith)), h n (omega arith))

-- the one that makes `any` true
pub any_one : (n : ℕ) (p : ℕ → Bool) → any n p ≡ true → (i : ℕ) × (i < n) × (p i ≡ true)
unfolding any
any_one zero p e = clash e refl
any_one (suc n) p e =
    by_test (p n) (λ here. (n, omega arith, here))
    (λ not-here. let r = any_one n p (by_test (any n p) (λ t. t) (λ f. clash e (rw (f, not-here)))) in (r.0, omega (arith, r.1), r.2))

-- ---- two tests that agree

module _ (p q : ℕ → Bool) where
  pub any_same : (n : ℕ) → ((i : ℕ) → i < n → p i ≡ q i) → any n p ≡ any n q
  unfolding any
  any_same zero h = refl
  any_same (suc n) h = rw (any_same n (λ i l. h i (omega arith)), h n (omega arith))

  pub all_same : (n : ℕ) → ((i : ℕ) → i < n → p i ≡ q i) → all n p ≡ all n q
  unfolding all
  all_same zero h = refl
  all_same (suc n) h = rw (all_same n (λ i l. h i (omega arith)), h n (omega arith))

  pub number_same : (n : ℕ) → ((i : ℕ) → i < n → p i ≡ q i) → number n p ≡ number n q
  unfolding number
  number_same zero h = refl
  number_same (suc n) h = rw (number_same n (λ i l. h i (omega arith)), h n (omega arith))

  pub first_same : (n : ℕ) → ((i : ℕ) → i < n → p i ≡ q i) → first n p ≡ first n q
  unfolding first
  first_same zero h = refl
  first_same (suc n) h = rw (any_same n (λ i l. h i (omega arith)), first_same n (λ i l. h i (omega arith)), h n (omega arith))

-- ---- the first

-- i passes and none below it does
pub first_is : (n i : ℕ) (p : ℕ → Bool) → any i p ≡ false → i < n → p i ≡ true → first n p ≡ i
first_is zero i p m l e = absurd (let z : ⊥ = omega arith in z)
first_is (suc n) i p m l e =
    rw first_suc
    (elim (dec_lt i n) [ yes h ↦ rw (any_hit n i p h e) (first_is n i p m h e) | no h ↦ (let j : n ≡ i = omega arith in rw (j, m, e)) ])

pub first_none : (n : ℕ) (p : ℕ → Bool) → any n p ≡ false → first n p ≡ n
unfolding first
first_none zero p m = refl
first_none (suc n) p m =
    let e : (any n p || p n) ≡ false = sym (any_suc n p) ∙ m in
    rw (or_left (any n p) (p n) e, or_right (any n p) (p n) e)

pub first_le : (n : ℕ) (p : ℕ → Bool) → first n p ≤ n
unfolding first
first_le zero p = omega arith
first_le (suc n) p = go (any n p) (p n) (first_le n p)
  where
    go : (a b : Bool) → first n p ≤ n → cond a (first n p) (cond b n (suc n)) ≤ suc n
    go true b h = omega arith
    go false true h = omega arith
    go false false h = omega arith

-- a first below n passes, and none below it does
pub first_hit : (n : ℕ) (p : ℕ → Bool) → any n p ≡ true → (first n p < n) × (p (first n p) ≡ true) × (any (first n p) p ≡ false)
unfolding first any
first_hit zero p e = clash e refl
first_hit (suc n) p e = go (first_hit n p) (any n p) refl (p n) refl e
  where
    go : (any n p ≡ true → (first n p < n) × (p (first n p) ≡ true) × (any (first n p) p ≡ false))
        → (a : Bool) → any n p ≡ a → (b : Bool) → p n ≡ b → (a || b) ≡ true
        → (cond a (first n p) (cond b n (suc n)) < suc n) × (p (cond a (first n p) (cond b n (suc n))) ≡ true)
        × (any (cond a (first n p) (cond b n (suc n))) p ≡ false)
    go below true a b f t = let r = below a in (omega (arith, r.0), r.1, r.2)
    go below false a true f t = (omega arith, f, a)
    go below false a false f t = clash t refl

-- ---- how many

-- a test counts at most once
pub one_le : (b : Bool) → one b ≤ 1
one_le true = omega arith
one_le false = omega arith

-- one that counts passes
pub one_true : (b : Bool) → 0 < one b → b ≡ true
one_true true h = refl
one_true false h = absurd (let z : ⊥ = omega arith in z)

pub number_le : (n : ℕ) (p : ℕ → Bool) → number n p ≤ n
unfolding number
number_le zero p = le_refl 0
number_le (suc n) p = let h : number n p ≤ n = number_le n p in omega (arith, one_le (p n))

-- of more numbers there are not fewer
pub number_mono : (p : ℕ → Bool) (i j : ℕ) → i ≤ j → number i p ≤ number j p
unfolding number
number_mono p i j h =
    le_ind (λ (m : ℕ). number i p ≤ number m p) (le_refl (number i p)) (λ m l e. le_trans e (le-add_right (number m p) (one (p m)))) j h

one_grows : (a b : Bool) → (a ≡ true → b ≡ true) → one a ≤ one b
one_grows true b h = rw (h refl) (le_refl 1)
one_grows false b h = omega arith

-- a wider test passes no fewer
pub number_grows : (n : ℕ) (p q : ℕ → Bool) → ((i : ℕ) → i < n → p i ≡ true → q i ≡ true) → number n p ≤ number n q
unfolding number
number_grows zero p q h = le_refl 0
number_grows (suc n) p q h =
    let r : number n p ≤ number n q = number_grows n p q (λ i l. h i (omega arith)) in omega (arith, one_grows (p n) (q n) (h n (omega arith)))

pub number_none : (n : ℕ) (p : ℕ → Bool) → ((i : ℕ) → i < n → p i ≡ false) → number n p ≡ 0
unfolding number
number_none zero p h = refl
number_none (suc n) p h = rw (number_none n p (λ i l. h i (omega arith)), h n (omega arith))

-- the count from the low end
pub number_low : (n : ℕ) (p : ℕ → Bool) → number (suc n) p ≡ one (p 0) + number n (λ i. p (suc i))
unfolding number
number_low zero p = add_comm 0 (one (p 0))
number_low (suc n) p =
    ap (λ (x : ℕ). x + one (p (suc n))) (number_low n p) ∙ add_assoc (one (p 0)) (number n (λ i. p (suc i))) (one (p (suc n)))

-- a number below n that both tests pass
abbrev pub Common : ℕ → (ℕ → Bool) → (ℕ → Bool) → Type 0
Common n p q = (i : ℕ) × (i < n) × (p i ≡ true) × (q i ≡ true)

-- Two tests that pass more than n of the numbers below n between them pass one together. Shown once, for every n.
pub overlap : (n : ℕ) (p q : ℕ → Bool) → n < number n p + number n q → Common n p q
unfolding number
overlap zero p q h = absurd (let z : ⊥ = omega arith in z)
overlap (suc n) p q h = go (p n) refl (q n) refl h (overlap n p q)
  where
    wider : Common n p q → Common (suc n) p q
    wider c = (c.0, omega (arith, c.1), c.2, c.3)

    go : (a : Bool) → p n ≡ a → (b : Bool) → q n ≡ b → suc n < (number n p + one a) + (number n q + one b)
        → (n < number n p + number n q → Common n p q) → Common (suc n) p q
    go true e true f h below = (n, omega arith, e, f)
    go true e false f h below = wider (below (omega arith))
    go false e true f h below = wider (below (omega arith))
    go false e false f h below = wider (below (omega arith))

-- a count above 0 has one that passes
pub one_of : (n : ℕ) (p : ℕ → Bool) → 0 < number n p → (i : ℕ) × (i < n) × (p i ≡ true)
one_of n p h =
    by_test (any n p) (λ t. any_one n p t)
    (λ f. absurd (let z : number n p ≡ 0 = number_none n p (λ i l. any_at p n i f l) in let y : ⊥ = omega arith in y))

-- ---- the largest

pub largest_at : (n : ℕ) (p : ℕ → Bool) (f : ℕ → ℕ) (i : ℕ) → i < n → p i ≡ true → f i ≤ largest n p f
unfolding largest
largest_at zero p f i l e = absurd (let z : ⊥ = omega arith in z)
largest_at (suc n) p f i l e = go (p n) refl (dec_lt i n) (λ h. largest_at n p f i h e)
  where
    go : (b : Bool) → p n ≡ b → Dec (i < n) → (i < n → f i ≤ largest n p f) → f i ≤ cond b (max (largest n p f) (f n)) (largest n p f)
    go true b (yes h) r = let r' = r h in omega arith
    go true b (no h) r = let j : i ≡ n = omega arith in rw j (omega arith)
    go false b (yes h) r = r h
    go false b (no h) r = let j : i ≡ n = omega arith in clash e (rw (← j) at b)

-- `a.max(b)` is the larger of the two
pub ord_max_is : (a b : ℕ) → ord_max nat_cmp a b ≡ max a b
ord_max_is a b = by_lt b a (λ h. rw (lt-ltb b a h) (omega arith)) (λ h. rw (le-ltb b a h) (by_lt a b (λ k. rw (ne_eqb b a (omega arith)) (omega arith)) (λ k. rw (eq-eqb b a (omega arith)) (omega arith))))

pub largest_below : (n : ℕ) (p : ℕ → Bool) (f : ℕ → ℕ) (b : ℕ) → ((i : ℕ) → i < n → p i ≡ true → f i ≤ b) → largest n p f ≤ b
unfolding largest
largest_below zero p f b h = omega arith
largest_below (suc n) p f b h = go (p n) refl (largest_below n p f b (λ i l. h i (omega arith)))
  where
    go : (t : Bool) → p n ≡ t → largest n p f ≤ b → cond t (max (largest n p f) (f n)) (largest n p f) ≤ b
    go true t r = let e : f n ≤ b = h n (omega arith) t in omega arith
    go false t r = r
