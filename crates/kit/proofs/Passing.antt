-- The numbers below n that pass a test, as a list, rising: `passing n p`. Which number stands at which place, and which lists are such lists.
use mathlib.Core.Path.{◌≡◌, refl, sym, ap, ap₂, ◌∙◌, subst}
use mathlib.Core.Bool.{Bool, true, false, ◌||◌, cond, or-false}
use mathlib.Core.List.{List, [], ◌∷◌, ◌++◌, append-nil}
use Prim.Native.Nat.{ℕ, zero, suc, ◌+◌, ◌≤◌, ◌<◌}
use native.Mathlib.Nat.{not-suc-le-zero, lt_irrefl}
use native.Mathlib.Omega.{arith}
use borrow.Author.Tests.{eq-eqb, ne_eqb}
use lib.Dec.{eqb}
use lib.ListN.{length, get_or, get_or-append, length-append}
use lib.Seq.{get_or-append_seam}
use Rattle.kit.specs.Lists.{listed}
use Rattle.kit.specs.Range.{any, one, number, passing}
use Rattle.kit.proofs.Bools.{by_eq, by_lt}
use Rattle.kit.proofs.Counts.{number_in}
use Rattle.kit.proofs.Listings.{listed_snoc}
use Rattle.kit.proofs.Ranges.{number_mono, none_of}

-- how many there are is the length of their list
pub length_passing : (n : ℕ) (p : ℕ → Bool) → length (passing n p) ≡ number n p
unfolding passing number
length_passing zero p = refl
length_passing (suc n) p = length-append (passing n p) _ ∙ ap₂ (λ (a b : ℕ). a + b) (length_passing n p) (last (p n))
  where
    last : (b : Bool) → length (cond b (n ∷ []) []) ≡ one b
    last true = refl
    last false = refl

-- ---- the numbers that pass, by their places

-- i passes, and k of those below it do
pub record Nth (N : ℕ) (p : ℕ → Bool) (k i : ℕ) : Type 0 where
  pub below : i < N
  pub passes : p i ≡ true
  pub nth : number i p ≡ k

-- such a number stands at place k
pub passing_nth : (N : ℕ) (p : ℕ → Bool) (k : ℕ) → k < length (passing N p) → Nth N p k (get_or (passing N p) k 0)
unfolding passing
passing_nth zero p k h = absurd (not-suc-le-zero h)
passing_nth (suc N) p k h = go (passing_nth N p k) (p N) refl h
  where
    l : List ℕ
    l = passing N p

    old : (t : Bool) → k < length l → Nth N p k (get_or l k 0) → Nth (suc N) p k (get_or (l ++ cond t (N ∷ []) []) k 0)
    old t b q =
        subst (Nth (suc N) p k) (sym (get_or-append l (cond t (N ∷ []) []) 0 k b)) (record { below = omega (arith, q.below); passes = q.passes; nth = q.nth })

    go : (k < length l → Nth N p k (get_or l k 0)) → (t : Bool) → p N ≡ t
        → k < length (l ++ cond t (N ∷ []) []) → Nth (suc N) p k (get_or (l ++ cond t (N ∷ []) []) k 0)
    go ih true e b =
        by_lt k (length l) (λ in-l. old true in-l (ih in-l))
        (λ at-end.
        let q : length l ≡ k = omega (arith, length-append l (N ∷ [])) in
        let g : get_or (l ++ (N ∷ [])) k 0 ≡ N = ap (λ (j : ℕ). get_or (l ++ (N ∷ [])) j 0) (sym q) ∙ get_or-append_seam l N [] 0 in
        subst (Nth (suc N) p k) (sym g) (record { below = omega arith; passes = e; nth = sym (length_passing N p) ∙ q }))
    go ih false e b = let in-l : k < length l = subst (λ (m : List ℕ). k < length m) (append-nil l) b in old false in-l (ih in-l)

-- of two numbers, the one with fewer that pass below it is the smaller
pub nth_rises : (p : ℕ → Bool) (i j : ℕ) → number i p < number j p → i < j
nth_rises p i j h = by_lt i j (λ l. l) (λ l. absurd (lt_irrefl 0 (omega (arith, number_mono p j i l))))

-- one that passes stands at its place
pub passing_at : (N : ℕ) (p : ℕ → Bool) (i : ℕ) → i < N → p i ≡ true → (number i p < length (passing N p)) × (get_or (passing N p) (number i p) 0 ≡ i)
passing_at N p i h e =
    let room : number i p < length (passing N p) = rw length_passing (omega (arith, number_in p i e, number_mono p (suc i) N h)) in
    let q = passing_nth N p (number i p) room in
    let j = get_or (passing N p) (number i p) 0 in
    (room, same j q.passes q.nth)
  where
    same : (j : ℕ) → p j ≡ true → number j p ≡ number i p → j ≡ i
    same j f q =
        by_lt j i (λ l. absurd (lt_irrefl 0 (omega (arith, number_in p j f, number_mono p (suc j) i l))))
        (λ g. by_lt i j (λ l. absurd (lt_irrefl 0 (omega (arith, number_in p i e, number_mono p (suc i) j l)))) (λ k. omega arith))

-- ---- numbers that rise

abbrev pub Rising : (ℕ → ℕ) → ℕ → Type 0
Rising item n = (j k : ℕ) → j < k → k < n → item j < item k

-- each above the one before it
pub rising_of : (item : ℕ → ℕ) (n : ℕ) → ((k : ℕ) → suc k < n → item k < item (suc k)) → Rising item n
rising_of item n step j zero h l = absurd (not-suc-le-zero h)
rising_of item n step j (suc k) h l =
    by_lt j k (λ b. omega (arith, rising_of item n step j k b (omega arith), step k l))
    (λ b. let e : j ≡ k = omega arith in subst (λ (i : ℕ). item i < item (suc k)) (sym e) (step k l))

-- the numbers that pass rise
pub passing_rises : (N : ℕ) (p : ℕ → Bool) → Rising (λ k. get_or (passing N p) k 0) (length (passing N p))
passing_rises N p j k h l =
    nth_rises p (get_or (passing N p) j 0) (get_or (passing N p) k 0)
    (omega (arith, (passing_nth N p j (omega arith)).nth, (passing_nth N p k l).nth))

-- ---- the list, from the test

-- two tests that agree
pub passing_same : (N : ℕ) (p q : ℕ → Bool) → ((i : ℕ) → i < N → p i ≡ q i) → passing N p ≡ passing N q
unfolding passing
passing_same zero p q h = refl
passing_same (suc N) p q h = rw (passing_same N p q (λ i l. h i (omega arith)), h N (omega arith))

-- none passes
pub passing_none : (N : ℕ) (p : ℕ → Bool) → ((i : ℕ) → i < N → p i ≡ false) → passing N p ≡ []
unfolding passing
passing_none zero p h = refl
passing_none (suc N) p h = rw (passing_none N p (λ i l. h i (omega arith)), h N (omega arith))

-- x passes too, above all others
pub passing_more : (N x : ℕ) (p q : ℕ → Bool) → x < N → ((i : ℕ) → i < N → q i ≡ (p i || eqb x i)) → ((i : ℕ) → x ≤ i → i < N → p i ≡ false) → passing N q ≡ passing N p ++ (x ∷ [])
unfolding passing
passing_more zero x p q h e above = absurd (not-suc-le-zero h)
passing_more (suc N) x p q h e above =
    by_eq x N
    (λ here.
    let here-q : q N ≡ true = e N (omega arith) ∙ rw (above N (omega arith) (omega arith), eq-eqb x N here) in
    let same : passing N q ≡ passing N p = passing_same N q p (λ i l. e i (omega arith) ∙ rw (ne_eqb x i (λ z. omega arith)) (or-false (p i))) in
    rw (here-q, above N (omega arith) (omega arith), same, append-nil (passing N p), here))
    (λ ne.
    let not-q : q N ≡ false = e N (omega arith) ∙ rw (above N (omega arith) (omega arith), ne_eqb x N ne) in
    rw (not-q, above N (omega arith) (omega arith), append-nil (passing N q), append-nil (passing N p))
    (passing_more N x p q (omega (arith, ne)) (λ i l. e i (omega arith)) (λ i g l. above i g (omega arith))))

-- n rising numbers below N are those that pass, where p asks whether a number is one of them
pub passing_items : (N n : ℕ) (item : ℕ → ℕ) (p : ℕ → Bool) → Rising item n → ((k : ℕ) → k < n → item k < N)
    → ((i : ℕ) → i < N → p i ≡ any n (λ k. eqb (item k) i)) → passing N p ≡ listed n item
unfolding any listed
passing_items N zero item p r low e = passing_none N p e
passing_items N (suc n) item p r low e =
    passing_more N (item n) (λ i. any n (λ k. eqb (item k) i)) p (low n (omega arith)) e
    (λ i g l. none_of n (λ k. eqb (item k) i) (λ k h. ne_eqb (item k) i (λ z. omega (arith, r k n h (omega arith)))))
    ∙ ap (λ (l : List ℕ). l ++ (item n ∷ []))
    (passing_items N n item (λ i. any n (λ k. eqb (item k) i)) (λ j k a b. r j k a (omega arith)) (λ k h. low k (omega arith)) (λ i l. refl))
    ∙ sym (listed_snoc n item)
