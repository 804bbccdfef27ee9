-- The loop that gathers the numbers below n that pass a test at the front of an array of n, 0 behind them.
use mathlib.Core.Path.{◌≡◌, refl, sym, ap}
use mathlib.Core.Bool.{Bool, true, false}
use mathlib.Core.List.{List, [], ◌∷◌, ◌++◌, append-nil}
use Prim.Native.Nat.{ℕ, zero, suc, ◌+◌, ◌-◌, ◌≤◌, ◌<◌}
use native.Mathlib.Numerals.{add-one}
use native.Mathlib.Omega.{arith}
use lib.ListN.{length, set, replicate, length-append}
use lib.Seq.{set_at, append_snoc}
use Rattle.kit.specs.Range.{passing}

-- after i turns: k passed, and l has them in front
pub record Gathered (n : ℕ) (p : ℕ → Bool) (i k : ℕ) (l : List ℕ) : Type 0 where
  pub in_reach : i ≤ n
  pub few : k ≤ i
  pub so_far : k ≡ length (passing i p)
  pub front : l ≡ passing i p ++ replicate (n - k) 0

pub gathered_none : (n : ℕ) (p : ℕ → Bool) → Gathered n p 0 0 (replicate n 0)
unfolding passing
gathered_none n p = record { in_reach = omega arith; few = omega arith; so_far = refl; front = ap (λ (m : ℕ). replicate m 0) (let e : n ≡ n - 0 = omega arith in e) }

-- one place less is blank
blank_less : (m : ℕ) → 0 < m → replicate {A = ℕ} m 0 ≡ 0 ∷ replicate (m - 1) 0
blank_less zero h = absurd (let z : ⊥ = omega arith in z)
blank_less (suc m) h = ap (λ (j : ℕ). 0 ∷ replicate {A = ℕ} j 0) (let e : m ≡ suc m - 1 = omega arith in e)

module _ {n : ℕ} {p : ℕ → Bool} {i k : ℕ} {l : List ℕ} {r : Bool} (g : Gathered n p i k l) (h : i < n) (e : r ≡ p i) where
  pub gathered_more : r ≡ true → Gathered n p (i + 1) (k + 1) (set l k i)
  unfolding passing
  gathered_more t =
      record {
        in_reach = omega arith;
        few = omega (arith, g.few);
        so_far = rw (add-one i, ← e, t, length-append (passing i p) (i ∷ []), ← g.so_far);
        front =
            rw (add-one i, ← e, t, g.front, blank_less (n - k) (omega (arith, g.few)), set_at (passing i p) 0 (replicate (n - k - 1) 0) i k (sym g.so_far))
            (let q : n - k - 1 ≡ n - (k + 1) = omega arith in rw q (sym (append_snoc (passing i p) i (replicate (n - (k + 1)) 0))));
      }

  pub gathered_skip : r ≡ false → Gathered n p (i + 1) k l
  unfolding passing
  gathered_skip t =
      record {
        in_reach = omega arith;
        few = omega (arith, g.few);
        so_far = rw (add-one i, ← e, t, append-nil (passing i p)) g.so_far;
        front = rw (add-one i, ← e, t, append-nil (passing i p)) g.front;
      }

pub gathered_count : {n : ℕ} {p : ℕ → Bool} {i k : ℕ} {l : List ℕ} → Gathered n p i k l → n ≤ i → k ≡ length (passing n p)
gathered_count {n} {p} {i} {k} g h = let e : n ≡ i = omega (arith, g.in_reach) in rw e g.so_far

pub gathered_list : {n : ℕ} {p : ℕ → Bool} {i k : ℕ} {l : List ℕ} → Gathered n p i k l → n ≤ i → l ≡ passing n p ++ replicate (n - length (passing n p)) 0
gathered_list {n} {p} {i} {k} g h = let e : i ≡ n = omega (arith, g.in_reach) in rw (← gathered_count g h) (rw e at g.front)
