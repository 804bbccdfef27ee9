-- Two majorities meet, and a majority meets those that reject: each fact of m = n div 2 + 1 once, for every number n of sites.
use mathlib.Core.Bool.{Bool}
use Prim.Native.Nat.{ℕ, ◌+◌, ◌≤◌, ◌<◌}
use native.Mathlib.Omega.{arith}
use Rattle.kit.specs.Range.{number}
use Rattle.kit.proofs.Ranges.{Common, overlap}
use Rattle.majority.specs.Majority.{majority, blocking}

-- ---- the numbers

pub two_majorities : (n : ℕ) → n < majority n + majority n
unfolding majority
two_majorities n = omega arith

pub against_majority : (n : ℕ) → n < majority n + blocking n
unfolding majority blocking
against_majority n = omega arith

pub majority_some : (n : ℕ) → 0 < majority n
unfolding majority
majority_some n = omega arith

pub blocking_some : (n : ℕ) → 0 < blocking n
unfolding blocking
blocking_some n = omega arith

pub majority_le : (n : ℕ) → 0 < n → majority n ≤ n
unfolding majority
majority_le n h = omega arith

pub blocking_le : (n : ℕ) → 0 < n → blocking n ≤ n
unfolding majority blocking
blocking_le n h = omega arith

-- ---- the voters

-- two majorities of n sites have a site in common
pub majorities_meet : (n : ℕ) (p q : ℕ → Bool) → majority n ≤ number n p → majority n ≤ number n q → Common n p q
majorities_meet n p q a b = overlap n p q (omega (arith, two_majorities n))

-- enough to accept and enough to reject have a site in common
pub verdicts_meet : (n : ℕ) (p q : ℕ → Bool) → majority n ≤ number n p → blocking n ≤ number n q → Common n p q
verdicts_meet n p q a b = overlap n p q (omega (arith, against_majority n))
