-- The verdict that the known voters call for: from so many of each kind to the verdict, and back.
use mathlib.Core.Path.{◌≡◌}
use mathlib.Core.Bool.{Bool}
use mathlib.Core.List.{List}
use Prim.Native.Nat.{ℕ, ◌≤◌, ◌<◌}
use native.Mathlib.Omega.{arith}
use borrow.Author.Tests.{le-leb, lt-leb}
use Rattle.kit.proofs.Bools.{by_le}
use Rattle.majority.specs.Majority.{majority, blocking}
use Rattle.vote.specs.Verdicts.{verdict_due}
use Rattle.vote.specs.Voters.{voters_known}
use Rattle.vote.specs.declared.data.Verdict.TheVariants as verdict

module _ (n : ℕ) (oks others : List Bool) (p : ℕ) where
  -- m OK voters: accepted
  pub due_accepted : majority n ≤ voters_known oks p → verdict_due n oks others p ≡ verdict.Accepted
  unfolding verdict_due
  due_accepted h = rw (le-leb (majority n) (voters_known oks p) h)

  -- fewer, and n - m + 1 others: rejected
  pub due_rejected : voters_known oks p < majority n → blocking n ≤ voters_known others p → verdict_due n oks others p ≡ verdict.Rejected
  unfolding verdict_due
  due_rejected h k = rw (lt-leb (majority n) (voters_known oks p) h, le-leb (blocking n) (voters_known others p) k)

  -- fewer of each: open
  pub due_open : voters_known oks p < majority n → voters_known others p < blocking n → verdict_due n oks others p ≡ verdict.Open
  unfolding verdict_due
  due_open h k = rw (lt-leb (majority n) (voters_known oks p) h, lt-leb (blocking n) (voters_known others p) k)

  -- ---- and back

  pub accepted_due : verdict_due n oks others p ≡ verdict.Accepted → majority n ≤ voters_known oks p
  accepted_due e =
      by_le (majority n) (voters_known oks p) (λ h. h)
      (λ h. by_le (blocking n) (voters_known others p) (λ k. absurd (let z : ◌≡◌ {A = ℕ} 0 1 = cc (e, due_rejected h k) in let y : ⊥ = omega arith in y))
      (λ k. absurd (let z : ◌≡◌ {A = ℕ} 0 1 = cc (e, due_open h k) in let y : ⊥ = omega arith in y)))

  pub rejected_due : verdict_due n oks others p ≡ verdict.Rejected → (voters_known oks p < majority n) × (blocking n ≤ voters_known others p)
  rejected_due e =
      by_le (majority n) (voters_known oks p)
      (λ h. absurd (let z : ◌≡◌ {A = ℕ} 0 1 = cc (e, due_accepted h) in let y : ⊥ = omega arith in y))
      (λ h. by_le (blocking n) (voters_known others p) (λ k. (h, k))
      (λ k. absurd (let z : ◌≡◌ {A = ℕ} 0 1 = cc (e, due_open h k) in let y : ⊥ = omega arith in y)))

  pub open_due : verdict_due n oks others p ≡ verdict.Open → (voters_known oks p < majority n) × (voters_known others p < blocking n)
  open_due e =
      by_le (majority n) (voters_known oks p)
      (λ h. absurd (let z : ◌≡◌ {A = ℕ} 0 1 = cc (e, due_accepted h) in let y : ⊥ = omega arith in y))
      (λ h. by_le (blocking n) (voters_known others p)
      (λ k. absurd (let z : ◌≡◌ {A = ℕ} 0 1 = cc (e, due_rejected h k) in let y : ⊥ = omega arith in y)) (λ k. (h, k)))
