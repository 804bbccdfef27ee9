-- The rules leave one outcome, the walk that is computed is it, and so it unrolls by the four ways of a turn.
use Prim.Native.Nat.{ℕ, zero, suc, ◌+◌, ◌-◌, ◌≤◌, ◌<◌}
use mathlib.Core.Bool.{Bool, true, false}
use mathlib.Core.List.{List}
use mathlib.Core.Path.{◌≡◌, refl, ap, sym, ◌∙◌}
use native.Mathlib.Nat.{sub-zero}
use native.Mathlib.Numerals.{add-one}
use native.Mathlib.Omega.{arith}
use Rattle.kit.proofs.Bools.{clash, by_test, by_lt, by_eq}
use Rattle.vote.specs.Consider.{mark_of, defers}
use Rattle.vote.specs.Data.{is_deferred, is_open, request_in, vote_at}
use Rattle.vote.specs.Queue.{leaves_queue, place_in_queue}
use Rattle.vote.specs.Verdicts.{released, ruled}
use Rattle.vote.specs.Voting.{voted_from_queue}
use Rattle.vote.specs.declared.data.Mark.{Mark}
use Rattle.vote.specs.declared.data.Request.{Request}
use Rattle.vote.specs.declared.data.Site.{Site}
use Rattle.vote.specs.declared.data.Verdict.{Verdict}
use Rattle.vote.specs.declared.data.Verdict.TheVariants as verdict
use Rattle.vote.proofs.After.{voted_from_queue_lem, released_queue, released_other, ruled_queue_deferred, ruled_queue_other}
use Rattle.vote.proofs.Queues.{waiting_left, leaves_empty}
use Rattle.walk.specs.Rules.{Walk}
use Rattle.walk.specs.Walking.{Out, quiet, and_then, queued, outcome_at, voted_at, due_at, ruled_at, says_vote, looked_over, walk_up_to, walked, resolved, accepts, rejects, accepts_of, rejects_of}

-- ---- the number of deferred requests

waiting_out : (s : Site) (i : ℕ) → (leaves_queue s i).waiting ≡ s.waiting - 1
waiting_out s i =
    by_eq s.waiting 0 (λ e. ap (λ (t : Site). t.waiting) (sym (leaves_empty s i e)) ∙ omega arith) (λ ne. waiting_left s i (omega (arith, ne)))

-- one that votes leaves
pub fewer_voted : (me : ℕ) (s : Site) (i p : ℕ) (m : Mark) → (voted_from_queue me s i p m).waiting ≡ s.waiting - 1
fewer_voted me s i p m = (voted_from_queue_lem me s i p m).waiting ∙ waiting_out s i

fewer_released : (s : Site) (p : ℕ) → (released s p).waiting ≤ s.waiting
fewer_released s p =
    by_lt (place_in_queue s.queue s.waiting p) s.waiting
    (λ h. rw ((released_queue s p h).waiting, waiting_out s (place_in_queue s.queue s.waiting p)) (omega arith))
    (λ h. rw (released_other s p h).waiting (omega arith))

-- and nobody joins at a verdict
pub fewer_ruled : (s : Site) (q : Request) (p : ℕ) (d : Verdict) → (ruled s q p d).waiting ≤ s.waiting
fewer_ruled s q p d =
    by_test (is_deferred (vote_at s.votes p).mark) (λ e. rw (ruled_queue_deferred s p q d e).waiting (fewer_released s p))
    (λ e. rw (ruled_queue_other s p q d e).waiting (omega arith))

-- ---- the rules leave one outcome

pub one_outcome : {me n : ℕ} {rs : List Request} {s : Site} {i : ℕ} {o o' : Out} → Walk me n rs s i o → Walk me n rs s i o' → o ≡ o'
one_outcome (Walk.ends h) (Walk.ends h') = refl
one_outcome (Walk.ends h) (Walk.keeps h' e' w') = absurd (omega arith)
one_outcome (Walk.ends h) (Walk.votes h' e' f' w') = absurd (omega arith)
one_outcome (Walk.ends h) (Walk.rules h' e' f' w') = absurd (omega arith)
one_outcome (Walk.keeps h e w) (Walk.ends h') = absurd (omega arith)
one_outcome (Walk.keeps h e w) (Walk.keeps h' e' w') = one_outcome w w'
one_outcome (Walk.keeps h e w) (Walk.votes h' e' f' w') = clash e e'
one_outcome (Walk.keeps h e w) (Walk.rules h' e' f' w') = clash e e'
one_outcome (Walk.votes h e f w) (Walk.ends h') = absurd (omega arith)
one_outcome (Walk.votes h e f w) (Walk.keeps h' e' w') = clash e' e
one_outcome (Walk.votes h e f w) (Walk.votes h' e' f' w') = ap (and_then _) (one_outcome w w')
one_outcome (Walk.votes h e f w) (Walk.rules h' e' f' w') = clash f f'
one_outcome (Walk.rules h e f w) (Walk.ends h') = absurd (omega arith)
one_outcome (Walk.rules h e f w) (Walk.keeps h' e' w') = clash e' e
one_outcome (Walk.rules h e f w) (Walk.votes h' e' f' w') = clash f' f
one_outcome (Walk.rules h e f w) (Walk.rules h' e' f' w') = ap (and_then _) (ap (and_then _) (one_outcome w w'))

-- ---- a choice by a test

choice : {A : Type 0} (P : A → Type 0) (b : Bool) {x y : A} → (b ≡ true → P x) → (b ≡ false → P y) → P (elim b [ true ↦ x | false ↦ y ])
choice P true f g = f refl
choice P false f g = g refl

few_of : (d : Verdict) → accepts_of d + rejects_of d ≤ 1
few_of verdict.Open = omega arith
few_of verdict.Accepted = omega arith
few_of verdict.Rejected = omega arith

module _ (me n : ℕ) (rs : List Request) where
  pub fewer_voted_at : (s : Site) (i : ℕ) → (voted_at me n rs s i).waiting ≡ s.waiting - 1
  fewer_voted_at s i = fewer_voted me s i (queued s i) (mark_of (outcome_at me n rs s i))

  pub fewer_ruled_at : (s : Site) (i : ℕ) → (ruled_at me n rs s i).waiting ≤ s.waiting - 1
  fewer_ruled_at s i =
      rw (← fewer_voted_at s i) (fewer_ruled (voted_at me n rs s i) (request_in rs (queued s i)) (queued s i) (due_at me n rs s i))

  -- ---- the walk follows the rules

  scan_follows
      : (again : Site → Out) (b : ℕ) → ((s : Site) → s.waiting ≤ b → Walk me n rs s 0 (again s)) → (k i : ℕ) (s : Site) → s.waiting ≤ suc b
      → s.waiting - i ≡ k → Walk me n rs s i (looked_over me n rs again k i s)
  unfolding looked_over
  scan_follows again b follows zero i s h e = let past : s.waiting ≤ i = omega arith in Walk.ends past
  scan_follows again b follows (suc k) i s h e =
      choice (λ o. Walk me n rs s i o) (defers (outcome_at me n rs s i))
      (λ t. Walk.keeps (omega arith) t (scan_follows again b follows k (suc i) s h (omega arith)))
      (λ t. choice (λ o. Walk me n rs s i o) (is_open (due_at me n rs s i))
      (λ u. Walk.votes (omega arith) t u
      (scan_follows again b follows k i (voted_at me n rs s i) (rw (fewer_voted_at s i) (omega arith)) (rw (fewer_voted_at s i) (omega arith))))
      (λ u. Walk.rules (omega arith) t u (follows (ruled_at me n rs s i) (let z = fewer_ruled_at s i in omega arith))))

  follows_up_to : (f : ℕ) (s : Site) → s.waiting ≤ f → Walk me n rs s 0 (walk_up_to me n rs f s)
  unfolding walk_up_to
  follows_up_to zero s h = Walk.ends h
  follows_up_to (suc f) s h = scan_follows (walk_up_to me n rs f) f (follows_up_to f) s.waiting 0 s h (simp sub-zero)

  pub follows : (s : Site) (i : ℕ) → Walk me n rs s i (walked me n rs s i)
  unfolding walked
  follows s i =
      scan_follows (walk_up_to me n rs (s.waiting - 1)) (s.waiting - 1) (follows_up_to (s.waiting - 1)) (s.waiting - i) i s (omega arith) refl

  -- ---- so it is all that the rules allow, and unrolls by them

  pub walk_is : {s : Site} {i : ℕ} {o : Out} → Walk me n rs s i o → o ≡ walked me n rs s i
  walk_is {s} {i} w = one_outcome w (follows s i)

  pub walk_ends : (s : Site) (i : ℕ) → s.waiting ≤ i → walked me n rs s i ≡ quiet s
  walk_ends s i h = sym (walk_is (Walk.ends h))

  pub walk_keeps : (s : Site) (i : ℕ) → i < s.waiting → defers (outcome_at me n rs s i) ≡ true → walked me n rs s i ≡ walked me n rs s (i + 1)
  walk_keeps s i h e = rw add-one (sym (walk_is (Walk.keeps h e (follows s (suc i)))))

  pub walk_votes
      : (s : Site) (i : ℕ) → i < s.waiting → defers (outcome_at me n rs s i) ≡ false → is_open (due_at me n rs s i) ≡ true
      → walked me n rs s i ≡ and_then (says_vote me n rs s i) (walked me n rs (voted_at me n rs s i) i)
  walk_votes s i h e f = sym (walk_is (Walk.votes h e f (follows (voted_at me n rs s i) i)))

  pub walk_rules
      : (s : Site) (i : ℕ) → i < s.waiting → defers (outcome_at me n rs s i) ≡ false → is_open (due_at me n rs s i) ≡ false
      → walked me n rs s i ≡ and_then (says_vote me n rs s i) (resolved me n rs (voted_at me n rs s i) (queued s i) (due_at me n rs s i))
  walk_rules s i h e f = sym (walk_is (Walk.rules h e f (follows (ruled_at me n rs s i) 0)))

  -- ---- each verdict takes a request out of the queue, so they are few

  few_in : {s : Site} {i : ℕ} {o : Out} → Walk me n rs s i o → accepts o.log + rejects o.log ≤ s.waiting
  unfolding accepts rejects
  few_in (Walk.ends h) = omega arith
  few_in (Walk.keeps h e w) = few_in w
  few_in {s} {i} (Walk.votes h e f w) = let a = few_in w in let z = fewer_voted_at s i in omega arith
  few_in {s} {i} (Walk.rules h e f w) = let a = few_in w in let z = fewer_ruled_at s i in let d = few_of (due_at me n rs s i) in omega arith

  pub few_verdicts : (s : Site) (i : ℕ) → accepts (walked me n rs s i).log + rejects (walked me n rs s i).log ≤ s.waiting
  few_verdicts s i = few_in (follows s i)
