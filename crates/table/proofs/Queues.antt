-- What it means that a queue holds exactly the deferred requests, once each: `queueExact`, in its parts.
use mathlib.Core.Path.{◌≡◌, refl}
use mathlib.Core.Bool.{Bool, true, ◌&&◌}
use Prim.Native.Nat.{ℕ, ◌≤◌, ◌<◌}
use borrow.Author.Tests.{eqb-true, eq-eqb, leb-true, le-leb, ltb-true, lt-ltb}
use lib.Dec.{eqb, leb, ltb}
use Rattle.kit.specs.Range.{all, one, number}
use Rattle.kit.proofs.Bools.{and_left, and_right, both_true}
use Rattle.kit.proofs.Counts.{number_some}
use Rattle.kit.proofs.Ranges.{all_at, all_of, one_true}
use Rattle.vote.specs.Data.{is_deferred, vote_at}
use Rattle.vote.specs.Queue.{queued_at}
use Rattle.vote.specs.declared.data.Site.{Site}
use Rattle.table.specs.Sound.{times_queued, queue_exact}

pub record Exact (s : Site) : Type 0 where
  pub few : s.waiting ≤ 16
  pub inside : (i : ℕ) → i < s.waiting → queued_at s.queue i < 16
  -- place p stands in the queue once if it is deferred, and else not at all
  pub times : (p : ℕ) → p < 16 → number s.waiting (λ i. eqb (queued_at s.queue i) p) ≡ one (is_deferred (vote_at s.votes p).mark)

pub exact_means : (s : Site) → queue_exact s ≡ true → Exact s
unfolding queue_exact times_queued
exact_means s e =
    let few : Bool = leb s.waiting 16 in
    let inside : Bool = all s.waiting (λ i. ltb (queued_at s.queue i) 16) in
    let times : ℕ → Bool = λ p. eqb (number s.waiting (λ i. eqb (queued_at s.queue i) p)) (one (is_deferred (vote_at s.votes p).mark)) in
    let rest : (inside && all 16 times) ≡ true = and_right few (inside && all 16 times) e in
    record {
      few = leb-true _ _ (and_left few (inside && all 16 times) e);
      inside = λ i h. ltb-true _ _ (all_at (λ j. ltb (queued_at s.queue j) 16) s.waiting i (and_left inside (all 16 times) rest) h);
      times = λ p h. eqb-true _ _ (all_at times 16 p (and_right inside (all 16 times) rest) h);
    }

pub exact_of : (s : Site) → Exact s → queue_exact s ≡ true
unfolding queue_exact times_queued
exact_of s x =
    both_true (le-leb _ _ x.few)
    (both_true (all_of s.waiting _ (λ i h. lt-ltb _ _ (x.inside i h))) (all_of 16 _ (λ p h. eq-eqb _ _ (x.times p h))))

-- what stands in it is deferred
pub exact_deferred : (s : Site) → Exact s → (i : ℕ) → i < s.waiting → is_deferred (vote_at s.votes (queued_at s.queue i)).mark ≡ true
exact_deferred s x i h =
    let p : ℕ = queued_at s.queue i in
    one_true _ (rw (← x.times p (x.inside i h)) (number_some (λ j. eqb (queued_at s.queue j) p) s.waiting i h (eq-eqb p p refl)))
