-- What the code asks of a queue, of which it sees the first places as a list of their own.
use mathlib.Core.Path.{◌≡◌, ◌∙◌}
use mathlib.Core.Bool.{Bool, true, false}
use mathlib.Core.List.{List}
use Prim.Native.Nat.{ℕ, ◌≤◌}
use native.Mathlib.Omega.{arith}
use borrow.Author.Tests.{le-leb}
use lib.Dec.{eqb, ltb}
use lib.ListN.{length, get_or, take}
use Rattle.std.proofs.lemmas.List.{length-take, get_or-take}
use Rattle.kit.specs.Lists.{listed}
use Rattle.kit.specs.Range.{all, number, one}
use Rattle.kit.proofs.Listings.{listed_at}
use Rattle.kit.proofs.Ranges.{all_same, number_same}
use Rattle.vote.specs.Data.{is_deferred, vote_at}
use Rattle.vote.specs.Queue.{queued_at}
use Rattle.vote.specs.declared.data.Vote.{Vote}
use Rattle.table.specs.Parts.{queue_holds}

-- a place that stands so often in the queue
module _ (times : List ℕ) (votes : List Vote) where
  abbrev pub queued_right : ℕ → Bool
  queued_right k = eqb (get_or times k 0) (one (is_deferred (vote_at votes k).mark))

module _ (waiting : ℕ) (queue : List ℕ) (votes : List Vote) {w : ℕ} (l : length queue ≡ 16) (e : w ≡ waiting) (h : w ≤ 16) where
  taken : length (take w queue) ≡ w
  taken = length-take w queue ∙ omega arith

  module _ {r : Bool} (f : r ≡ all (length (take w queue)) (λ i. ltb (queued_at (take w queue) i) 16)) where
    first_places : r ≡ all w (λ i. ltb (queued_at queue i) 16)
    first_places =
        f ∙ rw taken (all_same (λ i. ltb (queued_at (take w queue) i) 16) (λ i. ltb (queued_at queue i) 16) w (λ i k. rw (get_or-take w queue i 0 k)))

    pub queue_strange : r ≡ false → r ≡ queue_holds waiting queue votes
    queue_strange z = rw (← e, le-leb w 16 h, ← first_places, z)

    pub queue_right
        : r ≡ true → {times : List ℕ} → times ≡ listed 16 (λ p. number (length (take w queue)) (λ i. eqb (queued_at (take w queue) i) p))
        → {g : Bool} → g ≡ all 16 (queued_right times votes) → g ≡ queue_holds waiting queue votes
    queue_right t {times} m {g} k = rw (← e, le-leb w 16 h, ← first_places, t) (k ∙ all_same (queued_right times votes) (λ p. eqb (number w (λ i. eqb (queued_at queue i) p)) (one (is_deferred (vote_at votes p).mark))) 16
        (λ p q. rw (
          m,
          listed_at 16 p (λ p. number (length (take w queue)) (λ i. eqb (queued_at (take w queue) i) p)) 0 q,
          taken,
          number_same (λ i. eqb (queued_at (take w queue) i) p) (λ i. eqb (queued_at queue i) p) w (λ i u. rw (get_or-take w queue i 0 u)),
        )))
