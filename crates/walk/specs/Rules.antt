-- The same walk as rules: what each turn may do, and nothing of how it is computed. The proofs show that the rules leave one outcome,
-- and that it is `walked`.
use Rattle.std.specs.Prelude.{ℕ, suc, ◌≤◌, ◌<◌, true, false, List, ◌≡◌}
use Rattle.vote.specs.Consider.{defers}
use Rattle.vote.specs.Data.{is_open}
use Rattle.vote.specs.declared.data.Request.{Request}
use Rattle.vote.specs.declared.data.Site.{Site}
use Rattle.walk.specs.Walking.{Out, quiet, and_then, queued, outcome_at, voted_at, due_at, ruled_at, says_vote, says_rule}

-- Walk me n rs s i o: a walk of the site s, number `me` of n, from place i of its queue on leaves o.
pub data Walk (me n : ℕ) (rs : List Request) : Site → ℕ → Out → Type 0 where
  -- the queue is passed
  ends : {s : Site} {i : ℕ} → s.waiting ≤ i → Walk me n rs s i (quiet s)
  -- "one still deferred keeps its place"
  keeps : {s : Site} {i : ℕ} {o : Out} → i < s.waiting → defers (outcome_at me n rs s i) ≡ true
      → Walk me n rs s (suc i) o → Walk me n rs s i o
  -- "One that votes leaves the queue": the next one then stands at its place
  votes : {s : Site} {i : ℕ} {o : Out} → i < s.waiting → defers (outcome_at me n rs s i) ≡ false → is_open (due_at me n rs s i) ≡ true
      → Walk me n rs (voted_at me n rs s i) i o → Walk me n rs s i (and_then (says_vote me n rs s i) o)
  -- "if a vote brings a verdict, the walk starts again from the front"
  rules : {s : Site} {i : ℕ} {o : Out} → i < s.waiting → defers (outcome_at me n rs s i) ≡ false → is_open (due_at me n rs s i) ≡ false
      → Walk me n rs (ruled_at me n rs s i) 0 o
      → Walk me n rs s i (and_then (says_vote me n rs s i) (and_then (says_rule me n rs (queued s i) (due_at me n rs s i)) o))
