-- `vote::consider::pending_in` meets its contract: after j turns it is the set of the pending below place j.
use mathlib.Core.Bool.{Bool}
use mathlib.Core.List.{List}
use mathlib.Core.Path.{◌≡◌}
use Prim.Native.Nat.{ℕ}
use Rattle.sets.specs.Sets.{set_of}
use Rattle.vote.specs.Data.{is_pending, vote_at}
use Rattle.vote.specs.declared.data.Vote.{Vote}
use Rattle.vote.proofs.consider.pending_in.Given as goal

-- the request at place j is pending
abbrev pub waits : List Vote → ℕ → Bool
waits votes j = is_pending (vote_at votes j)

abbrev pub invariant-loop-j : goal.invariant-loop-j
invariant-loop-j l = l.set ≡ set_of l.j (waits l.votes)
