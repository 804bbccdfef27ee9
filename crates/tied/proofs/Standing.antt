-- How a site stands to a request before it says anything of it: all that the tie asks of a table. Every part of it is a part of soundness.
use Prim.Native.Nat.{ℕ, ◌≤◌, ◌<◌}
use mathlib.Core.Bool.{true}
use mathlib.Core.Path.{◌≡◌}
use Rattle.table.specs.Places.{mark_at, place_at}
use Rattle.table.specs.declared.data.Table.{Table}
use Rattle.vote.specs.Data.{is_open, vote_at}
use Rattle.vote.specs.declared.data.Site.{Site}
use Rattle.vote.proofs.MarkKinds.{NoVote}

-- "unused sites .. are blank": none of them has voted on place p
pub record Unvoiced (t : Table) (p : ℕ) : Type 0 where
  pub none : (u : ℕ) → t.count ≤ u → u < 7 → NoVote (mark_at t u p)

-- the request at the used place p, which s holds open
pub record HeldOpen (t : Table) (p : ℕ) (s : Site) : Type 0 where
  pub below : p < 16
  pub used : (place_at t p).stamp ≡ 0 → ⊥
  pub unruled : is_open (vote_at s.votes p).verdict ≡ true
