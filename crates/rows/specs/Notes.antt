-- What a site has noted, and a site put together again of its parts.
use Rattle.std.specs.Prelude.{ℕ, Bool, List, ℤ}
use Rattle.vote.specs.Numbers.{votes_from}
use Rattle.vote.specs.declared.data.Site.{Site}
use Rattle.vote.specs.declared.data.Vote.{Vote}

-- what a site has said of each request place, and its queue, of which the first `waiting` places count
pub record Notes : Type 0 where
  pub votes : List Vote
  pub queue : List ℕ
  pub waiting : ℕ

-- the notes of a site, by the numbers of what it has said, its queue, and how many of it count
abbrev pub notes_from : List ℕ → List ℕ → ℕ → Notes
notes_from row queue waiting = record { votes = votes_from row; queue = queue; waiting = waiting }

-- a site put together: whether it is up, its last t, its copy, its notes, the voters that it knows
abbrev pub site_of : Bool → ℕ → List ℕ → List ℤ → Notes → List Bool → List Bool → Site
site_of up last stamps values k oks others = record {
  up = up;
  last = last;
  stamps = stamps;
  values = values;
  queue = k.queue;
  waiting = k.waiting;
  votes = k.votes;
  oks = oks;
  others = others;
}
