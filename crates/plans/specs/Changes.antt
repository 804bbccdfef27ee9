-- What a step puts in the place of a piece: the request that begin stores, the message that tell sends, the site after retire.
use Rattle.std.specs.Prelude.{ℕ, Bool, true, cond, List, pos, get_or, set}
use Rattle.kit.specs.Lists.{listed}
use Rattle.record.specs.declared.Step.{Step}
use Rattle.sets.specs.Sets.{member}
use Rattle.table.specs.declared.data.Message.{Message}
use Rattle.vote.specs.Data.{is_open, no_vote, vote_at, with_votes, with_known}
use Rattle.vote.specs.Voters.{voters_of, clear_voters, no_row}
use Rattle.vote.specs.declared.data.Request.{Request}
use Rattle.vote.specs.declared.data.Site.{Site}
use Rattle.vote.specs.declared.data.Verdict.{Verdict}

-- "Numbers given for other items are not looked at and are stored as 0."
abbrev pub kept_row : {A : Type 0} → A → ℕ → List A → List A
kept_row zero items l = listed 24 (λ i. cond (member items i) (get_or l i zero) zero)

-- the request that begin stores
unfoldable pub stored : Step → ℕ → Request
stored a stamp = record {
  stamp = stamp;
  base = a.base;
  update = a.update;
  stamps = kept_row 0 a.base a.stamps;
  values = kept_row (pos 0) a.update a.values;
}

-- "the teller's known voters while open, else its verdict"
abbrev pub message_of : Verdict → List Bool → List Bool → ℕ → ℕ → ℕ → Message
message_of d oks others p from to = record {
  used = true;
  request = p;
  from = from;
  to = to;
  verdict = d;
  oks = cond (is_open d) (voters_of oks p) no_row;
  others = cond (is_open d) (voters_of others p) no_row;
}

abbrev pub message_from : Site → ℕ → ℕ → ℕ → Message
message_from s p from to = message_of (vote_at s.votes p).verdict s.oks s.others p from to

-- a site that holds nothing of place p any more
unfoldable pub forgotten : ℕ → ℕ → Site → Site
forgotten p k s = with_votes (set s.votes p no_vote) (with_known (clear_voters s.oks p) (clear_voters s.others p) s)
