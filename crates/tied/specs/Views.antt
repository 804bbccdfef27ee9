-- What a table shows, in document 01's words: the requests that it holds, what each site says of them, each site's copy, the stamps given.
use Rattle.std.specs.Prelude.{ℕ, Bool, true, false, ◌&&◌, leb, ltb, ℤ, pos, get_or}
use Rattle.ledger.specs.Ledger.{Reading, Request as LedgerRequest}
use Rattle.ledger.specs.View.{Word, votes_ok, votes_against, accepts, rejects, View}
use Rattle.sets.specs.Sets.{member}
use Rattle.stamps.specs.Stamps.{time_of}
use Rattle.table.specs.Places.{site_at, place_at, used_place, last_of}
use Rattle.table.specs.declared.data.Table.{Table}
use Rattle.vote.specs.Data.{is_ok_vote, is_other, vote_at}
use Rattle.vote.specs.declared.data.Request.{Request}
use Rattle.vote.specs.declared.data.Site.{Site}
use Rattle.vote.specs.declared.data.Verdict.{Verdict}
use Rattle.vote.specs.declared.data.Verdict.TheVariants as verdict
use Rattle.vote.specs.declared.data.Vote.{Vote}

-- "One table holds .. 24 items": i is an item, and in the set
abbrev pub has_item : ℕ → ℕ → Bool
has_item items i = ltb i 24 && member items i

-- "A request has a base set and an update set of items, a base stamp for each base item, and a new value for each update item."
abbrev pub request_of : Request → LedgerRequest ℤ
request_of q = record {
  stamp = q.stamp;
  base = λ i. has_item q.base i;
  update = λ i. has_item q.update i;
  base_stamp = λ i. get_or q.stamps i 0;
  new_value = λ i. get_or q.values i (pos 0);
}

-- the verdict is accepted
abbrev pub is_accepted : Verdict → Bool
is_accepted verdict.Open = false
is_accepted verdict.Accepted = true
is_accepted verdict.Rejected = false

-- the verdict is rejected
abbrev pub is_rejected : Verdict → Bool
is_rejected verdict.Open = false
is_rejected verdict.Accepted = false
is_rejected verdict.Rejected = true

-- "its own mark (none, deferred, OK, DR, REJ) .. and its verdict (open, accepted, rejected)": does a site that has said v say so?
abbrev pub says_of : Word → Vote → Bool
says_of votes_ok v = is_ok_vote v.mark
says_of votes_against v = is_other v.mark
says_of accepts v = is_accepted v.verdict
says_of rejects v = is_rejected v.verdict

-- "A reading is a daily rate .. with a stamp": the copy of the item i at a site
abbrev pub reading_at : Site → ℕ → Reading ℤ
reading_at s i = record { stamp = get_or s.stamps i 0; value = get_or s.values i (pos 0) }

-- What the table t shows. Places, sites and items count from 0.
unfoldable pub view_of : Table → View ℤ
view_of t = record {
  -- "16 request places": place p holds a request, whose stamp is not 0
  held = λ p. ltb p 16 && used_place t p;
  request = λ p. request_of (place_at t p);
  -- "A site keeps, for each request it has heard of: its own mark .. and its verdict"
  says = λ w k p. says_of w (vote_at (site_at t k).votes p);
  copy = λ k i. reading_at (site_at t k) i;
  -- "The last t of a site lives in one clock record": no stamp with a later t was given
  given = λ stamp. leb (time_of stamp) (last_of t stamp);
}
