-- What stands at a place of a list, and a site with one group of its fields changed.
use Rattle.std.specs.Prelude.{ℕ, Bool, true, false, ◌&&◌, cond, List, [], ltb, ℤ, pos, get_or, replicate}
use Rattle.kit.specs.Lists.{listed}
use Rattle.vote.specs.declared.data.Head.{Head}
use Rattle.vote.specs.declared.data.Mark.{Mark}
use Rattle.vote.specs.declared.data.Mark.TheVariants as mark
use Rattle.vote.specs.declared.data.Request.{Request}
use Rattle.vote.specs.declared.data.Site.{Site}
use Rattle.vote.specs.declared.data.Verdict.{Verdict}
use Rattle.vote.specs.declared.data.Verdict.TheVariants as verdict
use Rattle.vote.specs.declared.data.Vote.{Vote}

-- ---- marks and verdicts

-- a vote of OK
abbrev pub is_ok_vote : Mark → Bool
is_ok_vote mark.None = false
is_ok_vote mark.Deferred = false
is_ok_vote mark.Ok = true
is_ok_vote mark.Dr = false
is_ok_vote mark.Rej = false

-- a vote of DR or REJ
abbrev pub is_other : Mark → Bool
is_other mark.None = false
is_other mark.Deferred = false
is_other mark.Ok = false
is_other mark.Dr = true
is_other mark.Rej = true

-- no mark
abbrev pub is_unmarked : Mark → Bool
is_unmarked mark.None = true
is_unmarked mark.Deferred = false
is_unmarked mark.Ok = false
is_unmarked mark.Dr = false
is_unmarked mark.Rej = false

-- a deferred mark, which is no vote
abbrev pub is_deferred : Mark → Bool
is_deferred mark.None = false
is_deferred mark.Deferred = true
is_deferred mark.Ok = false
is_deferred mark.Dr = false
is_deferred mark.Rej = false

-- no verdict yet
abbrev pub is_open : Verdict → Bool
is_open verdict.Open = true
is_open verdict.Accepted = false
is_open verdict.Rejected = false

-- "A request is pending at a site that marked it OK and holds it open."
unfoldable pub is_pending : Vote → Bool
is_pending v = is_ok_vote v.mark && is_open v.verdict

-- ---- what stands at a place

-- nothing said
abbrev pub no_vote : Vote
no_vote = record { mark = mark.None; verdict = verdict.Open }

-- no request
abbrev pub no_request : Request
no_request = record { stamp = 0; base = 0; update = 0; stamps = []; values = [] }

-- the head of no request
abbrev pub no_head : Head
no_head = record { stamp = 0; base = 0; update = 0 }

-- what is said of the request at place p
abbrev pub vote_at : List Vote → ℕ → Vote
vote_at votes p = get_or votes p no_vote

-- the request at place p
abbrev pub request_at : List Request → ℕ → Request
request_at rs p = get_or rs p no_request

-- an empty place
unfoldable pub blank_request : Request
blank_request = record { stamp = 0; base = 0; update = 0; stamps = replicate 24 0; values = replicate 24 (pos 0) }

-- the request at place p, and none at a place above 15
unfoldable pub request_in : List Request → ℕ → Request
request_in rs p = cond (ltb p 16) (request_at rs p) blank_request

-- a request's stamp and its two sets
abbrev pub head_of : Request → Head
head_of q = record { stamp = q.stamp; base = q.base; update = q.update }

-- a request with this head, base stamps and new values
abbrev pub request_of : Head → List ℕ → List ℤ → Request
request_of h ts vs = record { stamp = h.stamp; base = h.base; update = h.update; stamps = ts; values = vs }

-- the heads of each of the 16 places
unfoldable pub heads_of : List Request → List Head
heads_of rs = listed 16 (λ j. head_of (request_at rs j))

-- the head of the request at place j
abbrev pub head_at : List Head → ℕ → Head
head_at heads j = get_or heads j no_head

-- ---- a site with one group of its fields changed

-- the site with this copy: a stamp and a value for each item
abbrev pub with_copies : List ℕ → List ℤ → Site → Site
with_copies ts vs s = record {
  up = s.up;
  last = s.last;
  stamps = ts;
  values = vs;
  queue = s.queue;
  waiting = s.waiting;
  votes = s.votes;
  oks = s.oks;
  others = s.others;
}

-- the site with this queue, of which the first n places count
abbrev pub with_queue : List ℕ → ℕ → Site → Site
with_queue l n s = record {
  up = s.up;
  last = s.last;
  stamps = s.stamps;
  values = s.values;
  queue = l;
  waiting = n;
  votes = s.votes;
  oks = s.oks;
  others = s.others;
}

-- the site with these marks and verdicts
abbrev pub with_votes : List Vote → Site → Site
with_votes votes s = record {
  up = s.up;
  last = s.last;
  stamps = s.stamps;
  values = s.values;
  queue = s.queue;
  waiting = s.waiting;
  votes = votes;
  oks = s.oks;
  others = s.others;
}

-- the site with these known OK voters and other voters
abbrev pub with_known : List Bool → List Bool → Site → Site
with_known oks others s = record {
  up = s.up;
  last = s.last;
  stamps = s.stamps;
  values = s.values;
  queue = s.queue;
  waiting = s.waiting;
  votes = s.votes;
  oks = oks;
  others = others;
}

-- the site with this last t
abbrev pub with_last : ℕ → Site → Site
with_last last s = record {
  up = s.up;
  last = last;
  stamps = s.stamps;
  values = s.values;
  queue = s.queue;
  waiting = s.waiting;
  votes = s.votes;
  oks = s.oks;
  others = s.others;
}

-- the site up, or down
abbrev pub with_up : Bool → Site → Site
with_up up s = record {
  up = up;
  last = s.last;
  stamps = s.stamps;
  values = s.values;
  queue = s.queue;
  waiting = s.waiting;
  votes = s.votes;
  oks = s.oks;
  others = s.others;
}
