-- Four nights, as lists of steps, to be computed: on such runs requests are accepted, rejected, deferred and retired.
use Rattle.std.specs.Prelude.{ℕ, ◌^◌, ◌<◌, List, [], ◌∷◌, ◌++◌, ◌≡◌, ℤ, pos, get_or, replicate}
use Rattle.record.specs.declared.Step.{Step}
use Rattle.steps.specs.Steps.{stepped}
use Rattle.table.specs.Fresh.{fresh_for}
use Rattle.table.specs.Places.{site_at, place_at, mark_at, verdict_at}
use Rattle.table.specs.declared.data.Table.{Table}
use Rattle.vote.specs.declared.data.Mark.TheVariants as mark
use Rattle.vote.specs.declared.data.Request.{Request}
use Rattle.vote.specs.declared.data.Verdict.TheVariants as verdict
use Rattle.demand.specs.Nights.{History, happened, began, voted, ruled}

-- where a night stands: the table, and what has happened, the newest first
pub record Standing : Type 0 where
  pub table : Table
  pub history : History

-- one step more
abbrev pub onward : Standing → Step → Standing
onward x a = record { table = (stepped x.table a).table; history = happened x.table a ++ x.history }

-- after these steps, the first of them first
unfoldable pub after_all : Standing → List Step → Standing
after_all x [] = x
after_all x (a ∷ rest) = after_all (onward x a) rest

-- a fresh table of n sites, and nothing has happened
abbrev pub evening : ℕ → Standing
evening n = record { table = (fresh_for n).table; history = [] }

-- a night of n sites: these steps from a fresh table
abbrev pub played : ℕ → List Step → Standing
played n steps = after_all (evening n) steps

-- every update set is a word of 32 bits
unfoldable pub Small : List Step → Type 0
Small [] = Unit {0}
Small (a ∷ rest) = (a.update < 2 ^ 32) × Small rest

-- ---- steps on item 0

-- site begins a request that found item 0 with this stamp and gives it this value
abbrev pub begins : ℕ → ℕ → ℕ → ℤ → Step
begins site clock based value = record {
  code = 1;
  site = site;
  to = 0;
  item = 0;
  place = 0;
  clock = clock;
  stamp = 0;
  base = 1;
  update = 1;
  stamps = based ∷ replicate 23 0;
  values = value ∷ replicate 23 (pos 0);
}

-- site `from` tells site `to` of the request with this stamp
abbrev pub tells : ℕ → ℕ → ℕ → Step
tells from stamp to = record {
  code = 2;
  site = from;
  to = to;
  item = 0;
  place = 0;
  clock = 0;
  stamp = stamp;
  base = 0;
  update = 0;
  stamps = replicate 24 0;
  values = replicate 24 (pos 0);
}

-- the message at this place is delivered
abbrev pub delivers : ℕ → Step
delivers place = record {
  code = 3;
  site = 0;
  to = 0;
  item = 0;
  place = place;
  clock = 0;
  stamp = 0;
  base = 0;
  update = 0;
  stamps = replicate 24 0;
  values = replicate 24 (pos 0);
}

-- the request with this stamp is retired
abbrev retires : ℕ → Step
retires stamp = record {
  code = 7;
  site = 0;
  to = 0;
  item = 0;
  place = 0;
  clock = 0;
  stamp = stamp;
  base = 0;
  update = 0;
  stamps = replicate 24 0;
  values = replicate 24 (pos 0);
}

-- the request of such a begin
abbrev on_item0 : ℕ → ℕ → ℤ → Request
on_item0 stamp based value = record {
  stamp = stamp;
  base = 1;
  update = 1;
  stamps = based ∷ replicate 23 0;
  values = value ∷ replicate 23 (pos 0);
}

-- ---- the nights; a stamp is eight times its t, and its site's number

-- one site: a reading is accepted at once; another, entered as if nothing had been measured, is rejected; the first is retired, and its place
-- is used again
abbrev pub alone : List Step
alone = begins 1 1000 0 (pos 7) ∷ begins 1 1001 0 (pos 8) ∷ retires 8001 ∷ begins 1 1002 8001 (pos 9) ∷ []

-- three sites, and U, which sites 1 and 2 accept; the word of it to site 3 is under way
abbrev first : List Step
first = begins 1 1000 0 (pos 7) ∷ tells 1 8001 2 ∷ tells 1 8001 3 ∷ delivers 0 ∷ tells 2 8001 1 ∷ delivers 2 ∷ []

-- A, based on U, reaches site 3 before U does: it is deferred there
abbrev pub early : List Step
early = first ++ (begins 1 1001 8001 (pos 8) ∷ tells 1 8009 3 ∷ delivers 3 ∷ [])

-- then the word of U is delivered there
abbrev pub caught_up : List Step
caught_up = early ++ (delivers 1 ∷ [])

-- as in case 9: sites 1 and 2 accept A too, and site 3 takes it over; only then is the first word of U delivered at site 3
abbrev pub late : List Step
late = first ++ (begins 1 1001 8001 (pos 8) ∷ tells 1 8009 2 ∷ delivers 3 ∷ tells 2 8009 3 ∷ delivers 4 ∷ delivers 1 ∷ [])

-- and at last the verdict on U
abbrev pub settled_late : List Step
settled_late = late ++ (tells 2 8001 3 ∷ delivers 5 ∷ [])

-- sites 1 and 2 begin at once, X and Y, on the same reading; site 1 hears of Y, site 3 of X and then, from site 1, of Y
abbrev pub rivals : List Step
rivals = begins 1 1000 0 (pos 7) ∷ begins 2 1000 0 (pos 9) ∷ tells 2 8002 1 ∷ delivers 0 ∷ tells 1 8001 3 ∷ delivers 1 ∷ tells 1 8002 3 ∷ delivers 2 ∷ []

-- ---- their requests

-- U, based on nothing
abbrev u : Request
u = on_item0 8001 0 (pos 7)

-- A, based on U
abbrev a : Request
a = on_item0 8009 8001 (pos 8)

-- the reading entered as if nothing had been measured
abbrev stale : Request
stale = on_item0 8009 0 (pos 8)

-- the one that takes the freed place, based on U
abbrev next : Request
next = on_item0 8017 8001 (pos 9)

-- X, of site 1
abbrev x : Request
x = on_item0 8001 0 (pos 7)

-- Y, of site 2, on the same reading
abbrev y : Request
y = on_item0 8002 0 (pos 9)

-- ---- and what happens

-- sites and places are counted from 0; histories have the newest first
pub record Shown : Type 0 where
  -- accepted and rejected
  pub alone_says
      : (played 1 alone).history
      ≡ (ruled 0 next verdict.Accepted ∷ voted 0 next mark.Ok ∷ began next ∷ ruled 0 stale verdict.Rejected ∷ voted 0 stale mark.Rej ∷ began stale
      ∷ ruled 0 u verdict.Accepted ∷ voted 0 u mark.Ok ∷ began u ∷ [])
  -- retired, and its place used again
  pub alone_holds : place_at (played 1 alone).table 0 ≡ next
  -- deferred
  pub early_waits : mark_at (played 3 early).table 2 1 ≡ mark.Deferred
  -- considered again after a verdict, and accepted
  pub caught_up_lem
      : (played 3 caught_up).history
      ≡ (ruled 2 a verdict.Accepted ∷ voted 2 a mark.Ok ∷ ruled 2 u verdict.Accepted ∷ voted 2 u mark.Ok ∷ voted 0 a mark.Ok ∷ began a
      ∷ ruled 0 u verdict.Accepted ∷ ruled 1 u verdict.Accepted ∷ voted 1 u mark.Ok ∷ voted 0 u mark.Ok ∷ began u ∷ [])
  -- as in case 9: the late site votes REJ on what the others accepted, and that rejects nothing
  pub late_says
      : (played 3 late).history
      ≡ (voted 2 u mark.Rej ∷ ruled 2 a verdict.Accepted ∷ ruled 1 a verdict.Accepted ∷ voted 1 a mark.Ok ∷ voted 0 a mark.Ok ∷ began a
      ∷ ruled 0 u verdict.Accepted ∷ ruled 1 u verdict.Accepted ∷ voted 1 u mark.Ok ∷ voted 0 u mark.Ok ∷ began u ∷ [])
  pub late_open : verdict_at (played 3 late).table 2 0 ≡ verdict.Open
  -- it takes the verdict over when it comes, and keeps the later reading
  pub late_accepts : verdict_at (played 3 settled_late).table 2 0 ≡ verdict.Accepted
  pub late_keeps : get_or (site_at (played 3 settled_late).table 2).stamps 0 0 ≡ a.stamp
  -- one DR and one REJ reject
  pub rivals_say
      : (played 3 rivals).history
      ≡ (ruled 2 y verdict.Rejected ∷ voted 2 y mark.Rej ∷ ruled 2 x verdict.Accepted ∷ voted 2 x mark.Ok ∷ voted 0 y mark.Dr ∷ voted 1 y mark.Ok
      ∷ began y ∷ voted 0 x mark.Ok ∷ began x ∷ [])
