-- What stands at a place of a table, and a table with one group of its fields changed. Sites count from 0 here; site k has the digit k + 1.
use Rattle.std.specs.Prelude.{ℕ, ◌-◌, Bool, false, not, List, [], eqb, ltb, get_or, set}
use Rattle.stamps.specs.Stamps.{digit_of}
use Rattle.vote.specs.Data.{request_at, vote_at}
use Rattle.vote.specs.declared.data.Mark.{Mark}
use Rattle.vote.specs.declared.data.Request.{Request}
use Rattle.vote.specs.declared.data.Site.{Site}
use Rattle.vote.specs.declared.data.Verdict.{Verdict}
use Rattle.vote.specs.declared.data.Verdict.TheVariants as verdict
use Rattle.table.specs.declared.data.Message.{Message}
use Rattle.table.specs.declared.data.Table.{Table}

abbrev pub no_site : Site
no_site = record {
  up = false;
  last = 0;
  stamps = [];
  values = [];
  queue = [];
  waiting = 0;
  votes = [];
  oks = [];
  others = [];
}

abbrev pub no_message : Message
no_message = record { used = false; request = 0; from = 0; to = 0; verdict = verdict.Open; oks = []; others = [] }

abbrev pub site_at : Table → ℕ → Site
site_at t k = get_or t.sites k no_site

abbrev pub message_at : Table → ℕ → Message
message_at t j = get_or t.messages j no_message

-- the request at place p of the table
abbrev pub place_at : Table → ℕ → Request
place_at t p = request_at t.requests p

-- place p holds a request: its stamp is not 0
abbrev pub used_place : Table → ℕ → Bool
used_place t p = not (eqb (place_at t p).stamp 0)

-- k is a site of the table
abbrev pub is_site : Table → ℕ → Bool
is_site t k = ltb k t.count

-- what site k has marked, and its verdict, on the request at place p
abbrev pub mark_at : Table → ℕ → ℕ → Mark
mark_at t k p = (vote_at (site_at t k).votes p).mark

abbrev pub verdict_at : Table → ℕ → ℕ → Verdict
verdict_at t k p = (vote_at (site_at t k).votes p).verdict

-- the last t that the site of a stamp has issued
abbrev pub last_of : Table → ℕ → ℕ
last_of t stamp = (site_at t (digit_of stamp - 1)).last

-- ---- a table with one group of its fields changed

abbrev pub with_sites : List Site → Table → Table
with_sites ss t = record { count = t.count; sites = ss; requests = t.requests; messages = t.messages }

abbrev pub with_site : ℕ → Site → Table → Table
with_site k s t = with_sites (set t.sites k s) t

abbrev pub with_request : ℕ → Request → Table → Table
with_request p q t = record { count = t.count; sites = t.sites; requests = set t.requests p q; messages = t.messages }

abbrev pub with_message : ℕ → Message → Table → Table
with_message j m t = record { count = t.count; sites = t.sites; requests = t.requests; messages = set t.messages j m }
