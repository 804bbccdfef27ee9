-- "A fresh table has every site up, last t 0 and all else blank"; "A fresh table refused is all zeros, site count 0, and not sound."
use Rattle.std.specs.Prelude.{ℕ, Bool, false, ◌&&◌, cond, leb, ltb, pos, replicate}
use Rattle.kit.specs.Lists.{listed}
use Rattle.vote.specs.Data.{no_vote, blank_request}
use Rattle.vote.specs.Voters.{no_known, no_row}
use Rattle.vote.specs.declared.data.Site.{Site}
use Rattle.vote.specs.declared.data.Verdict.TheVariants as verdict
use Rattle.table.specs.declared.data.Message.{Message}
use Rattle.table.specs.declared.data.Table.{Table}
use Rattle.table.specs.declared.fresh.FreshTable.{FreshTable}

-- a site that holds nothing
unfoldable pub blank_site : Bool → Site
blank_site up = record {
  up = up;
  last = 0;
  stamps = replicate 24 0;
  values = replicate 24 (pos 0);
  queue = replicate 16 0;
  waiting = 0;
  votes = replicate 16 no_vote;
  oks = no_known;
  others = no_known;
}

unfoldable pub blank_message : Message
blank_message = record { used = false; request = 0; from = 0; to = 0; verdict = verdict.Open; oks = no_row; others = no_row }

-- a table of n sites, each up, that holds nothing
unfoldable pub blank_table : ℕ → Table
blank_table n = record {
  count = n;
  sites = listed 7 (λ k. blank_site (ltb k n));
  requests = replicate 16 blank_request;
  messages = replicate 64 blank_message;
}

-- asked for 1 to 7 sites; outside, number 3 and the table of no sites
unfoldable pub fresh_for : ℕ → FreshTable
fresh_for n = cond (leb 1 n && leb n 7) (record { number = 0; table = blank_table n }) (record { number = 3; table = blank_table 0 })
