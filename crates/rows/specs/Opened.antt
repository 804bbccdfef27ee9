-- A table taken apart into rows, and the table that rows stand for.
use Rattle.std.specs.Prelude.{ℕ, Bool, List, ◌≡◌, ℤ, length}
use Rattle.table.specs.declared.data.Table.{Table}
use Rattle.rows.specs.Letters.{messages_from}
use Rattle.rows.specs.Parts.{heads_from, requests_from}
use Rattle.rows.specs.Sites.{sites_from}

-- its sites: which are up, their last t, their copies, the numbers of what they have said, their queues, the voters that they know
pub record SiteRows : Type 0 where
  pub ups : List Bool
  pub lasts : List ℕ
  pub stamps : List (List ℕ)
  pub values : List (List ℤ)
  pub votes : List (List ℕ)
  pub queues : List (List ℕ)
  pub waitings : List ℕ
  pub oks : List (List Bool)
  pub others : List (List Bool)

-- its requests: their stamps, base sets and update sets, base stamps and new values
pub record RequestRows : Type 0 where
  pub names : List ℕ
  pub bases : List ℕ
  pub updates : List ℕ
  pub based : List ℕ
  pub news : List ℤ

-- its messages, and the voters that they tell
pub record MessageRows : Type 0 where
  pub letters : List (List ℕ)
  pub oks : List (List Bool)
  pub others : List (List Bool)

-- the table of n sites with these rows
unfoldable pub table_from : ℕ → SiteRows → RequestRows → MessageRows → Table
table_from n s q m = record {
  count = n;
  sites = sites_from s.ups s.lasts s.stamps s.values s.votes s.queues s.waitings s.oks s.others;
  requests = requests_from (heads_from q.names q.bases q.updates) q.based q.news;
  messages = messages_from m.letters m.oks m.others;
}

-- rows of these lists
abbrev pub site_rows : List Bool → List ℕ → List (List ℕ) → List (List ℤ) → List (List ℕ) → List (List ℕ) → List ℕ → List (List Bool) → List (List Bool) → SiteRows
site_rows ups lasts stamps values votes queues waitings oks others = record {
  ups = ups;
  lasts = lasts;
  stamps = stamps;
  values = values;
  votes = votes;
  queues = queues;
  waitings = waitings;
  oks = oks;
  others = others;
}

abbrev pub request_rows : List ℕ → List ℕ → List ℕ → List ℕ → List ℤ → RequestRows
request_rows names bases updates based news = record { names = names; bases = bases; updates = updates; based = based; news = news }

abbrev pub message_rows : List (List ℕ) → List (List Bool) → List (List Bool) → MessageRows
message_rows letters oks others = record { letters = letters; oks = oks; others = others }

-- ---- each row is as long as its array in memory

pub record LongSites (st : List (List ℕ)) (va : List (List ℤ)) (vo qu : List (List ℕ)) (wa : List ℕ) (ok ot : List (List Bool)) : Type 0 where
  pub stamps : length st ≡ 7
  pub values : length va ≡ 7
  pub votes : length vo ≡ 7
  pub queues : length qu ≡ 7
  pub waitings : length wa ≡ 7
  pub oks : length ok ≡ 7
  pub others : length ot ≡ 7

pub record LongRequests (q : RequestRows) : Type 0 where
  pub names : length q.names ≡ 16
  pub bases : length q.bases ≡ 16
  pub updates : length q.updates ≡ 16
  pub based : length q.based ≡ 384
  pub news : length q.news ≡ 384

pub record LongMessages (m : MessageRows) : Type 0 where
  pub letters : length m.letters ≡ 64
  pub oks : length m.oks ≡ 64
  pub others : length m.others ≡ 64

-- of all of them
pub record LongRows (s : SiteRows) (q : RequestRows) (m : MessageRows) : Type 0 where
  pub ups : length s.ups ≡ 7
  pub lasts : length s.lasts ≡ 7
  pub sites : LongSites s.stamps s.values s.votes s.queues s.waitings s.oks s.others
  pub requests : LongRequests q
  pub messages : LongMessages m
