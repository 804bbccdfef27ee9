-- A table taken apart: its rows are as long as their arrays in memory, and stand for it.
use Prim.Native.Nat.{ℕ}
use mathlib.Core.Bool.{Bool}
use mathlib.Core.List.{List}
use mathlib.Core.Path.{◌≡◌, refl}
use lib.IntN.{ℤ}
use lib.ListN.{length}
use Rattle.kit.proofs.Listings.{length_listed}
use Rattle.table.specs.Meaning.{ShapedTable}
use Rattle.table.specs.declared.data.Table.{Table}
use Rattle.rows.specs.Letters.{letters_in, told_oks_in, told_others_in}
use Rattle.rows.specs.Opened.{SiteRows, RequestRows, MessageRows, table_from, site_rows, request_rows, message_rows, LongRows}
use Rattle.rows.specs.Parts.{heads_from, requests_from, names_of, bases_of, updates_of, based_of, news_of}
use Rattle.rows.specs.Sites.{ups_in, lasts_in, stamps_in, values_in, votes_in, queues_in, waitings_in, oks_in, others_in, sites_from}
use Rattle.rows.proofs.Letters.{messages_opened}
use Rattle.rows.proofs.Sites.{sites_opened}
use Rattle.rows.proofs.TakenApart.{taken_apart, length_names, length_bases, length_updates, length_based, length_news}

module _ (t : Table) where
  -- its rows
  abbrev site_rows_lem : SiteRows
  site_rows_lem = site_rows (ups_in t.sites) (lasts_in t.sites) (stamps_in t.sites) (values_in t.sites) (votes_in t.sites) (queues_in t.sites) (waitings_in t.sites) (oks_in t.sites) (others_in t.sites)

  abbrev request_rows_lem : RequestRows
  request_rows_lem = request_rows (names_of t.requests) (bases_of t.requests) (updates_of t.requests) (based_of t.requests) (news_of t.requests)

  abbrev message_rows_lem : MessageRows
  message_rows_lem = message_rows (letters_in t.messages) (told_oks_in t.messages) (told_others_in t.messages)

  -- how long they are
  long_rows : LongRows site_rows_lem request_rows_lem message_rows_lem
  unfolding ups_in lasts_in stamps_in values_in votes_in queues_in waitings_in oks_in others_in letters_in told_oks_in told_others_in
  long_rows = record {
    ups = length_listed 7 _;
    lasts = length_listed 7 _;
    sites = record {
      stamps = length_listed 7 _;
      values = length_listed 7 _;
      votes = length_listed 7 _;
      queues = length_listed 7 _;
      waitings = length_listed 7 _;
      oks = length_listed 7 _;
      others = length_listed 7 _;
    };
    requests = record {
      names = length_names t.requests;
      bases = length_bases t.requests;
      updates = length_updates t.requests;
      based = length_based t.requests;
      news = length_news t.requests;
    };
    messages = record {
      letters = length_listed 64 _;
      oks = length_listed 64 _;
      others = length_listed 64 _;
    };
  }

  -- put together they are the table
  rows_whole
      : length t.messages ≡ 64
      → sites_from (ups_in t.sites) (lasts_in t.sites) (stamps_in t.sites) (values_in t.sites) (votes_in t.sites) (queues_in t.sites) (waitings_in t.sites) (oks_in t.sites) (others_in t.sites) ≡ t.sites
      → requests_from (heads_from (names_of t.requests) (bases_of t.requests) (updates_of t.requests)) (based_of t.requests) (news_of t.requests) ≡ t.requests
      → table_from t.count site_rows_lem request_rows_lem message_rows_lem ≡ t
  unfolding table_from
  rows_whole l hs hq = rw (hs, hq, messages_opened t.messages l)

  -- the rows as the code takes them
  pub opening
      : length t.messages ≡ 64
      → {ups : List Bool} {lasts : List ℕ} {stamps : List (List ℕ)} {values : List (List ℤ)} {votes queues : List (List ℕ)} {waitings : List ℕ} {oks others : List (List Bool)}
      → {names bases updates based : List ℕ} {news : List ℤ} {letters : List (List ℕ)} {told_oks told_others : List (List Bool)}
      → ups ≡ ups_in t.sites → lasts ≡ lasts_in t.sites → stamps ≡ stamps_in t.sites → values ≡ values_in t.sites
      → votes ≡ votes_in t.sites
      → sites_from (ups_in t.sites) (lasts_in t.sites) (stamps_in t.sites) (values_in t.sites) votes (queues_in t.sites) (waitings_in t.sites) (oks_in t.sites) (others_in t.sites) ≡ t.sites
      → queues ≡ queues_in t.sites → waitings ≡ waitings_in t.sites → oks ≡ oks_in t.sites → others ≡ others_in t.sites
      → names ≡ names_of t.requests → bases ≡ bases_of t.requests → updates ≡ updates_of t.requests → based ≡ based_of t.requests
      → requests_from (heads_from (names_of t.requests) (bases_of t.requests) (updates_of t.requests)) based (news_of t.requests) ≡ t.requests
      → news ≡ news_of t.requests → letters ≡ letters_in t.messages → told_oks ≡ told_oks_in t.messages → told_others ≡ told_others_in t.messages
      → (LongRows (site_rows ups lasts stamps values votes queues waitings oks others) (request_rows names bases updates based news) (message_rows letters told_oks told_others))
      × (table_from t.count (site_rows ups lasts stamps values votes queues waitings oks others) (request_rows names bases updates based news) (message_rows letters told_oks told_others) ≡ t)
  opening l h1 h2 h3 h4 h5 hs h6 h7 h8 h9 h10 h11 h12 h13 hq h14 h15 h16 h17 =
      rw (h1, h2, h3, h4, h5, h6, h7, h8, h9, h10, h11, h12, h13, h14, h15, h16, h17)
      (long_rows, rows_whole l (rw h5 at hs) (rw h13 at hq))

  -- so the rows of a table whose lists have their lengths stand for it
  pub table_opened : ShapedTable t → table_from t.count site_rows_lem request_rows_lem message_rows_lem ≡ t
  table_opened g =
      (opening g.messages refl refl refl refl refl
      (sites_opened t.sites g.sites (λ k h. (g.site k h).votes)) refl refl refl refl refl refl refl refl
      (taken_apart t.requests g.requests (λ p h. ((g.request p h).stamps, (g.request p h).values))) refl refl refl refl).1
