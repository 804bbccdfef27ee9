-- The sites of a table taken apart, and put together again.
use Rattle.std.specs.Prelude.{ℕ, Bool, false, List, [], ℤ, get_or}
use Rattle.kit.specs.Lists.{listed}
use Rattle.table.specs.Places.{no_site}
use Rattle.vote.specs.Numbers.{numbers_of}
use Rattle.vote.specs.declared.data.Site.{Site}
use Rattle.rows.specs.Notes.{site_of, notes_from}

-- of each of the 7 sites: whether it is up, its last t, the stamps and the values of its copy
unfoldable pub ups_in : List Site → List Bool
ups_in sites = listed 7 (λ k. (get_or sites k no_site).up)

unfoldable pub lasts_in : List Site → List ℕ
lasts_in sites = listed 7 (λ k. (get_or sites k no_site).last)

unfoldable pub stamps_in : List Site → List (List ℕ)
stamps_in sites = listed 7 (λ k. (get_or sites k no_site).stamps)

unfoldable pub values_in : List Site → List (List ℤ)
values_in sites = listed 7 (λ k. (get_or sites k no_site).values)

-- the numbers of what it has said, its queue and how many of it count, the voters that it knows of both kinds
unfoldable pub votes_in : List Site → List (List ℕ)
votes_in sites = listed 7 (λ k. numbers_of (get_or sites k no_site).votes)

unfoldable pub queues_in : List Site → List (List ℕ)
queues_in sites = listed 7 (λ k. (get_or sites k no_site).queue)

unfoldable pub waitings_in : List Site → List ℕ
waitings_in sites = listed 7 (λ k. (get_or sites k no_site).waiting)

unfoldable pub oks_in : List Site → List (List Bool)
oks_in sites = listed 7 (λ k. (get_or sites k no_site).oks)

unfoldable pub others_in : List Site → List (List Bool)
others_in sites = listed 7 (λ k. (get_or sites k no_site).others)

-- site k put together
abbrev pub site_from : List Bool → List ℕ → List (List ℕ) → List (List ℤ) → List (List ℕ) → List (List ℕ) → List ℕ → List (List Bool) → List (List Bool) → ℕ → Site
site_from ups lasts stamps values votes queues waitings oks others k =
    site_of (get_or ups k false) (get_or lasts k 0) (get_or stamps k []) (get_or values k []) (notes_from (get_or votes k []) (get_or queues k []) (get_or waitings k 0)) (get_or oks k []) (get_or others k [])

-- all of them
unfoldable pub sites_from : List Bool → List ℕ → List (List ℕ) → List (List ℤ) → List (List ℕ) → List (List ℕ) → List ℕ → List (List Bool) → List (List Bool) → List Site
sites_from ups lasts stamps values votes queues waitings oks others = listed 7 (site_from ups lasts stamps values votes queues waitings oks others)
