-- Sites in rows: what stands where, and that taken apart and put together again they are the same.
use Prim.Native.Nat.{ℕ, ◌<◌}
use mathlib.Core.Bool.{false}
use mathlib.Core.List.{List, []}
use mathlib.Core.Path.{◌≡◌}
use lib.ListN.{length, get_or}
use Rattle.kit.proofs.Listings.{listed_at}
use Rattle.kit.proofs.Turns.{listed_is}
use Rattle.table.specs.Places.{no_site}
use Rattle.vote.proofs.VoteNumbers.{votes_back}
use Rattle.vote.specs.Numbers.{numbers_of}
use Rattle.vote.specs.declared.data.Site.{Site}
use Rattle.rows.specs.Sites.{ups_in, lasts_in, stamps_in, values_in, votes_in, queues_in, waitings_in, oks_in, others_in, site_from, sites_from}

-- ---- taken apart

module _ (sites : List Site) (k : ℕ) (h : k < 7) where
  pub ups_there : get_or (ups_in sites) k false ≡ (get_or sites k no_site).up
  unfolding ups_in
  ups_there = listed_at 7 k (λ i. (get_or sites i no_site).up) false h

  pub lasts_there : get_or (lasts_in sites) k 0 ≡ (get_or sites k no_site).last
  unfolding lasts_in
  lasts_there = listed_at 7 k (λ i. (get_or sites i no_site).last) 0 h

  pub stamps_there : get_or (stamps_in sites) k [] ≡ (get_or sites k no_site).stamps
  unfolding stamps_in
  stamps_there = listed_at 7 k (λ i. (get_or sites i no_site).stamps) [] h

  pub values_there : get_or (values_in sites) k [] ≡ (get_or sites k no_site).values
  unfolding values_in
  values_there = listed_at 7 k (λ i. (get_or sites i no_site).values) [] h

  pub queues_there : get_or (queues_in sites) k [] ≡ (get_or sites k no_site).queue
  unfolding queues_in
  queues_there = listed_at 7 k (λ i. (get_or sites i no_site).queue) [] h

  pub waitings_there : get_or (waitings_in sites) k 0 ≡ (get_or sites k no_site).waiting
  unfolding waitings_in
  waitings_there = listed_at 7 k (λ i. (get_or sites i no_site).waiting) 0 h

  pub oks_there : get_or (oks_in sites) k [] ≡ (get_or sites k no_site).oks
  unfolding oks_in
  oks_there = listed_at 7 k (λ i. (get_or sites i no_site).oks) [] h

  pub others_there : get_or (others_in sites) k [] ≡ (get_or sites k no_site).others
  unfolding others_in
  others_there = listed_at 7 k (λ i. (get_or sites i no_site).others) [] h

  pub votes_there : get_or (votes_in sites) k [] ≡ numbers_of (get_or sites k no_site).votes
  unfolding votes_in
  votes_there = listed_at 7 k (λ i. numbers_of (get_or sites i no_site).votes) [] h

  site_whole : length (get_or sites k no_site).votes ≡ 16 → site_from (ups_in sites) (lasts_in sites) (stamps_in sites) (values_in sites) (votes_in sites) (queues_in sites) (waitings_in sites) (oks_in sites) (others_in sites) k ≡ get_or sites k no_site
  site_whole e =
      rw (ups_there, lasts_there, stamps_there, values_there, votes_there, queues_there, waitings_there, oks_there, others_there, votes_back (get_or sites k no_site).votes e)

-- and put together
pub sites_opened
    : (sites : List Site) → length sites ≡ 7 → ((k : ℕ) → k < 7 → length (get_or sites k no_site).votes ≡ 16)
    → sites_from (ups_in sites) (lasts_in sites) (stamps_in sites) (values_in sites) (votes_in sites) (queues_in sites) (waitings_in sites) (oks_in sites) (others_in sites) ≡ sites
unfolding sites_from
sites_opened sites e w =
    listed_is 7 (site_from (ups_in sites) (lasts_in sites) (stamps_in sites) (values_in sites) (votes_in sites) (queues_in sites) (waitings_in sites) (oks_in sites) (others_in sites)) no_site sites e
    (λ k h. site_whole sites k h (w k h))
