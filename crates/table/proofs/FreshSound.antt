-- "A fresh table has every site up, last t 0 and all else blank; it is sound": one proof for every number of sites from 1 to 7.
use mathlib.Core.Path.{◌≡◌, refl, ap, ◌∙◌}
use mathlib.Core.Bool.{Bool, true, false, ◌&&◌}
use Prim.Native.Nat.{ℕ, ◌≤◌, ◌<◌}
use native.Mathlib.Omega.{arith}
use borrow.Author.Tests.{le-ltb, leb-true}
use lib.Dec.{eqb, leb, ltb}
use lib.IntN.{pos}
use lib.ListN.{get_or, get_or-replicate, length-replicate}
use Rattle.kit.specs.Range.{all, number}
use Rattle.kit.proofs.Bools.{clash, both_true, by_test, and_left, and_right}
use Rattle.kit.proofs.Listings.{listed_at, length_listed}
use Rattle.kit.proofs.Ranges.{all_of}
use Rattle.majority.proofs.Majorities.{majority_some, blocking_some}
use Rattle.readings.specs.Readings.{is_zero}
use Rattle.readings.proofs.Orders.{zero_in_range}
use Rattle.stamps.proofs.Laws.{well_zero}
use Rattle.vote.specs.Data.{is_ok_vote, is_other, is_unmarked, is_deferred, is_open, no_vote, blank_request, vote_at}
use Rattle.vote.specs.Queue.{queued_at}
use Rattle.vote.specs.Shape.{ShapedSite}
use Rattle.vote.specs.Voters.{has_voter, none_known, no_known, no_row}
use Rattle.vote.proofs.KnownVoters.{knows_nobody, voters_nobody}
use Rattle.vote.proofs.Rows.{row_none, nobody_of, unknown_of}
use Rattle.vote.specs.declared.data.Request.{Request}
use Rattle.vote.specs.declared.data.Site.{Site}
use Rattle.vote.specs.declared.data.Vote.{Vote}
use Rattle.table.specs.declared.data.Message.{Message}
use Rattle.table.specs.Blank.{zeros, zero_values, blank_vote, is_blank_request, holds_nothing, is_blank_site, is_blank_message}
use Rattle.table.specs.Fresh.{blank_site, blank_message, blank_table, fresh_for}
use Rattle.table.specs.Meaning.{Holding, SoundSite, SoundPlace, SoundMessage, Sound, ShapedRequest, ShapedMessage, ShapedTable}
use Rattle.table.specs.Places.{no_site, site_at, message_at, place_at}
use Rattle.table.specs.Sound.{queue_exact, times_queued, backed, count_right, sound_table}
use Rattle.table.proofs.Meaning.{meant}

-- ---- what stands where in a fresh table

module _ (n : ℕ) where
  pub site_fresh : (k : ℕ) → k < 7 → site_at (blank_table n) k ≡ blank_site (ltb k n)
  unfolding blank_table
  site_fresh k h = listed_at 7 k (λ j. blank_site (ltb j n)) no_site h

  pub place_fresh : (p : ℕ) → p < 16 → place_at (blank_table n) p ≡ blank_request
  unfolding blank_table
  place_fresh p h = get_or-replicate 16 p blank_request _ h

  pub message_fresh : (j : ℕ) → j < 64 → message_at (blank_table n) j ≡ blank_message
  unfolding blank_table
  message_fresh j h = get_or-replicate 64 j blank_message _ h

-- ---- a blank site

module _ (up : Bool) where
  said_nothing : (p : ℕ) → p < 16 → vote_at (blank_site up).votes p ≡ no_vote
  unfolding blank_site
  said_nothing p h = get_or-replicate 16 p no_vote no_vote h

  knows_nothing : (p : ℕ) → (none_known (blank_site up).oks p ≡ true) × (none_known (blank_site up).others p ≡ true)
  unfolding blank_site
  knows_nothing p = (unknown_of no_known p (λ u h. knows_nobody p u), unknown_of no_known p (λ u h. knows_nobody p u))

  pub nothing_held : (p : ℕ) → p < 16 → holds_nothing (blank_site up) p ≡ true
  unfolding holds_nothing blank_vote
  nothing_held p h =
      let said : (is_unmarked (vote_at (blank_site up).votes p).mark && is_open (vote_at (blank_site up).votes p).verdict) ≡ true = rw (said_nothing p h) in
      both_true said (both_true (knows_nothing p).0 (knows_nothing p).1)

  -- its copy, its queue and its lists
  copy_stamp : (i : ℕ) → i < 24 → get_or (blank_site up).stamps i 0 ≡ 0
  unfolding blank_site
  copy_stamp i h = get_or-replicate 24 i 0 0 h

  copy_value : (i : ℕ) → i < 24 → get_or (blank_site up).values i (pos 0) ≡ pos 0
  unfolding blank_site
  copy_value i h = get_or-replicate 24 i (pos 0) (pos 0) h

  queue_place : (i : ℕ) → i < 16 → queued_at (blank_site up).queue i ≡ 0
  unfolding blank_site
  queue_place i h = get_or-replicate 16 i 0 0 h

  queue_empty : queue_exact (blank_site up) ≡ true
  unfolding blank_site queue_exact times_queued all number
  queue_empty = refl

  shaped_site : ShapedSite (blank_site up)
  unfolding blank_site no_known
  shaped_site = record { stamps = refl; values = refl; queue = refl; votes = refl; oks = refl; others = refl }

blank_site_lem : is_blank_site (blank_site false) ≡ true
unfolding blank_site is_blank_site zeros zero_values is_zero all
blank_site_lem = both_true {a = true} refl (all_of 16 (holds_nothing (blank_site false)) (nothing_held false))

blank_request_lem : is_blank_request blank_request ≡ true
unfolding blank_request is_blank_request zeros zero_values is_zero all
blank_request_lem = refl

blank_message_lem : is_blank_message blank_message ≡ true
unfolding blank_message is_blank_message
blank_message_lem = both_true {a = true} refl (both_true (nobody_of no_row (λ u h. row_none u)) (nobody_of no_row (λ u h. row_none u)))

-- ---- the fresh table

shaped_request : ShapedRequest blank_request
unfolding blank_request
shaped_request = record { stamps = refl; values = refl }

shaped_message : ShapedMessage blank_message
unfolding blank_message no_row
shaped_message = record { oks = refl; others = refl }

module _ (n : ℕ) where
  marks_none : (k p : ℕ) → k < 7 → p < 16 → vote_at (site_at (blank_table n) k).votes p ≡ no_vote
  marks_none k p hk hp = ap (λ (s : Site). vote_at s.votes p) (site_fresh n k hk) ∙ said_nothing (ltb k n) p hp

  oks_none : (k : ℕ) → k < 7 → (site_at (blank_table n) k).oks ≡ no_known
  unfolding blank_site
  oks_none k h = ap (λ (s : Site). s.oks) (site_fresh n k h)

  others_none : (k : ℕ) → k < 7 → (site_at (blank_table n) k).others ≡ no_known
  unfolding blank_site
  others_none k h = ap (λ (s : Site). s.others) (site_fresh n k h)

  fresh_holding : (k p : ℕ) → k < 7 → p < 16 → Holding (blank_table n) k p
  fresh_holding k p hk hp = record {
    known_ok = λ u hu e. clash e (rw (oks_none k hk) (knows_nobody p u));
    known_other = λ u hu e. clash e (rw (others_none k hk) (knows_nobody p u));
    own_ok = λ e. clash e (ap (λ (v : Vote). is_ok_vote v.mark) (marks_none k p hk hp));
    own_other = λ e. clash e (ap (λ (v : Vote). is_other v.mark) (marks_none k p hk hp));
    backing = ap (λ (v : Vote). backed (blank_table n) p v.verdict) (marks_none k p hk hp);
    judged = λ e. ap (λ (v : Vote). is_deferred v.mark) (marks_none k p hk hp);
    few_oks = λ e. rw (oks_none k hk, voters_nobody p) (majority_some (blank_table n).count);
    few_others = λ e. rw (others_none k hk, voters_nobody p) (blocking_some (blank_table n).count);
    unheard_oks = λ e f. rw (oks_none k hk) (unknown_of no_known p (λ u h. knows_nobody p u));
    unheard_others = λ e f. rw (others_none k hk) (unknown_of no_known p (λ u h. knows_nobody p u));
  }

  fresh_site : (k : ℕ) → k < 7 → SoundSite (blank_table n) k
  unfolding blank_table
  fresh_site k h = record {
    unused = λ l. rw (site_fresh n k h, le-ltb k n l) blank_site_lem;
    queue_end = λ i l w. rw (site_fresh n k h) (queue_place (ltb k n) i l);
    queue = rw (site_fresh n k h) (queue_empty (ltb k n));
    copy_form = λ i l. rw (site_fresh n k h, copy_stamp (ltb k n) i l) (well_zero n);
    copy_time = λ i l. rw (site_fresh n k h, copy_stamp (ltb k n) i l) (omega arith);
    copy_value = λ i l. rw (site_fresh n k h, copy_value (ltb k n) i l) zero_in_range;
    copy_blank = λ i l e. rw (site_fresh n k h) (copy_value (ltb k n) i l);
  }

  no_stamp : (p : ℕ) → p < 16 → (place_at (blank_table n) p).stamp ≡ 0
  unfolding blank_request
  no_stamp p h = ap (λ (q : Request). q.stamp) (place_fresh n p h)

  fresh_place : (p : ℕ) → p < 16 → SoundPlace (blank_table n) p
  fresh_place p h = record {
    free_request = λ e. rw (place_fresh n p h) blank_request_lem;
    free_held = λ e k hk. rw (site_fresh n k hk) (nothing_held (ltb k n) p h);
    allowed = λ ne. absurd (ne (no_stamp p h));
    form = λ ne. absurd (ne (no_stamp p h));
    time = rw (no_stamp p h) (omega arith);
    own_stamp = λ ne. absurd (ne (no_stamp p h));
  }

  no_message_lem : (j : ℕ) → j < 64 → (message_at (blank_table n) j).used ≡ false
  unfolding blank_message
  no_message_lem j h = ap (λ (m : Message). m.used) (message_fresh n j h)

  fresh_message : (j : ℕ) → j < 64 → SoundMessage (blank_table n) j
  unfolding blank_message
  fresh_message j h = record {
    unused = λ e. rw (message_fresh n j h) blank_message_lem;
    names_place = λ e. clash e (no_message_lem j h);
    names_request = λ e. clash e (no_message_lem j h);
    names_from = λ e. clash e (no_message_lem j h);
    names_to = λ e. clash e (no_message_lem j h);
    names_two = λ e. clash e (no_message_lem j h);
    sent_ok = λ u l e. clash e (ap (λ (m : Message). has_voter m.oks u) (message_fresh n j h) ∙ row_none u);
    sent_other = λ u l e. clash e (ap (λ (m : Message). has_voter m.others u) (message_fresh n j h) ∙ row_none u);
    sent_is_backed = rw (message_fresh n j h);
  }

  -- a fresh table means sound
  pub fresh_means : 1 ≤ n → n ≤ 7 → Sound (blank_table n)
  unfolding blank_table
  fresh_means low high = record {
    count_from = low;
    count_to = high;
    site = fresh_site;
    place = fresh_place;
    message = fresh_message;
    holding = fresh_holding;
  }

  -- and has its lengths
  pub fresh_shaped : ShapedTable (blank_table n)
  unfolding blank_table
  fresh_shaped = record {
    sites = length_listed 7 (λ k. blank_site (ltb k n));
    requests = length-replicate 16 blank_request;
    messages = length-replicate 64 blank_message;
    site = λ k h. rw (site_fresh n k h) (shaped_site (ltb k n));
    request = λ p h. rw (place_fresh n p h) shaped_request;
    message = λ j h. rw (message_fresh n j h) shaped_message;
  }

-- a fresh table of 1 to 7 sites is sound
pub fresh_sound : (n : ℕ) → 1 ≤ n → n ≤ 7 → sound_table (blank_table n) ≡ true
fresh_sound n low high = meant (blank_table n) (fresh_means n low high)

-- "A fresh table refused is all zeros, site count 0, and not sound."
pub refused_not_sound : sound_table (blank_table 0) ≡ false
unfolding sound_table count_right blank_table
refused_not_sound = refl

-- so what `fresh` gives is sound if and only if it gives number 0
pub fresh_answers : (n : ℕ) → sound_table (fresh_for n).table ≡ eqb (fresh_for n).number 0
unfolding fresh_for
fresh_answers n =
    by_test (leb 1 n && leb n 7)
    (λ e. rw e (fresh_sound n (leb-true 1 n (and_left (leb 1 n) (leb n 7) e)) (leb-true n 7 (and_right (leb 1 n) (leb n 7) e))))
    (λ e. rw e refused_not_sound)
