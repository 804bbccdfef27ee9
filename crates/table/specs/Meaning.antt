-- What soundness means, for every site, place, item and message: the facts from which the proofs about steps start. The proofs show that
-- a table whose lists have their lengths is sound if and only if these hold.
use Rattle.std.specs.Prelude.{ℕ, ◌≤◌, ◌<◌, true, false, ◌≡◌, pos, length, get_or}
use Rattle.majority.specs.Majority.{majority, blocking}
use Rattle.readings.specs.Readings.{in_range}
use Rattle.stamps.specs.Stamps.{time_of, issued_form, well_formed}
use Rattle.vote.specs.Data.{is_unmarked, is_deferred, is_open}
use Rattle.vote.specs.Queue.{queued_at}
use Rattle.vote.specs.Shape.{ShapedSite}
use Rattle.vote.specs.Voters.{knows, has_voter, none_known, voters_known}
use Rattle.vote.specs.declared.data.Request.{Request}
use Rattle.table.specs.Blank.{is_blank_request, holds_nothing, is_blank_site, is_blank_message}
use Rattle.table.specs.Places.{site_at, message_at, place_at, mark_at, verdict_at, last_of}
use Rattle.table.specs.Sound.{request_allowed, queue_exact, marks_ok, marks_other, backed}
use Rattle.table.specs.declared.data.Message.{Message}
use Rattle.table.specs.declared.data.Table.{Table}

-- ---- the lengths of the lists, which every table in memory has

pub record ShapedRequest (q : Request) : Type 0 where
  pub stamps : length q.stamps ≡ 24
  pub values : length q.values ≡ 24

pub record ShapedMessage (m : Message) : Type 0 where
  pub oks : length m.oks ≡ 7
  pub others : length m.others ≡ 7

pub record ShapedTable (t : Table) : Type 0 where
  pub sites : length t.sites ≡ 7
  pub requests : length t.requests ≡ 16
  pub messages : length t.messages ≡ 64
  pub site : (k : ℕ) → k < 7 → ShapedSite (site_at t k)
  pub request : (p : ℕ) → p < 16 → ShapedRequest (place_at t p)
  pub message : (j : ℕ) → j < 64 → ShapedMessage (message_at t j)

-- ---- what site k holds of place p

pub record Holding (t : Table) (k p : ℕ) : Type 0 where
  -- a voter known has that mark of its own
  pub known_ok : (u : ℕ) → u < 7 → knows (site_at t k).oks p u ≡ true → marks_ok t p u ≡ true
  pub known_other : (u : ℕ) → u < 7 → knows (site_at t k).others p u ≡ true → marks_other t p u ≡ true
  -- a voting site knows its own vote
  pub own_ok : marks_ok t p k ≡ true → knows (site_at t k).oks p k ≡ true
  pub own_other : marks_other t p k ≡ true → knows (site_at t k).others p k ≡ true
  -- a verdict held is backed by that many own marks
  pub backing : backed t p (verdict_at t k p) ≡ true
  -- a site with a verdict has no deferred mark
  pub judged : is_open (verdict_at t k p) ≡ false → is_deferred (mark_at t k p) ≡ false
  -- a site holding a request open knows too few voters for either verdict
  pub few_oks : is_open (verdict_at t k p) ≡ true → voters_known (site_at t k).oks p < majority t.count
  pub few_others : is_open (verdict_at t k p) ≡ true → voters_known (site_at t k).others p < blocking t.count
  -- a site holding it open with no mark knows no voters
  pub unheard_oks : is_open (verdict_at t k p) ≡ true → is_unmarked (mark_at t k p) ≡ true → none_known (site_at t k).oks p ≡ true
  pub unheard_others : is_open (verdict_at t k p) ≡ true → is_unmarked (mark_at t k p) ≡ true → none_known (site_at t k).others p ≡ true

-- ---- a site, a request place, a message

pub record SoundSite (t : Table) (k : ℕ) : Type 0 where
  pub unused : t.count ≤ k → is_blank_site (site_at t k) ≡ true
  pub queue_end : (i : ℕ) → i < 16 → (site_at t k).waiting ≤ i → queued_at (site_at t k).queue i ≡ 0
  pub queue : queue_exact (site_at t k) ≡ true
  pub copy_form : (i : ℕ) → i < 24 → well_formed t.count (get_or (site_at t k).stamps i 0) ≡ true
  pub copy_time : (i : ℕ) → i < 24 → time_of (get_or (site_at t k).stamps i 0) ≤ last_of t (get_or (site_at t k).stamps i 0)
  pub copy_value : (i : ℕ) → i < 24 → in_range (get_or (site_at t k).values i (pos 0)) ≡ true
  pub copy_blank : (i : ℕ) → i < 24 → get_or (site_at t k).stamps i 0 ≡ 0 → get_or (site_at t k).values i (pos 0) ≡ pos 0

pub record SoundPlace (t : Table) (p : ℕ) : Type 0 where
  pub free_request : (place_at t p).stamp ≡ 0 → is_blank_request (place_at t p) ≡ true
  pub free_held : (place_at t p).stamp ≡ 0 → (k : ℕ) → k < 7 → holds_nothing (site_at t k) p ≡ true
  pub allowed : ((place_at t p).stamp ≡ 0 → ⊥) → request_allowed t.count (place_at t p) ≡ true
  pub form : ((place_at t p).stamp ≡ 0 → ⊥) → issued_form t.count (place_at t p).stamp ≡ true
  pub time : time_of (place_at t p).stamp ≤ last_of t (place_at t p).stamp
  pub own_stamp : ((place_at t p).stamp ≡ 0 → ⊥) → (q : ℕ) → q < p → (place_at t q).stamp ≡ (place_at t p).stamp → ⊥

pub record SoundMessage (t : Table) (j : ℕ) : Type 0 where
  pub unused : (message_at t j).used ≡ false → is_blank_message (message_at t j) ≡ true
  pub names_place : (message_at t j).used ≡ true → (message_at t j).request < 16
  pub names_request : (message_at t j).used ≡ true → (place_at t (message_at t j).request).stamp ≡ 0 → ⊥
  pub names_from : (message_at t j).used ≡ true → (message_at t j).from < t.count
  pub names_to : (message_at t j).used ≡ true → (message_at t j).to < t.count
  pub names_two : (message_at t j).used ≡ true → (message_at t j).from ≡ (message_at t j).to → ⊥
  pub sent_ok : (u : ℕ) → u < 7 → has_voter (message_at t j).oks u ≡ true → marks_ok t (message_at t j).request u ≡ true
  pub sent_other : (u : ℕ) → u < 7 → has_voter (message_at t j).others u ≡ true → marks_other t (message_at t j).request u ≡ true
  pub sent_is_backed : backed t (message_at t j).request (message_at t j).verdict ≡ true

-- ---- the table

pub record Sound (t : Table) : Type 0 where
  pub count_from : 1 ≤ t.count
  pub count_to : t.count ≤ 7
  pub site : (k : ℕ) → k < 7 → SoundSite t k
  pub place : (p : ℕ) → p < 16 → SoundPlace t p
  pub message : (j : ℕ) → j < 64 → SoundMessage t j
  pub holding : (k p : ℕ) → k < 7 → p < 16 → Holding t k p
