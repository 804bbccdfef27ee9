-- Sound but for one site and one place, as inside a step: that site may know voters for a verdict not fallen yet, or of a request not considered yet.
use Rattle.std.specs.Prelude.{ℕ, ◌≤◌, ◌<◌, true, false, ◌≡◌}
use Rattle.majority.specs.Majority.{majority, blocking}
use Rattle.table.specs.Meaning.{SoundSite, SoundPlace, SoundMessage}
use Rattle.table.specs.Places.{site_at}
use Rattle.table.specs.Sound.{marks_ok, marks_other, backed}
use Rattle.table.specs.declared.data.Table.{Table}
use Rattle.vote.specs.Data.{is_ok_vote, is_other, is_unmarked, is_deferred, is_open, vote_at}
use Rattle.vote.specs.Voters.{knows, none_known, voters_known}
use Rattle.vote.specs.declared.data.Site.{Site}

-- what s, which is site k of t, holds of place p: of Holding all that every small operation keeps
pub record HoldingBut (t : Table) (s : Site) (k p : ℕ) : Type 0 where
  pub known_ok : (u : ℕ) → u < 7 → knows s.oks p u ≡ true → marks_ok t p u ≡ true
  pub known_other : (u : ℕ) → u < 7 → knows s.others p u ≡ true → marks_other t p u ≡ true
  pub own_ok : is_ok_vote (vote_at s.votes p).mark ≡ true → knows s.oks p k ≡ true
  pub own_other : is_other (vote_at s.votes p).mark ≡ true → knows s.others p k ≡ true
  pub backing : backed t p (vote_at s.votes p).verdict ≡ true
  pub judged : is_open (vote_at s.votes p).verdict ≡ false → is_deferred (vote_at s.votes p).mark ≡ false

-- and the rest of it: of n sites, one that holds place p open has nothing left to do there
pub record Quiet (n : ℕ) (s : Site) (p : ℕ) : Type 0 where
  pub few_oks : is_open (vote_at s.votes p).verdict ≡ true → voters_known s.oks p < majority n
  pub few_others : is_open (vote_at s.votes p).verdict ≡ true → voters_known s.others p < blocking n
  pub unheard_oks : is_open (vote_at s.votes p).verdict ≡ true → is_unmarked (vote_at s.votes p).mark ≡ true → none_known s.oks p ≡ true
  pub unheard_others : is_open (vote_at s.votes p).verdict ≡ true → is_unmarked (vote_at s.votes p).mark ≡ true → none_known s.others p ≡ true

-- sound but for site k and place p
pub record SoundBut (t : Table) (k p : ℕ) : Type 0 where
  pub count_from : 1 ≤ t.count
  pub count_to : t.count ≤ 7
  pub site : (j : ℕ) → j < 7 → SoundSite t j
  pub place : (q : ℕ) → q < 16 → SoundPlace t q
  pub message : (i : ℕ) → i < 64 → SoundMessage t i
  pub holding : (j q : ℕ) → j < 7 → q < 16 → HoldingBut t (site_at t j) j q
  pub quiet : (j q : ℕ) → j < 7 → q < 16 → (j ≡ k → q ≡ p → ⊥) → Quiet t.count (site_at t j) q
