-- The test of soundness as the code asks it, one law for each of its ways: the parts in turn, and that they are the whole.
use mathlib.Core.Path.{◌≡◌, ◌∙◌}
use mathlib.Core.Bool.{Bool, true, false, not, ◌&&◌}
use mathlib.Core.List.{List}
use Prim.Native.Nat.{ℕ, ◌/◌, ◌%◌, ◌≤◌, ◌<◌}
use borrow.Author.Tests.{not-true, not-false}
use lib.Dec.{leb}
use lib.ListN.{get_or}
use Rattle.kit.specs.Lists.{listed}
use Rattle.kit.specs.Range.{all}
use Rattle.kit.proofs.Loops.{Held, all_failed, all_over}
use Rattle.vote.specs.Data.{is_ok_vote, is_other, request_at, vote_at}
use Rattle.table.specs.Parts.{lasts_of, stamps_of, ballots_of, rows_of, marks_of, request_sound, site_sound, message_sound, parts_sound}
use Rattle.table.specs.Places.{no_site, no_message}
use Rattle.table.specs.Sound.{sound_table}
use Rattle.table.specs.declared.data.Table.{Table}
use Rattle.table.proofs.Marked.{rows_said}
use Rattle.table.proofs.Same.{parts_sound_lem}

-- ---- the parts, as each loop asks them

abbrev pub request_right : Table → List ℕ → List ℕ → ℕ → Bool
request_right t lasts stamps p = request_sound t.count lasts stamps (request_at t.requests p) p

abbrev pub site_right : Table → List ℕ → List ℕ → List Bool → List Bool → ℕ → Bool
site_right t lasts stamps oks others k = site_sound t.count lasts (rows_of oks others) stamps k (get_or t.sites k no_site)

abbrev pub message_right : Table → List ℕ → List Bool → List Bool → ℕ → Bool
message_right t stamps oks others j = message_sound t.count (rows_of oks others) stamps (get_or t.messages j no_message)

-- ---- the ways out

module _ (t : Table) {a : Bool} (count : a ≡ (leb 1 t.count && leb t.count 7)) where
  count_wrong : not a ≡ true → false ≡ parts_sound t
  unfolding parts_sound
  count_wrong h = rw (← count, not-true a h)

  pub no_count : not a ≡ true → false ≡ sound_table t
  no_count h = count_wrong h ∙ parts_sound_lem t

  module _
      {lasts stamps : List ℕ} (counted : not a ≡ false) (times : lasts ≡ lasts_of t.sites) (named : stamps ≡ stamps_of t.requests) where
    requests_wrong : false ≡ all 16 (request_right t lasts stamps) → false ≡ parts_sound t
    unfolding parts_sound
    requests_wrong e = rw (← count, not-false a counted, ← times, ← named, ← e)

    pub request_wrong
        : {p : ℕ} {r : Bool} → Held 16 (request_right t lasts stamps) p → p < 16 → r ≡ request_right t lasts stamps p → not r ≡ true → false ≡ sound_table t
    request_wrong k h e f = requests_wrong (all_failed k h e f) ∙ parts_sound_lem t

    module _
        {oks others : List Bool} {p : ℕ} (asked : Held 16 (request_right t lasts stamps) p) (over : 16 ≤ p)
        (ok : oks ≡ listed 112 (λ i. is_ok_vote (vote_at (get_or t.sites (i % 7) no_site).votes (i / 7)).mark))
        (other : others ≡ listed 112 (λ i. is_other (vote_at (get_or t.sites (i % 7) no_site).votes (i / 7)).mark)) where
      own : rows_of oks others ≡ marks_of (ballots_of t.sites)
      own = rows_said t.sites ok other

      sites_wrong : false ≡ all 7 (site_right t lasts stamps oks others) → false ≡ parts_sound t
      unfolding parts_sound
      sites_wrong e = rw (← count, not-false a counted, ← times, ← named, ← all_over asked over, ← own, ← e)

      pub site_wrong
          : {k : ℕ} {r : Bool} → Held 7 (site_right t lasts stamps oks others) k → k < 7 → r ≡ site_right t lasts stamps oks others k → not r ≡ true
          → false ≡ sound_table t
      site_wrong w h e f = sites_wrong (all_failed w h e f) ∙ parts_sound_lem t

      module _ {k : ℕ} (visited : Held 7 (site_right t lasts stamps oks others) k) (end : 7 ≤ k) where
        messages_are : {g : Bool} → g ≡ all 64 (message_right t stamps oks others) → g ≡ parts_sound t
        unfolding parts_sound
        messages_are e =
            rw (← count, not-false a counted, ← times, ← named, ← all_over asked over, ← own, ← all_over visited end) e

        pub message_wrong
            : {j : ℕ} {r : Bool} → Held 64 (message_right t stamps oks others) j → j < 64 → r ≡ message_right t stamps oks others j → not r ≡ true
            → false ≡ sound_table t
        message_wrong w h e f = messages_are (all_failed w h e f) ∙ parts_sound_lem t

        pub all_right : {j : ℕ} → Held 64 (message_right t stamps oks others) j → 64 ≤ j → true ≡ sound_table t
        all_right w h = messages_are (all_over w h) ∙ parts_sound_lem t
