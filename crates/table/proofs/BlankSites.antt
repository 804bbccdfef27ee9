-- A blank site is sound beside any own marks: of a site behind the last nothing else is asked.
use mathlib.Core.Path.{◌≡◌, refl, sym, ◌∙◌}
use mathlib.Core.Bool.{Bool, true, false, not, ◌&&◌}
use mathlib.Core.List.{List}
use Prim.Native.Nat.{ℕ, ◌≤◌, ◌<◌}
use native.Mathlib.Omega.{arith}
use borrow.Author.Tests.{eqb-true, le-leb, lt-leb, not-true}
use lib.Dec.{eqb, leb}
use lib.IntN.{pos}
use lib.ListN.{get_or}
use Rattle.kit.specs.Range.{all, any, implies, one, number}
use Rattle.kit.proofs.Bools.{clash, and_left, and_right, both_true, implying, by_test}
use Rattle.kit.proofs.Ranges.{all_at, all_of, any_at}
use Rattle.majority.specs.Majority.{majority, blocking}
use Rattle.readings.specs.Readings.{is_zero}
use Rattle.vote.specs.Data.{is_unmarked, is_deferred, is_open, vote_at}
use Rattle.vote.specs.Queue.{queued_at}
use Rattle.vote.specs.Voters.{has_voter, voters_of, voters_in, are_among, no_voters, none_known}
use Rattle.vote.specs.declared.data.Site.{Site}
use Rattle.vote.specs.declared.data.Vote.{Vote}
use Rattle.vote.proofs.MarkKinds.{open_is, unmarked_is}
use Rattle.table.specs.Blank.{zeros, zero_values, holds_nothing, is_blank_site}
use Rattle.table.specs.Parts.{value_right, reading_sound, queue_end_blank, holding_sound, place_held, rest_counted, rows_of, site_rest, site_sound}
use Rattle.table.specs.Sound.{queue_exact, times_queued}
use Rattle.table.specs.Parts.{Marks}
use Rattle.table.proofs.Marked.{row_empty, places_same}
use Rattle.table.proofs.Nothing.{nothing_means, blank_holds}
use Rattle.table.proofs.Runs.{stamp_right, blank_right, copy_means, reading_of}

none_among : (a b : List Bool) → no_voters a ≡ true → are_among a b ≡ true
unfolding no_voters are_among
none_among a b e = all_of 7 (λ u. implies (has_voter a u) (has_voter b u)) (λ u h. implying (has_voter a u) (λ t. clash t (any_at (has_voter a) 7 u (not-true (any 7 (has_voter a)) e) h)))

no_majority : (n : ℕ) (a : List Bool) → no_voters a ≡ true → not (leb (majority n) (voters_in a)) ≡ true
unfolding majority
no_majority n a e = rw (lt-leb (majority n) (voters_in a) (let z : voters_in a ≡ 0 = eqb-true (voters_in a) 0 (sym (row_empty a) ∙ e) in omega arith))

no_blocking : (n : ℕ) (a : List Bool) → no_voters a ≡ true → not (leb (blocking n) (voters_in a)) ≡ true
unfolding blocking
no_blocking n a e = rw (lt-leb (blocking n) (voters_in a) (let z : voters_in a ≡ 0 = eqb-true (voters_in a) 0 (sym (row_empty a) ∙ e) in omega arith))

nothing_sound
    : (n me : ℕ) (m : Marks) (v : Vote) (oks others : List Bool) → is_unmarked v.mark ≡ true → is_open v.verdict ≡ true → no_voters oks ≡ true → no_voters others ≡ true
    → holding_sound n me m v oks others ≡ true
unfolding holding_sound
nothing_sound n me m v oks others u o a b =
    rw (none_among oks m.oks a, none_among others m.others b, unmarked_is v.mark u, open_is v.verdict o, no_majority n oks a, no_blocking n others b, a, b)

module _ (s : Site) (e : is_blank_site s ≡ true) where
  parts_blank
      : ((s.waiting ≡ 0) × (zeros 24 s.stamps ≡ true) × (zero_values s.values ≡ true) × (zeros 16 s.queue ≡ true))
  unfolding is_blank_site
  parts_blank =
      let a6 : Bool = all 16 (holds_nothing s) in
      let a5 : Bool = eqb s.waiting 0 && a6 in
      let a4 : Bool = zeros 16 s.queue && a5 in
      let a3 : Bool = zero_values s.values && a4 in
      let a2 : Bool = zeros 24 s.stamps && a3 in
      let a1 : Bool = eqb s.last 0 && a2 in
      let f2 : a2 ≡ true = and_right (eqb s.last 0) a2 (and_right (not s.up) a1 e) in
      let f3 : a3 ≡ true = and_right (zeros 24 s.stamps) a3 f2 in
      let f4 : a4 ≡ true = and_right (zero_values s.values) a4 f3 in
      let f5 : a5 ≡ true = and_right (zeros 16 s.queue) a5 f4 in
      (eqb-true s.waiting 0 (and_left (eqb s.waiting 0) a6 f5), and_left (zeros 24 s.stamps) a3 f2, and_left (zero_values s.values) a4 f3, and_left (zeros 16 s.queue) a5 f4)

  stamp_zero : (i : ℕ) → i < 24 → get_or s.stamps i 0 ≡ 0
  unfolding zeros
  stamp_zero i h = eqb-true (get_or s.stamps i 0) 0 (all_at (λ k. eqb (get_or s.stamps k 0) 0) 24 i parts_blank.1 h)

  queue_zero : (i : ℕ) → i < 16 → eqb (queued_at s.queue i) 0 ≡ true
  unfolding zeros
  queue_zero i h = all_at (λ k. eqb (get_or s.queue k 0) 0) 16 i parts_blank.3 h

  value_zero : (i : ℕ) → i < 24 → is_zero (get_or s.values i (pos 0)) ≡ true
  unfolding zero_values
  value_zero i h = all_at (λ k. is_zero (get_or s.values k (pos 0))) 24 i parts_blank.2 h

  module _ (n me : ℕ) (lasts : List ℕ) (marks : List Marks) (stamps : List ℕ) where
    reads : all 24 (reading_sound n lasts s) ≡ true
    unfolding value_right
    reads = all_of 24 (reading_sound n lasts s) (λ i h. reading_of n lasts s i
        (rw (stamp_zero i h) (blank_right n lasts)) (rw (stamp_zero i h) (value_zero i h)))

    ends : queue_end_blank s ≡ true
    unfolding queue_end_blank
    ends = all_of 16 (λ i. implies (leb s.waiting i) (eqb (queued_at s.queue i) 0)) (λ i h. implying (leb s.waiting i) (λ _. queue_zero i h))

    queued : queue_exact s ≡ true
    unfolding queue_exact times_queued all number
    queued = rw parts_blank.0
        (all_of 16 (λ p. eqb 0 (one (is_deferred (vote_at s.votes p).mark)))
        (λ p h. rw (unmarked_is (vote_at s.votes p).mark (nothing_means s p (blank_holds s e p h)).unmarked)))

    held : all 16 (place_held n me marks stamps s) ≡ true
    unfolding place_held holds_nothing none_known
    held = all_of 16 (place_held n me marks stamps s)
        (λ p h. let b = blank_holds s e p h in
        let w = nothing_means s p b in
        both_true (nothing_sound n me _ (vote_at s.votes p) (voters_of s.oks p) (voters_of s.others p) w.unmarked w.unruled w.no_oks w.no_others)
        (implying (eqb (get_or stamps p 0) 0) (λ _. b)))

    blank_rest : site_rest n lasts marks stamps me s ≡ true
    unfolding site_rest
    blank_rest = both_true reads (both_true ends (both_true queued held))

and_assoc : (a b d : Bool) → (a && (b && d)) ≡ ((a && b) && d)
and_assoc true b d = refl
and_assoc false b d = refl

rest_same
    : (n me : ℕ) (lasts stamps : List ℕ) (s : Site) (oks others : List Bool)
    → rest_counted n lasts oks others stamps me s ≡ site_rest n lasts (rows_of oks others) stamps me s
unfolding site_rest queue_end_blank queue_exact times_queued
rest_same n me lasts stamps s oks others =
    rw (places_same n me oks others stamps s)
    (and_assoc (all 24 (λ i. stamp_right n lasts (get_or s.stamps i 0))) (all 24 (λ i. value_right (get_or s.stamps i 0) (get_or s.values i (pos 0)))) _
    ∙ rw (copy_means n lasts s refl))

module _ (n me : ℕ) (lasts : List ℕ) (stamps : List ℕ) (s : Site) {w : ℕ} {r : Bool} (i : w ≡ n) where
  pub unused_site : (marks : List Marks) → w ≤ me → r ≡ is_blank_site s → r ≡ site_sound n lasts marks stamps me s
  unfolding site_sound
  unused_site marks h e =
      let l : n ≤ me = omega arith in
      rw (le-leb n me l)
      (by_test (is_blank_site s) (λ t. rw t at e ∙ rw t (sym (blank_rest s t n me lasts marks stamps))) (λ f. e ∙ rw f))

  pub used_site : (oks others : List Bool) → me < w → r ≡ rest_counted n lasts oks others stamps me s → r ≡ site_sound n lasts (rows_of oks others) stamps me s
  unfolding site_sound
  used_site oks others h e = let l : me < n = omega arith in rw (lt-leb n me l) (e ∙ rest_same n me lasts stamps s oks others)
