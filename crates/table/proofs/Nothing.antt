-- What it means that a site holds nothing of a place, and that a blank site holds nothing of any.
use mathlib.Core.Path.{◌≡◌}
use mathlib.Core.Bool.{Bool, true, not, ◌&&◌}
use Prim.Native.Nat.{ℕ, ◌<◌}
use lib.Dec.{eqb}
use Rattle.kit.specs.Range.{all}
use Rattle.kit.proofs.Bools.{and_left, and_right, both_true}
use Rattle.kit.proofs.Ranges.{all_at}
use Rattle.vote.specs.Data.{is_unmarked, is_open, vote_at}
use Rattle.vote.specs.Voters.{none_known}
use Rattle.vote.specs.declared.data.Site.{Site}
use Rattle.table.specs.Blank.{zeros, zero_values, blank_vote, holds_nothing, is_blank_site}

-- no mark, no verdict, no voter known
pub record Nothing (s : Site) (q : ℕ) : Type 0 where
  pub unmarked : is_unmarked (vote_at s.votes q).mark ≡ true
  pub unruled : is_open (vote_at s.votes q).verdict ≡ true
  pub no_oks : none_known s.oks q ≡ true
  pub no_others : none_known s.others q ≡ true

pub nothing_means : (s : Site) (q : ℕ) → holds_nothing s q ≡ true → Nothing s q
unfolding holds_nothing blank_vote
nothing_means s q e =
    let a : Bool = is_unmarked (vote_at s.votes q).mark in
    let b : Bool = is_open (vote_at s.votes q).verdict in
    let c : Bool = none_known s.oks q in
    let d : Bool = none_known s.others q in
    let f : (a && b) ≡ true = and_left (a && b) (c && d) e in
    let g : (c && d) ≡ true = and_right (a && b) (c && d) e in
    record { unmarked = and_left a b f; unruled = and_right a b f; no_oks = and_left c d g; no_others = and_right c d g }

pub nothing_of : {s : Site} {q : ℕ} → Nothing s q → holds_nothing s q ≡ true
unfolding holds_nothing blank_vote
nothing_of h = both_true (both_true h.unmarked h.unruled) (both_true h.no_oks h.no_others)

-- a blank site holds nothing of any place
pub blank_holds : (s : Site) → is_blank_site s ≡ true → (q : ℕ) → q < 16 → holds_nothing s q ≡ true
unfolding is_blank_site
blank_holds s e q h =
    let a6 : Bool = all 16 (holds_nothing s) in
    let a5 : Bool = eqb s.waiting 0 && a6 in
    let a4 : Bool = zeros 16 s.queue && a5 in
    let a3 : Bool = zero_values s.values && a4 in
    let a2 : Bool = zeros 24 s.stamps && a3 in
    let a1 : Bool = eqb s.last 0 && a2 in
    all_at (holds_nothing s) 16 q
    (and_right (eqb s.waiting 0) a6 (and_right (zeros 16 s.queue) a5 (and_right (zero_values s.values) a4
    (and_right (zeros 24 s.stamps) a3 (and_right (eqb s.last 0) a2 (and_right (not s.up) a1 e)))))) h
