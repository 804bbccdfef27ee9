-- A row of voters, and the row that a site knows of one place: what is in it, how many, and what forgetting leaves.
use mathlib.Core.Path.{◌≡◌, refl, sym, ap, ◌∙◌}
use mathlib.Core.Bool.{Bool, true, false, not, beq}
use mathlib.Core.List.{List}
use Prim.Native.Nat.{ℕ, zero, suc, ◌+◌, ◌*◌, ◌≤◌, ◌<◌}
use native.Mathlib.Omega.{arith}
use borrow.Author.Tests.{lt-ltb, le-ltb, not-true}
use lib.Dec.{ltb}
use lib.ListN.{length, get_or, length-set, get_or-replicate}
use Rattle.std.specs.List.{list_any}
use Rattle.kit.specs.Range.{number}
use Rattle.kit.proofs.Bools.{by_lt, of_cond}
use Rattle.kit.proofs.Listings.{listed_at}
use Rattle.kit.proofs.Passing.{length_passing}
use Rattle.kit.proofs.Iterated.{any_elements}
use Rattle.kit.proofs.Ranges.{any_at, any_same, none_of}
use Rattle.vote.specs.Voters.{knows, voters_of, has_voter, voters_for, no_voters, voter_list, voters_in, none_known, clear_up_to, clear_voters, no_row}

-- ---- as the code asks

pub row_out : (row : List Bool) (u : ℕ) → 6 < u → false ≡ has_voter row u
unfolding has_voter
row_out row u h = rw (le-ltb u 7 (omega arith))

pub row_in : (row : List Bool) (u : ℕ) → u ≤ 6 → get_or row u false ≡ has_voter row u
unfolding has_voter
row_in row u h = rw (lt-ltb u 7 (omega arith))

-- ---- what is in a row

pub row_for : (f : ℕ → Bool) (u : ℕ) → u < 7 → has_voter (voters_for f) u ≡ f u
unfolding has_voter voters_for
row_for f u h = rw (lt-ltb u 7 h) (listed_at 7 u f false h)

pub row_none : (u : ℕ) → has_voter no_row u ≡ false
unfolding has_voter no_row
row_none u = by_lt u 7 (λ h. rw (lt-ltb u 7 h) (get_or-replicate 7 u false false h)) (λ h. rw (le-ltb u 7 h))

-- the row that a site knows of place p
pub row_known : (known : List Bool) (p u : ℕ) → u < 7 → has_voter (voters_of known p) u ≡ knows known p u
unfolding has_voter voters_of
row_known known p u h = rw (lt-ltb u 7 h) (listed_at 7 u (knows known p) false h)

-- how many
pub row_number : (row : List Bool) → voters_in row ≡ number 7 (has_voter row)
unfolding voters_in voter_list
row_number row = length_passing 7 (has_voter row)

-- as the code asks
is_true : (b : Bool) → beq b true ≡ b
is_true true = refl
is_true false = refl

pub row_searched : {r : Bool} (row : List Bool) → length row ≡ 7 → r ≡ list_any (λ b. beq b true) row → not r ≡ no_voters row
unfolding no_voters
row_searched row e f =
    ap not (f ∙ any_elements (λ b. beq b true) row false e
    ∙ any_same (λ u. beq (get_or row u false) true) (has_voter row) 7 (λ u h. is_true (get_or row u false) ∙ row_in row u (omega arith)))

-- no voter, from the test and to it
pub nobody_at : (row : List Bool) (u : ℕ) → no_voters row ≡ true → u < 7 → has_voter row u ≡ false
unfolding no_voters
nobody_at row u e h = any_at (has_voter row) 7 u (not-true _ e) h

pub nobody_of : (row : List Bool) → ((u : ℕ) → u < 7 → has_voter row u ≡ false) → no_voters row ≡ true
unfolding no_voters
nobody_of row h = ap not (none_of 7 (has_voter row) h)

pub unknown_at : (known : List Bool) (p u : ℕ) → none_known known p ≡ true → u < 7 → knows known p u ≡ false
unfolding none_known
unknown_at known p u e h = sym (row_known known p u h) ∙ nobody_at (voters_of known p) u e h

pub unknown_of : (known : List Bool) (p : ℕ) → ((u : ℕ) → u < 7 → knows known p u ≡ false) → none_known known p ≡ true
unfolding none_known
unknown_of known p h = nobody_of (voters_of known p) (λ u l. row_known known p u l ∙ h u l)

-- ---- forgetting the voters of one place

pub length_clear_up_to : (n : ℕ) (known : List Bool) (p : ℕ) → length (clear_up_to n known p) ≡ length known
unfolding clear_up_to
length_clear_up_to zero known p = refl
length_clear_up_to (suc n) known p = length-set (clear_up_to n known p) (7 * p + n) false ∙ length_clear_up_to n known p

pub length_clear_voters : (known : List Bool) (p : ℕ) → length (clear_voters known p) ≡ length known
unfolding clear_voters
length_clear_voters known p = of_cond (λ (l : List Bool). length l ≡ length known) (ltb p 16) (λ y. length_clear_up_to 7 known p) (λ n. refl)
