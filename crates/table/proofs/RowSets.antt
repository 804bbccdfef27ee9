-- A row of voters as a set: made digit by digit, and one row among another.
use mathlib.Core.Path.{◌≡◌, refl, sym, ◌∙◌}
use mathlib.Core.Bool.{Bool, true, false}
use mathlib.Core.List.{List}
use Prim.Native.Nat.{ℕ, ◌+◌, ◌*◌, ◌%◌, ◌^◌, ◌≤◌, ◌<◌}
use native.Mathlib.Numerals.{add-one}
use native.Mathlib.Omega.{arith}
use lib.ListN.{get_or}
use lib.Pow.{pow_mono}
use mir.Syntax.{w32}
use mir.Val.{Fits}
use Rattle.kit.specs.Range.{all, one, implies}
use Rattle.kit.proofs.Bools.{clash, implied, implying, same_test, by_lt}
use Rattle.kit.proofs.Listings.{listed_at}
use Rattle.kit.proofs.Ranges.{all_at, all_of}
use Rattle.sets.specs.Sets.{set_of, inside}
use Rattle.sets.proofs.Laws.{set_of_lt, member_set_of, member_set_of_above}
use Rattle.sets.proofs.Members.{inside_at, inside_of}
use Rattle.vote.proofs.Rows.{row_in}
use Rattle.vote.specs.Voters.{has_voter, voters_of, are_among}
use Rattle.table.specs.Parts.{row_set, row_sets}

-- ---- the digits of the first u voters, as the code adds them: d is the next voter as a number

below_all : (row : List Bool) (u : ℕ) → u < 7 → set_of u (has_voter row) < 64
below_all row u h = let l : u ≤ 6 = omega arith in let g : 2 ^ u ≤ 2 ^ 6 = pow_mono l in let s : set_of u (has_voter row) < 2 ^ u = set_of_lt u (has_voter row) in omega arith

digit : (b : Bool) {w : ℕ} → w ≤ 64 → one b * w % 4294967296 ≡ one b * w
digit true h = omega arith
digit false h = omega arith

digit_below : (b : Bool) {w : ℕ} → w ≤ 64 → one b * w ≤ 64
digit_below true h = omega arith
digit_below false h = omega arith

module _ (row : List Bool) (u : ℕ) (h : u < 7) {d : ℕ} (e : d ≡ one (get_or row u false)) where
  light : 2 ^ u ≤ 64
  light = let l : u ≤ 6 = omega arith in pow_mono l

  weight : d * 2 ^ u % 4294967296 ≡ one (has_voter row u) * 2 ^ u
  weight = rw (e, row_in row u (omega arith)) (digit (has_voter row u) light)

  pub one_more_row : {set : ℕ} → set ≡ set_of u (has_voter row) → set + d * 2 ^ u % 4294967296 ≡ set_of (u + 1) (has_voter row)
  unfolding set_of
  one_more_row f = rw (add-one u, weight, f)

  pub row_fits : {set : ℕ} → set ≡ set_of u (has_voter row) → Fits w32 (set + d * 2 ^ u % 4294967296)
  row_fits {set} f =
      let b : set_of u (has_voter row) < 64 = below_all row u h in
      let w : one (has_voter row u) * 2 ^ u ≤ 64 = digit_below (has_voter row u) light in
      record { fits = rw (weight, f) (omega arith) }

pub no_row_set : (row : List Bool) → 0 ≡ set_of 0 (has_voter row)
unfolding set_of
no_row_set row = refl

pub row_is : {set : ℕ} (row : List Bool) (u : ℕ) → u ≤ 7 → 7 ≤ u → set ≡ set_of u (has_voter row) → set ≡ row_set row
unfolding row_set
row_is row u h l f = let e : u ≡ 7 = omega arith in rw e at f

-- ---- one row among another

module _ (f g : ℕ → Bool) where
  sets_inside : inside (set_of 7 f) (set_of 7 g) ≡ all 7 (λ u. implies (f u) (g u))
  sets_inside =
      same_test (inside (set_of 7 f) (set_of 7 g)) (all 7 (λ u. implies (f u) (g u)))
      (λ t. all_of 7 (λ u. implies (f u) (g u)) (λ u h. implying (f u) (λ q. sym (member_set_of 7 g u h) ∙ inside_at (set_of 7 f) (set_of 7 g) u t (omega arith) (member_set_of 7 f u h ∙ q))))
      (λ t. inside_of (set_of 7 f) (set_of 7 g)
      (λ i l q. by_lt i 7
      (λ h. member_set_of 7 g i h ∙ implied (f i) (g i) (all_at (λ u. implies (f u) (g u)) 7 i t h) (sym (member_set_of 7 f i h) ∙ q))
      (λ h. clash q (member_set_of_above 7 f i h))))

pub carried
    : {p at a : ℕ} {sets : List ℕ} {r : Bool} (row known : List Bool) → at ≡ p → p < 16 → sets ≡ row_sets known → a ≡ row_set row
    → r ≡ inside a (get_or sets at 0) → r ≡ are_among row (voters_of known p)
unfolding row_set row_sets are_among
carried {p} row known e h k l m =
    rw (l, e, k, listed_at 16 p (λ q. set_of 7 (has_voter (voters_of known q))) 0 h, sets_inside (has_voter row) (has_voter (voters_of known p))) at m
