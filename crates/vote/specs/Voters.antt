-- The voters that a site knows. They are kept as 112 tests, voter u of request place p at 7 × p + u; no other file sees through that.
use Rattle.std.specs.Prelude.{ℕ, zero, suc, ◌+◌, ◌*◌, Bool, false, not, ◌&&◌, ◌||◌, cond, List, eqb, ltb, length, get_or, set, replicate}
use Rattle.kit.specs.Lists.{listed}
use Rattle.kit.specs.Range.{any, all, implies, passing}

-- voter u of place p is known
unfoldable pub knows : List Bool → ℕ → ℕ → Bool
knows known p u = (ltb p 16 && ltb u 7) && get_or known (7 * p + u) false

-- the known voters of place p, site by site
unfoldable pub voters_of : List Bool → ℕ → List Bool
voters_of known p = listed 7 (knows known p)

-- the voter u alone
unfoldable pub only_voter : ℕ → List Bool
only_voter u = listed 7 (eqb u)

-- the first n voters of `more` joined to the known ones of place p
unfoldable pub join_up_to : ℕ → List Bool → ℕ → List Bool → List Bool
join_up_to zero known p more = known
join_up_to (suc n) known p more =
    set (join_up_to n known p more) (7 * p + n) (get_or (join_up_to n known p more) (7 * p + n) false || get_or more n false)

-- all seven joined; a place above 15 has no voters
unfoldable pub join_voters : List Bool → ℕ → List Bool → List Bool
join_voters known p more = cond (ltb p 16) (join_up_to 7 known p more) known

-- ---- the voters of one place, as a row of seven

-- voter u is in the row
unfoldable pub has_voter : List Bool → ℕ → Bool
has_voter row u = ltb u 7 && get_or row u false

-- the row of the voters that pass f
unfoldable pub voters_for : (ℕ → Bool) → List Bool
voters_for f = listed 7 f

-- no voter is in the row
unfoldable pub no_voters : List Bool → Bool
no_voters row = not (any 7 (has_voter row))

-- each voter of a is one of b
unfoldable pub are_among : List Bool → List Bool → Bool
are_among a b = all 7 (λ u. implies (has_voter a u) (has_voter b u))

-- the voters of a row as a list of site numbers, rising
unfoldable pub voter_list : List Bool → List ℕ
voter_list row = passing 7 (has_voter row)

-- how many they are
unfoldable pub voters_in : List Bool → ℕ
voters_in row = length (voter_list row)

-- ---- what a site knows of place p

-- how many voters of place p are known
unfoldable pub voters_known : List Bool → ℕ → ℕ
voters_known known p = voters_in (voters_of known p)

-- none is known
unfoldable pub none_known : List Bool → ℕ → Bool
none_known known p = no_voters (voters_of known p)

-- the first n voters of place p forgotten
unfoldable pub clear_up_to : ℕ → List Bool → ℕ → List Bool
clear_up_to zero known p = known
clear_up_to (suc n) known p = set (clear_up_to n known p) (7 * p + n) false

-- all seven forgotten
unfoldable pub clear_voters : List Bool → ℕ → List Bool
clear_voters known p = cond (ltb p 16) (clear_up_to 7 known p) known

-- ---- nothing known

-- a row with no voter
unfoldable pub no_row : List Bool
no_row = replicate 7 false

-- no voter known of any place
unfoldable pub no_known : List Bool
no_known = replicate 112 false
