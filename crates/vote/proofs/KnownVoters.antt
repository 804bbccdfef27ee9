-- The voters that a site knows: what each function makes of them, and the laws by which all others see them.
use mathlib.Core.Path.{◌≡◌, refl, sym, ap, ◌∙◌}
use mathlib.Core.Bool.{Bool, true, false, not, ◌&&◌, ◌||◌, and-false, or-false, or-true}
use mathlib.Core.List.{List}
use mathlib.Core.Logic.{◌⊎◌, inl, inr}
use Prim.Native.Nat.{ℕ, zero, suc, ◌+◌, ◌*◌, ◌-◌, ◌/◌, ◌%◌, ◌≤◌, ◌<◌}
use native.Mathlib.Numerals.{add-one}
use native.Mathlib.Omega.{arith}
use borrow.Author.Tests.{lt-ltb, le-ltb, ltb-true, eq-eqb, ne_eqb, not-true}
use lib.Dec.{eqb, ltb}
use borrow.Rule.Slice.PartMut.{put_mid}
use lib.ListN.{length, get_or, set, replicate, take, drop, length-set, length-drop, get_or-replicate, get_or-eq_default, length-replicate}
use lib.Seq.{paste, paste-zero, paste-suc, ext_get_or, get_or-set_same, get_or-set_other, set-get_or}
use Rattle.std.proofs.lemmas.Slice.{put_mid-paste}
use Rattle.std.proofs.lemmas.List.{length-take, get_or-take, get_or-drop}
use Rattle.kit.specs.Lists.{listed}
use Rattle.kit.specs.Range.{any, all, number, implies}
use Rattle.kit.proofs.Bools.{clash, and_left, and_right, implied, implying, same_test, by_eq, by_lt, of_cond}
use Rattle.kit.proofs.Listings.{length_listed, listed_at, listed_of, listed_same}
use Rattle.kit.proofs.Ranges.{any_suc, any_at, none_of, all_at, all_of, number_le, number_same, number_grows, number_none}
use Rattle.vote.specs.Voters.{knows, voters_of, only_voter, join_up_to, join_voters, has_voter, voters_for, voters_in, voters_known, no_known, are_among, clear_up_to, clear_voters}
use Rattle.vote.proofs.Rows.{row_in, row_known, row_number, length_clear_up_to}

-- ---- as the code makes them; `at` is the place as an index

pub unknown_voter : (known : List Bool) (p : ℕ) {u : ℕ} → 6 < u → false ≡ knows known p u
unfolding knows
unknown_voter known p {u} h = rw (le-ltb u 7 (omega arith), and-false)

-- inside the 16 places and seven voters
known_is : (known : List Bool) (p u : ℕ) → p < 16 → u < 7 → get_or known (7 * p + u) false ≡ knows known p u
unfolding knows
known_is known p u h l = rw (lt-ltb p 16 h, lt-ltb u 7 l)

-- the row of place p, as it stands in the list, and nobody at a place above 15
pub row_taken : {at p : ℕ} (known : List Bool) → length known ≡ 112 → at ≡ p → p < 16 → take (7 * at + 7 - 7 * at) (drop (7 * at) known) ≡ voters_of known p
unfolding voters_of
row_taken {at} {p} known l e h =
    let n : 7 * at + 7 - 7 * at ≡ 7 = omega arith in
    rw (n, e)
    (listed_of 7 (take 7 (drop (7 * p) known)) false (length-take 7 (drop (7 * p) known) ∙ omega (arith, length-drop (7 * p) known))
    ∙ listed_same 7 (λ u. get_or (take 7 (drop (7 * p) known)) u false) (knows known p)
    (λ u k. get_or-take 7 (drop (7 * p) known) u false k ∙ get_or-drop (7 * p) known u false ∙ known_is known p u h k))

pub row_of_none : (known : List Bool) (p : ℕ) → 16 ≤ p → replicate 7 false ≡ voters_of known p
unfolding voters_of knows listed
row_of_none known p h = rw (le-ltb p 16 h) refl

pub joined_none : (known : List Bool) (p : ℕ) (more : List Bool) → known ≡ join_up_to 0 known p more
unfolding join_up_to
joined_none known p more = refl

pub joined_more
    : (known : List Bool) {at p : ℕ} (more : List Bool) (u : ℕ) {w : List Bool} {b : Bool} → at ≡ p → w ≡ join_up_to u known p more
    → b ≡ (get_or w (7 * at + u) false || get_or more u false) → set w (7 * at + u) b ≡ join_up_to (u + 1) known p more
unfolding join_up_to
joined_more known more u e f g = rw (g, f, e, add-one u)

pub joined_over
    : (known : List Bool) {p : ℕ} (more : List Bool) (u : ℕ) {w : List Bool} → p < 16 → w ≡ join_up_to u known p more → u ≡ 7 → w ≡ join_voters known p more
unfolding join_voters
joined_over known {p} more u h f z = rw (lt-ltb p 16 h, ← z) f

-- a place above 15 has no voters
pub joined_out : (known : List Bool) (p : ℕ) (more : List Bool) → 16 ≤ p → known ≡ join_voters known p more
unfolding join_voters
joined_out known p more h = rw (le-ltb p 16 h)

-- ---- what all others see

-- each known list has its 112 tests before and after
length_joined_up_to : (n : ℕ) (known : List Bool) (p : ℕ) (more : List Bool) → length (join_up_to n known p more) ≡ length known
unfolding join_up_to
length_joined_up_to zero known p more = refl
length_joined_up_to (suc n) known p more =
    length-set (join_up_to n known p more) (7 * p + n) _ ∙ length_joined_up_to n known p more

-- joining keeps the length
pub length_join_voters : (known : List Bool) (p : ℕ) (more : List Bool) → length (join_voters known p more) ≡ length known
unfolding join_voters
length_join_voters known p more = of_cond (λ (l : List Bool). length l ≡ length known) (ltb p 16) (λ y. length_joined_up_to 7 known p more) (λ n. refl)

module _ (known : List Bool) (p : ℕ) (more : List Bool) where
  -- a test that is none of the first n of place p
  joined_there : (n k : ℕ) → ((u : ℕ) → u < n → k ≡ 7 * p + u → ⊥) → get_or (join_up_to n known p more) k false ≡ get_or known k false
  unfolding join_up_to
  joined_there zero k h = refl
  joined_there (suc n) k h =
      get_or-set_other (join_up_to n known p more) (7 * p + n) k _ false (h n (omega arith)) ∙ joined_there n k (λ u l. h u (omega arith))

  -- one of them
  joined_here
      : (n u : ℕ) → u < n → 7 * p + u < length known
      → get_or (join_up_to n known p more) (7 * p + u) false ≡ (get_or known (7 * p + u) false || get_or more u false)
  unfolding join_up_to
  joined_here zero u h l = absurd (let z : ⊥ = omega arith in z)
  joined_here (suc n) u h l =
      by_eq u n
      (λ e. rw (e, get_or-set_same (join_up_to n known p more) (7 * p + n) _ false (rw (length_joined_up_to n known p more, ← e) l), joined_there n (7 * p + n) (λ v k q. omega arith)))
      (λ ne. get_or-set_other (join_up_to n known p more) (7 * p + n) (7 * p + u) _ false (λ q. ne (omega arith)) ∙ joined_here n u (omega (arith, ne)) l)

  -- who is known after voters were joined at place p: who was, and those
  pub knows_joined
      : (q u : ℕ) → length known ≡ 112 → p < 16 → q < 16 → u < 7
      → knows (join_voters known p more) q u ≡ (knows known q u || (eqb p q && get_or more u false))
  unfolding knows join_voters
  knows_joined q u len hp hq hu =
      rw (lt-ltb p 16 hp, lt-ltb q 16 hq, lt-ltb u 7 hu)
      (by_eq p q (λ e. rw (← e, eq-eqb p p refl) (joined_here 7 u hu (omega arith)))
      (λ ne. rw (ne_eqb p q ne, or-false) (joined_there 7 (7 * q + u) (λ v k e. ne (omega arith)))))

  -- joining loses no voter
  pub known_stays : (q u : ℕ) → length known ≡ 112 → p < 16 → q < 16 → u < 7 → knows known q u ≡ true → knows (join_voters known p more) q u ≡ true
  known_stays q u len hp hq hu e = rw (knows_joined q u len hp hq hu, e)

  -- those that were joined are known
  pub known_new : (u : ℕ) → length known ≡ 112 → p < 16 → u < 7 → get_or more u false ≡ true → knows (join_voters known p more) p u ≡ true
  known_new u len hp hu e = rw (knows_joined p u len hp hp hu, eq-eqb p p refl, e, or-true)

  -- and nobody else is
  pub known_before : (u : ℕ) → length known ≡ 112 → p < 16 → u < 7 → get_or more u false ≡ false → knows (join_voters known p more) p u ≡ knows known p u
  known_before u len hp hu e = rw (knows_joined p u len hp hp hu, e, and-false, or-false)

  -- another place's voters stay as they were
  pub known_elsewhere : (q u : ℕ) → length known ≡ 112 → p < 16 → q < 16 → u < 7 → (p ≡ q → ⊥) → knows (join_voters known p more) q u ≡ knows known q u
  known_elsewhere q u len hp hq hu ne = rw (knows_joined q u len hp hq hu, ne_eqb p q ne, or-false)

  repeated_up_to : (n : ℕ) → n ≤ 7 → p < 16 → ((u : ℕ) → u < n → get_or more u false ≡ true → knows known p u ≡ true) → join_up_to n known p more ≡ known
  unfolding join_up_to
  repeated_up_to zero h hp all = refl
  repeated_up_to (suc n) h hp all =
      rw (repeated_up_to n (omega arith) hp (λ u l. all u (omega arith)), same (get_or more n false) (all n (omega arith)), set-get_or known (7 * p + n) false)
    where
      same : (m : Bool) → (m ≡ true → knows known p n ≡ true) → (get_or known (7 * p + n) false || m) ≡ get_or known (7 * p + n) false
      same true a = rw (known_is known p n hp (omega arith), a refl)
      same false a = or-false (get_or known (7 * p + n) false)

  -- a repeated voter counts once: joining voters who are known already changes nothing
  pub joined_again : p < 16 → ((u : ℕ) → u < 7 → get_or more u false ≡ true → knows known p u ≡ true) → join_voters known p more ≡ known
  unfolding join_voters
  joined_again hp all = rw (lt-ltb p 16 hp) (repeated_up_to 7 (omega arith) hp all)

-- a voter who is known is one of seven, of one of 16 places
pub known_in : (known : List Bool) (p u : ℕ) → knows known p u ≡ true → (p < 16) × (u < 7)
unfolding knows
known_in known p u e =
    let both = and_left (ltb p 16 && ltb u 7) (get_or known (7 * p + u) false) e in
    (ltb-true p 16 (and_left (ltb p 16) (ltb u 7) both), ltb-true u 7 (and_right (ltb p 16) (ltb u 7) both))

-- no voters are known where nothing was said
pub knows_nobody : (p u : ℕ) → knows no_known p u ≡ false
unfolding knows no_known
knows_nobody p u =
    by_lt (7 * p + u) 112 (λ h. rw (get_or-replicate 112 (7 * p + u) false false h, and-false))
    (λ h. rw (get_or-eq_default (replicate 112 false) false {n = 7 * p + u} h, and-false))

-- the voters of place p, voter by voter
pub voters_of_at : (known : List Bool) (p u : ℕ) → u < 7 → get_or (voters_of known p) u false ≡ knows known p u
unfolding voters_of
voters_of_at known p u h = listed_at 7 u (knows known p) false h

pub length_voters_of : (known : List Bool) (p : ℕ) → length (voters_of known p) ≡ 7
unfolding voters_of
length_voters_of known p = length_listed 7 (knows known p)

-- one voter alone
pub knows_only : (me u : ℕ) → u < 7 → get_or (only_voter me) u false ≡ eqb me u
unfolding only_voter
knows_only me u h = listed_at 7 u (eqb me) false h

pub length_only_voter : (me : ℕ) → length (only_voter me) ≡ 7
unfolding only_voter
length_only_voter me = length_listed 7 (eqb me)

-- joined: those before it join nobody, and those behind it nobody more
module _ (known : List Bool) (p u : ℕ) (hp : p < 16) where
  alone_before : (n : ℕ) → n ≤ 7 → n ≤ u → join_up_to n known p (only_voter u) ≡ known
  alone_before n h l =
      repeated_up_to known p (only_voter u) n h hp (λ v b e. clash e (knows_only u v (omega arith) ∙ ne_eqb u v (λ z. omega arith)))

  alone_behind : (n : ℕ) → n ≤ 7 → u < n → join_up_to n known p (only_voter u) ≡ set known (7 * p + u) true
  unfolding join_up_to
  alone_behind zero h l = absurd (let z : ⊥ = omega arith in z)
  alone_behind (suc n) h l =
      by_eq u n
      (λ e. rw (← e, alone_before u (omega arith) (omega arith), knows_only u u (omega arith), eq-eqb u u refl, or-true))
      (λ ne. rw (alone_behind n (omega arith) (omega (arith, ne)), knows_only u n (omega arith), ne_eqb u n ne, or-false, set-get_or))

-- as the code joins it; `at` and `v` are the place and the voter as indices
pub joined_one : (known : List Bool) {at p v u : ℕ} → at ≡ p → v ≡ u → p < 16 → u < 7 → set known (7 * at + v) true ≡ join_voters known p (only_voter u)
unfolding join_voters
joined_one known {at} {p} {v} {u} e f h l = rw (lt-ltb p 16 h, alone_behind known p u h 7 (omega arith) l, e, f)

pub joined_nobody : (known : List Bool) (p u : ℕ) → (p < 16 × 7 ≤ u) ⊎ (16 ≤ p) → known ≡ join_voters known p (only_voter u)
unfolding join_voters
joined_nobody known p u (inl w) = rw (lt-ltb p 16 w.0, alone_before known p u w.0 7 (omega arith) w.1)
joined_nobody known p u (inr h) = rw (le-ltb p 16 h)

-- ---- how many

-- so many voters are known
pub voters_number : (known : List Bool) (p : ℕ) → voters_known known p ≡ number 7 (knows known p)
unfolding voters_known
voters_number known p = row_number (voters_of known p) ∙ number_same (has_voter (voters_of known p)) (knows known p) 7 (λ u h. row_known known p u h)

-- as the code counts them, where they stand
pub counted_at
    : {r at p : ℕ} (known : List Bool) → length known ≡ 112 → at ≡ p → p < 16 → r ≡ voters_in (take (7 * at + 7 - 7 * at) (drop (7 * at) known))
    → r ≡ voters_known known p
unfolding voters_known
counted_at known l e h f = f ∙ ap voters_in (row_taken known l e h)

nobody_there : (known : List Bool) (p u : ℕ) → 16 ≤ p → knows known p u ≡ false
unfolding knows
nobody_there known p u h = rw (le-ltb p 16 h)

pub counted_nowhere : (known : List Bool) (p : ℕ) → 16 ≤ p → 0 ≡ voters_known known p
counted_nowhere known p h = sym (voters_number known p ∙ number_none 7 (knows known p) (λ u k. nobody_there known p u h))

pub voters_few : (known : List Bool) (p : ℕ) → voters_known known p ≤ 7
voters_few known p = rw (voters_number known p) (number_le 7 (knows known p))

-- where the same voters are known, as many are
pub voters_same : (known other : List Bool) (p q : ℕ) → ((u : ℕ) → u < 7 → knows known p u ≡ knows other q u) → voters_known known p ≡ voters_known other q
voters_same known other p q h = rw (voters_number known p, voters_number other q, number_same (knows known p) (knows other q) 7 h)

-- where more voters are known, not fewer are
pub voters_grow : (known other : List Bool) (p q : ℕ) → ((u : ℕ) → u < 7 → knows known p u ≡ true → knows other q u ≡ true) → voters_known known p ≤ voters_known other q
voters_grow known other p q h = rw (voters_number known p, voters_number other q) (number_grows 7 (knows known p) (knows other q) h)

-- nobody known counts as none
pub voters_nobody : (p : ℕ) → voters_known no_known p ≡ 0
voters_nobody p = rw (voters_number no_known p) (number_none 7 (knows no_known p) (λ u h. knows_nobody p u))

-- joining takes no voter away
pub voters_joined
    : (known : List Bool) (p : ℕ) (more : List Bool) (q : ℕ) → length known ≡ 112 → p < 16 → q < 16 → voters_known known q ≤ voters_known (join_voters known p more) q
voters_joined known p more q len hp hq =
    voters_grow known (join_voters known p more) q q (λ u h e. known_stays known p more q u len hp hq h e)

-- and leaves another place as it was
pub voters_elsewhere
    : (known : List Bool) (p : ℕ) (more : List Bool) (q : ℕ) → length known ≡ 112 → p < 16 → q < 16 → (p ≡ q → ⊥) → voters_known (join_voters known p more) q ≡ voters_known known q
voters_elsewhere known p more q len hp hq ne =
    voters_same (join_voters known p more) known q q (λ u h. known_elsewhere known p more q u len hp hq h ne)

-- two lists that know the same voters are one
pub knows_same
    : (known other : List Bool) → length known ≡ 112 → length other ≡ 112 → ((p u : ℕ) → p < 16 → u < 7 → knows known p u ≡ knows other p u) → known ≡ other
knows_same known other a b h =
    ext_get_or false known other (a ∙ sym b)
    (λ i l. let il : i < 112 = rw a at l in
    let e : 7 * (i / 7) + i % 7 ≡ i = omega arith in
    (rw e at (known_is known (i / 7) (i % 7) (omega arith) (omega arith))) ∙ h (i / 7) (i % 7) (omega arith) (omega arith)
    ∙ sym (rw e at (known_is other (i / 7) (i % 7) (omega arith) (omega arith))))

-- ---- the same of rows

pub knows_joined_row
    : (known : List Bool) (p : ℕ) (more : List Bool) (q u : ℕ) → length known ≡ 112 → p < 16 → q < 16 → u < 7
    → knows (join_voters known p more) q u ≡ (knows known q u || (eqb p q && has_voter more u))
knows_joined_row known p more q u len hp hq hu = rw (knows_joined known p more q u len hp hq hu, row_in more u (omega arith))

pub only_row : (me u : ℕ) → u < 7 → has_voter (only_voter me) u ≡ eqb me u
only_row me u h = rw (← row_in (only_voter me) u (omega arith)) (knows_only me u h)

-- one row among another, voter by voter
pub among_has : (a b : List Bool) (u : ℕ) → are_among a b ≡ true → u < 7 → has_voter a u ≡ true → has_voter b u ≡ true
unfolding are_among
among_has a b u e h y = implied (has_voter a u) (has_voter b u) (all_at (λ v. implies (has_voter a v) (has_voter b v)) 7 u e h) y

pub among_of : (a b : List Bool) → ((u : ℕ) → u < 7 → has_voter a u ≡ true → has_voter b u ≡ true) → are_among a b ≡ true
unfolding are_among
among_of a b f = all_of 7 (λ v. implies (has_voter a v) (has_voter b v)) (λ u h. implying (has_voter a u) (f u h))

-- ---- the known of all places at once, as they stand in the list

abbrev pub without : List Bool → List Bool → ℕ → Bool
without a b i = get_or a i false && not (get_or b i false)

pub strange_none : (f : ℕ → Bool) → false ≡ any 0 f
unfolding any
strange_none f = refl

not_without : (x y : Bool) → (x ≡ true → y ≡ true) → (x && not y) ≡ false
not_without true y h = rw (h refl)
not_without false y h = refl

has_both : (x y : Bool) → (x && not y) ≡ false → x ≡ true → y ≡ true
has_both true true e t = refl
has_both true false e t = clash refl e
has_both false y e t = clash t refl

module _ (a b : List Bool) where
  none_strange : any 112 (without a b) ≡ false → all 16 (λ p. are_among (voters_of a p) (voters_of b p)) ≡ true
  none_strange e =
      all_of 16 (λ p. are_among (voters_of a p) (voters_of b p))
      (λ p hp. among_of (voters_of a p) (voters_of b p)
      (λ u hu h. row_known b p u hu ∙ sym (known_is b p u hp hu)
      ∙ has_both _ _ (any_at (without a b) 112 (7 * p + u) e (omega arith)) (known_is a p u hp hu ∙ sym (row_known a p u hu) ∙ h)))

  strange_none_of : all 16 (λ p. are_among (voters_of a p) (voters_of b p)) ≡ true → any 112 (without a b) ≡ false
  strange_none_of e =
      none_of 112 (without a b)
      (λ i l. let q : 7 * (i / 7) + i % 7 ≡ i = omega arith in
      let hp : i / 7 < 16 = omega arith in
      let hu : i % 7 < 7 = omega arith in
      not_without _ _
      (λ t. (rw q at (known_is b (i / 7) (i % 7) hp hu)) ∙ sym (row_known b (i / 7) (i % 7) hu)
      ∙ among_has (voters_of a (i / 7)) (voters_of b (i / 7)) (i % 7) (all_at (λ p. are_among (voters_of a p) (voters_of b p)) 16 (i / 7) e hp) hu
      (row_known a (i / 7) (i % 7) hu ∙ sym (rw q at (known_is a (i / 7) (i % 7) hp hu)) ∙ t)))

  pub strange_over : {s : Bool} (i : ℕ) → s ≡ any i (without a b) → i ≤ 112 → 112 ≤ i → not s ≡ all 16 (λ p. are_among (voters_of a p) (voters_of b p))
  strange_over {s} i e l h =
      let j : i ≡ 112 = omega arith in
      rw (e, j)
      (same_test (not (any 112 (without a b))) (all 16 (λ p. are_among (voters_of a p) (voters_of b p)))
      (λ t. none_strange (not-true _ t)) (λ t. ap not (strange_none_of t)))

-- as the code notes them: x and y stand at place i of both
pub strange_more
    : (a b : List Bool) {s x y : Bool} (i : ℕ) {n : ℕ} → n ≡ i + 1 → s ≡ any i (without a b) → x ≡ get_or a i false → y ≡ get_or b i false
    → (s || (x && not y)) ≡ any n (without a b)
strange_more a b i e f g h = rw (e, add-one i, any_suc, f, g, h)

-- a list made of a test of each place and voter knows whom the test passes
pub listed_known : (f : ℕ → ℕ → Bool) (p : ℕ) → p < 16 → voters_of (listed 112 (λ i. f (i / 7) (i % 7))) p ≡ voters_for (f p)
unfolding voters_of voters_for
listed_known f p hp =
    listed_same 7 (knows (listed 112 (λ i. f (i / 7) (i % 7))) p) (f p)
    (λ u hu. let i : 7 * p + u < 112 = omega arith in
    let d : (7 * p + u) / 7 ≡ p = omega arith in
    let m : (7 * p + u) % 7 ≡ u = omega arith in
    sym (known_is _ p u hp hu) ∙ listed_at 112 (7 * p + u) (λ j. f (j / 7) (j % 7)) false i ∙ rw (d, m))

-- ---- forgetting

module _ (known : List Bool) (p : ℕ) where
  cleared_there : (n k : ℕ) → ((u : ℕ) → u < n → k ≡ 7 * p + u → ⊥) → get_or (clear_up_to n known p) k false ≡ get_or known k false
  unfolding clear_up_to
  cleared_there zero k h = refl
  cleared_there (suc n) k h =
      get_or-set_other (clear_up_to n known p) (7 * p + n) k false false (h n (omega arith)) ∙ cleared_there n k (λ u l. h u (omega arith))

  cleared_here : (n u : ℕ) → u < n → 7 * p + u < length known → get_or (clear_up_to n known p) (7 * p + u) false ≡ false
  unfolding clear_up_to
  cleared_here zero u h l = absurd (let z : ⊥ = omega arith in z)
  cleared_here (suc n) u h l =
      by_eq u n
      (λ e. rw e (get_or-set_same (clear_up_to n known p) (7 * p + n) false false (rw (length_clear_up_to n known p, ← e) l)))
      (λ ne. get_or-set_other (clear_up_to n known p) (7 * p + n) (7 * p + u) false false (λ q. ne (omega arith)) ∙ cleared_here n u (omega (arith, ne)) l)

  -- who is known once place p is forgotten: who was, of the other places
  pub knows_cleared
      : (q u : ℕ) → length known ≡ 112 → p < 16 → q < 16 → u < 7 → knows (clear_voters known p) q u ≡ (not (eqb p q) && knows known q u)
  unfolding knows clear_voters
  knows_cleared q u len hp hq hu =
      rw (lt-ltb p 16 hp, lt-ltb q 16 hq, lt-ltb u 7 hu)
      (by_eq p q (λ e. rw (eq-eqb p q e, ← e) (cleared_here 7 u hu (omega arith)))
      (λ ne. rw (ne_eqb p q ne) (cleared_there 7 (7 * q + u) (λ v k e. ne (omega arith)))))

  -- the row of place p filled with false, as the code clears it
  cleared_as : (n : ℕ) → n ≤ 7 → length known ≡ 112 → p < 16 → paste known (7 * p) (replicate 7 false) n ≡ clear_up_to n known p
  unfolding clear_up_to
  cleared_as zero h l hp = sym (paste-zero known (7 * p) (replicate 7 false))
  cleared_as (suc n) h l hp =
      sym (paste-suc known (7 * p) (replicate 7 false) n false (omega arith) (omega (arith, length-replicate 7 false)))
      ∙ rw (get_or-replicate 7 n false false (omega arith), cleared_as n (omega arith) l hp)

  pub cleared_row
      : {at : ℕ} {row : List Bool} → length known ≡ 112 → at ≡ p → p < 16 → row ≡ replicate 7 false
      → put_mid (7 * at) (7 * at + 7 - 7 * at) known row ≡ clear_voters known p
  unfolding clear_voters
  cleared_row {at} {row} l e h f =
      rw (lt-ltb p 16 h, e)
      (put_mid-paste (7 * p) (7 * p + 7 - 7 * p) known row (replicate 7 false) 7 f (omega arith) (sym (length-replicate 7 false)) ∙ cleared_as 7 (omega arith) l h)

  pub cleared_none : 16 ≤ p → known ≡ clear_voters known p
  unfolding clear_voters
  cleared_none h = rw (le-ltb p 16 h)
