-- What the code of soundness gathers once: the own marks of all places, kept as known voters are, and how often each place stands in a queue.
use mathlib.Core.Path.{◌≡◌, refl, sym, ap, ◌∙◌}
use mathlib.Core.Bool.{Bool, true, false, not, ◌&&◌, cond}
use mathlib.Core.List.{List, []}
use Prim.Native.Nat.{ℕ, zero, suc, ◌+◌, ◌/◌, ◌%◌, ◌≤◌, ◌<◌}
use native.Mathlib.Numerals.{add-one}
use native.Mathlib.Omega.{arith}
use borrow.Author.Tests.{eq-eqb, ne_eqb}
use lib.Dec.{eqb, leb}
use Rattle.majority.specs.Majority.{majority, blocking}
use Rattle.vote.specs.declared.data.Verdict.{Verdict}
use Rattle.vote.specs.declared.data.Verdict.TheVariants as verdict
use lib.ListN.{length, get_or, set, replicate, length-set, length-replicate, get_or-replicate}
use lib.Seq.{ext_get_or, get_or-set_same, get_or-set_other}
use Rattle.kit.specs.Lists.{listed}
use Rattle.kit.specs.Range.{all, any, implies, number}
use Rattle.kit.proofs.Bools.{by_test, by_eq, by_lt}
use Rattle.kit.proofs.Listings.{listed_at, listed_same, length_listed}
use Rattle.kit.proofs.Ranges.{all_same, any_at, any_one, number_le, number_mono, number_suc, number_none}
use Rattle.vote.specs.Data.{is_ok_vote, is_other, is_open, is_unmarked, is_deferred, vote_at}
use Rattle.vote.specs.Queue.{queued_at}
use Rattle.vote.specs.Voters.{knows, has_voter, voters_of, voters_for, are_among, no_voters, voters_in, voters_known}
use Rattle.vote.specs.declared.data.Mark.{Mark}
use Rattle.vote.specs.declared.data.Site.{Site}
use Rattle.table.specs.Places.{no_site}
use Rattle.vote.proofs.KnownVoters.{unknown_voter, listed_known}
use Rattle.vote.proofs.Rows.{row_out, row_known, row_number}
use Rattle.table.specs.Blank.{blank_vote}
use Rattle.table.specs.Parts.{Ballot, rows_at, rows_of, ballots_of, marks_at, marks_of, marks_in, backed_by, holding_sound, place_held, place_counted}

-- ---- a row and its count

-- a row with a voter counts some
some_counted : (row : List Bool) (u : ℕ) → u < 7 → has_voter row u ≡ true → 0 < number 7 (has_voter row)
some_counted row u h e =
    let s : number (suc u) (has_voter row) ≡ number u (has_voter row) + 1 = rw (number_suc, e) in
    let m : number (suc u) (has_voter row) ≤ number 7 (has_voter row) = number_mono (has_voter row) (suc u) 7 (omega arith) in
    omega arith

-- no voter is none counted
pub row_empty : (row : List Bool) → no_voters row ≡ eqb (voters_in row) 0
unfolding no_voters
row_empty row =
    rw (row_number row)
    (by_test (any 7 (has_voter row))
    (λ t. let r = any_one 7 (has_voter row) t in
    let k : 0 < number 7 (has_voter row) = some_counted row r.0 r.1 r.2 in
    rw (t, ne_eqb (number 7 (has_voter row)) 0 (λ z. omega arith)))
    (λ f. rw (f, number_none 7 (has_voter row) (λ u h. any_at (has_voter row) 7 u f h))))

-- a known voter is in the row of its place
pub known_row : {b : Bool} (known : List Bool) (p u : ℕ) → b ≡ knows known p u → b ≡ has_voter (voters_of known p) u
known_row known p u e =
    e ∙ by_lt u 7 (λ h. sym (row_known known p u h)) (λ h. sym (unknown_voter known p (omega arith)) ∙ row_out (voters_of known p) u (omega arith))

-- ---- the own marks of place p, and of all places

pub rows_in : (oks others : List Bool) (p : ℕ) → p < 16 → marks_in (rows_of oks others) p ≡ rows_at oks others p
rows_in oks others p h = listed_at 16 p (rows_at oks others) (record { oks = []; others = [] }) h

-- gathered from what each site has said
module _ (sites : List Site) where
  said_row : (f : Mark → Bool) (p : ℕ) → p < 16
      → voters_of (listed 112 (λ i. f (vote_at (get_or sites (i % 7) no_site).votes (i / 7)).mark)) p
      ≡ voters_for (λ u. f (vote_at (get_or (ballots_of sites) u (record { votes = [] })).votes p).mark)
  unfolding ballots_of voters_for
  said_row f p h =
      listed_known (λ q u. f (vote_at (get_or sites u no_site).votes q).mark) p h
      ∙ listed_same 7 (λ u. f (vote_at (get_or sites u no_site).votes p).mark) (λ u. f (vote_at (get_or {A = Ballot} (listed 7 (λ k. record { votes = (get_or sites k no_site).votes })) u (record { votes = [] })).votes p).mark)
      (λ u l. ap (λ (b : Ballot). f (vote_at b.votes p).mark) (sym (listed_at {A = Ballot} 7 u (λ k. record { votes = (get_or sites k no_site).votes }) (record { votes = [] }) l)))

  pub rows_said
      : {oks others : List Bool}
      → oks ≡ listed 112 (λ i. is_ok_vote (vote_at (get_or sites (i % 7) no_site).votes (i / 7)).mark)
      → others ≡ listed 112 (λ i. is_other (vote_at (get_or sites (i % 7) no_site).votes (i / 7)).mark)
      → rows_of oks others ≡ marks_of (ballots_of sites)
  unfolding marks_of marks_at
  rows_said {oks} {others} e f =
      listed_same 16 (rows_at oks others) (marks_at (ballots_of sites)) (λ p h. rw (e, f, said_row is_ok_vote p h, said_row is_other p h))

-- a verdict, as the code counts the own marks
module _ (n : ℕ) (oks others : List Bool) (p : ℕ) {v : Verdict} {x y : ℕ} where
  pub accepted : v ≡ verdict.Accepted → x ≡ majority n → y ≡ voters_known oks p → leb x y ≡ backed_by n (rows_at oks others p) v
  unfolding voters_known
  accepted e f g = rw (e, f, g)

  pub rejected : v ≡ verdict.Rejected → x ≡ blocking n → y ≡ voters_known others p → leb x y ≡ backed_by n (rows_at oks others p) v
  unfolding voters_known
  rejected e f g = rw (e, f, g)

-- ---- what a site holds, beside the own marks of all places

regroup : (a b c d e f g : Bool) → (a && (b && (c && (d && (e && (f && g)))))) ≡ ((a && (b && (c && (d && (e && f))))) && g)
regroup true true true true true true g = refl
regroup true true true true true false g = refl
regroup true true true true false f g = refl
regroup true true true false e f g = refl
regroup true true false d e f g = refl
regroup true false c d e f g = refl
regroup false b c d e f g = refl

all_and : (p q : ℕ → Bool) (n : ℕ) → (all n p && all n q) ≡ all n (λ i. p i && q i)
unfolding all
all_and p q zero = refl
all_and p q (suc n) = turned (all n p) (p n) (all n q) (q n) ∙ rw (all_and p q n)
  where
    turned : (a b c d : Bool) → ((a && b) && (c && d)) ≡ ((a && c) && (b && d))
    turned true true c d = refl
    turned true false true d = refl
    turned true false false d = refl
    turned false b c d = refl

module _ (n me : ℕ) (agreed opposed : List Bool) (stamps : List ℕ) (s : Site) where
  place_same
      : (p : ℕ) → p < 16
      → (are_among (voters_of s.oks p) (voters_of agreed p) && (are_among (voters_of s.others p) (voters_of opposed p) && place_counted n me agreed opposed stamps s p))
      ≡ place_held n me (rows_of agreed opposed) stamps s p
  unfolding place_counted place_held holding_sound voters_known
  place_same p h =
      rw (
        rows_in agreed opposed p h,
        row_empty (voters_of s.oks p),
        row_empty (voters_of s.others p),
        ← known_row s.oks p me refl,
        ← known_row s.others p me refl,
      )
      (regroup (are_among (voters_of s.oks p) (voters_of agreed p)) (are_among (voters_of s.others p) (voters_of opposed p))
      (implies (is_ok_vote (vote_at s.votes p).mark) (knows s.oks p me)) (implies (is_other (vote_at s.votes p).mark) (knows s.others p me))
      (backed_by n (rows_at agreed opposed p) (vote_at s.votes p).verdict)
      (cond (is_open (vote_at s.votes p).verdict)
      (not (leb (majority n) (voters_in (voters_of s.oks p)))
      && (not (leb (blocking n) (voters_in (voters_of s.others p)))
      && implies (is_unmarked (vote_at s.votes p).mark) (eqb (voters_in (voters_of s.oks p)) 0 && eqb (voters_in (voters_of s.others p)) 0)))
      (not (is_deferred (vote_at s.votes p).mark)))
      (implies (eqb (get_or stamps p 0) 0) (blank_vote (vote_at s.votes p) && (eqb (voters_in (voters_of s.oks p)) 0 && eqb (voters_in (voters_of s.others p)) 0))))

  pub places_same
      : (all 16 (λ p. are_among (voters_of s.oks p) (voters_of agreed p))
      && (all 16 (λ p. are_among (voters_of s.others p) (voters_of opposed p)) && all 16 (place_counted n me agreed opposed stamps s)))
      ≡ all 16 (place_held n me (rows_of agreed opposed) stamps s)
  places_same =
      rw (all_and (λ p. are_among (voters_of s.others p) (voters_of opposed p)) (place_counted n me agreed opposed stamps s) 16)
      (all_and (λ p. are_among (voters_of s.oks p) (voters_of agreed p)) (λ p. are_among (voters_of s.others p) (voters_of opposed p) && place_counted n me agreed opposed stamps s p) 16
      ∙ all_same _ (place_held n me (rows_of agreed opposed) stamps s) 16 place_same)

-- ---- how often each place stands among the first i of a queue

pub record Tallied (queue : List ℕ) (i : ℕ) (times : List ℕ) : Type 0 where
  pub long : length times ≡ 16
  pub so_far : (p : ℕ) → p < 16 → get_or times p 0 ≡ number i (λ j. eqb (queued_at queue j) p)

module _ {queue : List ℕ} where
  pub tallied_none : Tallied queue 0 (replicate 16 0)
  unfolding number
  tallied_none = let z : ℕ = 0 in record { long = length-replicate 16 z; so_far = λ p h. get_or-replicate 16 p z z h }

  -- no count is above i
  pub tallied_few : {i at : ℕ} {times : List ℕ} → Tallied queue i times → at < 16 → get_or times at 0 ≤ i
  tallied_few {i} {at} t h = rw (t.so_far at h) (number_le i (λ j. eqb (queued_at queue j) at))

  -- one more of place `at`, and none of the 16
  pub tallied_more : {i at : ℕ} {times : List ℕ} → Tallied queue i times → at ≡ queued_at queue i → at < 16
      → Tallied queue (i + 1) (set times at (get_or times at 0 + 1))
  tallied_more {i} {at} {times} t e h = record {
    long = length-set times at (get_or times at 0 + 1) ∙ t.long;
    so_far = λ p l. rw (add-one i, number_suc, ← e)
        (by_eq at p
        (λ q. rw (← q, eq-eqb at at refl, get_or-set_same times at (get_or times at 0 + 1) 0 (rw t.long h), t.so_far at h))
        (λ ne. rw (ne_eqb at p ne, get_or-set_other times at p (get_or times at 0 + 1) 0 (λ z. ne (sym z)), t.so_far p l) (omega arith)));
  }

  pub tallied_skip : {i at : ℕ} {times : List ℕ} → Tallied queue i times → at ≡ queued_at queue i → 16 ≤ at → Tallied queue (i + 1) times
  tallied_skip {i} {at} {times} t e h = record {
    long = t.long;
    so_far = λ p l. rw (add-one i, number_suc, ← e, ne_eqb at p (λ z. omega arith), t.so_far p l) (omega arith);
  }

  pub tallied_over : {w i : ℕ} {times : List ℕ} → Tallied queue i times → i ≤ w → w ≤ i → times ≡ listed 16 (λ p. number w (λ j. eqb (queued_at queue j) p))
  tallied_over {w} {i} {times} t l h =
      let e : w ≡ i = omega arith in
      rw e
      (ext_get_or 0 times (listed 16 (λ p. number i (λ j. eqb (queued_at queue j) p))) (t.long ∙ sym (length_listed 16 _))
      (λ p k. let kl : p < 16 = rw t.long at k in t.so_far p kl ∙ sym (listed_at 16 p (λ q. number i (λ j. eqb (queued_at queue j) q)) 0 kl)))
