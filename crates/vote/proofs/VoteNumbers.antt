-- What a site has said as one number: there and back, and a row of such numbers.
use mathlib.Core.Path.{◌≡◌, refl, ap, ◌∙◌}
use mathlib.Core.List.{List}
use Prim.Native.Nat.{ℕ, ◌+◌, ◌*◌, ◌/◌, ◌%◌, ◌<◌, ◌≤◌}
use native.Mathlib.Omega.{arith}
use lib.ListN.{length, get_or}
use Rattle.kit.proofs.Listings.{length_listed, listed_at}
use Rattle.kit.proofs.Turns.{listed_is}
use Rattle.vote.specs.Data.{no_vote, vote_at}
use Rattle.vote.specs.Numbers.{mark_number, mark_from, verdict_number, verdict_from, vote_number, vote_from, votes_from, numbers_of}
use Rattle.vote.specs.declared.data.Mark.{Mark}
use Rattle.vote.specs.declared.data.Mark.TheVariants as mark
use Rattle.vote.specs.declared.data.Verdict.{Verdict}
use Rattle.vote.specs.declared.data.Verdict.TheVariants as verdict
use Rattle.vote.specs.declared.data.Vote.{Vote}

-- ---- small numbers

pub mark_small : (m : Mark) → mark_number m ≤ 4
mark_small mark.None = omega arith
mark_small mark.Deferred = omega arith
mark_small mark.Ok = omega arith
mark_small mark.Dr = omega arith
mark_small mark.Rej = omega arith

pub verdict_small : (d : Verdict) → verdict_number d ≤ 2
verdict_small verdict.Open = omega arith
verdict_small verdict.Accepted = omega arith
verdict_small verdict.Rejected = omega arith

-- ---- back again

pub mark_back : (m : Mark) → mark_from (mark_number m) ≡ m
unfolding mark_from
mark_back mark.None = refl
mark_back mark.Deferred = refl
mark_back mark.Ok = refl
mark_back mark.Dr = refl
mark_back mark.Rej = refl

pub verdict_back : (d : Verdict) → verdict_from (verdict_number d) ≡ d
unfolding verdict_from
verdict_back verdict.Open = refl
verdict_back verdict.Accepted = refl
verdict_back verdict.Rejected = refl

pub vote_back : (v : Vote) → vote_from (vote_number v) ≡ v
unfolding vote_from vote_number
vote_back v =
    let low : (mark_number v.mark + 8 * verdict_number v.verdict) % 8 ≡ mark_number v.mark = omega (arith, mark_small v.mark) in
    let high : (mark_number v.mark + 8 * verdict_number v.verdict) / 8 ≡ verdict_number v.verdict = omega (arith, mark_small v.mark) in
    rw (low, high, mark_back v.mark, verdict_back v.verdict)

-- ---- a row of 16

pub length_votes : (row : List ℕ) → length (votes_from row) ≡ 16
unfolding votes_from
length_votes row = length_listed 16 (λ p. vote_from (get_or row p 0))

-- what stands at a place of the 16
pub votes_at : (row : List ℕ) (p : ℕ) → p < 16 → vote_at (votes_from row) p ≡ vote_from (get_or row p 0)
unfolding votes_from
votes_at row p h = listed_at 16 p (λ i. vote_from (get_or row i 0)) no_vote h

pub numbers_at : (votes : List Vote) (p : ℕ) → p < 16 → get_or (numbers_of votes) p 0 ≡ vote_number (vote_at votes p)
unfolding numbers_of
numbers_at votes p h = listed_at 16 p (λ i. vote_number (vote_at votes i)) 0 h

pub votes_back : (votes : List Vote) → length votes ≡ 16 → votes_from (numbers_of votes) ≡ votes
unfolding votes_from
votes_back votes l =
    listed_is 16 (λ p. vote_from (get_or (numbers_of votes) p 0)) no_vote votes l
    (λ i h. ap vote_from (numbers_at votes i h) ∙ vote_back (vote_at votes i))
