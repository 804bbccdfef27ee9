-- A number says which refusal it is, and 0 says that there is none.
use Rattle.std.proofs.Common.{◌≡◌, ℕ, ◌<◌, refl, ap, arith}
use Rattle.std.specs.Prelude.{Result, Ok, Err, ⊤, cond, eqb}
use Rattle.refusals.specs.Numbers.{number_of, answer_number}
use Rattle.refusals.specs.declared.Refusal.{Refusal}
use Rattle.refusals.specs.declared.Refusal.TheVariants as refusal

-- the refusal of a number
refusal_at : ℕ → Refusal
refusal_at n =
    cond (eqb n 1) refusal.NotSound
    (cond (eqb n 2) refusal.NoSuchStep
    (cond (eqb n 3) refusal.NoSuchSite
    (cond (eqb n 4) refusal.SiteDown
    (cond (eqb n 5) refusal.WrongSets
    (cond (eqb n 6) refusal.WrongBaseStamp
    (cond (eqb n 7) refusal.WrongValue
    (cond (eqb n 8) refusal.TimePast
    (cond (eqb n 9) refusal.RequestsFull
    (cond (eqb n 10) refusal.NoSuchRequest
    (cond (eqb n 11) refusal.NothingToTell
    (cond (eqb n 12) refusal.MessagesFull
    (cond (eqb n 13) refusal.NoSuchMessage
    (cond (eqb n 14) refusal.HeldBack
    (cond (eqb n 15) refusal.AlreadyUp
    (cond (eqb n 16) refusal.NoSuchItem
    (cond (eqb n 17) refusal.WrongRecord
    (cond (eqb n 18) refusal.NoSiteFile
    refusal.NotWritten)))))))))))))))))

found_again : (r : Refusal) → refusal_at (number_of r) ≡ r
unfolding refusal_at
found_again refusal.NotSound = refl
found_again refusal.NoSuchStep = refl
found_again refusal.NoSuchSite = refl
found_again refusal.SiteDown = refl
found_again refusal.WrongSets = refl
found_again refusal.WrongBaseStamp = refl
found_again refusal.WrongValue = refl
found_again refusal.TimePast = refl
found_again refusal.RequestsFull = refl
found_again refusal.NoSuchRequest = refl
found_again refusal.NothingToTell = refl
found_again refusal.MessagesFull = refl
found_again refusal.NoSuchMessage = refl
found_again refusal.HeldBack = refl
found_again refusal.AlreadyUp = refl
found_again refusal.NoSuchItem = refl
found_again refusal.WrongRecord = refl
found_again refusal.NoSiteFile = refl
found_again refusal.NotWritten = refl

pub above_zero : (r : Refusal) → 0 < number_of r
above_zero refusal.NotSound = omega arith
above_zero refusal.NoSuchStep = omega arith
above_zero refusal.NoSuchSite = omega arith
above_zero refusal.SiteDown = omega arith
above_zero refusal.WrongSets = omega arith
above_zero refusal.WrongBaseStamp = omega arith
above_zero refusal.WrongValue = omega arith
above_zero refusal.TimePast = omega arith
above_zero refusal.RequestsFull = omega arith
above_zero refusal.NoSuchRequest = omega arith
above_zero refusal.NothingToTell = omega arith
above_zero refusal.MessagesFull = omega arith
above_zero refusal.NoSuchMessage = omega arith
above_zero refusal.HeldBack = omega arith
above_zero refusal.AlreadyUp = omega arith
above_zero refusal.NoSuchItem = omega arith
above_zero refusal.WrongRecord = omega arith
above_zero refusal.NoSiteFile = omega arith
above_zero refusal.NotWritten = omega arith

-- no two refusals have one number
pub same_refusal : (a b : Refusal) → number_of a ≡ number_of b → a ≡ b
same_refusal a b e = let s : refusal_at (number_of a) ≡ refusal_at (number_of b) = ap refusal_at e in cc (s, found_again a, found_again b)

-- an answer with nothing beside it is known by its number
pub same_answer : (a b : Result ⊤ Refusal) → answer_number a ≡ answer_number b → a ≡ b
same_answer (Ok u) (Ok v) e = refl
same_answer (Ok u) (Err r) e = let h : 0 < number_of r = above_zero r in absurd (omega (arith, e))
same_answer (Err r) (Ok u) e = let h : 0 < number_of r = above_zero r in absurd (omega (arith, e))
same_answer (Err r) (Err q) e = ap Err (same_refusal r q e)
