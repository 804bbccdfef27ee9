-- Document 01, "Numbers given back".
use Rattle.std.specs.Prelude.{ℕ, Result, Ok, Err}
use Rattle.refusals.specs.declared.Refusal.{Refusal}
use Rattle.refusals.specs.declared.Refusal.TheVariants as refusal

-- the number of each refusal, in the order of the list
abbrev pub number_of : Refusal → ℕ
number_of refusal.NotSound = 1
number_of refusal.NoSuchStep = 2
number_of refusal.NoSuchSite = 3
number_of refusal.SiteDown = 4
number_of refusal.WrongSets = 5
number_of refusal.WrongBaseStamp = 6
number_of refusal.WrongValue = 7
number_of refusal.TimePast = 8
number_of refusal.RequestsFull = 9
number_of refusal.NoSuchRequest = 10
number_of refusal.NothingToTell = 11
number_of refusal.MessagesFull = 12
number_of refusal.NoSuchMessage = 13
number_of refusal.HeldBack = 14
number_of refusal.AlreadyUp = 15
number_of refusal.NoSuchItem = 16
number_of refusal.WrongRecord = 17
number_of refusal.NoSiteFile = 18
number_of refusal.NotWritten = 19

-- the number of an answer: "0: done"
abbrev pub answer_number : {T : Type 0} → Result T Refusal → ℕ
answer_number (Ok x) = 0
answer_number (Err r) = number_of r
