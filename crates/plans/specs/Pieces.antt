-- What a step looks for and asks, on the pieces of the table that it is about.
use Rattle.std.specs.Prelude.{ℕ, Bool, not, ◌&&◌, ◌||◌, cond, List, eqb, leb, ltb, get_or, Option, Some, None, Result, Err}
use Rattle.kit.specs.Range.{any, first}
use Rattle.record.specs.declared.Step.{Step}
use Rattle.refusals.specs.declared.Refusal.{Refusal}
use Rattle.refusals.specs.declared.Refusal.TheVariants as refusal
use Rattle.stamps.specs.Issue.{issued}
use Rattle.stamps.specs.declared.Given.{Given}
use Rattle.table.specs.Places.{no_site, no_message}
use Rattle.table.specs.Sound.{sets_allowed, base_stamps_allowed, values_allowed}
use Rattle.table.specs.declared.data.Message.{Message}
use Rattle.vote.specs.Data.{is_open, request_at, vote_at}
use Rattle.vote.specs.declared.data.Request.{Request}
use Rattle.vote.specs.declared.data.Site.{Site}

-- ---- places

-- the lowest free request place, and 16 where there is none
unfoldable pub free_in : List Request → ℕ
free_in rs = first 16 (λ p. not (not (eqb (request_at rs p).stamp 0)))

-- the place of the request with this stamp, and 16 where there is none; stamp 0 names none
unfoldable pub place_in : List Request → ℕ → ℕ
place_in rs stamp = cond (eqb stamp 0) 16 (first 16 (λ p. eqb (request_at rs p).stamp stamp))

-- place k as the code has it: one of n, or none
unfoldable pub found : ℕ → ℕ → Option ℕ
found n k = cond (ltb k n) (Some k) None

-- ---- numbers

-- "a site not 1 to the site count"
abbrev pub no_such_digit : ℕ → ℕ → Bool
no_such_digit n digit = not (leb 1 digit && leb digit n)

-- "message place empty or above 63"
abbrev pub no_message_there : ℕ → Bool → Bool
no_message_there j used = not (ltb j 64 && used)

-- "some site of the table has no verdict on it (one that never heard of it included), or a message names it"
abbrev pub held_back : ℕ → List Site → List Message → ℕ → Bool
held_back n sites messages p =
    any 7 (λ k. ltb k n && is_open (vote_at (get_or sites k no_site).votes p).verdict) || any 64 (λ j. (get_or messages j no_message).used && eqb (get_or messages j no_message).request p)

-- ---- the stamp of a begin

-- 5 to 8, or the stamp that a site of n issues whose last t this is
unfoldable pub given_for : ℕ → ℕ → Step → Result Given Refusal
given_for n last a =
    cond (not (sets_allowed a.base a.update)) (Err refusal.WrongSets)
    (cond (not (base_stamps_allowed n a.base a.stamps)) (Err refusal.WrongBaseStamp)
    (cond (not (values_allowed a.update a.values)) (Err refusal.WrongValue)
    (issued a.site a.clock last a.base a.stamps)))
