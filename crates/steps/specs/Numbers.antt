-- Document 01, "Numbers given back": the smallest number that applies to a step, 0 where none does. From a sound table, a code from 1 to 8.
use Rattle.std.specs.Prelude.{ℕ, ◌-◌, Bool, true, false, not, ◌&&◌, ◌||◌, cond, eqb, leb}
use Rattle.kit.specs.Range.{first}
use Rattle.plans.specs.Pieces.{no_such_digit, no_message_there, held_back}
use Rattle.record.specs.declared.Step.{Step}
use Rattle.stamps.specs.Issue.{issued, issue_number}
use Rattle.table.specs.Places.{site_at, message_at, place_at, used_place, mark_at, verdict_at}
use Rattle.table.specs.Sound.{sets_allowed, base_stamps_allowed, values_allowed}
use Rattle.table.specs.declared.data.Table.{Table}
use Rattle.vote.specs.Data.{is_ok_vote, is_other, is_open}

-- ---- what the numbers speak of

-- "a site not 1 to the site count"
abbrev pub no_such_site : Table → ℕ → Bool
no_such_site t site = no_such_digit t.count site

-- "the acting site is down"
abbrev pub is_down : Table → ℕ → Bool
is_down t site = not (site_at t (site - 1)).up

-- the lowest free request place, and 16 where "16 requests [are] held"
unfoldable pub free_place : Table → ℕ
free_place t = first 16 (λ p. not (used_place t p))

-- the lowest free message place, and 64 where "64 messages [are] held"
unfoldable pub free_message : Table → ℕ
free_message t = first 64 (λ j. not (message_at t j).used)

-- the place of the request with this stamp, and 16 where "no request has that stamp"; stamp 0 names none
unfoldable pub place_of : Table → ℕ → ℕ
place_of t stamp = cond (eqb stamp 0) 16 (first 16 (λ p. eqb (place_at t p).stamp stamp))

-- "teller has neither vote nor verdict, or tells itself"
unfoldable pub cannot_tell : Table → ℕ → ℕ → ℕ → Bool
cannot_tell t from p to =
    not ((is_ok_vote (mark_at t (from - 1) p) || is_other (mark_at t (from - 1) p)) || not (is_open (verdict_at t (from - 1) p))) || eqb from to

-- "message place empty or above 63"
unfoldable pub no_message_at : Table → ℕ → Bool
no_message_at t j = no_message_there j (message_at t j).used

-- "some site of the table has no verdict on it (one that never heard of it included), or a message names it"
unfoldable pub cannot_retire : Table → ℕ → Bool
cannot_retire t p = held_back t.count t.sites t.messages p

-- ---- the smallest that applies, step by step

-- begin: 3 to 9
unfoldable pub begin_number : Table → Step → ℕ
begin_number t a =
    cond (no_such_site t a.site) 3
    (cond (is_down t a.site) 4
    (cond (not (sets_allowed a.base a.update)) 5
    (cond (not (base_stamps_allowed t.count a.base a.stamps)) 6
    (cond (not (values_allowed a.update a.values)) 7
    (cond (eqb (issue_number (issued a.site a.clock (site_at t (a.site - 1)).last a.base a.stamps)) 8) 8
    (cond (eqb (free_place t) 16) 9
    0))))))

-- tell: 3, 4, 10, 11, 12
unfoldable pub tell_number : Table → Step → ℕ
tell_number t a =
    cond (no_such_site t a.site || no_such_site t a.to) 3
    (cond (is_down t a.site) 4
    (cond (eqb (place_of t a.stamp) 16) 10
    (cond (cannot_tell t a.site (place_of t a.stamp) a.to) 11
    (cond (eqb (free_message t) 64) 12
    0))))

-- deliver: 4, 13; the receiver is the acting site
unfoldable pub deliver_number : Table → Step → ℕ
deliver_number t a =
    cond (not (no_message_at t a.place) && not (site_at t (message_at t a.place).to).up) 4
    (cond (no_message_at t a.place) 13
    0)

-- drop: 13
unfoldable pub drop_number : Table → Step → ℕ
drop_number t a = cond (no_message_at t a.place) 13 0

-- down: 3, 4
unfoldable pub down_number : Table → Step → ℕ
down_number t a = cond (no_such_site t a.site) 3 (cond (is_down t a.site) 4 0)

-- up: 3, 15
unfoldable pub up_number : Table → Step → ℕ
up_number t a = cond (no_such_site t a.site) 3 (cond (not (is_down t a.site)) 15 0)

-- both: a site is put down, or up
abbrev pub put_number : Bool → Table → Step → ℕ
put_number true t a = up_number t a
put_number false t a = down_number t a

-- retire: 10, 14
unfoldable pub retire_number : Table → Step → ℕ
retire_number t a = cond (eqb (place_of t a.stamp) 16) 10 (cond (cannot_retire t (place_of t a.stamp)) 14 0)

-- read: 3, 4, 16
unfoldable pub read_number : Table → Step → ℕ
read_number t a = cond (no_such_site t a.site) 3 (cond (is_down t a.site) 4 (cond (leb 24 a.item) 16 0))
