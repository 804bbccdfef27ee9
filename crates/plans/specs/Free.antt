-- The free message places as a set.
use Rattle.std.specs.Prelude.{ℕ, ◌+◌, ◌-◌, ◌^◌, not, cond, List, get_or, ltb, Option}
use Rattle.kit.specs.Range.{first}
use Rattle.sets.specs.Sets.{member, set_of}
use Rattle.table.specs.Places.{no_message}
use Rattle.table.specs.declared.data.Message.{Message}
use Rattle.plans.specs.Pieces.{found}
use Rattle.plans.specs.declared.free.FreePlaces.{FreePlaces}

unfoldable pub free_set : List Message → ℕ
free_set messages = set_of 64 (λ j. not (get_or messages j no_message).used)

abbrev pub free_among : List Message → FreePlaces
free_among messages = record { set = free_set messages }

-- the lowest of them, and 64 where there is none
unfoldable pub free_message_in : ℕ → ℕ
free_message_in free = first 64 (member free)

abbrev pub lowest_in : FreePlaces → Option ℕ
lowest_in f = found 64 (free_message_in f.set)

-- a set without place j, and with it
unfoldable pub without_place : ℕ → ℕ → ℕ
without_place s j = cond (member s j) (s - 2 ^ j) s

unfoldable pub with_place : ℕ → ℕ → ℕ
with_place s j = cond (member s j) s (s + 2 ^ j)

-- the free places without place j, and with it; a place above 63 is none
abbrev pub free_without : FreePlaces → ℕ → FreePlaces
free_without f j = record { set = cond (ltb j 64) (without_place f.set j) f.set }

abbrev pub free_with : FreePlaces → ℕ → FreePlaces
free_with f j = record { set = cond (ltb j 64) (with_place f.set j) f.set }
