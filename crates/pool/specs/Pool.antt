-- Document 01, "Steps": the message places, as a list.
use Rattle.std.specs.Prelude.{ℕ, Bool, not, List, get_or, set}
use Rattle.kit.specs.Range.{first}
use Rattle.table.specs.Fresh.{blank_message}
use Rattle.table.specs.Places.{no_message}
use Rattle.table.specs.declared.data.Message.{Message}

-- "Losing a message empties that one place and leaves the other 63 as they were." A place beyond the end is none
abbrev pub emptied : List Message → ℕ → List Message
emptied pool j = set pool j blank_message

-- place j is free
abbrev pub free_at : List Message → ℕ → Bool
free_at pool j = not (get_or pool j no_message).used

-- "the lowest free place" of n, and n where there is none
abbrev pub lowest_free : ℕ → List Message → ℕ
lowest_free n pool = first n (free_at pool)
