-- A night: any sequence of steps from a fresh table, and what happened in it.
use Rattle.std.specs.Prelude.{ℕ, ◌-◌, ◌^◌, ◌≤◌, ◌<◌, cond, List, [], ◌∷◌, ◌++◌, eqb}
use Rattle.record.specs.declared.Step.{Step}
use Rattle.steps.specs.Numbers.{free_place, begin_number, deliver_number}
use Rattle.steps.specs.Steps.{entered, begun, delivered, stepped}
use Rattle.table.specs.Fresh.{fresh_for}
use Rattle.table.specs.Places.{message_at, place_at}
use Rattle.table.specs.Sound.{sound_table}
use Rattle.table.specs.declared.data.Table.{Table}
use Rattle.vote.specs.Data.{request_at}
use Rattle.vote.specs.declared.data.Mark.{Mark}
use Rattle.vote.specs.declared.data.Request.{Request}
use Rattle.vote.specs.declared.data.Verdict.{Verdict}
use Rattle.walk.specs.Walking.{Said, vote, rule}

-- what can happen: a request is begun; a site (counted from 0) votes on it; a site rules on it
pub data Event : Type 0 where
  began : Request → Event
  voted : ℕ → Request → Mark → Event
  ruled : ℕ → Request → Verdict → Event

-- what has happened, the newest first; a retired request stays in it
abbrev pub History : Type 0
History = List Event

-- what the site k said, as the step's log has it; rs are the requests that the table then holds
abbrev pub said_at : ℕ → List Request → Said → Event
said_at k rs (vote p stamp m) = voted k (request_at rs p) m
said_at k rs (rule p stamp d) = ruled k (request_at rs p) d

-- the log is in the order in which things fell
unfoldable pub all_said : ℕ → List Request → List Said → History
all_said k rs [] = []
all_said k rs (s ∷ l) = all_said k rs l ++ (said_at k rs s ∷ [])

-- a begin that is not refused: the request is begun, then its site says what it says
unfoldable pub in_begin : Table → Step → History
in_begin t a =
    cond (eqb (begin_number t a) 0)
    (all_said (a.site - 1) (entered t a).requests (begun t a).log ++ (began (place_at (entered t a) (free_place t)) ∷ []))
    []

-- a deliver that is not refused: the receiver says what it says
unfoldable pub in_deliver : Table → Step → History
in_deliver t a = cond (eqb (deliver_number t a) 0) (all_said (message_at t a.place).to t.requests (delivered t a).log) []

-- what happens in a step; in the other six steps no site says anything
unfoldable pub happened : Table → Step → History
happened t a = cond (sound_table t) (cond (eqb a.code 1) (in_begin t a) (cond (eqb a.code 3) (in_deliver t a) [])) []

-- "Start from a fresh table of one to seven sites and take any sequence of the steps": with any arguments, refused ones included. (An update
-- set is a word of 32 bits, as every step in memory has it.)
pub data Night : Table → History → Type 0 where
  fresh : (n : ℕ) → 1 ≤ n → n ≤ 7 → Night (fresh_for n).table []
  after : {t : Table} {h : History} → Night t h → (a : Step) → a.update < 2 ^ 32 → Night (stepped t a).table (happened t a ++ h)
