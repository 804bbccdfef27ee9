-- Document 01, "Step records and the bench program": a night of records, and the part of it that one buffer holds.
use Rattle.std.specs.Prelude.{ℕ, zero, suc, ◌+◌, ◌-◌, Bool, true, ◌||◌, cond, ◌≡◌, List, [], ◌∷◌, ◌++◌, eqb, leb, ltb, length, drop, Result, Ok, Err}
use Rattle.kit.specs.Lists.{put}
use Rattle.lines.specs.Lines.{line_of}
use Rattle.lines.specs.declared.Told.{Told}
use Rattle.plans.specs.Answers.{Answer, refusal}
use Rattle.refusals.specs.Numbers.{number_of}
use Rattle.refusals.specs.declared.Refusal.{Refusal}
use Rattle.record.specs.Records.{is_cut, record_of}
use Rattle.record.specs.Records.{Record}
use Rattle.record.specs.declared.Step.{Step}
use Rattle.table.specs.Fresh.{fresh_for}
use Rattle.table.specs.Sound.{sound_table}
use Rattle.table.specs.declared.data.Table.{Table}
use Rattle.steps.specs.Answers.{Stepped, refused_as}
use Rattle.steps.specs.Steps.{advanced, stepped}
use Rattle.steps.specs.declared.run.Ran as code

-- ---- records

-- the records that are whole, in their order, and the bytes that are left behind them
pub record Parted : Type 0 where
  pub records : List Record
  pub left : List ℕ

-- one record before others
abbrev pub before : Record → Parted → Parted
before r p = record { records = r ∷ p.records; left = p.left }

-- at most k records of the bytes s
unfoldable pub parted_by : ℕ → List ℕ → Parted
parted_by zero s = record { records = []; left = s }
parted_by (suc k) s = cond (is_cut s) (record { records = []; left = s }) (before (record_of s) (parted_by k (drop (record_of s).next s)))

-- all of them: each takes three bytes or more
unfoldable pub parted : List ℕ → Parted
parted s = parted_by (length s) s

-- the answer to a record, and the table behind it: its step by `does`, or the number that the record reader gave
abbrev pub answered_by : (Table → Step → Stepped) → Table → Record → Stepped
answered_by does t r = cond (eqb r.number 0) (does t r.step) (refused_as r.number t)

-- from any table, and from a sound one, where the two are the same
unfoldable pub answered : Table → Record → Stepped
answered = answered_by stepped

unfoldable pub answered_on : Table → Record → Stepped
answered_on = answered_by advanced

-- "It prints a line for each: record number from 1, number given back, the two results, accepted, rejected."
abbrev pub line_for : ℕ → Answer → List ℕ
line_for nth w = line_of nth w.number w.first w.second w.accepted w.rejected

-- what it tells, as the code keeps it
abbrev pub told_of : Answer → Told
told_of w = record { number = w.number; first = w.first; second = w.second; accepted = w.accepted; rejected = w.rejected }

-- ---- the whole night: from all bytes of the input to all bytes of the output

-- "A cut record, of known code or not, gives 17 and ends"; where no bytes are left there is no line
unfoldable pub last_line : ℕ → List ℕ → List ℕ
last_line nth [] = []
last_line nth (b ∷ s) = line_for nth (refusal 17)

-- a line for each record, from record number nth on
unfoldable pub lines_of : Table → ℕ → List Record → List ℕ → List ℕ
lines_of t nth [] left = last_line nth left
lines_of t nth (r ∷ rs) left = line_for nth (answered t r).answer ++ lines_of (answered t r).table (suc nth) rs left

-- those of the bytes s
abbrev pub lines_from : Table → ℕ → List ℕ → List ℕ
lines_from t nth s = lines_of t nth (parted s).records (parted s).left

-- "one byte, the site count, then records"; "A bad site count prints `0 3 0 0 0 0`, empty input `0 17 0 0 0 0`, and ends."
unfoldable pub night_of : List ℕ → List ℕ
night_of [] = line_for 0 (refusal 17)
night_of (n ∷ s) = cond (eqb (fresh_for n).number 0) (lines_from (fresh_for n).table 1 s) (line_for 0 (refusal 3))

-- ---- the part of it that one buffer holds

-- some records answered: the table after them, how many bytes they took, their lines, and the number of the record behind them
pub record Part : Type 0 where
  pub table : Table
  pub taken : ℕ
  pub lines : List ℕ
  pub next : ℕ

-- none
abbrev pub no_part : Table → ℕ → Part
no_part t nth = record { table = t; taken = 0; lines = []; next = nth }

-- one record, and those behind it
abbrev pub one_part : Record → List ℕ → Part → Part
one_part r line p = record { table = p.table; taken = r.next + p.taken; lines = line ++ p.lines; next = p.next }

-- the output has no room for another line, the longest of which is 89 bytes; or record numbers, of 64 bits, are used up
abbrev pub is_full : ℕ → ℕ → Bool
is_full room nth = ltb room 89 || leb 18446744073709551615 nth

-- record after record, while there is room
unfoldable pub part_of : Table → ℕ → List Record → ℕ → Part
part_of t nth [] room = no_part t nth
part_of t nth (r ∷ rs) room =
    let a : Stepped = answered_on t r in
    let line : List ℕ = line_for nth a.answer in
    cond (is_full room nth) (no_part t nth) (one_part r line (part_of a.table (suc nth) rs (room - length line)))

-- those of the bytes s
abbrev pub part_from : Table → ℕ → List ℕ → ℕ → Part
part_from t nth s room = part_of t nth (parted s).records room

-- ---- `run`: "1: table not sound", with zeros beside it and the output as it came, else that part

-- document 01's number, how many bytes of the input were taken and how many of the output written, the number of the next record, the table
pub record Ran : Type 0 where
  pub number : ℕ
  pub taken : ℕ
  pub written : ℕ
  pub next : ℕ
  pub table : Table

-- those that the code leaves
abbrev pub ran_of : code.Ran → Table → Ran
ran_of r t = record { number = 0; taken = r.taken; written = r.written; next = r.next; table = t }

abbrev pub ran_from : Result code.Ran Refusal → Table → Ran
ran_from (Ok r) t = ran_of r t
ran_from (Err e) t = record { number = number_of e; taken = 0; written = 0; next = 0; table = t }

abbrev pub ran_as : Part → Ran
ran_as p = record { number = 0; taken = p.taken; written = length p.lines; next = p.next; table = p.table }

unfoldable pub ran : Table → ℕ → List ℕ → ℕ → Ran
ran t nth s room = cond (sound_table t) (ran_as (part_from t nth s room)) (record { number = 1; taken = 0; written = 0; next = 0; table = t })

unfoldable pub ran_into : Table → ℕ → List ℕ → List ℕ → List ℕ
ran_into t nth s out = cond (sound_table t) (put out 0 (part_from t nth s (length out)).lines) out

-- a run that stops
abbrev pub stopped_at : ℕ → ℕ → ℕ → Table → Ran
stopped_at taken written next t = record { number = 0; taken = taken; written = written; next = next; table = t }

-- ---- buffer after buffer

-- A night from the table t and record number nth on, of which the bytes b wait, `rest` are still to come, and `out` is printed from here
-- on; however reads come and however much room the output has
pub data Buffered : Table → ℕ → List ℕ → List ℕ → List ℕ → Type 0 where
  -- a read brings bytes behind those that wait
  reads : {t : Table} {nth : ℕ} (b c rest out : List ℕ) → Buffered t nth (b ++ c) rest out → Buffered t nth b (c ++ rest) out
  -- a run takes records of those that wait
  runs : {t : Table} {nth : ℕ} (b : List ℕ) (room : ℕ) (rest out : List ℕ)
      → Buffered (part_from t nth b room).table (part_from t nth b room).next (drop (part_from t nth b room).taken b) rest out
      → Buffered t nth b rest ((part_from t nth b room).lines ++ out)
  -- nothing more comes, and no whole record waits
  ends : {t : Table} {nth : ℕ} (b : List ℕ) → is_cut b ≡ true → Buffered t nth b [] (last_line nth b)
