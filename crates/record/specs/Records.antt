-- A record: its frame, what its code asks for, and how it is refused.
use Rattle.std.specs.Prelude.{ℕ, ◌+◌, Bool, ◌&&◌, ◌||◌, cond, List, eqb, leb, ltb, ℤ, length, get_or, take, drop, Option, None, Some, Result, Ok, Err}
use Rattle.kit.specs.Bytes.{field_at}
use Rattle.record.specs.Bodies.{blank_step, begin_length, begin_step, tell_step, place_step, site_step, retire_step, read_step}
use Rattle.record.specs.declared.Brief.{Brief}
use Rattle.record.specs.declared.Step.{Step}
use Rattle.record.specs.declared.Whole.{Whole}
use Rattle.refusals.specs.Numbers.{number_of}
use Rattle.refusals.specs.declared.Refusal.{Refusal}

-- ---- records as they are read

-- document 01's number (0, 2 or 17); where the next record starts, 0 where this one is cut; the step, blank where it is refused
pub record Record : Type 0 where
  pub number : ℕ
  pub next : ℕ
  pub step : Step

-- the same without a begin's stamps and values
pub record BriefRecord : Type 0 where
  pub number : ℕ
  pub next : ℕ
  pub code : ℕ
  pub site : ℕ
  pub to : ℕ
  pub item : ℕ
  pub place : ℕ
  pub clock : ℕ
  pub stamp : ℕ
  pub base : ℕ
  pub update : ℕ

-- ---- "A record is code, body length in 2 bytes, body."

-- "code"
abbrev pub code_of : List ℕ → ℕ
code_of s = get_or s 0 0

-- "body length in 2 bytes"
abbrev pub length_of : List ℕ → ℕ
length_of s = field_at s 1 2

-- where the record ends, and the next one starts
abbrev pub end_of : List ℕ → ℕ
end_of s = 3 + length_of s

-- "The body, which starts behind three header bytes, is handed on as it stands to the reader for that code."
abbrev pub body_of : List ℕ → List ℕ
body_of s = take (length_of s) (drop 3 s)

-- ---- what a code asks for

-- a body of that length, which is that step; or the code is no step
pub data Asked : Type 0 where
  unknown : Asked
  known : ℕ → Step → Asked

-- "Begin: .. 11 + 5 × base items + 4 × update items. Tell 7, read 2, retire 5, the rest 1." "Any code from 9 to 255, and 0, is no step."
unfoldable pub asked : ℕ → List ℕ → Asked
asked c b =
    cond (eqb c 1) (known (begin_length b) (begin_step b))
    (cond (eqb c 2) (known 7 (tell_step b))
    (cond (leb 3 c && leb c 4) (known 1 (place_step c b))
    (cond (leb 5 c && leb c 6) (known 1 (site_step c b))
    (cond (eqb c 7) (known 5 (retire_step b))
    (cond (eqb c 8) (known 2 (read_step b))
    unknown)))))

-- ---- "The record reader knows only 2 and 17: a cut record is 17, else an unknown code is 2, else a wrong length is 17."

-- the number, and "zeros beside it"
abbrev pub refused : ℕ → ℕ → Record
refused number next = record { number = number; next = next; step = blank_step }

-- 0, "done"
abbrev pub taken : ℕ → Step → Record
taken next step = record { number = 0; next = next; step = step }

-- "An unknown code gives 2 at any length, if the record is complete, and is skipped." "A wrong length gives 17 and goes on"
abbrev pub answered : Asked → ℕ → ℕ → Record
answered unknown n next = refused 2 next
answered (known m step) n next = cond (eqb n m) (taken next step) (refused 17 next)

-- a complete record: its code, its body and where it ends
unfoldable pub body_read : ℕ → List ℕ → ℕ → Record
body_read c b next = answered (asked c b) (length b) next

-- "A record is cut if fewer than three header bytes, or fewer body bytes than its length says, are left."
unfoldable pub is_cut : List ℕ → Bool
is_cut s = ltb (length s) 3 || ltb (length s) (end_of s)

-- the record that the bytes s start with; a cut one has no next
unfoldable pub record_of : List ℕ → Record
record_of s = cond (is_cut s) (refused 17 0) (body_read (code_of s) (body_of s) (end_of s))

-- ---- a record without a begin's stamps and values

unfoldable pub brief_of : Record → BriefRecord
brief_of r = record {
  number = r.number;
  next = r.next;
  code = r.step.code;
  site = r.step.site;
  to = r.step.to;
  item = r.step.item;
  place = r.step.place;
  clock = r.step.clock;
  stamp = r.step.stamp;
  base = r.step.base;
  update = r.step.update;
}

-- the step of such a record, with these stamps and values
abbrev pub step_from : Brief → List ℕ → List ℤ → Step
step_from r stamps values = record {
  code = r.code;
  site = r.site;
  to = r.to;
  item = r.item;
  place = r.place;
  clock = r.clock;
  stamp = r.stamp;
  base = r.base;
  update = r.update;
  stamps = stamps;
  values = values;
}

-- a step without these
abbrev pub outline : Step → Brief
outline t = record {
  code = t.code;
  clock = t.clock;
  site = t.site;
  base = t.base;
  to = t.to;
  update = t.update;
  item = t.item;
  stamp = t.stamp;
  place = t.place;
}

-- ---- the record that stands for what a reader gives back: three header bytes and the body, and the step or why it is none

abbrev pub whole_read : ℕ → Result Step Refusal → Record
whole_read n (Ok t) = taken (3 + n) t
whole_read n (Err r) = refused (number_of r) (3 + n)

abbrev pub record_read : Option (Whole Step) → Record
record_read None = refused 17 0
record_read (Some w) = whole_read w.length w.step

-- and without a begin's stamps and values
abbrev pub whole_brief : ℕ → Result Brief Refusal → BriefRecord
whole_brief n (Ok b) = record {
  number = 0;
  next = 3 + n;
  code = b.code;
  site = b.site;
  to = b.to;
  item = b.item;
  place = b.place;
  clock = b.clock;
  stamp = b.stamp;
  base = b.base;
  update = b.update;
}
whole_brief n (Err r) = brief_of (refused (number_of r) (3 + n))

abbrev pub brief_read : Option (Whole Brief) → BriefRecord
brief_read None = brief_of (refused 17 0)
brief_read (Some w) = whole_brief w.length w.step
