-- The bodies of records, each as the step that it stands for. A field that a body is too short for is 0; such a record is refused.
use Rattle.std.specs.Prelude.{ℕ, ◌+◌, ◌*◌, ◌≡◌, cond, List, ℤ, pos, replicate}
use Rattle.std.specs.Int.{w32}
use Rattle.std.proofs.Common.{to_z}
use Rattle.kit.specs.Bytes.{field_at}
use Rattle.kit.specs.Lists.{listed}
use Rattle.kit.specs.Range.{number}
use Rattle.sets.specs.Sets.{member, size}
use Rattle.record.specs.declared.Step.{Step}

-- ---- "All numbers little-endian; stamps 5 bytes, clock and value 4 (value two's complement), sets 3, sites, items and places 1."

-- "stamps 5 bytes"
abbrev pub stamp_at : List ℕ → ℕ → ℕ
stamp_at b at = field_at b at 5

-- "clock and value 4"
abbrev pub clock_at : List ℕ → ℕ → ℕ
clock_at b at = field_at b at 4

-- "clock and value 4 (value two's complement)"
abbrev pub value_at : List ℕ → ℕ → ℤ
value_at b at = to_z w32 (field_at b at 4)

-- "sets 3"
abbrev pub set_at : List ℕ → ℕ → ℕ
set_at b at = field_at b at 3

-- "sites, items and places 1"
abbrev pub byte_at : List ℕ → ℕ → ℕ
byte_at b at = field_at b at 1

-- no step: every field 0
abbrev pub blank_step : Step
blank_step = record {
  code = 0;
  site = 0;
  to = 0;
  item = 0;
  place = 0;
  clock = 0;
  stamp = 0;
  base = 0;
  update = 0;
  stamps = replicate 24 0;
  values = replicate 24 (pos 0);
}

-- a step with neither stamps nor values
abbrev pub numberless : Step → Type 0
numberless t = (t.stamps ≡ replicate 24 0) × (t.values ≡ replicate 24 (pos 0))

-- ---- "Begin: site, clock, base set, update set, stamps by rising item, values by rising item"

-- "by rising item": entries of w bytes from `start` on, one for each item of the set s; where that of item i begins
unfoldable pub entry_at : ℕ → ℕ → ℕ → ℕ → ℕ
entry_at start w s i = start + w * number i (member s)

-- such entries, item by item: what f says of the place where the item's entry begins, and `none` for an item outside the set
unfoldable pub by_item : {A : Type 0} → A → (ℕ → A) → ℕ → ℕ → ℕ → List A
by_item none f start w s = listed 24 (λ i. cond (member s i) (f (entry_at start w s i)) none)

-- the sets stand behind the site, 1 byte, and the clock, 4
abbrev pub base_of : List ℕ → ℕ
base_of b = set_at b 5

abbrev pub update_of : List ℕ → ℕ
update_of b = set_at b 8

-- the stamps stand behind the sets, 3 bytes each, and the values behind the stamps
abbrev pub stamps_from : ℕ
stamps_from = 11

abbrev pub values_from : List ℕ → ℕ
values_from b = 11 + 5 * size (base_of b)

-- "11 + 5 × base items + 4 × update items": both sets count as they stand. A body of fewer than 11 bytes, too short for its sets, is asked for more.
unfoldable pub begin_length : List ℕ → ℕ
begin_length b = 11 + 5 * size (base_of b) + 4 * size (update_of b)

-- "Numbers given for other items are not looked at and are stored as 0."
unfoldable pub begin_step : List ℕ → Step
begin_step b = record {
  code = 1;
  site = byte_at b 0;
  to = 0;
  item = 0;
  place = 0;
  clock = clock_at b 1;
  stamp = 0;
  base = base_of b;
  update = update_of b;
  stamps = by_item 0 (stamp_at b) stamps_from 5 (base_of b);
  values = by_item (pos 0) (value_at b) (values_from b) 4 (update_of b);
}

-- ---- the others

-- tell: "from, stamp, to"
unfoldable pub tell_step : List ℕ → Step
tell_step b = record {
  code = 2;
  site = byte_at b 0;
  to = byte_at b 6;
  item = 0;
  place = 0;
  clock = 0;
  stamp = stamp_at b 1;
  base = 0;
  update = 0;
  stamps = replicate 24 0;
  values = replicate 24 (pos 0);
}

-- deliver, drop: "message place"
unfoldable pub place_step : ℕ → List ℕ → Step
place_step c b = record {
  code = c;
  site = 0;
  to = 0;
  item = 0;
  place = byte_at b 0;
  clock = 0;
  stamp = 0;
  base = 0;
  update = 0;
  stamps = replicate 24 0;
  values = replicate 24 (pos 0);
}

-- down, up: "site"
unfoldable pub site_step : ℕ → List ℕ → Step
site_step c b = record {
  code = c;
  site = byte_at b 0;
  to = 0;
  item = 0;
  place = 0;
  clock = 0;
  stamp = 0;
  base = 0;
  update = 0;
  stamps = replicate 24 0;
  values = replicate 24 (pos 0);
}

-- retire: "stamp"
unfoldable pub retire_step : List ℕ → Step
retire_step b = record {
  code = 7;
  site = 0;
  to = 0;
  item = 0;
  place = 0;
  clock = 0;
  stamp = stamp_at b 0;
  base = 0;
  update = 0;
  stamps = replicate 24 0;
  values = replicate 24 (pos 0);
}

-- read: "site, item"
unfoldable pub read_step : List ℕ → Step
read_step b = record {
  code = 8;
  site = byte_at b 0;
  to = 0;
  item = byte_at b 1;
  place = 0;
  clock = 0;
  stamp = 0;
  base = 0;
  update = 0;
  stamps = replicate 24 0;
  values = replicate 24 (pos 0);
}
