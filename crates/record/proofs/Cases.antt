-- Records computed from the definitions: those of document 01's worked case, and records that are refused.
use mathlib.Core.Path.{◌≡◌, refl}
use mathlib.Core.List.{List, [], ◌∷◌, ◌++◌}
use Prim.Native.Nat.{ℕ, zero, suc}
use lib.IntN.{ℤ, pos, negsuc}
use lib.ListN.{replicate, drop}
use Rattle.kit.specs.Bytes.{le, field_at}
use Rattle.kit.specs.Lists.{listed}
use Rattle.kit.specs.Range.{number}
use Rattle.sets.specs.Sets.{member, size}
use Rattle.record.specs.Bodies.{entry_at, by_item, begin_length, begin_step, tell_step, place_step, site_step, retire_step, read_step}
use Rattle.record.specs.Records.{Record, asked, refused, taken, body_read, is_cut, record_of}
use Rattle.record.specs.declared.Step.{Step}

-- n records, one behind the other
abbrev pub read_all : ℕ → List ℕ → List Record
read_all zero s = []
read_all (suc n) s = record_of s ∷ read_all n (drop (record_of s).next s)

-- ---- the worked case: "begin at 1 (clock 1000, base and update item 0, stamp 0, value -350); the same at 2 with 210; tell 1, 8001, 3;
-- deliver 0; tell 2, 8002, 3; deliver 1; read 3, 0"

abbrev pub worked : List ℕ
worked =
    (1 ∷ 20 ∷ 0 ∷ 1 ∷ 232 ∷ 3 ∷ 0 ∷ 0 ∷ 1 ∷ 0 ∷ 0 ∷ 1 ∷ 0 ∷ 0 ∷ 0 ∷ 0 ∷ 0 ∷ 0 ∷ 0 ∷ 162 ∷ 254 ∷ 255 ∷ 255 ∷ [])
    ++ (1 ∷ 20 ∷ 0 ∷ 2 ∷ 232 ∷ 3 ∷ 0 ∷ 0 ∷ 1 ∷ 0 ∷ 0 ∷ 1 ∷ 0 ∷ 0 ∷ 0 ∷ 0 ∷ 0 ∷ 0 ∷ 0 ∷ 210 ∷ 0 ∷ 0 ∷ 0 ∷ [])
    ++ (2 ∷ 7 ∷ 0 ∷ 1 ∷ 65 ∷ 31 ∷ 0 ∷ 0 ∷ 0 ∷ 3 ∷ [])
    ++ (3 ∷ 1 ∷ 0 ∷ 0 ∷ [])
    ++ (2 ∷ 7 ∷ 0 ∷ 2 ∷ 66 ∷ 31 ∷ 0 ∷ 0 ∷ 0 ∷ 3 ∷ [])
    ++ (3 ∷ 1 ∷ 0 ∷ 1 ∷ [])
    ++ (8 ∷ 2 ∷ 0 ∷ 3 ∷ 0 ∷ [])

abbrev pub begin_at : ℕ → ℤ → Step
begin_at site value = record {
  code = 1;
  site = site;
  to = 0;
  item = 0;
  place = 0;
  clock = 1000;
  stamp = 0;
  base = 1;
  update = 1;
  stamps = replicate 24 0;
  values = value ∷ replicate 23 (pos 0);
}

-- code, site, to, item, place, stamp
abbrev pub other : ℕ → ℕ → ℕ → ℕ → ℕ → ℕ → Step
other code site to item place stamp = record {
  code = code;
  site = site;
  to = to;
  item = item;
  place = place;
  clock = 0;
  stamp = stamp;
  base = 0;
  update = 0;
  stamps = replicate 24 0;
  values = replicate 24 (pos 0);
}

pub worked_case
    : read_all 7 worked
    ≡ (taken 23 (begin_at 1 (negsuc 349))
    ∷ taken 23 (begin_at 2 (pos 210))
    ∷ taken 10 (other 2 1 3 0 0 8001)
    ∷ taken 4 (other 3 0 0 0 0 0)
    ∷ taken 10 (other 2 2 3 0 0 8002)
    ∷ taken 4 (other 3 0 0 0 1 0)
    ∷ taken 5 (other 8 3 0 0 0 0)
    ∷ [])
unfolding record_of is_cut body_read asked begin_length begin_step tell_step place_step read_step by_item entry_at field_at le listed number member size
worked_case = refl

-- the other kinds: drop 63; down 7; up 2; retire 34,359,738,361
pub other_kinds
    : read_all 4 ((4 ∷ 1 ∷ 0 ∷ 63 ∷ []) ++ (5 ∷ 1 ∷ 0 ∷ 7 ∷ []) ++ (6 ∷ 1 ∷ 0 ∷ 2 ∷ []) ++ (7 ∷ 5 ∷ 0 ∷ 249 ∷ 255 ∷ 255 ∷ 255 ∷ 7 ∷ []))
    ≡ (taken 4 (other 4 0 0 0 63 0) ∷ taken 4 (other 5 7 0 0 0 0) ∷ taken 4 (other 6 2 0 0 0 0) ∷ taken 8 (other 7 0 0 0 0 34359738361) ∷ [])
unfolding record_of is_cut body_read asked place_step site_step retire_step field_at le
other_kinds = refl

-- A begin whose base is {1, 23} and whose update is {0, 23}: the update lies outside the base, both sets count, and the record is read.
pub sets_as_they_stand
    : record_of
    (1 ∷ 29 ∷ 0 ∷ 3 ∷ 1 ∷ 2 ∷ 3 ∷ 4 ∷ 2 ∷ 0 ∷ 128 ∷ 1 ∷ 0 ∷ 128 ∷ 1 ∷ 2 ∷ 3 ∷ 4 ∷ 5 ∷ 6 ∷ 7 ∷ 8 ∷ 9 ∷ 10 ∷ 0 ∷ 0 ∷ 0 ∷ 128 ∷ 255 ∷ 255 ∷ 255 ∷ 127 ∷ [])
    ≡ taken 32 (record {
      code = 1;
      site = 3;
      to = 0;
      item = 0;
      place = 0;
      clock = 67305985;
      stamp = 0;
      base = 8388610;
      update = 8388609;
      stamps = 0 ∷ 21542142465 ∷ replicate 21 0 ++ (43101193990 ∷ []);
      values = negsuc 2147483647 ∷ replicate 22 (pos 0) ++ (pos 2147483647 ∷ []);
    })
unfolding record_of is_cut body_read asked begin_length begin_step by_item entry_at field_at le listed number member size
sets_as_they_stand = refl

-- ---- refused

-- an unknown code gives 2 at any length and is skipped: 9 with 2 bytes, 0 with none, 255 with 1; then deliver 5
pub unknown_codes
    : read_all 4 ((9 ∷ 2 ∷ 0 ∷ 7 ∷ 7 ∷ []) ++ (0 ∷ 0 ∷ 0 ∷ []) ++ (255 ∷ 1 ∷ 0 ∷ 3 ∷ []) ++ (3 ∷ 1 ∷ 0 ∷ 5 ∷ []))
    ≡ (refused 2 5 ∷ refused 2 3 ∷ refused 2 4 ∷ taken 4 (other 3 0 0 0 5 0) ∷ [])
unfolding record_of is_cut body_read asked place_step field_at le
unknown_codes = refl

-- a wrong length gives 17 and goes on: deliver with no byte and with 2, tell with 6, retire with 6, read with 1, begin with 10 and with a byte more than its
-- empty sets ask for; then up 1
pub wrong_lengths
    : read_all 8
    ((3 ∷ 0 ∷ 0 ∷ []) ++ (3 ∷ 2 ∷ 0 ∷ 1 ∷ 1 ∷ []) ++ (2 ∷ 6 ∷ 0 ∷ replicate 6 1) ++ (7 ∷ 6 ∷ 0 ∷ replicate 6 1) ++ (8 ∷ 1 ∷ 0 ∷ 1 ∷ [])
    ++ (1 ∷ 10 ∷ 0 ∷ replicate 10 0) ++ (1 ∷ 12 ∷ 0 ∷ replicate 12 0) ++ (6 ∷ 1 ∷ 0 ∷ 1 ∷ []))
    ≡ (refused 17 3 ∷ refused 17 5 ∷ refused 17 9 ∷ refused 17 9 ∷ refused 17 4 ∷ refused 17 13 ∷ refused 17 15 ∷ taken 4 (other 6 1 0 0 0 0) ∷ [])
unfolding record_of is_cut body_read asked begin_length site_step field_at le number member size
wrong_lengths = refl

-- A cut record gives 17 and no next one: nothing left, two header bytes, deliver without its byte, a tell of 256 more bytes than are left, an unknown code of 5
-- bytes with 4 left.
pub cut_records
    : (record_of [] ∷ record_of (3 ∷ 1 ∷ []) ∷ record_of (3 ∷ 1 ∷ 0 ∷ []) ∷ record_of (2 ∷ 7 ∷ 1 ∷ replicate 7 0) ∷ record_of (9 ∷ 5 ∷ 0 ∷ replicate 4 0) ∷ [])
    ≡ replicate 5 (refused 17 0)
unfolding record_of is_cut body_read asked field_at le
cut_records = refl
