-- Going through the records of a night, run after run: each takes the lines of some records off those that are left.
use mathlib.Core.Path.{◌≡◌, refl, sym, ap, ap₂, ◌∙◌}
use mathlib.Core.Bool.{true, false}
use mathlib.Core.List.{List, [], ◌++◌, append-nil}
use Prim.Native.Nat.{ℕ, zero, suc, ◌+◌, ◌-◌, ◌*◌, ◌≤◌, ◌<◌}
use native.Mathlib.Omega.{arith}
use borrow.Author.Tests.{le-ltb, lt-leb}
use lib.ListN.{length, take, drop, length-append, length-drop}
use lib.Seq.{take-append_seam, length-take-le}
use Rattle.kit.specs.Lists.{put, placed}
use Rattle.kit.proofs.Bools.{by_test, neither}
use Rattle.kit.proofs.Puts.{put_put, put_front, length_put, placed_in}
use Rattle.record.specs.Records.{is_cut, record_of}
use Rattle.record.proofs.Laws.{next_whole}
use Rattle.table.specs.declared.data.Table.{Table}
use Rattle.table.proofs.Meaning.{meant}
use Rattle.steps.specs.Night.{answered_on, line_for, last_line, lines_of, lines_from, Part, is_full, part_from, ran_as, ran, ran_into}
use Rattle.steps.specs.Night.{Ran}
use Rattle.steps.proofs.Nights.{part_leads}
use Rattle.steps.proofs.Running.{short_cut, rest_shorter, parted_cut, part_cut, part_full, part_taken}
use Rattle.house.specs.House.{room_after}
use Rattle.house.specs.Ways.{Ready}
use Rattle.house.proofs.Rooms.{room_out, room_rest}

-- ---- one run

-- a record has three bytes or more, so record numbers do not run out
numbers_by : (k : ℕ) (t : Table) (nth : ℕ) (b : List ℕ) (room : ℕ) → length b ≤ k → 3 * (part_from t nth b room).next ≤ 3 * nth + (part_from t nth b room).taken
numbers_by zero t nth b room h = rw (part_cut t nth b room (short_cut b h)) (omega arith)
numbers_by (suc k) t nth b room h =
    by_test (is_cut b) (λ e. rw (part_cut t nth b room e) (omega arith))
    (λ e. by_test (is_full room nth) (λ f. rw (part_full t nth b room f) (omega arith))
    (λ f. rw (part_taken t nth b room e f)
    (omega (
      arith,
      next_whole b e,
      numbers_by k (answered_on t (record_of b)).table (suc nth) (drop (record_of b).next b)
          (room - length (line_for nth (answered_on t (record_of b)).answer)) (rest_shorter b k h e),
    ))))

-- with room for a line, nothing is taken only where no record is whole
taken_none : (t : Table) (nth : ℕ) (b : List ℕ) (room : ℕ) → is_full room nth ≡ false → (part_from t nth b room).taken ≡ 0 → is_cut b ≡ true
taken_none t nth b room f z =
    by_test (is_cut b) (λ e. e)
    (λ e. let s = sym (ap (λ (p : Part). p.taken) (part_taken t nth b room e f)) ∙ z in let c : ⊥ = omega (arith, s, next_whole b e) in absurd c)

-- ---- a run from where the way stands

module _ {t : Table} {next : ℕ} {rest : List ℕ} {room : ℕ} (g : Ready t next rest room) where
  not_full : is_full room next ≡ false
  not_full = neither (le-ltb room 89 (omega (arith, g.long))) (lt-leb 18446744073709551615 next (omega (arith, g.numbered)))

  -- what a run from here does
  abbrev part : Part
  part = part_from t next rest room

  module _ {r : Ran} (e : r ≡ ran t next rest room) where
    ran_part : r ≡ ran_as part
    unfolding ran
    ran_part = e ∙ rw (meant t g.well.sound) refl

    -- no record is whole: the last line is all that is left
    pub ends_here : r.taken ≡ 0 → lines_from t next rest ≡ last_line next rest
    unfolding lines_of
    ends_here z = rw (parted_cut rest (taken_none t next rest room not_full (sym (ap (λ (q : Ran). q.taken) ran_part) ∙ z))) refl

    -- its lines, and then those behind it
    leads_on : lines_from t next rest ≡ part.lines ++ lines_from r.table r.next (drop r.taken rest)
    leads_on =
        sym (ap (lines_from t next) (append-nil rest))
        ∙ (part_leads t next rest [] room g.well).lines
        ∙ ap (λ (l : List ℕ). part.lines ++ lines_from part.table part.next l) (append-nil (drop part.taken rest))
        ∙ sym (ap (λ (q : Ran). part.lines ++ lines_from q.table q.next (drop q.taken rest)) ran_part)

    pub ready_on : {rest' : List ℕ} {room' : ℕ} → room' ≡ room → r.taken ≤ length rest → rest' ≡ drop r.taken rest → Ready r.table r.next rest' room'
    ready_on l h q =
        let k : 3 * r.next ≤ 3 * next + r.taken = rw ran_part (numbers_by (length rest) t next rest room (omega arith)) in
        record {
          long = l ∙ g.long;
          well = rw ran_part (part_leads t next rest [] room g.well).well;
          numbered = omega (arith, k, g.numbered, ap length q, length-drop r.taken rest);
        }

    into : (buf : List ℕ) → length buf ≡ room → ran_into t next rest buf ≡ put buf 0 part.lines
    unfolding ran_into
    into buf l = rw (meant t g.well.sound, l) refl

    -- its lines stand at the front of the buffer
    pub led_on : (buf : List ℕ) {buf' rest' : List ℕ} → length buf ≡ room → buf' ≡ ran_into t next rest buf → rest' ≡ drop r.taken rest
        → lines_from t next rest ≡ take r.written buf' ++ lines_from r.table r.next rest'
    led_on buf {buf'} l b q =
        let w : r.written ≡ length part.lines = ap (λ (q : Ran). q.written) ran_part in
        let lines : take r.written buf' ≡ part.lines =
        ap₂ (λ (k : ℕ) (d : List ℕ). take k d) w (b ∙ into buf l ∙ put_front buf part.lines) ∙ take-append_seam part.lines (drop (length part.lines) buf) in
        leads_on ∙ rw (lines, q) refl

-- ---- once for the length: what is left of the room, for the lines that are left, is all of it for all lines

module _ (left n : ℕ) (buf l m all : List ℕ) (room : ℕ) (h : n ≤ length buf) (e : l ≡ take n buf ++ m) (same : room_after left (length l) ≡ room_after room (length all)) where
  length_led : length l ≡ n + length m
  length_led = ap length e ∙ length-append (take n buf) m ∙ ap (λ (k : ℕ). k + length m) (length-take-le n buf h)

  -- some lines are too much by themselves
  pub counting_out : left < n → record { enough = false; left = 0 } ≡ room_after room (length all)
  counting_out h = sym (room_out left (length l) (omega (arith, length_led))) ∙ same

  pub counting_on : n ≤ left → room_after (left - n) (length m) ≡ room_after room (length all)
  counting_on h = room_rest left n (length m) h ∙ ap (room_after left) (sym length_led) ∙ same

-- ---- once to write: what is written, and the lines that are left behind it, are all lines

pub record Writing (all out₀ l out : List ℕ) (to : ℕ) : Type 0 where
  pub same : length out ≡ length out₀
  pub ends : to + length l ≤ length out
  pub bytes : put out to l ≡ put out₀ 0 all

module _ {all out₀ l out : List ℕ} {to : ℕ} (w : Writing all out₀ l out to) where
  -- the last line is all that is left
  pub writing_end : (last out' : List ℕ) → l ≡ last → out' ≡ placed out to last → out' ≡ put out₀ 0 all
  writing_end last out' e h = h ∙ ap (placed out to) (sym e) ∙ placed_in out to l w.ends ∙ w.bytes

  module _ (n : ℕ) (buf m : List ℕ) (h : n ≤ length buf) (e : l ≡ take n buf ++ m) where
    long : length (take n buf) ≡ n
    long = length-take-le n buf h

    whole : length l ≡ n + length m
    whole = ap length e ∙ length-append (take n buf) m ∙ ap (λ (k : ℕ). k + length m) long

    -- the lines have room
    pub writing_room : to + n ≤ length out
    writing_room = omega (arith, w.ends, whole)

    pub writing_on : (out' : List ℕ) → out' ≡ put out to (take n buf) → Writing all out₀ m out' (to + n)
    writing_on out' p =
        let kept : length out' ≡ length out = ap length p ∙ length_put out to (take n buf) (omega (arith, writing_room, long)) in
        let place : to + n ≡ to + length (take n buf) = ap (λ (k : ℕ). to + k) (sym long) in
        record {
          same = kept ∙ w.same;
          ends = omega (arith, w.ends, whole, kept);
          bytes = ap (λ (d : List ℕ). put d (to + n) m) p ∙ put_put out to (to + n) (take n buf) m place writing_room ∙ ap (put out to) (sym e) ∙ w.bytes;
        }
