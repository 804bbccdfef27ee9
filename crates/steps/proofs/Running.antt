-- A run over a buffer: each record that is taken leads from what is left to do before it to what is left behind it.
use mathlib.Core.Path.{◌≡◌, refl, sym, ap, ap₂, ◌∙◌}
use mathlib.Core.Bool.{Bool, true, false, not}
use mathlib.Core.List.{List, [], ◌++◌}
use Prim.Native.Nat.{ℕ, zero, suc, ◌+◌, ◌-◌, ◌^◌, ◌≤◌, ◌<◌}
use native.Mathlib.Omega.{arith}
use borrow.Author.Tests.{eq-eqb, ne_eqb, leb-false, ltb-false, not-true, not-false}
use lib.Dec.{leb, ltb}
use lib.IntN.{ℤ, pos, negsuc, nat_abs}
use lib.ListN.{length, take, drop, length-append, length-drop}
use native.Mathlib.Nat.{add-zero, add_assoc}
use lib.Seq.{take_all, drop-drop}
use mir.Syntax.{w64}
use mir.Val.{SFits}
use Rattle.kit.specs.Lists.{put, placed}
use Rattle.kit.proofs.Bools.{by_test, or_left, or_right}
use Rattle.kit.proofs.Puts.{put_put, put_none, placed_in, length_put}
use Rattle.lines.specs.Counts.{counted, line_with, ample_fitted, ample_placed}
use Rattle.lines.specs.Lines.{decimal_of, fitted}
use Rattle.lines.proofs.Counting.{ample_length, ample_bytes, counted_line}
use Rattle.lines.proofs.Writes.{fitted_in}
use Rattle.plans.specs.Answers.{refusal}
use Rattle.plans.specs.Answers.{Answer}
use Rattle.record.specs.Records.{is_cut, record_of}
use Rattle.record.specs.Records.{Record}
use Rattle.record.proofs.Laws.{next_whole, whole_next, next_inside}
use Rattle.record.proofs.Frames.{cut_header}
use Rattle.table.specs.Sound.{sound_table}
use Rattle.table.specs.declared.data.Table.{Table}
use Rattle.steps.specs.Steps.{advanced}
use Rattle.steps.specs.Night.{before, parted_by, parted, answered_on, line_for, Part, no_part, one_part, is_full, part_of, part_from, ran_as, ran, ran_into}
use Rattle.steps.specs.Answers.{Stepped}
use Rattle.steps.specs.Night.{Ran}

-- ---- the answer to a record

-- one that was refused when it was read, and one that holds a step
pub answered_refused : (t : Table) (r : Record) → (r.number ≡ 0 → ⊥) → {w : Answer} → w ≡ refusal r.number → record { answer = w; table = t } ≡ answered_on t r
unfolding answered_on
answered_refused t r h e = rw (ne_eqb r.number 0 h, e) refl

pub answered_step : (t : Table) (r : Record) → r.number ≡ 0 → {z : Stepped} → z ≡ advanced t r.step → z ≡ answered_on t r
unfolding answered_on
answered_step t r h e = rw (eq-eqb r.number 0 h) e

-- a result of 64 bits with its sign is at most 2 ^ 63 from 0
pub abs_fits : (z : ℤ) → SFits w64 z → nat_abs z ≤ 2 ^ 63
abs_fits (pos n) f = let l : n < 9223372036854775808 = f.sfits in omega arith
abs_fits (negsuc n) f = let l : n < 9223372036854775808 = f.sfits in omega arith

-- a line that begins with digits that are kept is written as the line of the number is
module _
    (d : List ℕ) (at nth : ℕ) (w : Answer) (digits : List ℕ) (len : ℕ) (room : at + 89 ≤ length d) (h : counted digits len nth ≡ decimal_of nth)
    (short : length (line_for nth w) ≤ 89)
  where
    same_line : line_with (counted digits len nth) w.number w.first w.second w.accepted w.rejected ≡ line_for nth w
    same_line = counted_line digits len nth w.number w.first w.second w.accepted w.rejected h

    pub line_fitted : ample_fitted d at (line_with (counted digits len nth) w.number w.first w.second w.accepted w.rejected) ≡ fitted d at (line_for nth w)
    line_fitted = ap (ample_fitted d at) same_line ∙ ample_length d at (line_for nth w) room ∙ sym (fitted_in d at (line_for nth w) (omega arith))

    pub line_placed : ample_placed d at (line_with (counted digits len nth) w.number w.first w.second w.accepted w.rejected) ≡ placed d at (line_for nth w)
    line_placed = ap (ample_placed d at) same_line ∙ ample_bytes d at (line_for nth w) room ∙ sym (placed_in d at (line_for nth w) (omega arith))

-- there is a number for the record behind
pub number_left : (room nth : ℕ) → is_full room nth ≡ false → nth + 1 < 18446744073709551616
number_left room nth e = let l : nth < 18446744073709551615 = leb-false 18446744073709551615 nth (or_right (ltb room 89) (leb 18446744073709551615 nth) e) in omega arith

-- ---- the records of a buffer

-- fewer than three bytes are no record
pub short_cut : (s : List ℕ) → length s ≤ 0 → is_cut s ≡ true
short_cut s h = cut_header s (omega arith)

-- what a record leaves is shorter
pub rest_shorter : (s : List ℕ) (k : ℕ) → length s ≤ suc k → is_cut s ≡ false → length (drop (record_of s).next s) ≤ k
rest_shorter s k h e = rw (length-drop, next_whole s e) (omega arith)

-- any number that is enough gives the same records
part_enough : (k j : ℕ) (s : List ℕ) → length s ≤ k → length s ≤ j → parted_by k s ≡ parted_by j s
unfolding parted_by
part_enough zero zero s h l = refl
part_enough zero (suc j) s h l = rw (short_cut s h) refl
part_enough (suc k) zero s h l = rw (short_cut s l) refl
part_enough (suc k) (suc j) s h l =
    by_test (is_cut s) (λ e. rw e refl)
    (λ e. rw e (ap (before (record_of s)) (part_enough k j (drop (record_of s).next s) (rest_shorter s k h e) (rest_shorter s j l e))))

-- a cut record is left as it stands
pub parted_cut : (s : List ℕ) → is_cut s ≡ true → parted s ≡ record { records = []; left = s }
unfolding parted parted_by
parted_cut s e = part_enough (length s) (suc (length s)) s (omega arith) (omega arith) ∙ rw e refl

-- a whole one comes before those behind it
pub parted_whole : (s : List ℕ) → is_cut s ≡ false → parted s ≡ before (record_of s) (parted (drop (record_of s).next s))
unfolding parted parted_by
parted_whole s e =
    part_enough (length s) (suc (length s)) s (omega arith) (omega arith)
    ∙ rw e (ap (before (record_of s)) (part_enough (length s) (length (drop (record_of s).next s)) (drop (record_of s).next s) (rest_shorter s (length s) (omega arith) e) (omega arith)))

-- ---- what a run does next

module _ (t : Table) (nth : ℕ) (s : List ℕ) (room : ℕ) where
  pub part_cut : is_cut s ≡ true → part_from t nth s room ≡ no_part t nth
  unfolding part_of
  part_cut e = rw (parted_cut s e) refl

  pub part_full : is_full room nth ≡ true → part_from t nth s room ≡ no_part t nth
  unfolding part_of
  part_full e = by_test (is_cut s) part_cut (λ w. rw (parted_whole s w) (rw e refl))

  -- one record is taken, whose line is that of its answer
  pub part_taken : is_cut s ≡ false → is_full room nth ≡ false
      → part_from t nth s room
      ≡ one_part (record_of s) (line_for nth (answered_on t (record_of s)).answer)
      (part_from (answered_on t (record_of s)).table (suc nth) (drop (record_of s).next s) (room - length (line_for nth (answered_on t (record_of s)).answer)))
  unfolding part_of
  part_taken w e = rw (parted_whole s w) (rw e refl)

-- ---- a run that has come so far

-- the answer, where `at` bytes were taken and `to` written before
abbrev pub gone_on : ℕ → ℕ → Part → Ran
gone_on at to p = record { number = 0; taken = at + p.taken; written = to + length p.lines; next = p.next; table = p.table }

-- between two records, when it has taken `at` bytes and written `to`: what is left to do, behind that, is the whole
pub record Going (whole : Part) (s out₀ : List ℕ) (end room : ℕ) (t : Table) (out : List ℕ) (at to nth : ℕ) : Type 0 where
  pub all : end ≡ length s
  pub free : room ≡ length out₀
  pub inside : at ≤ length s
  pub ends : to ≤ length out
  pub long : length out ≡ length out₀
  pub answer : gone_on at to (part_from t nth (drop at s) (length out - to)) ≡ ran_as whole
  pub bytes : put out to (part_from t nth (drop at s) (length out - to)).lines ≡ put out₀ 0 whole.lines

-- before the record r, whose bytes it has taken: its line and what is left behind it
abbrev pub line_at : Table → Record → ℕ → List ℕ
line_at t r nth = line_for nth (answered_on t r).answer

abbrev pub part_at : Table → Record → ℕ → List ℕ → ℕ → Part
part_at t r nth s room = part_from (answered_on t r).table (nth + 1) s (room - length (line_at t r nth))

pub record Facing (whole : Part) (s out₀ : List ℕ) (end room : ℕ) (t : Table) (r : Record) (out : List ℕ) (at to nth : ℕ) : Type 0 where
  pub all : end ≡ length s
  pub free : room ≡ length out₀
  pub inside : at ≤ length s
  pub ends : to ≤ length out
  pub long : length out ≡ length out₀
  pub goes : is_full (length out - to) nth ≡ false
  pub answer : gone_on at (to + length (line_at t r nth)) (part_at t r nth (drop at s) (length out - to)) ≡ ran_as whole
  pub bytes : put out to (line_at t r nth ++ (part_at t r nth (drop at s) (length out - to)).lines) ≡ put out₀ 0 whole.lines

-- there is room for a line
pub more_room : (room nth : ℕ) → is_full room nth ≡ false → 89 ≤ room
more_room room nth e = ltb-false room 89 (or_left (ltb room 89) (leb 18446744073709551615 nth) e)

-- before the first record
pub going_start
    : (t : Table) (nth : ℕ) {s out₀ : List ℕ} {end room : ℕ} → end ≡ length s → room ≡ length out₀
    → Going (part_from t nth s (length out₀)) s out₀ end room t out₀ 0 0 nth
going_start t nth {s} {out₀} e f =
    let none : length out₀ - 0 ≡ length out₀ = omega arith in
    let p : Part = part_from t nth s (length out₀) in
    let took : 0 + p.taken ≡ p.taken = omega arith in
    let wrote : 0 + length p.lines ≡ length p.lines = omega arith in
    record {
      all = e;
      free = f;
      inside = omega arith;
      ends = omega arith;
      long = refl;
      answer = rw none (ap₂ (λ (k l : ℕ). record { number = 0; taken = k; written = l; next = p.next; table = p.table }) took wrote);
      bytes = rw none refl;
    }

module _ {whole : Part} {s out₀ : List ℕ} {end room : ℕ} where
  -- it is answered and its line written
  pub facing_wrote
      : {t : Table} {r : Record} {out : List ℕ} {at to nth : ℕ} → Facing whole s out₀ end room t r out at to nth
      → (o : Stepped) (n : ℕ) (out' : List ℕ) → o ≡ answered_on t r
      → n ≡ fitted out to (line_for nth o.answer) → out' ≡ placed out to (line_for nth o.answer) → length (line_for nth o.answer) ≤ 89
      → Going whole s out₀ end room o.table out' at (to + n) (nth + 1)
  facing_wrote {t} {r} {out} {at} {to} {nth} g o n out' a len put_in short =
      let same : line_for nth o.answer ≡ line = ap (λ (z : Stepped). line_for nth z.answer) a in
      let few : length line ≤ 89 = rw same at short in
      let more : 89 ≤ length out - to = more_room (length out - to) nth g.goes in
      let fits : to + length line ≤ length out = omega (arith, g.ends) in
      let wrote : n ≡ length line = len ∙ ap (fitted out to) same ∙ fitted_in out to line fits in
      let into : out' ≡ put out to line = put_in ∙ ap (placed out to) same ∙ placed_in out to line fits in
      let long : length out' ≡ length out = ap length into ∙ length_put out to line fits in
      let left : length out' - (to + n) ≡ (length out - to) - length line = omega arith in
      let later-is : part_from o.table (nth + 1) (drop at s) (length out' - (to + n)) ≡ later = rw (left, a) refl in
      record {
        all = g.all;
        free = g.free;
        inside = g.inside;
        ends = omega arith;
        long = long ∙ g.long;
        answer = rw (later-is, wrote) g.answer;
        bytes = rw (later-is, into)
            (put_put out to (to + n) line later.lines (ap (λ (k : ℕ). to + k) wrote) (omega arith) ∙ g.bytes);
      }
    where
      line : List ℕ
      line = line_at t r nth

      later : Part
      later = part_at t r nth (drop at s) (length out - to)

  module _ {t : Table} {out : List ℕ} {at to nth : ℕ} (g : Going whole s out₀ end room t out at to nth) where
    -- the bytes from here to the end are all that are left
    rest_all : take (end - at) (drop at s) ≡ drop at s
    rest_all = take_all (end - at) (drop at s) (rw (length-drop, g.all) (omega arith))

    -- and the room from here to the end is all that is left
    room_is : length out - to ≡ room - to
    room_is = ap (λ (k : ℕ). k - to) (g.long ∙ sym g.free)

    -- what the run gives back here is what it promises
    abbrev Came : Type 0
    Came =
        (record { number = 0; taken = at; written = to; next = nth; table = t } ≡ ran_as whole)
        × ((out ≡ put out₀ 0 whole.lines) × ((at ≤ length s) × (to ≤ length out₀)))

    -- nothing more is taken
    going_stop : part_from t nth (drop at s) (length out - to) ≡ no_part t nth
        → Came
    going_stop e = (
      ap₂ (λ (k l : ℕ). record { number = 0; taken = k; written = l; next = nth; table = t }) (sym (add-zero at)) (sym (add-zero to)) ∙ sym (ap (gone_on at to) e) ∙ g.answer,
      (sym (put_none out to) ∙ sym (ap (λ (p : Part). put out to p.lines) e) ∙ g.bytes, (g.inside, rw (← g.long) g.ends)),
    )

    pub going_cut : (record_of (take (end - at) (drop at s))).next ≡ 0
        → Came
    going_cut e = going_stop (part_cut t nth (drop at s) (length out - to) (by_test (is_cut (drop at s)) (λ c. c) (λ f. absurd (let h = next_whole (drop at s) f in let z : (record_of (drop at s)).next ≡ 0 = sym (ap (λ (l : List ℕ). (record_of l).next) rest_all) ∙ e in let b : ⊥ = omega arith in b))))

    pub going_full : is_full (room - to) nth ≡ true
        → Came
    going_full e = going_stop (part_full t nth (drop at s) (length out - to) (ap (λ (k : ℕ). is_full k nth) room_is ∙ e))

    -- a whole record is read
    pub going_read
        : (r : Record) → is_full (room - to) nth ≡ false → r ≡ record_of (take (end - at) (drop at s)) → (r.next ≡ 0 → ⊥)
        → Facing whole s out₀ end room t r out (at + r.next) to nth
    going_read r open-room e h =
        let goes : is_full (length out - to) nth ≡ false = ap (λ (k : ℕ). is_full k nth) room_is ∙ open-room in
        let read : r ≡ record_of (drop at s) = e ∙ ap record_of rest_all in
        let whole-one : is_cut (drop at s) ≡ false = whole_next (drop at s) (λ z. h (ap (λ (q : Record). q.next) read ∙ z)) in
        let size : r.next ≤ length s - at = rw (read, ← length-drop at s) (next_inside (drop at s)) in
        let behind : drop r.next (drop at s) ≡ drop (at + r.next) s = drop-drop r.next at s in
        let number : suc nth ≡ nth + 1 = omega arith in
        let taken : part_from t nth (drop at s) (length out - to) ≡ one_part r line later =
        rw (← behind, ← number, read) (part_taken t nth (drop at s) (length out - to) whole-one goes) in
        record {
          all = g.all;
          free = g.free;
          inside = omega (arith, g.inside);
          ends = g.ends;
          long = g.long;
          goes = goes;
          answer = ap₂ (λ (k l : ℕ). record { number = 0; taken = k; written = l; next = later.next; table = later.table })
              (add_assoc at r.next later.taken)
              (add_assoc to (length line) (length later.lines) ∙ ap (λ (k : ℕ). to + k) (sym (length-append line later.lines)))
              ∙ ap (gone_on at to) (sym taken) ∙ g.answer;
          bytes = ap (λ (p : Part). put out to p.lines) (sym taken) ∙ g.bytes;
        }
      where
        line : List ℕ
        line = line_at t r nth

        later : Part
        later = part_at t r nth (drop (at + r.next) s) (length out - to)

-- ---- a run: the test before it, and its first record

module _ (t : Table) (nth : ℕ) (s out : List ℕ) {b : Bool} (e : b ≡ sound_table t) where
  -- what `run` promises
  abbrev KeptPromise : Ran → List ℕ → Type 0
  KeptPromise r out' = (r ≡ ran t nth s (length out)) × ((out' ≡ ran_into t nth s out) × ((r.taken ≤ length s) × (r.written ≤ length out)))

  pub run_unsound : not b ≡ true → KeptPromise (record { number = 1; taken = 0; written = 0; next = 0; table = t }) out
  unfolding ran ran_into
  run_unsound h = rw (sym e ∙ not-true b h) (refl, (refl, (omega arith, omega arith)))

  module _ (h : not b ≡ false) where
    pub run_sound
        : {r : Ran} {out' : List ℕ} → r ≡ ran_as (part_from t nth s (length out)) → out' ≡ put out 0 (part_from t nth s (length out)).lines
        → (r.taken ≤ length s) × (r.written ≤ length out) → KeptPromise r out'
    unfolding ran ran_into
    run_sound a p i = rw (sym e ∙ not-false b h) (a, (p, i))
