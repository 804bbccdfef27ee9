-- A run over records, turn after turn: what the loop holds between two of them.
use Prim.Native.Nat.{ℕ, ◌+◌, ◌-◌, ◌≤◌, ◌<◌}
use mathlib.Core.Bool.{false, true, cond}
use mathlib.Core.List.{List, []}
use mathlib.Core.Path.{◌≡◌, refl, sym, ap, ◌∙◌}
use native.Mathlib.Omega.{arith}
use lib.IntN.{ℤ}
use lib.ListN.{length, take, drop}
use Rattle.std.specs.Prelude.{Option, Some, None, Result, Ok, Err, eqb}
use Rattle.kit.proofs.Bools.{by_test, of_cond}
use Rattle.kit.specs.Lists.{put, placed}
use Rattle.lines.proofs.Counting.{counted_start, counted_on}
use Rattle.lines.specs.Counts.{counted, digits_on, length_on}
use Rattle.lines.specs.Lines.{decimal_of, fitted}
use Rattle.plans.specs.Answers.{Answer, refusal}
use Rattle.plans.specs.declared.answer.Results.{Results}
use Rattle.record.proofs.Briefs.{record_from}
use Rattle.record.proofs.Frames.{cut_header}
use Rattle.record.proofs.Laws.{next_cut}
use Rattle.record.specs.Records.{Record, BriefRecord, record_of, brief_of, brief_read, whole_brief, step_from}
use Rattle.record.specs.declared.Brief.{Brief}
use Rattle.record.specs.declared.Whole.{Whole}
use Rattle.refusals.proofs.Numbers.{above_zero}
use Rattle.refusals.specs.Numbers.{number_of}
use Rattle.refusals.specs.declared.Refusal.{Refusal}
use Rattle.table.specs.declared.data.Table.{Table}
use Rattle.steps.specs.Answers.{Stepped, stepped_from}
use Rattle.steps.specs.Night.{answered_on, line_for, Part, Ran, is_full, part_from, ran_as}
use Rattle.steps.specs.Steps.{entered, begun, told, delivered, dropped, put_up, retired, advanced}
use Rattle.steps.proofs.Each.{each_step}
use Rattle.steps.proofs.Briefs.{answered_brief}
use Rattle.steps.proofs.Running.{Going, Facing, going_start, facing_wrote, going_full, going_cut, going_read, more_room, number_left, answered_refused, answered_step}

-- ---- the answer to a record, as it was read

module _ (t : Table) (x : Record) (n : ℕ) where
  -- refused when it was read
  pub read_refused : (e : Refusal) {r : Result Results Refusal} → whole_brief n (Err e) ≡ brief_of x → r ≡ Err e → stepped_from r t ≡ answered_on t x
  unfolding brief_of
  read_refused e h f =
      let same : number_of e ≡ x.number = ap (λ (r : BriefRecord). r.number) h in
      let some : 0 < number_of e = above_zero e in
      rw f (answered_refused t x (λ z. omega arith) (ap refusal same))

  -- or its step taken
  pub read_stepped
      : {b : Brief} {stamps : List ℕ} {values : List ℤ} {z : Stepped} → whole_brief n (Ok b) ≡ brief_of x → (b.code ≡ 1 → (stamps ≡ x.step.stamps) × (values ≡ x.step.values))
      → z ≡ advanced t (step_from b stamps values) → z ≡ answered_on t x
  read_stepped {b} {stamps} {values} h arrays e =
      answered_step t (record_from (whole_brief n (Ok b)) stamps values) refl e ∙ answered_brief t x h arrays

-- how many bytes it has
size_of : (n : ℕ) (r : Result Brief Refusal) → (whole_brief n r).next ≡ 3 + n
unfolding brief_of
size_of n (Ok b) = refl
size_of n (Err e) = refl

-- ---- turn after turn

-- all that is to do
abbrev All : Table → ℕ → List ℕ → List ℕ → Part
All t₀ nth₀ s out₀ = part_from t₀ nth₀ s (length out₀)

-- before a record: the table t, and the number of the record in digits
pub record Turning (t₀ : Table) (nth₀ : ℕ) (s out₀ : List ℕ) (end room : ℕ) (t : Table) (digits : List ℕ) (figures : ℕ) (out : List ℕ) (at to nth : ℕ) : Type 0 where
  pub going : Going (All t₀ nth₀ s out₀) s out₀ end room t out at to nth
  pub few : t.count ≤ 7
  pub figured : counted digits figures nth ≡ decimal_of nth

module _ {t₀ : Table} {nth₀ : ℕ} {s out₀ : List ℕ} {end room : ℕ} where
  pub turning_start
      : {digits : List ℕ} {figures : ℕ} → end ≡ length s → room ≡ length out₀ → t₀.count ≤ 7 → counted digits figures nth₀ ≡ decimal_of nth₀
      → Turning t₀ nth₀ s out₀ end room t₀ digits figures out₀ 0 0 nth₀
  turning_start e f l c = record { going = going_start t₀ nth₀ e f; few = l; figured = c }

  module _
      {t : Table} {digits : List ℕ} {figures : ℕ} {out : List ℕ} {at to nth : ℕ}
      (g : Turning t₀ nth₀ s out₀ end room t digits figures out at to nth)
    where
      -- what is promised
      abbrev Promised : Ran → Type 0
      Promised z =
          (z ≡ ran_as (All t₀ nth₀ s out₀))
          × ((out ≡ put out₀ 0 (All t₀ nth₀ s out₀).lines) × ((z.taken ≤ length s) × (z.written ≤ length out₀)))

      -- the bytes from here on, and the record that they start with
      abbrev Ahead : List ℕ
      Ahead = take (end - at) (drop at s)

      abbrev Next : Record
      Next = record_of Ahead

      -- left unread where the run is full
      module _ (o : Option (Whole Brief)) (hr : brief_read o ≡ brief_of (record_of (cond (is_full (room - to) nth) [] Ahead))) where
        unread : is_full (room - to) nth ≡ true → (brief_read o).next ≡ 0
        unfolding brief_of
        unread e =
            let h : brief_read o ≡ brief_of (record_of []) = rw e at hr in ap (λ (x : BriefRecord). x.next) h ∙ next_cut [] (cut_header [] (omega arith))

        was_read : is_full (room - to) nth ≡ false → brief_read o ≡ brief_of Next
        was_read e = rw e at hr

        size : is_full (room - to) nth ≡ false → (brief_read o).next ≡ Next.next
        unfolding brief_of
        size e = ap (λ (x : BriefRecord). x.next) (was_read e)

        -- the run ends here
        pub turning_over : o ≡ None → Promised (record { number = 0; taken = at; written = to; next = nth; table = t })
        unfolding brief_of
        turning_over h =
            let z : (brief_read o).next ≡ 0 = rw h refl in
            by_test (is_full (room - to) nth) (λ y. going_full g.going y) (λ y. going_cut g.going (sym (size y) ∙ z))

        -- or goes on with the record
        module _ {w : Whole Brief} (h : o ≡ Some w) where
          some : (brief_read o).next ≡ 0 → ⊥
          some z = let e : (brief_read o).next ≡ 3 + w.length = rw h (size_of w.length w.step) in omega arith

          goes_on : is_full (room - to) nth ≡ false
          goes_on = by_test (is_full (room - to) nth) (λ y. absurd (some (unread y))) (λ y. y)

          pub is_next : brief_read (Some w) ≡ brief_of Next
          is_next = rw h at was_read goes_on

          long : 3 + w.length ≡ Next.next
          long = let e : (brief_read o).next ≡ Next.next = size goes_on in sym (size_of w.length w.step) ∙ rw h at e

          -- there is room for its line, and it ends inside the input
          pub turning_faces : Facing (All t₀ nth₀ s out₀) s out₀ end room t Next out (at + (3 + w.length)) to nth
          turning_faces = rw long (going_read g.going Next goes_on refl (λ z. some (size goes_on ∙ z)))

          -- there is room for its line, and a number for the record behind
          pub turning_room : to + 89 ≤ length out
          turning_room = let e = g.going.ends in omega (arith, more_room (length out - to) nth turning_faces.goes)

          pub turning_number : nth + 1 < 18446744073709551616
          turning_number = number_left (length out - to) nth turning_faces.goes

          -- answered w, which leaves the table u, and its line written
          module _
              {a : Answer} {u : Table} (y : record { answer = a; table = u } ≡ answered_on t Next) {n : ℕ} {out' : List ℕ} (len : n ≡ fitted out to (line_for nth a))
              (put_in : out' ≡ placed out to (line_for nth a)) (short : length (line_for nth a) ≤ 89)
            where
              pub turning_wrote : Going (All t₀ nth₀ s out₀) s out₀ end room u out' (at + (3 + w.length)) (to + n) (nth + 1)
              turning_wrote = facing_wrote turning_faces (record { answer = a; table = u }) n out' y len put_in short

              -- and its number counted on
              pub turning_on
                  : {ds : List ℕ} {fs : ℕ} → u.count ≤ 7 → fs ≡ length_on digits figures (nth + 1) → ds ≡ digits_on digits figures (nth + 1)
                  → Turning t₀ nth₀ s out₀ end room u ds fs out' (at + (3 + w.length)) (to + n) (nth + 1)
              turning_on l hs hd = record { going = turning_wrote; few = l; figured = rw (hd, hs) (counted_on digits figures nth g.figured) }

-- a table keeps its number of sites
pub count_kept : (t : Table) (x : Record) {z : Stepped} → z ≡ answered_on t x → t.count ≤ 7 → z.table.count ≤ 7
unfolding answered_on entered begun told delivered dropped put_up retired
count_kept t x e₀ h =
    rw e₀
    (of_cond (λ (z : Stepped). z.table.count ≤ 7) (eqb x.number 0)
    (λ e. each_step t x.step (λ (u : Table). u.count ≤ 7) (record {
      stays = h;
      begins = λ k z. h;
      tells = λ z. h;
      delivers = λ k z. h;
      drops = λ z. h;
      downs = λ z. h;
      ups = λ z. h;
      retires = λ z. h;
    }))
    (λ e. h))
