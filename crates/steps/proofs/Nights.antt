-- A night printed buffer after buffer is the whole night, however the input is cut and however much room the output has.
use mathlib.Core.Path.{◌≡◌, refl, sym, ap, ◌∙◌}
use mathlib.Core.Bool.{false, ◌&&◌}
use mathlib.Core.List.{List, [], ◌∷◌, ◌++◌, append-nil, append_assoc}
use Prim.Native.Nat.{ℕ, zero, suc, ◌+◌, ◌-◌, ◌≤◌}
use native.Mathlib.Omega.{arith}
use borrow.Author.Tests.{eq-eqb}
use lib.Dec.{eqb, leb}
use lib.ListN.{length, drop}
use lib.Seq.{drop-append-le, drop-drop}
use Rattle.kit.proofs.Bools.{by_test, of_cond}
use Rattle.record.specs.Records.{is_cut, record_of}
use Rattle.record.specs.Records.{Record}
use Rattle.record.proofs.Laws.{next_whole, whole_next, next_inside, more_bytes}
use Rattle.table.specs.Fresh.{fresh_for}
use Rattle.table.specs.declared.data.Table.{Table}
use Rattle.table.specs.declared.fresh.FreshTable.{FreshTable}
use Rattle.table.specs.Meaning.{ShapedTable}
use Rattle.table.proofs.FreshSound.{fresh_shaped, fresh_answers}
use Rattle.table.proofs.Meaning.{means, meant}
use Rattle.steps.specs.Night.{answered, answered_on, line_for, lines_of, lines_from, night_of, Part, no_part, one_part, is_full, part_from, Buffered}
use Rattle.steps.specs.Night.Buffered.{reads, runs, ends}
use Rattle.steps.specs.Steps.{stepped}
use Rattle.steps.specs.Answers.{Stepped}
use Rattle.steps.proofs.Running.{short_cut, rest_shorter, parted_cut, parted_whole, part_cut, part_full, part_taken}
use Rattle.steps.proofs.Upkeep.{Well, stepped_well}

module _ (t : Table) (r : Record) (w : Well t) where
  -- a sound table needs no test before its step
  pub answered_same : answered_on t r ≡ answered t r
  unfolding answered answered_on stepped
  answered_same = rw (meant t w.sound) refl

  -- and is sound behind it
  pub answered_well : Well (answered t r).table
  unfolding answered
  answered_well = of_cond (λ (s : Stepped). Well s.table) (eqb r.number 0) (λ e. stepped_well t r.step w) (λ e. w)

-- the lines of a whole record and of what is behind it
lines_whole : (t : Table) (nth : ℕ) (s : List ℕ) → is_cut s ≡ false
    → lines_from t nth s ≡ line_for nth (answered t (record_of s)).answer ++ lines_from (answered t (record_of s)).table (suc nth) (drop (record_of s).next s)
unfolding lines_of
lines_whole t nth s e = rw (parted_whole s e) refl

-- a fresh table that was not refused is sound
pub fresh_well : (n : ℕ) → (fresh_for n).number ≡ 0 → Well (fresh_for n).table
unfolding fresh_for
fresh_well n e =
    record {
      sound = means (fresh_for n).table (fresh_answers n ∙ eq-eqb (fresh_for n).number 0 e);
      shaped = of_cond (λ (f : FreshTable). ShapedTable f.table) (leb 1 n && leb n 7) (λ t. fresh_shaped n) (λ f. fresh_shaped 0);
    }

-- what a run over one buffer leaves: its lines, and then those of the rest, from the table and the record number that it came to
pub record Leads (t : Table) (nth : ℕ) (b rest : List ℕ) (p : Part) : Type 0 where
  pub lines : lines_from t nth (b ++ rest) ≡ p.lines ++ lines_from p.table p.next (drop p.taken b ++ rest)
  pub well : Well p.table

stays : (t : Table) (nth : ℕ) (b rest : List ℕ) → Well t → Leads t nth b rest (no_part t nth)
stays t nth b rest w = record { lines = refl; well = w }

-- one record more
one_leads : (t : Table) (nth : ℕ) (b rest : List ℕ) (p : Part) → is_cut b ≡ false
    → Leads (answered t (record_of b)).table (suc nth) (drop (record_of b).next b) rest p
    → Leads t nth b rest (one_part (record_of b) (line_for nth (answered t (record_of b)).answer) p)
one_leads t nth b rest p e l =
    let more : record_of (b ++ rest) ≡ record_of b = more_bytes b rest e in
    let whole : is_cut (b ++ rest) ≡ false =
    whole_next (b ++ rest) (λ z. let n : (record_of b).next ≡ 0 = sym (ap (λ (r : Record). r.next) more) ∙ z in let c : ⊥ = omega (arith, next_whole b e) in c) in
    let behind : drop (record_of b).next (b ++ rest) ≡ drop (record_of b).next b ++ rest = drop-append-le (record_of b).next b rest (next_inside b) in
    record {
      lines = lines_whole t nth (b ++ rest) whole ∙ rw (more, behind, l.lines, drop-drop p.taken (record_of b).next b)
          (sym (append_assoc (line_for nth (answered t (record_of b)).answer) p.lines (lines_from p.table p.next (drop ((record_of b).next + p.taken) b ++ rest))));
      well = l.well;
    }

leads : (k : ℕ) (t : Table) (nth : ℕ) (b rest : List ℕ) (room : ℕ) → Well t → length b ≤ k → Leads t nth b rest (part_from t nth b room)
leads zero t nth b rest room w h = rw (part_cut t nth b room (short_cut b h)) (stays t nth b rest w)
leads (suc k) t nth b rest room w h =
    by_test (is_cut b) (λ e. rw (part_cut t nth b room e) (stays t nth b rest w))
    (λ e. by_test (is_full room nth) (λ f. rw (part_full t nth b room f) (stays t nth b rest w))
    (λ f. rw (part_taken t nth b room e f, answered_same t (record_of b) w)
    (one_leads t nth b rest _ e
    (leads k (answered t (record_of b)).table (suc nth) (drop (record_of b).next b) rest
    (room - length (line_for nth (answered t (record_of b)).answer)) (answered_well t (record_of b) w) (rest_shorter b k h e)))))

-- a run over one buffer, whatever stands behind it
pub part_leads : (t : Table) (nth : ℕ) (b rest : List ℕ) (room : ℕ) → Well t → Leads t nth b rest (part_from t nth b room)
part_leads t nth b rest room w = leads (length b) t nth b rest room w (omega arith)

-- however reads come and however much room there is, what is printed is what the bytes call for
pub buffers : (t : Table) (nth : ℕ) (b rest out : List ℕ) → Well t → Buffered t nth b rest out → out ≡ lines_from t nth (b ++ rest)
unfolding lines_of
buffers t nth b rest out w (reads b' c rest' out' n) = buffers t nth (b' ++ c) rest' out' w n ∙ ap (lines_from t nth) (append_assoc b' c rest')
buffers t nth b rest out w (runs b' room rest' out' n) =
    let l = part_leads t nth b' rest' room w in
    let p = part_from t nth b' room in
    ap (λ (o : List ℕ). p.lines ++ o) (buffers p.table p.next (drop p.taken b') rest' out' l.well n) ∙ sym l.lines
buffers t nth b rest out w (ends b' e) = sym (ap (lines_from t nth) (append-nil b') ∙ rw (parted_cut b' e) refl)

-- the whole night, from its site count on
pub night_buffered : (n : ℕ) (s out : List ℕ) → (fresh_for n).number ≡ 0 → Buffered (fresh_for n).table 1 [] s out → out ≡ night_of (n ∷ s)
unfolding night_of
night_buffered n s out e b = rw (eq-eqb (fresh_for n).number 0 e) (buffers (fresh_for n).table 1 [] s out (fresh_well n e) b)
