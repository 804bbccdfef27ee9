-- A record without a begin's stamps and values: that all three are the record; and that no two answers stand for one record.
use Rattle.std.proofs.Common.{◌≡◌, refl, sym, ap, ap₂, ℕ, ◌+◌, List, [], ℤ, arith}
use Rattle.std.specs.Prelude.{Option, None, Some, Result, Ok, Err}
use Rattle.std.specs.Result.{MatchResult, IsOkAnd}
use Rattle.refusals.specs.Numbers.{number_of}
use Rattle.refusals.specs.declared.Refusal.{Refusal}
use Rattle.refusals.proofs.Numbers.{same_refusal, same_answer}
use Rattle.record.specs.Bodies.{blank_step}
use Rattle.record.specs.Records.{Record, BriefRecord, refused, record_of, brief_of, whole_read, record_read, whole_brief, brief_read, step_from}
use Rattle.record.specs.declared.Brief.{Brief}
use Rattle.record.specs.declared.Step.{Step}
use Rattle.record.specs.declared.Whole.{Whole}
use Rattle.record.proofs.Frames.{cut_header, record_cut}
use Rattle.record.proofs.Laws.{cut_next, refused_blank, taken_code}

-- the record with these stamps and values
abbrev pub record_from : BriefRecord → List ℕ → List ℤ → Record
record_from r stamps values = record {
  number = r.number;
  next = r.next;
  step = record {
    code = r.code;
    site = r.site;
    to = r.to;
    item = r.item;
    place = r.place;
    clock = r.clock;
    stamp = r.stamp;
    base = r.base;
    update = r.update;
    stamps = stamps;
    values = values;
  };
}

-- the record from its parts
pub whole_is : (x : Record) {r : BriefRecord} {stamps : List ℕ} {values : List ℤ} → r ≡ brief_of x → stamps ≡ x.step.stamps → values ≡ x.step.values → record_from r stamps values ≡ x
unfolding brief_of
whole_is x e f g = rw (e, f, g)

module _ (s : List ℕ) where
  -- where it is cut, or refused, it is known without them
  pub none_is : brief_of (refused 17 0) ≡ brief_of (record_of s) → refused 17 0 ≡ record_of s
  unfolding brief_of
  none_is e = sym (record_cut s (cut_next s (ap (λ (r : BriefRecord). r.next) (sym e))))

  pub refused_is : (number next : ℕ) → brief_of (refused number next) ≡ brief_of (record_of s) → refused number next ≡ record_of s
  unfolding brief_of
  refused_is number next e =
      let blank : (record_of s).step ≡ blank_step =
      refused_blank s (λ z. let c : (record_of s).step.code ≡ 0 = ap (λ (r : BriefRecord). r.code) (sym e) in let h = taken_code s z in let k : ⊥ = omega (arith, h) in k)
      in
      whole_is (record_of s) e (rw blank) (rw blank)

  -- an answer without them, and the same with them
  pub answer_is
      : (n : ℕ) (a : Result Brief Refusal) (b : Result Step Refusal) {stamps : List ℕ} {values : List ℤ} → whole_brief n a ≡ brief_of (record_of s)
      → stamps ≡ (record_of s).step.stamps → values ≡ (record_of s).step.values
      → (P : Brief → Step → Type 0) → ((x : Brief) (t : Step) → P x t → t ≡ step_from x stamps values)
      → MatchResult a (λ x. IsOkAnd b (P x)) (λ r. b ≡ Err r) → whole_read n b ≡ record_of s
  answer_is n (Ok x) (Ok t) e f g P p h = rw (p x t h) (whole_is (record_of s) e f g)
  answer_is n (Ok x) (Err r) e f g P p h = absurd h
  answer_is n (Err r) b e f g P p h = rw h (refused_is (number_of r) (3 + n) e)

-- where no bytes are left there is no record
pub nothing_left : brief_read None ≡ brief_of (record_of [])
nothing_left = ap brief_of (sym (record_cut [] (cut_header [] (omega arith))))

-- ---- no two answers stand for one record

pub above_zero : (r : Refusal) → 0 ≡ number_of r → ⊥
above_zero r e = let k : Ok tt ≡ Err r = same_answer (Ok tt) (Err r) e in cc

same_whole : (n m : ℕ) (a b : Result Step Refusal) → whole_read n a ≡ whole_read m b → (n ≡ m) × (a ≡ b)
same_whole n m (Ok t) (Ok u) e = let k : 3 + n ≡ 3 + m = ap (λ (x : Record). x.next) e in (omega arith, ap (λ (x : Record). Ok x.step) e)
same_whole n m (Ok t) (Err r) e = absurd (above_zero r (ap (λ (x : Record). x.number) e))
same_whole n m (Err r) (Ok t) e = absurd (above_zero r (ap (λ (x : Record). x.number) (sym e)))
same_whole n m (Err r) (Err q) e = let k : 3 + n ≡ 3 + m = ap (λ (x : Record). x.next) e in (omega arith, ap Err (same_refusal r q (ap (λ (x : Record). x.number) e)))

behind : (n : ℕ) (a : Result Step Refusal) → (whole_read n a).next ≡ 3 + n
behind n (Ok t) = refl
behind n (Err r) = refl

pub same_record : (a b : Option (Whole Step)) → record_read a ≡ record_read b → a ≡ b
same_record None None e = refl
same_record None (Some w) e = let k : 0 ≡ (whole_read w.length w.step).next = ap (λ (x : Record). x.next) e in absurd (omega (arith, behind w.length w.step))
same_record (Some w) None e = let k : (whole_read w.length w.step).next ≡ 0 = ap (λ (x : Record). x.next) e in absurd (omega (arith, behind w.length w.step))
same_record (Some w) (Some v) e = let h = same_whole w.length v.length w.step v.step e in ap₂ (λ (n : ℕ) (a : Result Step Refusal). Some (record { length = n; step = a })) h.0 h.1

-- nor for one without a begin's stamps and values
brief_in : BriefRecord → Brief
brief_in r = record {
  code = r.code;
  clock = r.clock;
  site = r.site;
  base = r.base;
  to = r.to;
  update = r.update;
  item = r.item;
  stamp = r.stamp;
  place = r.place;
}

same_whole_brief : (n m : ℕ) (a b : Result Brief Refusal) → whole_brief n a ≡ whole_brief m b → (n ≡ m) × (a ≡ b)
unfolding brief_of brief_in
same_whole_brief n m (Ok t) (Ok u) e = let k : 3 + n ≡ 3 + m = ap (λ (x : BriefRecord). x.next) e in (omega arith, ap (λ (x : BriefRecord). Ok (brief_in x)) e)
same_whole_brief n m (Ok t) (Err r) e = absurd (above_zero r (ap (λ (x : BriefRecord). x.number) e))
same_whole_brief n m (Err r) (Ok t) e = absurd (above_zero r (ap (λ (x : BriefRecord). x.number) (sym e)))
same_whole_brief n m (Err r) (Err q) e = let k : 3 + n ≡ 3 + m = ap (λ (x : BriefRecord). x.next) e in (omega arith, ap Err (same_refusal r q (ap (λ (x : BriefRecord). x.number) e)))

pub behind_brief : (n : ℕ) (a : Result Brief Refusal) → (whole_brief n a).next ≡ 3 + n
unfolding brief_of
behind_brief n (Ok t) = refl
behind_brief n (Err r) = refl

pub same_brief : (a b : Option (Whole Brief)) → brief_read a ≡ brief_read b → a ≡ b
unfolding brief_of
same_brief None None e = refl
same_brief None (Some w) e = let k : 0 ≡ (whole_brief w.length w.step).next = ap (λ (x : BriefRecord). x.next) e in absurd (omega (arith, behind_brief w.length w.step))
same_brief (Some w) None e = let k : (whole_brief w.length w.step).next ≡ 0 = ap (λ (x : BriefRecord). x.next) e in absurd (omega (arith, behind_brief w.length w.step))
same_brief (Some w) (Some v) e = let h = same_whole_brief w.length v.length w.step v.step e in ap₂ (λ (n : ℕ) (a : Result Brief Refusal). Some (record { length = n; step = a })) h.0 h.1
