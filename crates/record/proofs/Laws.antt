-- What the layers above cite of a record that was read: where the next one starts, that it depends on its own bytes alone, and what its step keeps to.
use mathlib.Core.Path.{◌≡◌, refl, sym, ap, ◌∙◌, subst}
use mathlib.Core.Bool.{true, false, ◌&&◌}
use mathlib.Core.Logic.{◌⊎◌, inl, inr}
use mathlib.Core.List.{List, ◌++◌}
use Prim.Native.Nat.{ℕ, ◌+◌, ◌^◌, ◌≤◌, ◌<◌}
use native.Mathlib.Omega.{arith}
use borrow.Author.Tests.{ltb-false, eqb-true, leb-true}
use lib.Dec.{lit<, eqb, leb, ltb}
use lib.IntN.{pos}
use lib.ListN.{length, get_or, take, drop, replicate, length-append, length-drop, take-append-drop, get_or-append, get_or-eq_default}
use lib.Seq.{get_or-drop, length-take-le, take-append-le, drop-append-le}
use Rattle.kit.proofs.Bools.{clash, by_test, by_lt, of_cond, or_left, or_right, and_left, and_right, cond_yes, cond_no}
use Rattle.kit.proofs.Fields.{field_front, field_lt, take_small}
use Rattle.kit.proofs.Listings.{length_listed, listed_at, replicate_at}
use Rattle.sets.specs.Sets.{member, of_items}
use Rattle.sets.proofs.Members.{items_of}
use Rattle.record.specs.Bodies.{blank_step, entry_at, by_item, stamp_at, value_at, base_of, update_of, values_from, begin_step, tell_step, place_step, site_step, retire_step, read_step}
use Rattle.record.specs.Records.{Record, code_of, length_of, end_of, body_of, Asked, asked, refused, taken, answered, body_read, is_cut, record_of}
use Rattle.record.specs.Records.Asked.{unknown, known}
use Rattle.record.specs.declared.Step.{Step}
use Rattle.record.proofs.Frames.{not_cut, record_cut, record_whole}

-- ---- by cases: "a cut record is 17, else an unknown code is 2, else a wrong length is 17"

module _ (s : List ℕ) where
  -- a record that is not cut has its header and its body
  pub has_header : is_cut s ≡ false → 3 ≤ length s
  unfolding is_cut
  has_header e = ltb-false (length s) 3 (or_left (ltb (length s) 3) (ltb (length s) (end_of s)) e)

  pub has_body : is_cut s ≡ false → end_of s ≤ length s
  unfolding is_cut
  has_body e = ltb-false (length s) (end_of s) (or_right (ltb (length s) 3) (ltb (length s) (end_of s)) e)

  pub by_record : (P : Record → Type 0) → (is_cut s ≡ true → P (refused 17 0))
      → (is_cut s ≡ false → asked (code_of s) (body_of s) ≡ unknown → P (refused 2 (end_of s)))
      → (is_cut s ≡ false → P (refused 17 (end_of s)))
      → ((m : ℕ) (t : Step) → is_cut s ≡ false → asked (code_of s) (body_of s) ≡ known m t → length (body_of s) ≡ m → P (taken (end_of s) t))
      → P (record_of s)
  unfolding record_of body_read
  by_record P cut none wrong right = of_cond P (is_cut s) cut (λ e. whole e (asked (code_of s) (body_of s)) refl)
    where
      whole : is_cut s ≡ false → (a : Asked) → asked (code_of s) (body_of s) ≡ a → P (answered a (length (body_of s)) (end_of s))
      whole e unknown q = none e q
      whole e (known m t) q =
          of_cond P (eqb (length (body_of s)) m) (λ l. right m t e q (eqb-true (length (body_of s)) m l)) (λ l. wrong e)

  -- ---- where the next record starts

  pub next_cut : is_cut s ≡ true → (record_of s).next ≡ 0
  next_cut e = ap (λ (r : Record). r.next) (record_cut s e)

  -- whether it is refused or not
  pub next_whole : is_cut s ≡ false → (record_of s).next ≡ 3 + length_of s
  next_whole e = by_record (λ (r : Record). r.next ≡ end_of s) (λ t. clash t e) (λ f a. refl) (λ f. refl) (λ m t f a l. refl)

  -- a caller that finds a next record knows that this one is not cut
  pub whole_next : ((record_of s).next ≡ 0 → ⊥) → is_cut s ≡ false
  whole_next h = by_test (is_cut s) (λ t. absurd (h (next_cut t))) (λ f. f)

  -- and one that finds none, that it is
  pub cut_next : (record_of s).next ≡ 0 → is_cut s ≡ true
  cut_next h = by_test (is_cut s) (λ t. t) (λ f. absurd (let e = next_whole f in let z : ⊥ = omega arith in z))

  pub next_inside : (record_of s).next ≤ length s
  next_inside = by_test (is_cut s) (λ t. rw (next_cut t) (omega arith)) (λ f. rw (next_whole f) (has_body f))

  pub length_body : is_cut s ≡ false → length (body_of s) ≡ length_of s
  length_body e = length-take-le (length_of s) (drop 3 s) (rw length-drop (omega (arith, has_body e)))

  -- ---- "The record reader knows only 2 and 17"

  pub numbers : ((record_of s).number ≡ 0) ⊎ (((record_of s).number ≡ 2) ⊎ ((record_of s).number ≡ 17))
  numbers =
      by_record (λ (r : Record). (r.number ≡ 0) ⊎ ((r.number ≡ 2) ⊎ (r.number ≡ 17))) (λ t. inr (inr refl)) (λ f a. inr (inl refl)) (λ f. inr (inr refl))
      (λ m t f a l. inl refl)

  -- "Each returns zeros beside it"
  pub refused_blank : ((record_of s).number ≡ 0 → ⊥) → (record_of s).step ≡ blank_step
  refused_blank =
      by_record (λ (r : Record). (r.number ≡ 0 → ⊥) → r.step ≡ blank_step) (λ t h. refl) (λ f a h. refl) (λ f h. refl) (λ m t f a l h. absurd (h refl))

-- ---- the code

-- what a code asks for is a step of that code, from 1 to 8
pub asked_code : (c : ℕ) (b : List ℕ) (m : ℕ) (t : Step) → asked c b ≡ known m t → (t.code ≡ c) × (1 ≤ c) × (c ≤ 8)
unfolding asked begin_step tell_step place_step site_step retire_step read_step
asked_code c b m t e = subst Coded e each
  where
    Coded : Asked → Type 0
    Coded unknown = Unit {0}
    Coded (known m t) = (t.code ≡ c) × (1 ≤ c) × (c ≤ 8)

    one : (k : ℕ) → 1 ≤ k → k ≤ 8 → eqb c k ≡ true → (k ≡ c) × (1 ≤ c) × (c ≤ 8)
    one k l h e = let q : c ≡ k = eqb-true c k e in (sym q, omega arith, omega arith)

    some : (k l : ℕ) → 1 ≤ k → l ≤ 8 → (leb k c && leb c l) ≡ true → (c ≡ c) × (1 ≤ c) × (c ≤ 8)
    some k l x y e =
        let p : k ≤ c = leb-true k c (and_left (leb k c) (leb c l) e) in
        let q : c ≤ l = leb-true c l (and_right (leb k c) (leb c l) e) in
        (refl, omega arith, omega arith)

    each : Coded (asked c b)
    each =
        of_cond Coded (eqb c 1) (one 1 (omega arith) (omega arith))
        (λ _. of_cond Coded (eqb c 2) (one 2 (omega arith) (omega arith))
        (λ _. of_cond Coded (leb 3 c && leb c 4) (some 3 4 (omega arith) (omega arith))
        (λ _. of_cond Coded (leb 5 c && leb c 6) (some 5 6 (omega arith) (omega arith))
        (λ _. of_cond Coded (eqb c 7) (one 7 (omega arith) (omega arith))
        (λ _. of_cond Coded (eqb c 8) (one 8 (omega arith) (omega arith)) (λ _. tt))))))

pub taken_code : (s : List ℕ) → (record_of s).number ≡ 0 → ((record_of s).step.code ≡ code_of s) × (1 ≤ code_of s) × (code_of s ≤ 8)
taken_code s =
    by_record s (λ (r : Record). r.number ≡ 0 → (r.step.code ≡ code_of s) × (1 ≤ code_of s) × (code_of s ≤ 8)) (λ t h. absurd (let z : ⊥ = omega arith in z))
    (λ f a h. absurd (let z : ⊥ = omega arith in z)) (λ f h. absurd (let z : ⊥ = omega arith in z))
    (λ m t f a l h. asked_code (code_of s) (body_of s) m t a)

-- ---- a record depends on its own bytes alone

length_front : (l r : List ℕ) → 3 ≤ length l → length_of (l ++ r) ≡ length_of l
length_front l r h = field_front l r 1 2 (omega arith) h

-- more bytes behind a record that is not cut change nothing
pub more_bytes : (s rest : List ℕ) → is_cut s ≡ false → record_of (s ++ rest) ≡ record_of s
more_bytes s rest e =
    let h = has_header s e in
    let b = has_body s e in
    let n : length_of (s ++ rest) ≡ length_of s = length_front s rest h in
    let whole : is_cut (s ++ rest) ≡ false = not_cut (s ++ rest) (rw length-append (omega arith)) (rw (n, length-append) (omega arith)) in
    let body : body_of (s ++ rest) ≡ body_of s =
    rw (n, drop-append-le 3 s rest h) (take-append-le (length_of s) (drop 3 s) rest (rw length-drop (omega arith))) in
    record_whole (s ++ rest) whole ∙ rw (body, n, get_or-append s rest 0 0 (omega arith)) (sym (record_whole s e))

-- only those up to its end count
pub own_bytes : (s rest : List ℕ) → is_cut s ≡ false → record_of (take (record_of s).next s ++ rest) ≡ record_of s
own_bytes s rest e =
    ap (λ (k : ℕ). record_of (take k s ++ rest)) (next_whole s e)
    ∙ more_bytes front rest whole ∙ sym (more_bytes front (drop (end_of s) s) whole) ∙ ap record_of (take-append-drop (end_of s) s)
  where
    front : List ℕ
    front = take (end_of s) s

    long : length front ≡ end_of s
    long = length-take-le (end_of s) s (has_body s e)

    same : length_of front ≡ length_of s
    same = sym (length_front front (drop (end_of s) s) (rw long (omega arith))) ∙ ap length_of (take-append-drop (end_of s) s)

    whole : is_cut front ≡ false
    whole = not_cut front (rw long (omega arith)) (rw (same, long) (omega arith))

-- ---- entries by item

module _ {A : Type 0} (none : A) (f : ℕ → A) (start w s : ℕ) where
  pub length_by_item : length (by_item none f start w s) ≡ 24
  unfolding by_item
  length_by_item = length_listed 24 _

  pub by_item_in : (i : ℕ) → i < 24 → member s i ≡ true → get_or (by_item none f start w s) i none ≡ f (entry_at start w s i)
  unfolding by_item
  by_item_in i h e = listed_at 24 i _ none h ∙ cond_yes _ none e

  by_item_above : (i : ℕ) → 24 ≤ i → get_or (by_item none f start w s) i none ≡ none
  by_item_above i h = get_or-eq_default (by_item none f start w s) none {n = i} (rw length_by_item h)

  -- an item outside the set, or above 23
  pub by_item_out : (i : ℕ) → member s i ≡ false → get_or (by_item none f start w s) i none ≡ none
  unfolding by_item
  by_item_out i e =
      by_lt i 24 (λ h. listed_at 24 i _ none h ∙ cond_no (f (entry_at start w s i)) none e)
      (by_item_above i)

  -- what holds of `none` and of each entry holds at each item
  pub by_item_each : (P : A → Type 0) → P none → ((at : ℕ) → P (f at)) → (i : ℕ) → P (get_or (by_item none f start w s) i none)
  by_item_each P p q i =
      by_lt i 24
      (λ h. by_test (member s i) (λ t. rw (by_item_in i h t) (q (entry_at start w s i))) (λ t. rw (by_item_out i t) p))
      (λ h. rw (by_item_above i h) p)

-- ---- what a step that was read keeps to

pub record Keeps (t : Step) : Type 0 where
  pub base_lt : t.base < 2 ^ 24
  pub update_lt : t.update < 2 ^ 24
  pub clock_lt : t.clock < 2 ^ 32
  pub stamp_lt : t.stamp < 2 ^ 40
  pub stamps_long : length t.stamps ≡ 24
  pub values_long : length t.values ≡ 24
  pub stamps_lt : (i : ℕ) → get_or t.stamps i 0 < 2 ^ 40
  pub stamps_out : (i : ℕ) → member t.base i ≡ false → get_or t.stamps i 0 ≡ 0
  pub values_out : (i : ℕ) → member t.update i ≡ false → get_or t.values i (pos 0) ≡ pos 0

-- "3 bytes hold 24 bits": no item above 23 is in either set
pub base_items : {t : Step} → Keeps t → of_items t.base ≡ true
base_items {t} k = items_of t.base k.base_lt

pub update_items : {t : Step} → Keeps t → of_items t.update ≡ true
update_items {t} k = items_of t.update k.update_lt

-- a step with no sets
plain_keeps : (t : Step) → t.base ≡ 0 → t.update ≡ 0 → t.clock ≡ 0 → t.stamps ≡ replicate 24 0 → t.values ≡ replicate 24 (pos 0)
    → t.stamp < 2 ^ 40 → Keeps t
plain_keeps t b u c ss vs h = record {
  base_lt = rw b (lit< tt);
  update_lt = rw u (lit< tt);
  clock_lt = rw c (lit< tt);
  stamp_lt = h;
  stamps_long = rw ss;
  values_long = rw vs;
  stamps_lt = λ i. rw (ss, replicate_at {A = ℕ} 24 i 0) (lit< tt);
  stamps_out = λ i m. rw ss (replicate_at 24 i 0);
  values_out = λ i m. rw vs (replicate_at 24 i (pos 0));
}

module _ (b : List ℕ) (small : (i : ℕ) → get_or b i 0 < 256) where
  begin_keeps : Keeps (begin_step b)
  unfolding begin_step
  begin_keeps = record {
    base_lt = field_lt b 5 3 small;
    update_lt = field_lt b 8 3 small;
    clock_lt = field_lt b 1 4 small;
    stamp_lt = lit< tt;
    stamps_long = length_by_item 0 (stamp_at b) 11 5 (base_of b);
    values_long = length_by_item (pos 0) (value_at b) (values_from b) 4 (update_of b);
    stamps_lt = by_item_each 0 (stamp_at b) 11 5 (base_of b) (λ (n : ℕ). n < 2 ^ 40) (lit< tt) (λ at. field_lt b at 5 small);
    stamps_out = by_item_out 0 (stamp_at b) 11 5 (base_of b);
    values_out = by_item_out (pos 0) (value_at b) (values_from b) 4 (update_of b);
  }

  -- whatever the code asks for
  asked_keeps : (c : ℕ) → (m : ℕ) (t : Step) → asked c b ≡ known m t → Keeps t
  unfolding asked tell_step place_step site_step retire_step read_step
  asked_keeps c m t e = subst Kept e each
    where
      Kept : Asked → Type 0
      Kept unknown = Unit {0}
      Kept (known m t) = Keeps t

      each : Kept (asked c b)
      each =
          of_cond Kept (eqb c 1) (λ _. begin_keeps)
          (λ _. of_cond Kept (eqb c 2) (λ _. plain_keeps (tell_step b) refl refl refl refl refl (field_lt b 1 5 small))
          (λ _. of_cond Kept (leb 3 c && leb c 4) (λ _. plain_keeps (place_step c b) refl refl refl refl refl (lit< tt))
          (λ _. of_cond Kept (leb 5 c && leb c 6) (λ _. plain_keeps (site_step c b) refl refl refl refl refl (lit< tt))
          (λ _. of_cond Kept (eqb c 7) (λ _. plain_keeps (retire_step b) refl refl refl refl refl (field_lt b 0 5 small))
          (λ _. of_cond Kept (eqb c 8) (λ _. plain_keeps (read_step b) refl refl refl refl refl (lit< tt)) (λ _. tt))))))

-- the step of any record, refused or not
pub record_keeps : (s : List ℕ) → ((i : ℕ) → get_or s i 0 < 256) → Keeps (record_of s).step
record_keeps s small =
    by_record s (λ (r : Record). Keeps r.step) (λ _. blank) (λ _ _. blank) (λ _. blank)
    (λ m t _ a _. asked_keeps (body_of s) (take_small (length_of s) (drop 3 s) (λ i. rw get_or-drop (small (3 + i)))) (code_of s) m t a)
  where
    blank : Keeps blank_step
    blank = plain_keeps blank_step refl refl refl refl refl (lit< tt)
