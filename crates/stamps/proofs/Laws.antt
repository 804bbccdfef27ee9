-- The laws of stamps, each once: a stamp and its parts, well-formed stamps, issuing, and priority as a strict total order.
use mathlib.Core.Path.{◌≡◌, refl, sym, ◌∙◌, ap}
use mathlib.Core.Bool.{true, false, ◌&&◌}
use mathlib.Core.List.{List}
use mathlib.Core.Logic.{◌⊎◌, inl, inr}
use Prim.Native.Nat.{ℕ, ◌^◌, ◌≤◌, ◌<◌}
use native.Mathlib.Omega.{arith}
use borrow.Author.Tests.{eq-eqb, ne_eqb, leb-true, le-leb, lt-leb, lt-ltb, ltb-true}
use lib.Dec.{eqb, leb}
use lib.ListN.{get_or}
use Rattle.kit.proofs.Bools.{clash, by_test, by_eq, by_lt, by_le, and_left, and_right, cond_yes, cond_no}
use Rattle.kit.proofs.Ranges.{largest_at}
use Rattle.sets.specs.Sets.{member}
use Rattle.stamps.specs.Stamps.{last_time, stamp_of, time_of, digit_of, issued_form, well_formed, largest_time, next_time, higher}
use Rattle.stamps.specs.Issue.{given, past, issued, issue_number, issue_stamp, issue_last}

-- ---- a stamp and its parts

pub time_of_stamp : (t site : ℕ) → site < 8 → time_of (stamp_of t site) ≡ t
time_of_stamp t site h = omega arith

pub digit_of_stamp : (t site : ℕ) → site < 8 → digit_of (stamp_of t site) ≡ site
digit_of_stamp t site h = omega arith

pub stamp_of_parts : (stamp : ℕ) → stamp_of (time_of stamp) (digit_of stamp) ≡ stamp
stamp_of_parts stamp = omega arith

pub digit_lt : (stamp : ℕ) → digit_of stamp < 8
digit_lt stamp = omega arith

-- an earlier t is a smaller stamp, whatever the digits
pub earlier_smaller : (a b : ℕ) → time_of a < time_of b → a < b
earlier_smaller a b h = omega arith

-- ---- a stamp that some site of n may have issued

pub record IssuedBy (n stamp : ℕ) : Type 0 where
  pub from_one : 1 ≤ time_of stamp
  pub in_reach : time_of stamp ≤ last_time
  pub digit_one : 1 ≤ digit_of stamp
  pub of_site : digit_of stamp ≤ n

pub form_facts : (n stamp : ℕ) → issued_form n stamp ≡ true → IssuedBy n stamp
unfolding issued_form
form_facts n stamp e =
    let t = and_left (leb 1 (time_of stamp) && leb (time_of stamp) last_time) (leb 1 (digit_of stamp) && leb (digit_of stamp) n) e in
    let d = and_right (leb 1 (time_of stamp) && leb (time_of stamp) last_time) (leb 1 (digit_of stamp) && leb (digit_of stamp) n) e in
    record {
      from_one = leb-true 1 (time_of stamp) (and_left (leb 1 (time_of stamp)) (leb (time_of stamp) last_time) t);
      in_reach = leb-true (time_of stamp) last_time (and_right (leb 1 (time_of stamp)) (leb (time_of stamp) last_time) t);
      digit_one = leb-true 1 (digit_of stamp) (and_left (leb 1 (digit_of stamp)) (leb (digit_of stamp) n) d);
      of_site = leb-true (digit_of stamp) n (and_right (leb 1 (digit_of stamp)) (leb (digit_of stamp) n) d);
    }

-- as code asks it: t in range and some digit, and then the digit decides
pub form_site : (n stamp : ℕ) → 1 ≤ time_of stamp → time_of stamp ≤ last_time → 1 ≤ digit_of stamp → leb (digit_of stamp) n ≡ issued_form n stamp
unfolding issued_form
form_site n stamp h l d = rw (le-leb 1 (time_of stamp) h, le-leb (time_of stamp) last_time l, le-leb 1 (digit_of stamp) d)

pub form_of : {n stamp : ℕ} → IssuedBy n stamp → issued_form n stamp ≡ true
form_of {n} {stamp} i =
    sym (form_site n stamp i.from_one i.in_reach i.digit_one) ∙ le-leb (digit_of stamp) n i.of_site

-- no such stamp is 0; each has 35 bits; more sites may have issued it too
pub form_some : (n stamp : ℕ) → issued_form n stamp ≡ true → stamp ≡ 0 → ⊥
form_some n stamp e z = let i = form_facts n stamp e in omega (arith, i.from_one)

pub form_lt : (n stamp : ℕ) → issued_form n stamp ≡ true → stamp < 2 ^ 35
form_lt n stamp e = let i = form_facts n stamp e in omega (arith, i.in_reach)

pub form_wider : (n m stamp : ℕ) → n ≤ m → issued_form n stamp ≡ true → issued_form m stamp ≡ true
form_wider n m stamp h e =
    let i = form_facts n stamp e in
    form_of (record { from_one = i.from_one; in_reach = i.in_reach; digit_one = i.digit_one; of_site = omega (arith, i.of_site) })

-- ---- well formed: 0, or issued

pub well_zero : (n : ℕ) → well_formed n 0 ≡ true
unfolding well_formed
well_zero n = refl

pub well_issued : (n stamp : ℕ) → issued_form n stamp ≡ true → well_formed n stamp ≡ true
unfolding well_formed
well_issued n stamp e = rw (ne_eqb stamp 0 (form_some n stamp e)) e

-- of another stamp than 0 the two are one
pub well_other : (n stamp : ℕ) → (stamp ≡ 0 → ⊥) → well_formed n stamp ≡ issued_form n stamp
unfolding well_formed
well_other n stamp ne = rw (ne_eqb stamp 0 ne)

pub well_facts : (n stamp : ℕ) → well_formed n stamp ≡ true → (stamp ≡ 0) ⊎ IssuedBy n stamp
well_facts n stamp e = by_eq stamp 0 (λ z. inl z) (λ ne. inr (form_facts n stamp (sym (well_other n stamp ne) ∙ e)))

pub well_time : (n stamp : ℕ) → well_formed n stamp ≡ true → time_of stamp ≤ last_time
well_time n stamp e = by_eq stamp 0 (λ z. omega arith) (λ ne. (form_facts n stamp (sym (well_other n stamp ne) ∙ e)).in_reach)

-- ---- the next t of a site

pub largest_time_at : (base : ℕ) (stamps : List ℕ) (i : ℕ) → i < 24 → member base i ≡ true → time_of (get_or stamps i 0) ≤ largest_time base stamps
unfolding largest_time
largest_time_at base stamps i h m = largest_at 24 (member base) (λ j. time_of (get_or stamps j 0)) i h m

module _ (clock last base : ℕ) (stamps : List ℕ) where
  pub next_clock : clock ≤ next_time clock last base stamps
  unfolding next_time
  next_clock = omega arith

  pub next_last : last < next_time clock last base stamps
  unfolding next_time
  next_last = omega arith

  pub next_base : (i : ℕ) → i < 24 → member base i ≡ true → time_of (get_or stamps i 0) < next_time clock last base stamps
  unfolding next_time
  next_base i h m = let l : time_of (get_or stamps i 0) ≤ largest_time base stamps = largest_time_at base stamps i h m in omega arith

-- ---- issuing

module _ (site clock last base : ℕ) (stamps : List ℕ) where
  pub issued_given : next_time clock last base stamps ≤ last_time
      → issued site clock last base stamps ≡ given (stamp_of (next_time clock last base stamps) site) (next_time clock last base stamps)
  unfolding issued
  issued_given h = cond_yes _ _ (le-leb (next_time clock last base stamps) last_time h)

  pub issued_past : last_time < next_time clock last base stamps → issued site clock last base stamps ≡ past
  unfolding issued
  issued_past h = cond_no _ _ (lt-leb (next_time clock last base stamps) last_time h)

  -- a site that has issued the last t issues no more, whatever the clock
  pub issued_over : last ≡ last_time → issued site clock last base stamps ≡ past
  issued_over e = issued_past (let h : last < next_time clock last base stamps = next_last clock last base stamps in omega arith)

  -- what holds of a stamp that is given
  pub record GivenAt (stamp t : ℕ) : Type 0 where
    pub is_next : t ≡ next_time clock last base stamps
    pub is_stamp : stamp ≡ stamp_of t site
    pub in_reach : t ≤ last_time
    pub from_one : 1 ≤ t
    pub after_last : last < t
    pub after_clock : clock ≤ t
    pub after_base : (i : ℕ) → i < 24 → member base i ≡ true → time_of (get_or stamps i 0) < t

  pub given_facts : {stamp t : ℕ} → issued site clock last base stamps ≡ given stamp t → GivenAt stamp t
  given_facts {stamp} {t} e =
      by_le (next_time clock last base stamps) last_time
      (λ h. let w : given stamp t ≡ given (stamp_of (next_time clock last base stamps) site) (next_time clock last base stamps) = sym e ∙ issued_given h in facts h (ap (issue_last 0) w) (ap issue_stamp w))
      (λ h. let w : given stamp t ≡ past = sym e ∙ issued_past h in cc)
    where
      facts : next_time clock last base stamps ≤ last_time → t ≡ next_time clock last base stamps → stamp ≡ stamp_of (next_time clock last base stamps) site → GivenAt stamp t
      facts h n s =
          let l : last < next_time clock last base stamps = next_last clock last base stamps in
          record {
            is_next = n;
            is_stamp = rw n s;
            in_reach = rw n h;
            from_one = omega arith;
            after_last = omega arith;
            after_clock = rw n (next_clock clock last base stamps);
            after_base = λ i k m. rw n (next_base clock last base stamps i k m);
          }

  -- where the number is not 8, a stamp was given
  pub given_unless : eqb (issue_number (issued site clock last base stamps)) 8 ≡ false → (stamp : ℕ) × (t : ℕ) × (issued site clock last base stamps ≡ given stamp t)
  given_unless e =
      by_le (next_time clock last base stamps) last_time
      (λ h. (stamp_of (next_time clock last base stamps) site, next_time clock last base stamps, issued_given h))
      (λ h. clash refl (rw (issued_past h) at e))

  -- it is a stamp of that site, one that some site of n may have issued
  pub given_digit : {stamp t : ℕ} → issued site clock last base stamps ≡ given stamp t → site < 8 → digit_of stamp ≡ site
  given_digit {stamp} {t} e h = rw (given_facts e).is_stamp (digit_of_stamp t site h)

  pub given_time : {stamp t : ℕ} → issued site clock last base stamps ≡ given stamp t → site < 8 → time_of stamp ≡ t
  given_time {stamp} {t} e h = rw (given_facts e).is_stamp (time_of_stamp t site h)

  pub given_form : {stamp t : ℕ} (n : ℕ) → issued site clock last base stamps ≡ given stamp t → 1 ≤ site → site ≤ n → n ≤ 7 → issued_form n stamp ≡ true
  given_form {stamp} {t} n e h l w =
      let g = given_facts e in
      let d : digit_of stamp ≡ site = given_digit e (omega arith) in
      let m : time_of stamp ≡ t = given_time e (omega arith) in
      form_of (record { from_one = rw m g.from_one; in_reach = rw m g.in_reach; digit_one = rw d h; of_site = rw d l })

  -- it is larger than every stamp of an earlier t
  pub given_above : {stamp t : ℕ} → issued site clock last base stamps ≡ given stamp t → (old : ℕ) → time_of old < t → old < stamp
  given_above {stamp} {t} e old h = let s : stamp ≡ stamp_of t site = (given_facts e).is_stamp in omega arith

  -- than each base stamp of a base item, and than each that the site gave before
  pub given_larger : {stamp t : ℕ} → issued site clock last base stamps ≡ given stamp t → (i : ℕ) → i < 24 → member base i ≡ true → get_or stamps i 0 < stamp
  given_larger {stamp} {t} e i h m = given_above e (get_or stamps i 0) ((given_facts e).after_base i h m)

  pub given_new : {stamp t : ℕ} → issued site clock last base stamps ≡ given stamp t → (old : ℕ) → time_of old ≤ last → old < stamp
  given_new {stamp} {t} e old h = given_above e old (let l : last < t = (given_facts e).after_last in omega arith)

-- ---- priority: the two ways to be higher

pub higher_digit : (a b : ℕ) → digit_of a < digit_of b → higher a b ≡ true
unfolding higher
higher_digit a b h = rw (ne_eqb (digit_of a) (digit_of b) (λ e. omega arith), lt-ltb (digit_of a) (digit_of b) h)

pub higher_stamp : (a b : ℕ) → digit_of a ≡ digit_of b → a < b → higher a b ≡ true
unfolding higher
higher_stamp a b e h = rw (eq-eqb (digit_of a) (digit_of b) e, lt-ltb a b h)

-- and no other
pub by_higher : {P : Type 0} (a b : ℕ) → higher a b ≡ true → (digit_of a < digit_of b → P) → (digit_of a ≡ digit_of b → a < b → P) → P
unfolding higher
by_higher a b e f g =
    by_eq (digit_of a) (digit_of b) (λ s. g s (ltb-true a b (rw (eq-eqb (digit_of a) (digit_of b) s) at e)))
    (λ ne. f (ltb-true (digit_of a) (digit_of b) (rw (ne_eqb (digit_of a) (digit_of b) ne) at e)))

-- ---- the order

pub higher_irreflexive : (a : ℕ) → higher a a ≡ false
higher_irreflexive a = by_test (higher a a) (λ e. by_higher a a e (λ h. absurd (omega arith)) (λ s h. absurd (omega arith))) (λ f. f)

pub higher_transitive : (a b c : ℕ) → higher a b ≡ true → higher b c ≡ true → higher a c ≡ true
higher_transitive a b c p q =
    by_higher a b p
    (λ h. by_higher b c q (λ k. higher_digit a c (omega arith)) (λ s k. higher_digit a c (omega arith)))
    (λ s h. by_higher b c q (λ k. higher_digit a c (omega arith)) (λ r k. higher_stamp a c (omega arith) (omega arith)))

pub higher_asymmetric : (a b : ℕ) → higher a b ≡ true → higher b a ≡ false
higher_asymmetric a b p = by_test (higher b a) (λ q. clash (higher_transitive a b a p q) (higher_irreflexive a)) (λ f. f)

-- of two different stamps one is higher
pub higher_total : (a b : ℕ) → (a ≡ b → ⊥) → higher a b ≡ false → higher b a ≡ true
higher_total a b ne f =
    by_lt (digit_of a) (digit_of b) (λ h. clash (higher_digit a b h) f)
    (λ h. by_lt (digit_of b) (digit_of a) (λ k. higher_digit b a k)
    (λ k. by_lt a b (λ l. clash (higher_stamp a b (omega arith) l) f) (λ l. higher_stamp b a (omega arith) (omega (arith, ne)))))
