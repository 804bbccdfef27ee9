-- Bench case 7, worked out: there are histories in which requests are accepted and rejected, and covering one way only does not exclude.
-- One site, stamps 0. One request has base {0, 1} and update {0}, the other base and update {1}: only the second covers the first.
use Prim.Native.Nat.{ℕ, ◌≤◌, ◌<◌}
use mathlib.Core.Path.{◌≡◌, refl, sym, ◌∙◌, ap, subst}
use mathlib.Core.Logic.{inl}
use mathlib.Core.Bool.{true}
use mathlib.Core.List.{[], ◌∷◌}
use native.Mathlib.Omega.{arith}
use lib.Dec.{eqb, ltb}
use borrow.Author.Tests.{eqb-true, lt-ltb}
use Rattle.kit.specs.Lists.{◌among◌}
use Rattle.kit.specs.Range.{number}
use Rattle.kit.proofs.Members.{here, further, in_none, in_either, not_front}
use Rattle.majority.specs.Majority.{majority, blocking}
use Rattle.majority.proofs.Majorities.{majority_le, blocking_le}
use Rattle.ledger.specs.Ledger.{Request, Event, begin, ok, against, accept, reject, History, Proper, Covers, Concurrent}
use Rattle.ledger.specs.Ledger.{writes, written, copy_of, acceptances, of_site, copy_at, Accepted, Quorum, Valid, start, next}
use Rattle.ledger.specs.Order.{named, first_met, order, overwritten, carried, Serial}
use Rattle.ledger.proofs.Orders.{serial, exclusive}

-- the two requests, with the stamp k
abbrev pub wide : ℕ → Request ℕ
wide k = record { stamp = k; base = λ i. ltb i 2; update = λ i. eqb i 0; base_stamp = λ i. 0; new_value = λ i. 5 }

abbrev pub narrow : ℕ → Request ℕ
narrow k = record { stamp = k; base = λ i. eqb i 1; update = λ i. eqb i 1; base_stamp = λ i. 0; new_value = λ i. 6 }

wide_proper : (k : ℕ) → 0 < k → Proper (wide k)
wide_proper k h = record { some = (0, refl); inside = λ i u. lt-ltb i 2 (omega (arith, eqb-true i 0 u)); later = λ i b. omega arith }

narrow_proper : (k : ℕ) → 0 < k → Proper (narrow k)
narrow_proper k h = record { some = (1, refl); inside = λ i u. u; later = λ i b. omega arith }

-- ---- of one site, that one is enough

only_site : (k : ℕ) → k ≤ 1 → {e : ℕ → Event ℕ} {h : History ℕ} → e 0 among h → Quorum 1 k h e
unfolding number
only_site k l {e} {h} m = record { who = λ s. true; many = omega arith; did = λ s b w. subst (λ (j : ℕ). e j among h) (omega arith) m }

accepting : {r : Request ℕ} {h : History ℕ} → ok 0 r among h → Quorum 1 (majority 1) h (λ t. ok t r)
accepting m = only_site (majority 1) (omega (arith, majority_le 1 (omega arith))) m

rejecting : {r : Request ℕ} {h : History ℕ} → against 0 r among h → Quorum 1 (blocking 1) h (λ t. against t r)
rejecting m = only_site (blocking 1) (omega (arith, blocking_le 1 (omega arith))) m

-- ---- the first request is begun, voted OK and accepted

abbrev pub first_in : Request ℕ → History ℕ
first_in r = accept 0 r ∷ ok 0 r ∷ begin r ∷ []

pub first_accepted : (r : Request ℕ) → Proper r → ((i : ℕ) → r.base_stamp i ≡ 0) → Valid 1 0 (first_in r)
unfolding acceptances of_site copy_of
first_accepted r p zeros = next {e = accept 0 r} (next {e = ok 0 r} (next {e = begin r} start
    (record { fresh = λ q m. in_none m; proper = p }))
    (record {
      begun = here refl;
      free = λ m. in_none (not_front (λ e. cc) m);
      same = λ i b. omega (arith, zeros i);
      clear = λ q m c. in_none (not_front (λ e. cc) m);
    }))
    (accepting (here refl))

-- then there is no other in the history
begun_first : (q r : Request ℕ) → begin q among first_in r → q ≡ r
begun_first q r m = in_either (not_front (λ e. cc) (not_front (λ e. cc) m)) (λ e. cc) (λ k. in_none k)

voted_first : (q r d : Request ℕ) → ok 0 q among begin d ∷ first_in r → q ≡ r
voted_first q r d m = in_either (not_front (λ e. cc) (not_front (λ e. cc) m)) (λ e. cc) (λ k. in_none (not_front (λ e. cc) k))

-- the second begins
second_begun : (q r : Request ℕ) → Proper q → (r.stamp ≡ q.stamp → ⊥) → Valid 1 0 (first_in r) → Valid 1 0 (begin q ∷ first_in r)
second_begun q r p other v =
    next {e = begin q} v (record { fresh = λ d m e. other (sym (ap (λ (a : Request ℕ). a.stamp) (begun_first d r m)) ∙ e); proper = p })

-- ---- "base {0, 1} update {0}, then base and update {1}: both accepted"

abbrev pub both_in : History ℕ
both_in = accept 0 (narrow 17) ∷ ok 0 (narrow 17) ∷ begin (narrow 17) ∷ first_in (wide 9)

pub case_seven : Valid 1 0 both_in
unfolding acceptances of_site copy_of written writes
case_seven = next {e = accept 0 (narrow 17)} (next {e = ok 0 (narrow 17)}
    (second_begun (narrow 17) (wide 9) (narrow_proper 17 (omega arith)) (λ e. omega arith)
    (first_accepted (wide 9) (wide_proper 9 (omega arith)) (λ i. refl)))
    (record {
      begun = here refl;
      free = λ m. in_none (not_front (λ e. cc) (not_front (λ e. cc) (not_front (λ e. cc) (not_front (λ e. cc) m))));
      same = λ i b. subst (λ (j : ℕ). (copy_at 0 (begin (narrow 17) ∷ first_in (wide 9)) 0 j).stamp ≡ 0) (sym (eqb-true i 1 b)) refl;
      clear = λ q m c. inl (further (here (ap (accept 0) (voted_first q (wide 9) (narrow 17) m))));
    }))
    (accepting (here refl))

-- both are in the order, the last one first, and the single copy has both readings
pub case_seven_order : order both_in ≡ narrow 17 ∷ wide 9 ∷ []
unfolding acceptances first_met named
case_seven_order = refl

pub case_seven_copy : ((carried 0 (order both_in) 0).stamp ≡ 9) × ((carried 0 (order both_in) 1).stamp ≡ 17)
unfolding acceptances first_met named carried overwritten
case_seven_copy = (refl, refl)

-- as the theorem on the serial order says
pub case_seven_serial : Serial 0 (order both_in)
case_seven_serial = serial case_seven

-- So exclusion needs covering both ways: these are concurrent, one covers the other, and both are accepted.
pub case_seven_one_way : Covers (narrow 17) (wide 9) × Concurrent (narrow 17) (wide 9) × Accepted both_in (narrow 17) × Accepted both_in (wide 9)
case_seven_one_way = (record { item = 1; updates = refl; based = refl }, λ i a b. refl, (0, here refl), (0, further (further (further (here refl)))))

-- And by exclusion the first does not cover the second.
pub case_seven_not_back : Covers (wide 9) (narrow 17) → ⊥
case_seven_not_back c =
    let a = case_seven_one_way in
    exclusive case_seven (λ e. omega (arith, ap (λ (r : Request ℕ). r.stamp) e)) a.0 c a.1 a.2 a.3

-- ---- "In the other order the second is rejected."

abbrev pub one_in : History ℕ
one_in = reject 0 (wide 17) ∷ against 0 (wide 17) ∷ begin (wide 17) ∷ first_in (narrow 9)

pub case_seven_other : Valid 1 0 one_in
case_seven_other = next {e = reject 0 (wide 17)} (next {e = against 0 (wide 17)}
    (second_begun (wide 17) (narrow 9) (wide_proper 17 (omega arith)) (λ e. omega arith)
    (first_accepted (narrow 9) (narrow_proper 9 (omega arith)) (λ i. refl)))
    (record { begun = here refl; free = λ m. wrong (voted_first (wide 17) (narrow 9) (wide 17) m) }))
    (rejecting (here refl))
  where
    wrong : wide 17 ≡ narrow 9 → ⊥
    wrong e = omega (arith, ap (λ (a : Request ℕ). a.stamp) e)

-- its base stamp is behind the copy's there, so it could not have been voted OK
pub case_seven_stale : (wide 17).base_stamp 1 < (copy_at 0 (begin (wide 17) ∷ first_in (narrow 9)) 0 1).stamp
unfolding acceptances of_site copy_of written writes
case_seven_stale = omega arith
