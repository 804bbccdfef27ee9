-- Where the first that passes stands, as the library finds it and as document 01's numbers say it.
use Rattle.std.proofs.Common.{Some, None, ◌≤◌, ◌<◌, ◌≡◌, ℕ, Bool, true, false, List, length, get_or, refl, arith}
use mathlib.Core.Path.{◌∙◌}
use borrow.Author.Tests.{eq-eqb, ne_eqb, lt-ltb, le-ltb}
use Rattle.std.specs.Prelude.{◌==◌, Option, eqb, not}
use Rattle.std.specs.List.{position_from, position_or_len}
use Rattle.std.proofs.lemmas.Iterator.Adapters.{position_from-zero}
use Rattle.std.proofs.lemmas.List.Sums.{position_or_len_is}
use Rattle.kit.specs.Range.{any, first}
use Rattle.kit.proofs.Bools.{by_test, by_lt}
use Rattle.kit.proofs.Ranges.{any_at, first_hit, first_le, first_none, first_same}
use Rattle.vote.specs.Data.{no_request, request_at}
use Rattle.vote.specs.declared.data.Request.{Request}
use Rattle.plans.specs.Pieces.{found, free_in, place_in}

module _ {X : Type 0} (p : X → Bool) (xs : List X) (n : ℕ) (d : X) (e : length xs ≡ n) where
  abbrev passes : ℕ → Bool
  passes k = p (get_or xs k d)

  first_elements : position_or_len p xs ≡ first n passes
  first_elements =
      by_test (any n passes)
      (λ t. let h = first_hit n passes t in position_or_len_is p xs (first n passes) d (omega (arith, h.0)) (λ k l. any_at passes (first n passes) k h.2 l) (λ l. h.1))
      (λ f. let h = first_none n passes f in position_or_len_is p xs (first n passes) d (omega (arith, h)) (λ k l. any_at passes n k f (omega (arith, h))) (λ l. absurd (omega (arith, h))))

  pub first_found : {r : Option ℕ} → r ≡ position_from p 0 xs → r ≡ found n (first n passes)
  unfolding found
  first_found h = h ∙ rw (← position_from-zero p xs, e, first_elements) refl

twice : (b : Bool) → b ≡ not (not b)
twice true = refl
twice false = refl

pub free_found : {r : Option ℕ} (rs : List Request) → length rs ≡ 16 → r ≡ position_from (λ q. q.stamp == 0) 0 rs → r ≡ found 16 (free_in rs)
unfolding free_in
free_found rs e h =
    first_found (λ (q : Request). eqb q.stamp 0) rs 16 no_request e h
    ∙ rw (first_same (λ p. eqb (request_at rs p).stamp 0) (λ p. not (not (eqb (request_at rs p).stamp 0))) 16 (λ i l. twice (eqb (request_at rs i).stamp 0))) refl

pub stamp_found : {r : Option ℕ} (rs : List Request) (stamp : ℕ) → length rs ≡ 16 → (stamp ≡ 0 → ⊥) → r ≡ position_from (λ q. q.stamp == stamp) 0 rs → r ≡ found 16 (place_in rs stamp)
unfolding place_in
stamp_found rs stamp e ne h = rw (ne_eqb stamp 0 ne) (first_found (λ (q : Request). eqb q.stamp stamp) rs 16 no_request e h)

pub none_found : (rs : List Request) (stamp : ℕ) → stamp ≡ 0 → None ≡ found 16 (place_in rs stamp)
unfolding place_in found
none_found rs stamp e = rw (eq-eqb stamp 0 e) refl

-- ---- what the code's places say of document 01's

pub found_there : (n k : ℕ) {p : ℕ} → found n k ≡ Some p → (k ≡ p) × (p < n)
unfolding found
found_there n k {p} e = by_lt k n (λ h. let q : Some k ≡ Some p = rw (lt-ltb k n h) at e in let r : k ≡ p = cc in (r, omega arith)) (λ h. absurd (let q : None ≡ Some p = rw (le-ltb k n h) at e in let z : ◌≡◌ {A = ℕ} 0 1 = cc in omega arith))

pub missing : (n k : ℕ) → found n k ≡ None → n ≤ k
unfolding found
missing n k e = by_lt k n (λ h. absurd (let q : Some k ≡ None = rw (lt-ltb k n h) at e in let z : ◌≡◌ {A = ℕ} 0 1 = cc in omega arith)) (λ h. h)

place_le : (rs : List Request) (stamp : ℕ) → place_in rs stamp ≤ 16
unfolding place_in
place_le rs stamp = by_test (eqb stamp 0) (λ e. rw e (omega arith)) (λ e. rw e (first_le 16 (λ p. eqb (request_at rs p).stamp stamp)))

pub none_with : (rs : List Request) (stamp : ℕ) → found 16 (place_in rs stamp) ≡ None → place_in rs stamp ≡ 16
none_with rs stamp e = let h = missing 16 (place_in rs stamp) e in let l = place_le rs stamp in omega arith

pub none_free : (rs : List Request) → found 16 (free_in rs) ≡ None → free_in rs ≡ 16
unfolding free_in
none_free rs e = let h = missing 16 (free_in rs) e in let l = first_le 16 (λ p. not (not (eqb (request_at rs p).stamp 0))) in omega arith
