-- The whole night: by its first byte, and what is answered of it.
use mathlib.Core.Path.{◌≡◌, refl, sym, ap, ◌∙◌, subst}
use mathlib.Core.Bool.{◌&&◌}
use mathlib.Core.List.{List, [], ◌∷◌}
use Prim.Native.Nat.{ℕ, ◌-◌, ◌≤◌, ◌<◌}
use native.Mathlib.Omega.{arith}
use borrow.Author.Tests.{eq-eqb, ne_eqb, le-leb, lt-leb}
use lib.Dec.{leb}
use lib.ListN.{length}
use Rattle.std.specs.Prelude.{Option, None, Some}
use Rattle.kit.specs.Lists.{put, placed}
use Rattle.kit.proofs.Bools.{clash, of_cond, by_le}
use Rattle.kit.proofs.Puts.{put_front, placed_in}
use Rattle.plans.specs.Answers.{refusal}
use Rattle.table.specs.Fresh.{fresh_for}
use Rattle.table.specs.declared.fresh.FreshTable.{FreshTable}
use Rattle.steps.specs.Night.{line_for, lines_from, night_of}
use Rattle.steps.proofs.Nights.{fresh_well}
use Rattle.steps.proofs.Upkeep.{Well}
use Rattle.house.specs.House.{Room, room_after, room_answer, night_length, night_printed, night_into}
use Rattle.house.proofs.Rooms.{room_in, room_out}

-- ---- by its first byte

pub night_none : (s : List ℕ) → length s ≡ 0 → night_of s ≡ line_for 0 (refusal 17)
unfolding night_of
night_none [] e = refl
night_none (n ∷ s) e = let c : ⊥ = omega arith in absurd c

module _ (n : ℕ) {f : FreshTable} (e : f ≡ fresh_for n) where
  number_is : (fresh_for n).number ≡ f.number
  number_is = sym (ap (λ (f : FreshTable). f.number) e)

  -- a number that is not 0 is 3
  number_3 : (f.number ≡ 0 → ⊥) → f.number ≡ 3
  unfolding fresh_for
  number_3 =
      subst (λ (m : ℕ). (m ≡ 0 → ⊥) → m ≡ 3) number_is
      (of_cond (λ (g : FreshTable). (g.number ≡ 0 → ⊥) → g.number ≡ 3) (leb 1 n && leb n 7) (λ t z. absurd (z refl)) (λ t z. refl))

  pub night_refused : (s : List ℕ) → (f.number ≡ 0 → ⊥) → night_of (n ∷ s) ≡ line_for 0 (refusal f.number)
  unfolding night_of
  night_refused s z = rw (ne_eqb (fresh_for n).number 0 (λ k. z (sym number_is ∙ k)), number_3 z) refl

  pub night_runs : (s : List ℕ) → f.number ≡ 0 → night_of (n ∷ s) ≡ lines_from f.table 1 s
  unfolding night_of
  night_runs s z = rw (eq-eqb (fresh_for n).number 0 (number_is ∙ z), e) refl

  pub night_well : f.number ≡ 0 → Well f.table
  night_well z = rw e (fresh_well n (number_is ∙ z))

-- ---- its lines, where they have room

-- one line, which is the whole night
pub line_of : (out l m : List ℕ) {out' : List ℕ} → out' ≡ placed out 0 l → m ≡ l → length m ≤ length out → out' ≡ put out 0 m
line_of out l m e g h = e ∙ ap (placed out 0) (sym g) ∙ placed_in out 0 m (omega arith)

-- ---- what is answered, by what they leave of a room

-- how many bytes are taken of the largest room there is
pub length_of : (s : List ℕ) (o : Option ℕ) → room_answer o ≡ room_after 18446744073709551615 (length (night_of s)) → 18446744073709551615 - (room_answer o).left ≡ night_length s
unfolding night_length
length_of s o e =
    by_le (length (night_of s)) 18446744073709551615
    (λ h. let l = ap (λ (r : Room). r.left) (e ∙ room_in 18446744073709551615 (length (night_of s)) h) in omega (arith, l))
    (λ h. let l = ap (λ (r : Room). r.left) (e ∙ room_out 18446744073709551615 (length (night_of s)) h) in omega (arith, l))

module _ (s out : List ℕ) where
  pub print_refused : room_answer None ≡ room_after (length out) (length (night_of s))
      → (record { number = 19; length = 0 } ≡ night_printed s (length out)) × (out ≡ night_into s out)
  unfolding night_printed night_into
  print_refused e =
      let h : length out < length (night_of s) =
      by_le (length (night_of s)) (length out) (λ h. clash (ap (λ (r : Room). r.enough) (e ∙ room_in (length out) (length (night_of s)) h)) refl) (λ h. h) in
      rw (lt-leb (length (night_of s)) (length out) h) (refl, refl)

  module _ (n : ℕ) (e : room_answer (Some n) ≡ room_after (length out) (length (night_of s))) where
    pub fits_in : length (night_of s) ≤ length out
    fits_in = by_le (length (night_of s)) (length out) (λ h. h) (λ h. clash refl (ap (λ (r : Room). r.enough) (e ∙ room_out (length out) (length (night_of s)) h)))

    left_is : n ≡ length out - length (night_of s)
    left_is = ap (λ (r : Room). r.left) (e ∙ room_in (length out) (length (night_of s)) fits_in)

    pub left_inside : n ≤ length out
    left_inside = omega (arith, left_is)

    pub print_done : {out' : List ℕ} → out' ≡ put out 0 (night_of s) → (record { number = 0; length = length out - n } ≡ night_printed s (length out)) × (out' ≡ night_into s out)
    unfolding night_printed night_into
    print_done p =
        let k : length out - n ≡ length (night_of s) = omega (arith, left_is, fits_in) in
        rw (le-leb (length (night_of s)) (length out) fits_in) (ap (λ (n : ℕ). record { number = 0; length = n }) k, p ∙ put_front out (night_of s))
