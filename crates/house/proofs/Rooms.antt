-- Room for bytes, what they leave of it, and bytes written into it.
use mathlib.Core.Path.{◌≡◌, refl, sym, ap, ◌∙◌}
use mathlib.Core.Bool.{true, false}
use mathlib.Core.List.{List, [], ◌∷◌, append_assoc}
use Prim.Native.Nat.{ℕ, ◌+◌, ◌-◌, ◌≤◌, ◌<◌}
use native.Mathlib.Omega.{arith}
use borrow.Author.Tests.{le-leb, lt-leb}
use lib.ListN.{length, take}
use lib.Seq.{drop-drop}
use borrow.Rule.Slice.PartMut.{put_mid}
use Rattle.kit.specs.Lists.{put, placed}
use Rattle.kit.proofs.Bools.{by_le}
use Rattle.kit.proofs.Puts.{put_none, placed_in, placed_out}
use Rattle.plans.specs.Answers.{refusal}
use Rattle.steps.specs.Night.{line_for, last_line}
use Rattle.std.specs.Option.{SomeIff}
use Rattle.std.specs.Prelude.{Option, None, Some}
use Rattle.house.specs.House.{room_after, room_answer}

-- ---- what is left

pub room_in : (room n : ℕ) → n ≤ room → room_after room n ≡ record { enough = true; left = room - n }
unfolding room_after
room_in room n h = rw (le-leb n room h)

pub room_out : (room n : ℕ) → room < n → room_after room n ≡ record { enough = false; left = 0 }
unfolding room_after
room_out room n h = rw (lt-leb n room h)

-- what a first piece leaves is there for the rest
pub room_rest : (left a n : ℕ) → a ≤ left → room_after (left - a) n ≡ room_after left (a + n)
room_rest left a n h =
    by_le n (left - a)
    (λ l. let e : left - a - n ≡ left - (a + n) = omega arith in rw (room_in (left - a) n l, room_in left (a + n) (omega arith), e) refl)
    (λ l. rw (room_out (left - a) n l, room_out left (a + n) (omega arith)) refl)

-- what `checked_sub` answers
pub room_told : (room n : ℕ) (o : Option ℕ) → SomeIff o (n ≤ room) (room - n) → room_answer o ≡ room_after room n
room_told room n (Some x) e = sym (room_in room n e.0 ∙ ap (λ (k : ℕ). record { enough = true; left = k }) (sym e.1))
room_told room n None e = by_le n room (λ h. absurd (e h)) (λ h. sym (room_out room n h))

-- ---- no bytes written change nothing

pub placed_none : (d : List ℕ) (at : ℕ) → placed d at [] ≡ d
placed_none d at =
    by_le (at + length {A = ℕ} []) (length d) (λ h. placed_in d at [] h ∙ put_none d at) (λ h. placed_out d at [] h)

-- ---- bytes copied into a part of a buffer

pub copied_in : (at k : ℕ) (d e f : List ℕ) → e ≡ f → length e ≡ k → put_mid at k d e ≡ put d at f
unfolding put
copied_in at k d e f q l = rw (← q, ← l, ← drop-drop (length e) at d) (sym (append_assoc (take at d) e _))

-- ---- the line of a record that is cut, where any bytes are left

pub last_none : (nth : ℕ) (rest : List ℕ) → length rest ≡ 0 → last_line nth rest ≡ []
unfolding last_line
last_none nth [] e = refl
last_none nth (b ∷ s) e = let c : ⊥ = omega arith in absurd c

pub last_some : (nth : ℕ) (rest : List ℕ) → (length rest ≡ 0 → ⊥) → last_line nth rest ≡ line_for nth (refusal 17)
unfolding last_line
last_some nth [] e = absurd (e refl)
last_some nth (b ∷ s) e = refl
