-- A message as the code asks it; `at` is its place as an index.
use mathlib.Core.Path.{◌≡◌, sym, ◌∙◌}
use mathlib.Core.Bool.{Bool, true, false, not, ◌&&◌}
use mathlib.Core.List.{List}
use Prim.Native.Nat.{ℕ, ◌<◌, ◌≤◌}
use native.Mathlib.Omega.{arith}
use borrow.Author.Tests.{lt-ltb, le-ltb}
use lib.Dec.{eqb, ltb}
use lib.ListN.{get_or}
use Rattle.kit.proofs.Bools.{cond_no}
use Rattle.table.specs.Blank.{is_blank_message}
use Rattle.table.specs.Parts.{rows_at, rows_of, content_right, message_sound}
use Rattle.table.specs.declared.data.Message.{Message}
use Rattle.table.proofs.Marked.{rows_in}

module _ (n : ℕ) (oks others : List Bool) (stamps : List ℕ) (m : Message) where
  pub message_unused : {r : Bool} → m.used ≡ false → r ≡ is_blank_message m → r ≡ message_sound n (rows_of oks others) stamps m
  unfolding message_sound
  message_unused u e = e ∙ sym (cond_no _ (is_blank_message m) u)

  module _ (u : m.used ≡ true) {at : ℕ} (e : at ≡ m.request) where
    pub message_stray : 15 < at → false ≡ message_sound n (rows_of oks others) stamps m
    unfolding message_sound
    message_stray h = rw (u, le-ltb m.request 16 (omega arith))

    pub message_free : at ≤ 15 → {f : Bool} → f ≡ eqb (get_or stamps at 0) 0 → f ≡ true → false ≡ message_sound n (rows_of oks others) stamps m
    unfolding message_sound
    message_free h k z = rw (u, lt-ltb m.request 16 (omega arith), ← e, ← k, z)

    module _ (h : at ≤ 15) {free : Bool} (k : free ≡ eqb (get_or stamps at 0) 0) (z : free ≡ false) {a : Bool} (f : a ≡ (ltb m.from n && (ltb m.to n && not (eqb m.from m.to)))) where
      pub message_nowhere : a ≡ false → a ≡ message_sound n (rows_of oks others) stamps m
      unfolding message_sound
      message_nowhere o = rw (u, lt-ltb m.request 16 (omega arith), ← f, o, ← e, ← k, z)

      pub message_sent : a ≡ true → {r : Bool} → r ≡ content_right n (rows_at oks others at) m → r ≡ message_sound n (rows_of oks others) stamps m
      unfolding message_sound
      message_sent t {r} g = rw (u, lt-ltb m.request 16 (omega arith), ← f, t, ← e, ← k, z, rows_in oks others at (omega arith)) g
