-- What the proofs of `pool` say of a machine's test, and of the offset of a place; and the lowest place that passes, counted by places and by messages.
use Rattle.std.proofs.Common.{◌≡◌, refl, sym, ℕ, zero, suc, ◌+◌, ◌*◌, ◌^◌, ◌<◌, Bool, true, false, not, cond, List, ◌∷◌, length, arith}
use lib.Dec.{T}
use native.Mathlib.Nat.{add_comm}
use native.Mathlib.Numerals.{add-one}
use borrow.Author.Tests.{lt-ltb, le-ltb}
use Rattle.std.specs.Prelude.{position, unwrap_or}
use Rattle.std.specs.List.{position_or_len}
use Rattle.std.proofs.lemmas.List.Recursion.{is_position_or_len}
use Rattle.kit.specs.Range.{any, first}
use Rattle.kit.proofs.Bools.{by_test, by_lt}
use Rattle.kit.proofs.Ranges.{any_at, none_of, first_is, first_none, first_hit, first_le}
use Rattle.table.specs.declared.data.Message.{Message}
use Rattle.pool.specs.Pool.{free_at}

-- a test that passed, and one that failed
pub passed : (c : Bool) → T c → c ≡ true
passed true t = refl
passed false t = absurd t

pub failed : (c : Bool) → T (not c) → c ≡ false
failed true t = absurd t
failed false t = refl

-- a message takes 19 bytes, and all of them fewer than 2 ^ 63: so the offset of each fits a usize
pub offset_fits : {i n : ℕ} → i < n → n * 19 < 2 ^ 63 → i * 19 < 2 ^ 64
offset_fits h r = omega arith

-- ---- the lowest place

none_shifted : (n : ℕ) (p : ℕ → Bool) → p 0 ≡ false → any n (λ j. p (suc j)) ≡ false → any (suc n) p ≡ false
none_shifted n p e f = none_of (suc n) p go
  where
    go : (i : ℕ) → i < suc n → p i ≡ false
    go zero h = e
    go (suc i) h = any_at (λ j. p (suc j)) n i f (omega arith)

first_step : (n : ℕ) (p : ℕ → Bool) → first (suc n) p ≡ cond (p 0) 0 (1 + first n (λ j. p (suc j)))
first_step n p =
    by_test (p 0) (λ e. rw e (first_is (suc n) 0 p (none_of 0 p (λ i h. absurd (omega arith))) (omega arith) e))
    (λ e. by_test (any n (λ j. p (suc j)))
    (λ t. let h = first_hit n (λ j. p (suc j)) t in rw (e, add_comm 1 (first n (λ j. p (suc j))), add-one) (first_is (suc n) (suc (first n (λ j. p (suc j)))) p (none_shifted (first n (λ j. p (suc j))) p e h.2) (omega (arith, h.0)) h.1))
    (λ f. rw (e, first_none n (λ j. p (suc j)) f, add_comm 1 n, add-one) (first_none (suc n) p (none_shifted n p e f))))

lowest_position : (pool : List Message) → position_or_len (λ m. not m.used) pool ≡ first (length pool) (free_at pool)
unfolding first
lowest_position pool = sym (is_position_or_len (λ xs. first (length xs) (free_at xs)) (λ m. not m.used) refl (λ x xs. first_step (length xs) (free_at (x ∷ xs))) pool)

pub lowest_or_length : (pool : List Message) → unwrap_or (position (λ m. not m.used) pool) (length pool) ≡ first (length pool) (free_at pool)
lowest_or_length pool =
    by_lt (position_or_len (λ m. not m.used) pool) (length pool) (λ h. rw (lt-ltb _ _ h) (lowest_position pool))
    (λ h. rw (le-ltb _ _ h) (let e = lowest_position pool in let l = first_le (length pool) (free_at pool) in omega arith))
