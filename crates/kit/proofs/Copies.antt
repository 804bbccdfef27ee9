-- The loop that copies the first n elements of a list into another, from a place on.
use mathlib.Core.Path.{◌≡◌, refl, sym, ap, ◌∙◌}
use mathlib.Core.List.{List, ◌++◌}
use Prim.Native.Nat.{ℕ, ◌+◌, ◌≤◌, ◌<◌}
use native.Mathlib.Nat.{le_antisymm}
use native.Mathlib.Numerals.{add-one}
use native.Mathlib.Omega.{arith}
use lib.ListN.{length, take, drop, get_or, set, length-set}
use lib.Seq.{paste, paste-zero, paste-suc, length-take-le, take-length}
use Rattle.kit.specs.Lists.{put, placed}
use Rattle.kit.proofs.Puts.{placed_in}

module _ {A : Type 0} where
  -- after k turns the first k of them stand there
  pub record Copied (n : ℕ) (d₀ : List A) (at : ℕ) (s : List A) (k : ℕ) (d : List A) : Type 0 where
    pub in_reach : k ≤ n
    pub room : at + n ≤ length d₀
    pub enough : n ≤ length s
    pub long : length d ≡ length d₀
    pub copied : d ≡ paste d₀ at s k

  pub copied_start : (n : ℕ) (d : List A) (at : ℕ) (s : List A) → at + n ≤ length d → n ≤ length s → Copied n d at s 0 d
  copied_start n d at s h l = record { in_reach = omega arith; room = h; enough = l; long = refl; copied = paste-zero d at s }

  pub copied_more
      : (n : ℕ) (d₀ : List A) (at : ℕ) (s : List A) (k : ℕ) (d : List A) (a : A) → Copied n d₀ at s k d → k < n
      → Copied n d₀ at s (k + 1) (set d (at + k) (get_or s k a))
  copied_more n d₀ at s k d a c h =
      record {
        in_reach = omega arith;
        room = c.room;
        enough = c.enough;
        long = length-set d (at + k) (get_or s k a) ∙ c.long;
        copied =
            ap (λ (l : List A). set l (at + k) (get_or s k a)) c.copied
            ∙ paste-suc d₀ at s k a (omega (arith, c.room)) (omega (arith, c.enough))
            ∙ ap (paste d₀ at s) (sym (add-one k));
      }

  pub copied_all : (n : ℕ) (d₀ : List A) (at : ℕ) (s : List A) (k : ℕ) (d : List A) → Copied n d₀ at s k d → n ≤ k → d ≡ put d₀ at (take n s)
  unfolding put
  copied_all n d₀ at s k d c h =
      c.copied ∙ ap (paste d₀ at s) (le_antisymm c.in_reach h)
      ∙ ap (λ (m : ℕ). take at d₀ ++ take n s ++ drop (at + m) d₀) (sym (length-take-le n s c.enough))

  -- where they are all of it
  pub copied_whole : (d₀ : List A) (at : ℕ) (s : List A) (k : ℕ) (d : List A) → Copied (length s) d₀ at s k d → length s ≤ k → d ≡ placed d₀ at s
  copied_whole d₀ at s k d c h = copied_all (length s) d₀ at s k d c h ∙ ap (put d₀ at) (take-length s) ∙ sym (placed_in d₀ at s c.room)
