-- `vote::queue::move_up` meets its contract: what is copied down and the 0 at the end are the queue without its place i.
use Rattle.std.proofs.Common.{◌≡◌, ℕ, zero, suc, ◌+◌, ◌-◌, ◌<◌, List, [], ◌∷◌, ◌++◌, length, get_or, set, take, drop, refl, ap, sym, append_assoc, add-one, arith, length-append, length-drop, drop-cons}
use Rattle.std.proofs.Math.Seq.{paste}
use Rattle.std.proofs.lemmas.List.{length-take, set-append_right, drop_all}
use Rattle.std.proofs.lemmas.List.Edits.{paste_all}
use Rattle.kit.specs.Lists.{without}
use Rattle.kit.proofs.Queues.{without_none}
use Rattle.vote.proofs.queue.move_up.Goals as goal

-- the places before i, those behind it, and a 0
parted : (l : List ℕ) (i : ℕ) → i < length l → without 0 l i ≡ (take i l ++ drop (suc i) l) ++ 0 ∷ []
unfolding without
parted [] i h = absurd (omega arith)
parted (a ∷ l) zero h = refl
parted (a ∷ l) (suc i) h = ap (λ (m : List ℕ). a ∷ m) (parted l i (omega arith))

-- the last place alone
last : (l : List ℕ) (end : ℕ) → length l ≡ end + 1 → drop end l ≡ get_or l end 0 ∷ []
last l end e = let h : end < length l = omega arith in rw (drop-cons l end 0 h, drop_all (suc end) l (omega arith)) refl

module _ (l : List ℕ) (i k end : ℕ) (long : length l ≡ end + 1) (h : i < end + 1) (rest : k ≡ (end + 1) - (i + 1)) where
  behind : length (drop (i + 1) l) ≡ k
  behind = rw (length-drop, long, rest) refl

  before : length (take i l ++ drop (i + 1) l) ≡ end
  before = rw (length-append, length-take, behind) (omega arith)

  down : set (paste l i (drop (i + 1) l) k) end 0 ≡ without 0 l i
  down =
      let e : i + k ≡ end = omega arith in
      rw (paste_all l i (drop (i + 1) l) k (sym behind), e, last l end long, ← append_assoc, set-append_right (take i l ++ drop (i + 1) l) (get_or l end 0 ∷ []) end end 0 before (omega arith), (let z : end - end ≡ 0 = omega arith in z), add-one, parted l i (omega arith)) refl

pub returns-then-i-end : goal.returns-then-i-end
returns-then-i-end c = let h = c.if-i-end.true in rw c.copy_within.ensures.after (down c.args.queue.now c.args.i _ (length c.args.queue.now - 1) (omega (arith, h)) (omega (arith, h)) (omega (arith, h)))

pub returns-else-i-end : goal.returns-else-i-end
returns-else-i-end c = without_none 0 _ _ c.if-i-end.false
