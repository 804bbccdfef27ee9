-- Accepting a request writes its copy: what stands at each item afterwards.
use mathlib.Core.Path.{◌≡◌}
use mathlib.Core.Bool.{true, false, cond, and-false}
use mathlib.Core.List.{List}
use Prim.Native.Nat.{ℕ, ◌<◌, ◌≤◌}
use native.Mathlib.Omega.{arith}
use borrow.Author.Tests.{lt-ltb, le-ltb, ltb-true}
use lib.Dec.{ltb}
use lib.IntN.{pos}
use lib.ListN.{length, get_or}
use Rattle.kit.proofs.Bools.{and_left, and_right, both_true, by_lt, of_cond}
use Rattle.kit.proofs.Changes.{length_changed, changed_at}
use Rattle.sets.specs.Sets.{member}
use Rattle.vote.specs.Verdicts.{writes_item, new_stamp, new_value, written_up_to, written_site}
use Rattle.vote.specs.declared.data.Request.{Request}
use Rattle.vote.specs.declared.data.Site.{Site}

module _ (s : Site) (q : Request) where
  -- what stands at item i: the request's where it is written, else what stood there
  pub written_stamp : (i : ℕ) → i < 24 → length s.stamps ≡ 24 → get_or (written_site s q).stamps i 0 ≡ cond (writes_item s.stamps q i) q.stamp (get_or s.stamps i 0)
  unfolding written_site written_up_to
  written_stamp i h l = changed_at 24 (new_stamp s.stamps q) s.stamps 0 i h (omega arith)

  pub written_value
      : (i : ℕ) → i < 24 → length s.values ≡ 24
      → get_or (written_site s q).values i (pos 0) ≡ cond (writes_item s.stamps q i) (get_or q.values i (pos 0)) (get_or s.values i (pos 0))
  unfolding written_site written_up_to
  written_value i h l = changed_at 24 (new_value s.stamps q) s.values (pos 0) i h (omega arith)

  pub length_written_stamps : length (written_site s q).stamps ≡ length s.stamps
  unfolding written_site written_up_to
  length_written_stamps = length_changed 24 (new_stamp s.stamps q) s.stamps

  pub length_written_values : length (written_site s q).values ≡ length s.values
  unfolding written_site written_up_to
  length_written_values = length_changed 24 (new_value s.stamps q) s.values

-- an item is written if and only if it is updated and its stamp is smaller
pub writes_facts : (held : List ℕ) (q : Request) (i : ℕ) → writes_item held q i ≡ true → (member q.update i ≡ true) × (get_or held i 0 < q.stamp)
unfolding writes_item
writes_facts held q i e =
    (and_left (member q.update i) (ltb (get_or held i 0) q.stamp) e, ltb-true _ _ (and_right (member q.update i) (ltb (get_or held i 0) q.stamp) e))

pub writes_of : (held : List ℕ) (q : Request) (i : ℕ) → member q.update i ≡ true → get_or held i 0 < q.stamp → writes_item held q i ≡ true
unfolding writes_item
writes_of held q i m h = both_true m (lt-ltb _ _ h)

-- an item outside the update set is not
pub writes_outside : (held : List ℕ) (q : Request) (i : ℕ) → member q.update i ≡ false → writes_item held q i ≡ false
unfolding writes_item
writes_outside held q i m = rw m

-- nor one with a stamp that is no smaller
pub writes_late : (held : List ℕ) (q : Request) (i : ℕ) → q.stamp ≤ get_or held i 0 → writes_item held q i ≡ false
unfolding writes_item
writes_late held q i h = rw (le-ltb (get_or held i 0) q.stamp h, and-false)

module _ (s : Site) (q : Request) (i : ℕ) (h : i < 24) (l : length s.stamps ≡ 24) where
  -- no copy's stamp falls
  pub stamps_rise : get_or s.stamps i 0 ≤ get_or (written_site s q).stamps i 0
  stamps_rise =
      rw (written_stamp s q i h l)
      (of_cond (λ (x : ℕ). get_or s.stamps i 0 ≤ x) (writes_item s.stamps q i) (λ y. omega (arith, (writes_facts s.stamps q i y).1)) (λ n. omega arith))

  -- and an update item's is then at least the request's
  pub stamps_reach : member q.update i ≡ true → q.stamp ≤ get_or (written_site s q).stamps i 0
  stamps_reach m =
      rw (written_stamp s q i h l)
      (by_lt (get_or s.stamps i 0) q.stamp (λ k. rw (writes_of s.stamps q i m k) (omega arith))
      (λ k. rw (writes_late s.stamps q i k) k))
