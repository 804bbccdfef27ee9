-- What held where a site made this or that of a request.
use mathlib.Core.Path.{◌≡◌, refl, ◌∙◌}
use mathlib.Core.Bool.{Bool, true, false, ◌&&◌, cond}
use mathlib.Core.List.{List}
use Prim.Native.Nat.{ℕ, ◌^◌, ◌<◌, ◌≤◌}
use native.Mathlib.Nat.{le_antisymm}
use borrow.Author.Tests.{ltb-true, ltb-false, lt-ltb}
use lib.Dec.{ltb}
use lib.ListN.{get_or}
use Rattle.kit.specs.Range.{any}
use Rattle.kit.proofs.Bools.{clash, by_test, and_left, and_right, both_true}
use Rattle.kit.proofs.Ranges.{any_hit, any_at, any_one, any_same}
use Rattle.sets.specs.Sets.{member}
use Rattle.sets.proofs.Laws.{set_of_lt, member_set_of}
use Rattle.vote.specs.Consider.{newer_copy, older_copy, pending_set, in_way, in_way_above, blocked, blocked_above, considered}
use Rattle.vote.specs.Data.{is_pending, vote_at, head_at, head_of}
use Rattle.vote.specs.Requests.{conflicts, outranks}
use Rattle.vote.specs.declared.consider.Outcome.{Outcome}
use Rattle.vote.specs.declared.consider.Outcome.TheVariants as outcome
use Rattle.vote.specs.declared.data.Head.{Head}
use Rattle.vote.specs.declared.data.Request.{Request}
use Rattle.vote.specs.declared.data.Vote.{Vote}

-- ---- what the code asks of a head o that it has made is what is asked of the head x that it is

pub conflict_means : (q o x : Head) {r b : Bool} → r ≡ conflicts q o → o ≡ x → r ≡ b → conflicts q x ≡ b
conflict_means q o x e f g = rw (← f, ← e) g

pub above_means : (q o x : Head) {r b : Bool} → r ≡ (conflicts q o && outranks o q) → o ≡ x → r ≡ b → (conflicts q x && outranks x q) ≡ b
above_means q o x e f g = rw (← f, ← e) g

-- ---- the four questions, item by item and place by place

module _ (base : ℕ) (based held : List ℕ) where
  -- an item of the base set whose copy is newer
  pub record NewerItem : Type 0 where
    pub item : ℕ
    pub below : item < 24
    pub in_base : member base item ≡ true
    pub newer : get_or based item 0 < get_or held item 0

  -- one whose copy is older
  pub record OlderItem : Type 0 where
    pub item : ℕ
    pub below : item < 24
    pub in_base : member base item ≡ true
    pub older : get_or held item 0 < get_or based item 0

  -- a base item of which the list a has less than the list b; and that there is none
  less_item
      : (a b : List ℕ) → any 24 (λ i. member base i && ltb (get_or a i 0) (get_or b i 0)) ≡ true
      → (i : ℕ) × (i < 24) × (member base i ≡ true) × (get_or a i 0 < get_or b i 0)
  less_item a b e =
      let r = any_one 24 (λ i. member base i && ltb (get_or a i 0) (get_or b i 0)) e in
      let m : Bool = member base r.0 in
      let l : Bool = ltb (get_or a r.0 0) (get_or b r.0 0) in
      (r.0, r.1, and_left m l r.2, ltb-true _ _ (and_right m l r.2))

  none_less
      : (a b : List ℕ) → any 24 (λ i. member base i && ltb (get_or a i 0) (get_or b i 0)) ≡ false → (i : ℕ) → i < 24 → member base i ≡ true
      → get_or b i 0 ≤ get_or a i 0
  none_less a b e i h m = ltb-false _ _ (rw m at (any_at (λ j. member base j && ltb (get_or a j 0) (get_or b j 0)) 24 i e h))

  pub newer_item : newer_copy base based held ≡ true → NewerItem
  unfolding newer_copy
  newer_item e = let r = less_item based held e in record { item = r.0; below = r.1; in_base = r.2; newer = r.3 }

  pub older_item : older_copy base based held ≡ true → OlderItem
  unfolding older_copy
  older_item e = let r = less_item held based e in record { item = r.0; below = r.1; in_base = r.2; older = r.3 }

  -- where none is newer, no base item's copy is above its base stamp
  pub not_newer : newer_copy base based held ≡ false → (i : ℕ) → i < 24 → member base i ≡ true → get_or held i 0 ≤ get_or based i 0
  unfolding newer_copy
  not_newer = none_less based held

  pub not_older : older_copy base based held ≡ false → (i : ℕ) → i < 24 → member base i ≡ true → get_or based i 0 ≤ get_or held i 0
  unfolding older_copy
  not_older = none_less held based

module _ (heads : List Head) (votes : List Vote) (q : Head) where
  -- a request that is pending and conflicts with q
  pub record InWay : Type 0 where
    pub place : ℕ
    pub below : place < 16
    pub pending : is_pending (vote_at votes place) ≡ true
    pub conflict : conflicts q (head_at heads place) ≡ true

  -- one of higher priority
  pub record InWayAbove : Type 0 where
    pub place : ℕ
    pub below : place < 16
    pub pending : is_pending (vote_at votes place) ≡ true
    pub conflict : conflicts q (head_at heads place) ≡ true
    pub higher : outranks (head_at heads place) q ≡ true

  pub blocked_by : blocked heads votes q ≡ true → InWay
  unfolding blocked in_way
  blocked_by e =
      let r = any_one 16 (λ j. in_way (vote_at votes j) (head_at heads j) q) e in
      let v = is_pending (vote_at votes r.0) in
      let c = conflicts q (head_at heads r.0) in
      record { place = r.0; below = r.1; pending = and_left v c r.2; conflict = and_right v c r.2 }

  pub blocked_above_by : blocked_above heads votes q ≡ true → InWayAbove
  unfolding blocked_above in_way_above in_way
  blocked_above_by e =
      let r = any_one 16 (λ j. in_way_above (vote_at votes j) (head_at heads j) q) e in
      let v = is_pending (vote_at votes r.0) in
      let c = conflicts q (head_at heads r.0) in
      let o = outranks (head_at heads r.0) q in
      record {
        place = r.0;
        below = r.1;
        pending = and_left v c (and_left (v && c) o r.2);
        conflict = and_right v c (and_left (v && c) o r.2);
        higher = and_right (v && c) o r.2;
      }

  -- where it is not blocked, it conflicts with no pending request
  pub not_blocked : blocked heads votes q ≡ false → (j : ℕ) → j < 16 → is_pending (vote_at votes j) ≡ true → conflicts q (head_at heads j) ≡ false
  unfolding blocked in_way
  not_blocked e j h v = rw v at (any_at (λ k. in_way (vote_at votes k) (head_at heads k) q) 16 j e h)

  -- nor with one of higher priority
  pub not_blocked_above
      : blocked_above heads votes q ≡ false → (j : ℕ) → j < 16 → is_pending (vote_at votes j) ≡ true → conflicts q (head_at heads j) ≡ true
      → outranks (head_at heads j) q ≡ false
  unfolding blocked_above in_way_above in_way
  not_blocked_above e j h v c = rw (v, c) at (any_at (λ k. in_way_above (vote_at votes k) (head_at heads k) q) 16 j e h)

  -- a request that is not pending is in nobody's way: not in its own, where it is considered
  pub not_in_way : (p : ℕ) → is_pending (vote_at votes p) ≡ false → in_way (vote_at votes p) (head_at heads p) q ≡ false
  unfolding in_way
  not_in_way p e = rw e

  pub not_in_way_above : (p : ℕ) → is_pending (vote_at votes p) ≡ false → in_way_above (vote_at votes p) (head_at heads p) q ≡ false
  unfolding in_way_above in_way
  not_in_way_above p e = rw e

-- ---- from one item or place to the answer

pub newer_of : (base : ℕ) (based held : List ℕ) → NewerItem base based held → newer_copy base based held ≡ true
unfolding newer_copy
newer_of base based held r =
    any_hit 24 r.item (λ i. member base i && ltb (get_or based i 0) (get_or held i 0)) r.below (both_true r.in_base (lt-ltb _ _ r.newer))

pub older_of : (base : ℕ) (based held : List ℕ) → OlderItem base based held → older_copy base based held ≡ true
unfolding older_copy
older_of base based held r =
    any_hit 24 r.item (λ i. member base i && ltb (get_or held i 0) (get_or based i 0)) r.below (both_true r.in_base (lt-ltb _ _ r.older))

pub blocked_of : (heads : List Head) (votes : List Vote) (q : Head) → InWay heads votes q → blocked heads votes q ≡ true
unfolding blocked in_way
blocked_of heads votes q r =
    any_hit 16 r.place (λ j. in_way (vote_at votes j) (head_at heads j) q) r.below (both_true r.pending r.conflict)

pub blocked_above_of : (heads : List Head) (votes : List Vote) (q : Head) → InWayAbove heads votes q → blocked_above heads votes q ≡ true
unfolding blocked_above in_way_above in_way
blocked_above_of heads votes q r =
    any_hit 16 r.place (λ j. in_way_above (vote_at votes j) (head_at heads j) q) r.below (both_true (both_true r.pending r.conflict) r.higher)

-- who is in the way above is in the way
pub above_blocked : (heads : List Head) (votes : List Vote) (q : Head) → blocked_above heads votes q ≡ true → blocked heads votes q ≡ true
above_blocked heads votes q e =
    let r = blocked_above_by heads votes q e in
    blocked_of heads votes q (record { place = r.place; below = r.below; pending = r.pending; conflict = r.conflict })

pub not_blocked_not_above : (heads : List Head) (votes : List Vote) (q : Head) → blocked heads votes q ≡ false → blocked_above heads votes q ≡ false
not_blocked_not_above heads votes q e = by_test (blocked_above heads votes q) (λ t. clash (above_blocked heads votes q t) e) (λ f. f)

-- ---- the pending requests as a set of places

pub pending_lt : {s : ℕ} (votes : List Vote) → s ≡ pending_set votes → s < 2 ^ 16
unfolding pending_set
pending_lt votes e = rw e (set_of_lt 16 (λ j. is_pending (vote_at votes j)))

pending_at : (votes : List Vote) (j : ℕ) → j < 16 → member (pending_set votes) j ≡ is_pending (vote_at votes j)
unfolding pending_set
pending_at votes j h = member_set_of 16 (λ k. is_pending (vote_at votes k)) j h

module _ (heads : List Head) (votes : List Vote) (q : Head) {s : ℕ} {b : Bool} (e : s ≡ pending_set votes) where
  -- from it to the answers
  pub blocked_from : b ≡ any 16 (λ j. member s j && conflicts q (head_at heads j)) → b ≡ blocked heads votes q
  unfolding blocked in_way
  blocked_from f =
      f
      ∙ any_same (λ j. member s j && conflicts q (head_at heads j)) (λ j. is_pending (vote_at votes j) && conflicts q (head_at heads j)) 16
      (λ j h. rw (e, pending_at votes j h))

  pub above_from
      : b ≡ any 16 (λ j. member s j && (conflicts q (head_at heads j) && outranks (head_at heads j) q)) → b ≡ blocked_above heads votes q
  unfolding blocked_above in_way_above in_way
  above_from f =
      f
      ∙ any_same (λ j. member s j && (conflicts q (head_at heads j) && outranks (head_at heads j) q))
      (λ j. (is_pending (vote_at votes j) && conflicts q (head_at heads j)) && outranks (head_at heads j) q) 16
      (λ j h. rw (e, pending_at votes j h) (grouped (is_pending (vote_at votes j)) (conflicts q (head_at heads j)) (outranks (head_at heads j) q)))
    where
      grouped : (x y z : Bool) → (x && (y && z)) ≡ ((x && y) && z)
      grouped true y z = refl
      grouped false y z = refl

-- ---- from the outcome to what held

-- the answers to the four questions that an outcome tells
abbrev pub Told : Outcome → Bool → Bool → Bool → Bool → Type 0
Told outcome.Rej n o a b = n ≡ true
Told outcome.DeferBase n o a b = (n ≡ false) × (o ≡ true)
Told outcome.Dr n o a b = (n ≡ false) × (o ≡ false) × (a ≡ true)
Told outcome.DeferPending n o a b = (n ≡ false) × (o ≡ false) × (a ≡ false) × (b ≡ true)
Told outcome.Ok n o a b = (n ≡ false) × (o ≡ false) × (a ≡ false) × (b ≡ false)

module _ (heads : List Head) (votes : List Vote) (held : List ℕ) (q : Request) where
  pub considered_told
      : Told (considered heads votes held q) (newer_copy q.base q.stamps held) (older_copy q.base q.stamps held)
      (blocked_above heads votes (head_of q)) (blocked heads votes (head_of q))
  unfolding considered
  considered_told =
      told (newer_copy q.base q.stamps held) (older_copy q.base q.stamps held) (blocked_above heads votes (head_of q)) (blocked heads votes (head_of q))
    where
      told : (n o a b : Bool) → Told (cond n outcome.Rej (cond o outcome.DeferBase (cond a outcome.Dr (cond b outcome.DeferPending outcome.Ok)))) n o a b
      told true o a b = refl
      told false true a b = (refl, refl)
      told false false true b = (refl, refl, refl)
      told false false false true = (refl, refl, refl, refl)
      told false false false false = (refl, refl, refl, refl)

  told_by : {x : Outcome} → considered heads votes held q ≡ x
      → Told x (newer_copy q.base q.stamps held) (older_copy q.base q.stamps held) (blocked_above heads votes (head_of q)) (blocked heads votes (head_of q))
  told_by e = rw e at considered_told

  -- no base item's copy differs from its base stamp
  pub record SameStamps : Type 0 where
    pub same : (i : ℕ) → i < 24 → member q.base i ≡ true → get_or held i 0 ≡ get_or q.stamps i 0

  same_stamps : newer_copy q.base q.stamps held ≡ false → older_copy q.base q.stamps held ≡ false → SameStamps
  same_stamps n o = record {
    same = λ i h m. le_antisymm (not_newer q.base q.stamps held n i h m) (not_older q.base q.stamps held o i h m);
  }

  -- 1. REJ: some base item's copy is newer
  pub rej_means : considered heads votes held q ≡ outcome.Rej → NewerItem q.base q.stamps held
  rej_means e = newer_item q.base q.stamps held (told_by e)

  -- 2. deferred for its base: some copy is older, and none newer
  pub record Waiting : Type 0 where
    pub older : OlderItem q.base q.stamps held
    pub none_newer : (i : ℕ) → i < 24 → member q.base i ≡ true → get_or held i 0 ≤ get_or q.stamps i 0

  pub defer_base_means : considered heads votes held q ≡ outcome.DeferBase → Waiting
  defer_base_means e =
      record { older = older_item q.base q.stamps held (told_by e).1; none_newer = not_newer q.base q.stamps held (told_by e).0 }

  -- 3. DR: a pending request of higher priority is in its way
  pub record Outranked : Type 0 where
    pub stamps : SameStamps
    pub by : InWayAbove heads votes (head_of q)

  pub dr_means : considered heads votes held q ≡ outcome.Dr → Outranked
  dr_means e = record { stamps = same_stamps (told_by e).0 (told_by e).1; by = blocked_above_by heads votes (head_of q) (told_by e).2 }

  -- 4. deferred for a pending request: one is in its way, and none of higher priority
  pub record Blocked : Type 0 where
    pub stamps : SameStamps
    pub by : InWay heads votes (head_of q)
    pub none_above : (j : ℕ) → j < 16 → is_pending (vote_at votes j) ≡ true → conflicts (head_of q) (head_at heads j) ≡ true
        → outranks (head_at heads j) (head_of q) ≡ false

  pub defer_pending_means : considered heads votes held q ≡ outcome.DeferPending → Blocked
  defer_pending_means e = record {
    stamps = same_stamps (told_by e).0 (told_by e).1;
    by = blocked_by heads votes (head_of q) (told_by e).3;
    none_above = not_blocked_above heads votes (head_of q) (told_by e).2;
  }

  -- 5. OK: every base item's copy has its base stamp, and no pending request is in its way
  pub record Free : Type 0 where
    pub stamps : SameStamps
    pub none_pending : (j : ℕ) → j < 16 → is_pending (vote_at votes j) ≡ true → conflicts (head_of q) (head_at heads j) ≡ false

  pub ok_means : considered heads votes held q ≡ outcome.Ok → Free
  ok_means e = record { stamps = same_stamps (told_by e).0 (told_by e).1; none_pending = not_blocked heads votes (head_of q) (told_by e).3 }
