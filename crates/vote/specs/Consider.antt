-- "To consider a request a site takes the first that fits."
use Rattle.std.specs.Prelude.{ℕ, Bool, true, false, ◌&&◌, cond, List, ltb, get_or}
use Rattle.kit.specs.Range.{any}
use Rattle.sets.specs.Sets.{set_of, member}
use Rattle.vote.specs.Data.{is_pending, vote_at, head_at, head_of}
use Rattle.vote.specs.Requests.{conflicts, outranks}
use Rattle.vote.specs.declared.consider.Outcome.{Outcome}
use Rattle.vote.specs.declared.consider.Outcome.TheVariants as outcome
use Rattle.vote.specs.declared.data.Head.{Head}
use Rattle.vote.specs.declared.data.Mark.{Mark}
use Rattle.vote.specs.declared.data.Mark.TheVariants as mark
use Rattle.vote.specs.declared.data.Request.{Request}
use Rattle.vote.specs.declared.data.Vote.{Vote}

-- 1. "some base item's copy has a larger stamp than the base stamp"
unfoldable pub newer_copy : ℕ → List ℕ → List ℕ → Bool
newer_copy base based held = any 24 (λ i. member base i && ltb (get_or based i 0) (get_or held i 0))

-- 2. "some base stamp is larger than the copy's"
unfoldable pub older_copy : ℕ → List ℕ → List ℕ → Bool
older_copy base based held = any 24 (λ i. member base i && ltb (get_or held i 0) (get_or based i 0))

-- the places of the pending requests, as a set
unfoldable pub pending_set : List Vote → ℕ
pending_set votes = set_of 16 (λ j. is_pending (vote_at votes j))

-- a request o, voted v, is pending and q conflicts with it
unfoldable pub in_way : Vote → Head → Head → Bool
in_way v o q = is_pending v && conflicts q o

-- the same, and o has higher priority than q
unfoldable pub in_way_above : Vote → Head → Head → Bool
in_way_above v o q = in_way v o q && outranks o q

-- 3. "it conflicts with a pending request of higher priority"
unfoldable pub blocked_above : List Head → List Vote → Head → Bool
blocked_above heads votes q = any 16 (λ j. in_way_above (vote_at votes j) (head_at heads j) q)

-- 4. "it conflicts with a pending request"
unfoldable pub blocked : List Head → List Vote → Head → Bool
blocked heads votes q = any 16 (λ j. in_way (vote_at votes j) (head_at heads j) q)

-- the first of these two that fits; 5. if none fits, OK
abbrev pub weighed : List Head → List Vote → Head → Outcome
weighed heads votes q = cond (blocked_above heads votes q) outcome.Dr (cond (blocked heads votes q) outcome.DeferPending outcome.Ok)

-- the first of the five that fits. A request is considered only while its mark is none or deferred, so it is not pending itself.
unfoldable pub considered : List Head → List Vote → List ℕ → Request → Outcome
considered heads votes held q =
    cond (newer_copy q.base q.stamps held) outcome.Rej
    (cond (older_copy q.base q.stamps held) outcome.DeferBase
    (weighed heads votes (head_of q)))

-- the mark that an outcome leaves
abbrev pub mark_of : Outcome → Mark
mark_of outcome.Rej = mark.Rej
mark_of outcome.DeferBase = mark.Deferred
mark_of outcome.Dr = mark.Dr
mark_of outcome.DeferPending = mark.Deferred
mark_of outcome.Ok = mark.Ok

-- the outcome is a deferral
abbrev pub defers : Outcome → Bool
defers outcome.Rej = false
defers outcome.DeferBase = true
defers outcome.Dr = false
defers outcome.DeferPending = true
defers outcome.Ok = false
