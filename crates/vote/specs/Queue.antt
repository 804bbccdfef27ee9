-- A site's queue of deferred requests: the first `waiting` of 16 places count, the others are 0.
use Rattle.std.specs.Prelude.{ℕ, ◌+◌, ◌-◌, cond, List, eqb, ltb, get_or, set}
use Rattle.kit.specs.Lists.{without}
use Rattle.kit.specs.Range.{first}
use Rattle.vote.specs.Data.{with_queue}
use Rattle.vote.specs.declared.data.Site.{Site}

-- the request place at place i of the queue
abbrev pub queued_at : List ℕ → ℕ → ℕ
queued_at queue i = get_or queue i 0

-- a queue of n with request place p at its end, and how many it has then; a full queue, which no sound table has then, takes no more
unfoldable pub queue_joined : List ℕ → ℕ → ℕ → List ℕ
queue_joined queue n p = cond (ltb n 16) (set queue n p) queue

unfoldable pub count_joined : ℕ → ℕ
count_joined n = cond (ltb n 16) (n + 1) n

-- "A deferred request joins the end of that site's queue."
unfoldable pub joins_queue : Site → ℕ → Site
joins_queue s p = with_queue (queue_joined s.queue s.waiting p) (count_joined s.waiting) s

-- the request at place i of the queue leaves it; those behind it move up
unfoldable pub leaves_queue : Site → ℕ → Site
leaves_queue s i = cond (eqb s.waiting 0) s (with_queue (without 0 s.queue i) (s.waiting - 1) s)

-- where request place p stands among the first w of the queue, and w where it does not
unfoldable pub place_in_queue : List ℕ → ℕ → ℕ → ℕ
place_in_queue queue w p = first w (λ i. eqb (queued_at queue i) p)
