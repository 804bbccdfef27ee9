-- "A site accepts when it knows m OK voters, and rejects when it knows n - m + 1 voters of DR and REJ together."
use Rattle.std.specs.Prelude.{ℕ, Bool, ◌&&◌, cond, List, ltb, leb, ℤ, pos, get_or, set}
use Rattle.kit.specs.Lists.{changed}
use Rattle.majority.specs.Majority.{majority, blocking}
use Rattle.sets.specs.Sets.{member}
use Rattle.vote.specs.Data.{is_deferred, vote_at, with_copies, with_votes}
use Rattle.vote.specs.Queue.{leaves_queue, place_in_queue}
use Rattle.vote.specs.Voters.{voters_known}
use Rattle.vote.specs.Voting.{marked}
use Rattle.vote.specs.declared.data.Mark.TheVariants as mark
use Rattle.vote.specs.declared.data.Request.{Request}
use Rattle.vote.specs.declared.data.Site.{Site}
use Rattle.vote.specs.declared.data.Verdict.{Verdict}
use Rattle.vote.specs.declared.data.Verdict.TheVariants as verdict
use Rattle.vote.specs.declared.data.Vote.{Vote}

-- the verdict that the voters known of place p call for; Open while they are too few for either
unfoldable pub verdict_due : ℕ → List Bool → List Bool → ℕ → Verdict
verdict_due n oks others p =
    cond (leb (majority n) (voters_known oks p)) verdict.Accepted
    (cond (leb (blocking n) (voters_known others p)) verdict.Rejected
    verdict.Open)

-- accepting q at s writes item i: it is an update item "whose copy stamp is smaller than the request's"
unfoldable pub writes_item : List ℕ → Request → ℕ → Bool
writes_item held q i = member q.update i && ltb (get_or held i 0) q.stamp

-- the stamp of item i after it
abbrev pub new_stamp : List ℕ → Request → ℕ → ℕ → ℕ
new_stamp held q i old = cond (writes_item held q i) q.stamp old

-- the value of item i after it
abbrev pub new_value : List ℕ → Request → ℕ → ℤ → ℤ
new_value held q i old = cond (writes_item held q i) (get_or q.values i (pos 0)) old

-- the stamps of a copy, and its values, after it
unfoldable pub stamps_written : List ℕ → Request → List ℕ
stamps_written held q = changed 24 (new_stamp held q) held

unfoldable pub values_written : List ℕ → Request → List ℤ → List ℤ
values_written held q values = changed 24 (new_value held q) values

-- the site with the first n items of its copy written
unfoldable pub written_up_to : ℕ → Site → Request → Site
written_up_to n s q = with_copies (changed n (new_stamp s.stamps q) s.stamps) (changed n (new_value s.stamps q) s.values) s

-- "Accepting writes each update item whose copy stamp is smaller than the request's."
unfoldable pub written_site : Site → Request → Site
written_site s q = written_up_to 24 s q

-- the request at place p leaves the queue, where it stands there, and its mark becomes none
unfoldable pub released : Site → ℕ → Site
released s p =
    cond (ltb (place_in_queue s.queue s.waiting p) s.waiting)
    (leaves_queue (marked s p mark.None) (place_in_queue s.queue s.waiting p))
    (marked s p mark.None)

-- the same mark, with the verdict d
abbrev pub with_verdict : Verdict → Vote → Vote
with_verdict d v = record { mark = v.mark; verdict = d }

-- what a site has said, with the verdict d on the request at place p
abbrev pub verdict_put : List Vote → ℕ → Verdict → List Vote
verdict_put votes p d = set votes p (with_verdict d (vote_at votes p))

-- the site with that
unfoldable pub noted : Site → ℕ → Verdict → Site
noted s p d = with_votes (verdict_put s.votes p d) s

-- a verdict of acceptance writes
abbrev pub written_if : Verdict → Site → Request → Site
written_if verdict.Open s q = s
written_if verdict.Accepted s q = written_site s q
written_if verdict.Rejected s q = s

-- the request q at place p gets the verdict d
unfoldable pub decided : Site → Request → ℕ → Verdict → Site
decided s q p d = written_if d (noted s p d) q

-- "A deferred request that gets a verdict leaves the queue and its mark becomes none."
unfoldable pub ruled : Site → Request → ℕ → Verdict → Site
ruled s q p d = cond (is_deferred (vote_at s.votes p).mark) (decided (released s p) q p d) (decided s q p d)
