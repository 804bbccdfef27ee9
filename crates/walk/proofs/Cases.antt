-- A walk that starts again, computed from the definitions.
use Prim.Native.Nat.{ℕ}
use mathlib.Core.Bool.{false, true}
use mathlib.Core.List.{List, [], ◌∷◌}
use mathlib.Core.Path.{◌≡◌, refl}
use lib.IntN.{pos}
use lib.ListN.{replicate}
use Rattle.kit.specs.Lists.{listed, changed, without}
use Rattle.kit.specs.Range.{any, first, passing}
use Rattle.majority.specs.Majority.{majority, blocking}
use Rattle.sets.specs.Sets.{member, meets}
use Rattle.stamps.specs.Stamps.{higher}
use Rattle.vote.specs.Consider.{newer_copy, older_copy, in_way, in_way_above, blocked, blocked_above, considered}
use Rattle.vote.specs.Data.{is_pending, no_vote, blank_request, request_in, heads_of}
use Rattle.vote.specs.Queue.{leaves_queue, place_in_queue}
use Rattle.vote.specs.Requests.{covers, conflicts}
use Rattle.vote.specs.Verdicts.{verdict_due, writes_item, written_up_to, written_site, released, noted, decided, ruled}
use Rattle.vote.specs.Voters.{knows, voters_of, only_voter, join_up_to, join_voters, has_voter, voter_list, voters_in, voters_known}
use Rattle.vote.specs.Voting.{marked, counts_itself, voted, voted_from_queue}
use Rattle.vote.specs.declared.data.Mark.TheVariants as mark
use Rattle.vote.specs.declared.data.Request.{Request}
use Rattle.vote.specs.declared.data.Site.{Site}
use Rattle.vote.specs.declared.data.Verdict.TheVariants as verdict
use Rattle.vote.specs.declared.data.Vote.{Vote}
use Rattle.walk.specs.Walking.{vote, rule, looked_over, walk_up_to, walked}

-- a request of this stamp that changes item 0, which it found with that stamp
abbrev on_item0 : ℕ → ℕ → Request
on_item0 stamp based = record { stamp = stamp; base = 1; update = 1; stamps = based ∷ replicate 23 0; values = replicate 24 (pos 7) }

-- 8017 waits for a reading that never comes, 8009 for that of 8001, and 8001 for nothing any more
abbrev requests : List Request
requests = on_item0 8017 4001 ∷ on_item0 8009 8001 ∷ on_item0 8001 0 ∷ replicate 13 blank_request

abbrev waits : Vote
waits = record { mark = mark.Deferred; verdict = verdict.Open }

-- the one site of its table, at which all three are deferred, and which has measured nothing
abbrev start : Site
start = record {
  up = true;
  last = 1002;
  stamps = replicate 24 0;
  values = replicate 24 (pos 0);
  queue = 0 ∷ 1 ∷ 2 ∷ replicate 13 0;
  waiting = 3;
  votes = waits ∷ waits ∷ waits ∷ replicate 13 no_vote;
  oks = replicate 112 false;
  others = replicate 112 false;
}

-- The first two are still deferred; the third votes, is accepted and written; the walk starts again from the front, and now the first finds a
-- later reading than its own and is rejected; again, and the second finds the reading that it was based on.
pub starts_again
    : (walked 0 1 requests start 0).log
    ≡ (vote 2 8001 mark.Ok ∷ rule 2 8001 verdict.Accepted ∷ vote 0 8017 mark.Rej ∷ rule 0 8017 verdict.Rejected ∷ vote 1 8009 mark.Ok
    ∷ rule 1 8009 verdict.Accepted ∷ [])
unfolding walked walk_up_to looked_over considered newer_copy older_copy blocked_above blocked in_way_above in_way is_pending conflicts covers heads_of request_in blank_request verdict_due writes_item written_up_to written_site released noted decided ruled knows voters_of only_voter join_up_to join_voters has_voter voter_list voters_in voters_known marked counts_itself voted voted_from_queue leaves_queue place_in_queue any first passing listed changed without member meets higher majority blocking
starts_again = refl
