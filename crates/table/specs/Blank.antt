-- Blank sites, places and messages, as tests that compute.
use Rattle.std.specs.Prelude.{ℕ, Bool, not, ◌&&◌, List, eqb, ℤ, pos, get_or}
use Rattle.kit.specs.Range.{all}
use Rattle.readings.specs.Readings.{is_zero}
use Rattle.vote.specs.Data.{is_open, is_unmarked, vote_at}
use Rattle.vote.specs.Voters.{no_voters, none_known}
use Rattle.vote.specs.declared.data.Request.{Request}
use Rattle.vote.specs.declared.data.Site.{Site}
use Rattle.vote.specs.declared.data.Vote.{Vote}
use Rattle.table.specs.declared.data.Message.{Message}

-- every number of a list of n is 0
unfoldable pub zeros : ℕ → List ℕ → Bool
zeros n l = all n (λ i. eqb (get_or l i 0) 0)

-- every value of the 24 is 0
unfoldable pub zero_values : List ℤ → Bool
zero_values l = all 24 (λ i. is_zero (get_or l i (pos 0)))

-- nothing is said
unfoldable pub blank_vote : Vote → Bool
blank_vote v = is_unmarked v.mark && is_open v.verdict

-- a request place: stamp, sets, base stamps and values 0
unfoldable pub is_blank_request : Request → Bool
is_blank_request q = eqb q.stamp 0 && (eqb q.base 0 && (eqb q.update 0 && (zeros 24 q.stamps && zero_values q.values)))

-- what a site holds of the request at place p: no mark, open, no voter known
unfoldable pub holds_nothing : Site → ℕ → Bool
holds_nothing s p = blank_vote (vote_at s.votes p) && (none_known s.oks p && none_known s.others p)

-- a site: not up, last t 0, its copy, its queue and all its votes blank
unfoldable pub is_blank_site : Site → Bool
is_blank_site s =
    not s.up
    && (eqb s.last 0
    && (zeros 24 s.stamps
    && (zero_values s.values
    && (zeros 16 s.queue
    && (eqb s.waiting 0
    && all 16 (holds_nothing s))))))

-- a message place: not used and all its fields blank
unfoldable pub is_blank_message : Message → Bool
is_blank_message m =
    not m.used
    && (eqb m.request 0
    && (eqb m.from 0
    && (eqb m.to 0
    && (is_open m.verdict
    && (no_voters m.oks && no_voters m.others)))))
