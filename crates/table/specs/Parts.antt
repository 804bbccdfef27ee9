-- How soundness is computed: place by place and site by site, with the sites' own marks and last t's gathered first. A reader of `soundTable`
-- need not read this: the proofs show that both are the same.
use Rattle.std.specs.Prelude.{ℕ, ◌-◌, ◌/◌, ◌%◌, Bool, true, false, not, ◌&&◌, cond, List, [], eqb, leb, ltb, ℤ, pos, get_or}
use Rattle.kit.specs.Lists.{listed}
use Rattle.kit.specs.Range.{all, implies, one, number}
use Rattle.majority.specs.Majority.{majority, blocking}
use Rattle.readings.specs.Readings.{in_range, is_zero}
use Rattle.sets.specs.Sets.{set_of}
use Rattle.stamps.specs.Stamps.{time_of, digit_of, issued_form, well_formed}
use Rattle.vote.specs.Data.{is_ok_vote, is_other, is_unmarked, is_deferred, is_open, vote_at, request_at}
use Rattle.vote.specs.Queue.{queued_at}
use Rattle.vote.specs.Voters.{knows, voters_of, voters_for, has_voter, are_among, no_voters, voters_in, voters_known}
use Rattle.vote.specs.declared.data.Mark.{Mark}
use Rattle.vote.specs.declared.data.Request.{Request}
use Rattle.vote.specs.declared.data.Site.{Site}
use Rattle.vote.specs.declared.data.Verdict.{Verdict}
use Rattle.vote.specs.declared.data.Verdict.TheVariants as verdict
use Rattle.vote.specs.declared.data.Vote.{Vote}
use Rattle.table.specs.Blank.{blank_vote, is_blank_request, is_blank_site, is_blank_message}
use Rattle.table.specs.Places.{no_site, no_message}
use Rattle.table.specs.Sound.{request_allowed, reading_allowed, queue_exact}
use Rattle.table.specs.declared.data.Message.{Message}
use Rattle.table.specs.declared.data.Table.{Table}

-- what one site has said of each of the 16 places
pub record Ballot : Type 0 where
  pub votes : List Vote

-- which sites marked a place OK, and which DR or REJ
pub record Marks : Type 0 where
  pub oks : List Bool
  pub others : List Bool

-- ---- gathered first

-- the last t of each site
unfoldable pub lasts_of : List Site → List ℕ
lasts_of sites = listed 7 (λ k. (get_or sites k no_site).last)

-- the stamp of each request place
unfoldable pub stamps_of : List Request → List ℕ
stamps_of rs = listed 16 (λ p. (request_at rs p).stamp)

-- what each site has said
unfoldable pub ballots_of : List Site → List Ballot
ballots_of sites = listed 7 (λ k. record { votes = (get_or sites k no_site).votes })

-- which sites marked place p OK, and which DR or REJ
unfoldable pub marks_at : List Ballot → ℕ → Marks
marks_at ballots p = record {
  oks = voters_for (λ u. is_ok_vote (vote_at (get_or ballots u (record { votes = [] })).votes p).mark);
  others = voters_for (λ u. is_other (vote_at (get_or ballots u (record { votes = [] })).votes p).mark);
}

-- the same of each of the 16 places
unfoldable pub marks_of : List Ballot → List Marks
marks_of ballots = listed 16 (marks_at ballots)

-- the marks of all places, voter u of place p at 7 × p + u, with those of site k put in
unfoldable pub marks_put : (Mark → Bool) → ℕ → List Vote → List Bool → List Bool
marks_put f k votes known = listed 112 (λ i. cond (eqb (i % 7) k) (f (vote_at votes (i / 7)).mark) (get_or known i false))

-- the voters of a row as a set, and those of each of the 16 places
unfoldable pub row_set : List Bool → ℕ
row_set row = set_of 7 (has_voter row)

unfoldable pub row_sets : List Bool → List ℕ
row_sets known = listed 16 (λ p. row_set (voters_of known p))

abbrev pub marks_in : List Marks → ℕ → Marks
marks_in marks p = get_or marks p (record { oks = []; others = [] })

-- the own marks kept as a site keeps the voters that it knows: those of place p, and those of all places
abbrev pub rows_at : List Bool → List Bool → ℕ → Marks
rows_at oks others p = record { oks = voters_of oks p; others = voters_of others p }

abbrev pub rows_of : List Bool → List Bool → List Marks
rows_of oks others = listed 16 (rows_at oks others)

-- ---- one request

-- the t of the stamp is at most its site's last
unfoldable pub time_right : List ℕ → ℕ → Bool
time_right lasts stamp = leb (time_of stamp) (get_or lasts (digit_of stamp - 1) 0)

-- no place before p has the stamp of place p
unfoldable pub stamp_new : List ℕ → ℕ → Bool
stamp_new stamps p = all p (λ q. not (eqb (get_or stamps q 0) (get_or stamps p 0)))

-- a used place: an allowed request, and a stamp in form, in time and its own
unfoldable pub used_sound : ℕ → List ℕ → List ℕ → Request → ℕ → Bool
used_sound n lasts stamps q p = request_allowed n q && (issued_form n q.stamp && (time_right lasts q.stamp && stamp_new stamps p))

-- a free place is blank
abbrev pub request_sound : ℕ → List ℕ → List ℕ → Request → ℕ → Bool
request_sound n lasts stamps q p = cond (eqb q.stamp 0) (is_blank_request q) (used_sound n lasts stamps q p)

-- ---- one site

-- a value: 0 at stamp 0, and else in range
unfoldable pub value_right : ℕ → ℤ → Bool
value_right stamp value = cond (eqb stamp 0) (is_zero value) (in_range value)

-- its reading of item i
unfoldable pub reading_sound : ℕ → List ℕ → Site → ℕ → Bool
reading_sound n lasts s i = reading_allowed n s i && time_right lasts (get_or s.stamps i 0)

-- the queue's places behind its end are 0
unfoldable pub queue_end_blank : Site → Bool
queue_end_blank s = all 16 (λ i. implies (leb s.waiting i) (eqb (queued_at s.queue i) 0))

-- a queue of which the first `waiting` places count, beside the votes: `queueExact` of the parts of a site
abbrev pub queue_holds : ℕ → List ℕ → List Vote → Bool
queue_holds waiting queue votes =
    leb waiting 16
    && (all waiting (λ i. ltb (queued_at queue i) 16)
    && all 16 (λ p. eqb (number waiting (λ i. eqb (queued_at queue i) p)) (one (is_deferred (vote_at votes p).mark))))

-- a verdict is backed by that many own marks
abbrev pub backed_by : ℕ → Marks → Verdict → Bool
backed_by n m verdict.Open = true
backed_by n m verdict.Accepted = leb (majority n) (voters_in m.oks)
backed_by n m verdict.Rejected = leb (blocking n) (voters_in m.others)

-- what it knows of a request that it holds open: too few voters, and none where it has no mark
abbrev pub open_right : ℕ → Bool → List Bool → List Bool → Bool
open_right n unmarked oks others =
    not (leb (majority n) (voters_in oks))
    && (not (leb (blocking n) (voters_in others)) && implies unmarked (no_voters oks && no_voters others))

-- what site `me` holds of a request: its vote v and the voters that it knows, beside the own marks m of all sites
unfoldable pub holding_sound : ℕ → ℕ → Marks → Vote → List Bool → List Bool → Bool
holding_sound n me m v oks others =
    are_among oks m.oks
    && (are_among others m.others
    && (implies (is_ok_vote v.mark) (has_voter oks me)
    && (implies (is_other v.mark) (has_voter others me)
    && (backed_by n m v.verdict
    && cond (is_open v.verdict) (open_right n (is_unmarked v.mark) oks others) (not (is_deferred v.mark))))))

-- what it holds of place p: nothing, where the place is free
unfoldable pub place_held : ℕ → ℕ → List Marks → List ℕ → Site → ℕ → Bool
place_held n me marks stamps s p =
    holding_sound n me (marks_in marks p) (vote_at s.votes p) (voters_of s.oks p) (voters_of s.others p)
    && implies (eqb (get_or stamps p 0) 0)
    (blank_vote (vote_at s.votes p) && (no_voters (voters_of s.oks p) && no_voters (voters_of s.others p)))

-- the same by the counts of the voters that it knows, which are counted once; that these have such marks is asked of all places at once
abbrev pub standing_counted : ℕ → Vote → ℕ → ℕ → Bool → Bool
standing_counted n v x y free =
    cond (is_open v.verdict)
    (not (leb (majority n) x) && (not (leb (blocking n) y) && implies (is_unmarked v.mark) (eqb x 0 && eqb y 0)))
    (not (is_deferred v.mark))
    && implies free (blank_vote v && (eqb x 0 && eqb y 0))

unfoldable pub place_counted : ℕ → ℕ → List Bool → List Bool → List ℕ → Site → ℕ → Bool
place_counted n me oks others stamps s p =
    implies (is_ok_vote (vote_at s.votes p).mark) (knows s.oks p me)
    && (implies (is_other (vote_at s.votes p).mark) (knows s.others p me)
    && (backed_by n (rows_at oks others p) (vote_at s.votes p).verdict
    && standing_counted n (vote_at s.votes p) (voters_known s.oks p) (voters_known s.others p) (eqb (get_or stamps p 0) 0)))

-- what is asked of each site, as the code asks it: what its known voters have marked is asked of all places at once
abbrev pub rest_counted : ℕ → List ℕ → List Bool → List Bool → List ℕ → ℕ → Site → Bool
rest_counted n lasts oks others stamps me s =
    all 24 (λ i. well_formed n (get_or s.stamps i 0) && time_right lasts (get_or s.stamps i 0))
    && (all 24 (λ i. value_right (get_or s.stamps i 0) (get_or s.values i (pos 0)))
    && (all 16 (λ i. implies (leb s.waiting i) (eqb (queued_at s.queue i) 0))
    && (queue_holds s.waiting s.queue s.votes
    && (all 16 (λ p. are_among (voters_of s.oks p) (voters_of oks p))
    && (all 16 (λ p. are_among (voters_of s.others p) (voters_of others p)) && all 16 (place_counted n me oks others stamps s))))))

-- site number `me`: blank where it is not a site of the table; its copy, its queue, and what it holds of each place
-- what is asked of each site
unfoldable pub site_rest : ℕ → List ℕ → List Marks → List ℕ → ℕ → Site → Bool
site_rest n lasts marks stamps me s =
    all 24 (reading_sound n lasts s) && (queue_end_blank s && (queue_exact s && all 16 (place_held n me marks stamps s)))

-- and a site that is not of the table is blank
unfoldable pub site_sound : ℕ → List ℕ → List Marks → List ℕ → ℕ → Site → Bool
site_sound n lasts marks stamps me s = implies (leb n me) (is_blank_site s) && site_rest n lasts marks stamps me s

-- ---- one message

-- what it carries of a request, beside the own marks m of all sites
abbrev pub content_right : ℕ → Marks → Message → Bool
content_right n m x = are_among x.oks m.oks && (are_among x.others m.others && backed_by n m x.verdict)

unfoldable pub message_sound : ℕ → List Marks → List ℕ → Message → Bool
message_sound n marks stamps m =
    cond m.used
    ((ltb m.request 16 && not (eqb (get_or stamps m.request 0) 0))
    && ((ltb m.from n && (ltb m.to n && not (eqb m.from m.to)))
    && (are_among m.oks (marks_in marks m.request).oks
    && (are_among m.others (marks_in marks m.request).others && backed_by n (marks_in marks m.request) m.verdict))))
    (is_blank_message m)

-- ---- the table

unfoldable pub parts_sound : Table → Bool
parts_sound t =
    let lasts : List ℕ = lasts_of t.sites in
    let stamps : List ℕ = stamps_of t.requests in
    let marks : List Marks = marks_of (ballots_of t.sites) in
    (leb 1 t.count && leb t.count 7)
    && (all 16 (λ p. request_sound t.count lasts stamps (request_at t.requests p) p)
    && (all 7 (λ k. site_sound t.count lasts marks stamps k (get_or t.sites k no_site))
    && all 64 (λ j. message_sound t.count marks stamps (get_or t.messages j no_message))))
