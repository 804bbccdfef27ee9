-- Document 01, "Bench cases": 1 to 10, in one table under one statement. A row has what our definitions make of the case, and what document 01
-- says comes out; the sentence itself stands above it. Sites count from 1 here, as on the bench, and a request is named by its stamp.
use Rattle.std.specs.Prelude.{ℕ, ◌-◌, List, [], ◌∷◌, ◌++◌, map, ◌≡◌, ℤ, pos, negsuc, get_or, replicate}
use Rattle.plans.specs.Answers.{Answer}
use Rattle.record.specs.declared.Step.{Step}
use Rattle.majority.specs.Majority.{majority, blocking}
use Rattle.vote.specs.Data.{vote_at}
use Rattle.vote.specs.declared.data.Mark.{Mark}
use Rattle.vote.specs.declared.data.Mark.TheVariants as mark
use Rattle.vote.specs.declared.data.Verdict.{Verdict}
use Rattle.vote.specs.declared.data.Verdict.TheVariants as verdict
use Rattle.vote.specs.declared.data.Vote.{Vote}
use Rattle.table.specs.Fresh.{fresh_for}
use Rattle.table.specs.Places.{site_at}
use Rattle.table.specs.declared.data.Table.{Table}
use Rattle.steps.specs.Numbers.{place_of}
use Rattle.steps.specs.Steps.{stepped}
use Rattle.demand.specs.Examples.{played, begins, tells, delivers}

infix 5 ◌gives◌
-- ---- rows, and the statement

-- what is computed, and what document 01 says comes out
pub data CaseRow : Type 1 where
  ◌gives◌ : {A : Type 0} → A → A → CaseRow

-- every row's two sides are equal
abbrev pub EveryRow : List CaseRow → Type 0
EveryRow [] = Unit {0}
EveryRow ((computed gives said) ∷ rows) = (computed ≡ said) × EveryRow rows

-- ---- runs of steps from a fresh table of n sites

-- the table after these steps, the first of them first
abbrev pub table_after : ℕ → List Step → Table
table_after n steps = (played n steps).table

-- what these steps answer, the first of them first
unfoldable pub answers_from : Table → List Step → List Answer
answers_from t [] = []
answers_from t (a ∷ rest) = (stepped t a).answer ∷ answers_from (stepped t a).table rest

-- what these steps answer from a fresh table of n sites
abbrev pub answers_to : ℕ → List Step → List Answer
answers_to n steps = answers_from (fresh_for n).table steps

-- the number given back and the first result: of a begin, its stamp
abbrev pub issues : List Answer → List (ℕ × ℤ)
issues l = map (λ x. (x.number, x.first)) l

-- the numbers given back
abbrev pub numbers : List Answer → List ℕ
numbers l = map (λ x. x.number) l

-- how many requests each step accepted, and how many it rejected
abbrev pub verdict_counts : List Answer → List (ℕ × ℕ)
verdict_counts l = map (λ x. (x.accepted, x.rejected)) l

-- what a site has marked, and its verdict, on the request of this stamp
abbrev pub site_says : Table → ℕ → ℕ → Vote
site_says t site stamp = vote_at (site_at t (site - 1)).votes (place_of t stamp)

-- a site's copy of item 0: its stamp and its value
abbrev pub copy_at : Table → ℕ → ℕ × ℤ
copy_at t site = (get_or (site_at t (site - 1)).stamps 0 0, get_or (site_at t (site - 1)).values 0 (pos 0))

-- what sites say of requests, asked for by site and stamp
abbrev pub all_say : Table → List (ℕ × ℕ) → List Vote
all_say t asked = map (λ a. site_says t a.0 a.1) asked

-- a mark and a verdict
abbrev pub standing : Mark → Verdict → Vote
standing m d = record { mark = m; verdict = d }

-- site begins a request, at clock 1000, with these base and update sets and base stamps 0
abbrev pub begins_on : ℕ → ℕ → ℕ → Step
begins_on site base update = record {
  code = 1;
  site = site;
  to = 0;
  item = 0;
  place = 0;
  clock = 1000;
  stamp = 0;
  base = base;
  update = update;
  stamps = replicate 24 0;
  values = replicate 24 (pos 7);
}

-- ---- the runs

-- base {0, 1}, update {0}
abbrev pub begins_wide : Step
begins_wide = begins_on 1 3 1

-- base and update {1}
abbrev pub begins_narrow : Step
begins_narrow = begins_on 1 2 2

-- two sites begin at once on item 0: 8001 and 8002
abbrev pub both_begin : List Step
both_begin = begins 1 1000 0 (pos 7) ∷ begins 2 1000 0 (pos 9) ∷ []

-- 8002 comes to site 1
abbrev pub second_comes : List Step
second_comes = both_begin ++ (tells 2 8002 1 ∷ delivers 0 ∷ [])

-- the other way: 8001 comes to site 2
abbrev pub first_comes : List Step
first_comes = both_begin ++ (tells 1 8001 2 ∷ delivers 0 ∷ [])

-- then 8002 comes to site 1
abbrev pub then_second : List Step
then_second = first_comes ++ (tells 2 8002 1 ∷ delivers 1 ∷ [])

-- and the verdict of site 1 on it to site 2
abbrev pub that_verdict : List Step
that_verdict = then_second ++ (tells 1 8002 2 ∷ delivers 2 ∷ [])

-- U, begun at 1, is told to 2 and 3; the word to 2 is delivered, and 2 tells 1
abbrev pub u_spreads : List Step
u_spreads = begins 1 1000 0 (pos 7) ∷ tells 1 8001 2 ∷ tells 1 8001 3 ∷ delivers 0 ∷ tells 2 8001 1 ∷ delivers 2 ∷ []

-- A, begun at 2 on the same item with U's stamp for its base stamp, is told to 1
abbrev pub a_spreads : List Step
a_spreads = u_spreads ++ (begins 2 1000 8001 (pos 8) ∷ tells 2 8010 1 ∷ delivers 3 ∷ [])

-- 1 tells 3 of A; then the first word of U is delivered there
abbrev pub word_comes_late : List Step
word_comes_late = a_spreads ++ (tells 1 8010 3 ∷ delivers 4 ∷ delivers 1 ∷ [])

-- then U's verdict
abbrev pub verdict_comes_late : List Step
verdict_comes_late = word_comes_late ++ (tells 1 8001 3 ∷ delivers 5 ∷ [])

-- ---- the table

-- "Cases 1 to 10 form a single table under a single statement."
abbrev pub bench_cases : List CaseRow
bench_cases =
    -- 1. "n = 1, 2, 3, 4, 7: m = 1, 2, 2, 3, 4; to reject 1, 1, 2, 2, 4."
    (map majority (1 ∷ 2 ∷ 3 ∷ 4 ∷ 7 ∷ []) gives (1 ∷ 2 ∷ 2 ∷ 3 ∷ 4 ∷ []))
    ∷ (map blocking (1 ∷ 2 ∷ 3 ∷ 4 ∷ 7 ∷ []) gives (1 ∷ 1 ∷ 2 ∷ 2 ∷ 4 ∷ []))
    -- 2. "Site 1, clock 1000 twice, base stamps 0: 8001, 8009."
    ∷ (issues (answers_to 3 (begins 1 1000 0 (pos 7) ∷ begins 1 1000 0 (pos 7) ∷ [])) gives ((0, pos 8001) ∷ (0, pos 8009) ∷ []))
    -- 3. "Site 2 fresh, clock 990, base stamp 8001: 8010."
    ∷ (issues (answers_to 3 (begins 2 990 8001 (pos 7) ∷ [])) gives ((0, pos 8010) ∷ []))
    -- 4. "Site 1 fresh, clock 4,294,967,295: 34,359,738,361; its next begin: 8."
    ∷ (issues (answers_to 3 (begins 1 4294967295 0 (pos 7) ∷ begins 1 1000 0 (pos 7) ∷ [])) gives ((0, pos 34359738361) ∷ (8, pos 0) ∷ []))
    -- 5. "n = 3, pending 8001 on item 0 at site 1; 8002 on item 0 comes: DR."
    ∷ (all_say (table_after 3 second_comes) ((1, 8001) ∷ (1, 8002) ∷ [])
    gives (standing mark.Ok verdict.Open ∷ standing mark.Dr verdict.Open ∷ []))
    -- 6. "The other way at site 2: 8001 is deferred."
    ∷ (all_say (table_after 3 first_comes) ((2, 8002) ∷ (2, 8001) ∷ [])
    gives (standing mark.Ok verdict.Open ∷ standing mark.Deferred verdict.Open ∷ []))
    -- 7. "n = 1, stamps 0: base {0, 1} update {0}, then base and update {1}: both accepted."
    ∷ (verdict_counts (answers_to 1 (begins_wide ∷ begins_narrow ∷ [])) gives ((1, 0) ∷ (1, 0) ∷ []))
    ∷ (all_say (table_after 1 (begins_wide ∷ begins_narrow ∷ [])) ((1, 8001) ∷ (1, 8009) ∷ [])
    gives (standing mark.Ok verdict.Accepted ∷ standing mark.Ok verdict.Accepted ∷ []))
    -- "In the other order the second is rejected."
    ∷ (verdict_counts (answers_to 1 (begins_narrow ∷ begins_wide ∷ [])) gives ((1, 0) ∷ (0, 1) ∷ []))
    ∷ (all_say (table_after 1 (begins_narrow ∷ begins_wide ∷ [])) ((1, 8001) ∷ (1, 8009) ∷ [])
    gives (standing mark.Ok verdict.Accepted ∷ standing mark.Rej verdict.Rejected ∷ []))
    -- 8. "n = 2: 8001 deferred at 2 behind 8002;"
    ∷ (all_say (table_after 2 first_comes) ((2, 8002) ∷ (2, 8001) ∷ [])
    gives (standing mark.Ok verdict.Open ∷ standing mark.Deferred verdict.Open ∷ []))
    -- "1 votes DR and rejects 8002;"
    ∷ (all_say (table_after 2 then_second) ((1, 8002) ∷ []) gives (standing mark.Dr verdict.Rejected ∷ []))
    -- "that verdict at 2 gives accepted 1, rejected 1 in one step."
    ∷ (verdict_counts (answers_to 2 that_verdict) gives ((0, 0) ∷ (0, 0) ∷ (0, 0) ∷ (0, 0) ∷ (0, 0) ∷ (0, 1) ∷ (0, 0) ∷ (1, 1) ∷ []))
    -- 9. "n = 3: U at 1, told to 2 and 3. 2 accepts U; 1 learns it."
    ∷ (all_say (table_after 3 u_spreads) ((2, 8001) ∷ (1, 8001) ∷ [])
    gives (standing mark.Ok verdict.Accepted ∷ standing mark.Ok verdict.Accepted ∷ []))
    -- "A at 2 on the same item, base stamp U's, is accepted by 1."
    ∷ (all_say (table_after 3 a_spreads) ((2, 8010) ∷ (1, 8010) ∷ [])
    gives (standing mark.Ok verdict.Open ∷ standing mark.Ok verdict.Accepted ∷ []))
    -- "3 hears A accepted, then the first word of U: REJ, still open."
    ∷ (all_say (table_after 3 word_comes_late) ((3, 8010) ∷ (3, 8001) ∷ [])
    gives (standing mark.None verdict.Accepted ∷ standing mark.Rej verdict.Open ∷ []))
    -- "Then U's verdict: accepted, the copy stays A's."
    ∷ (all_say (table_after 3 verdict_comes_late) ((3, 8001) ∷ []) gives (standing mark.Rej verdict.Accepted ∷ []))
    ∷ (copy_at (table_after 3 verdict_comes_late) 3 gives (8010, pos 8))
    -- the fourth step is the acceptance of U at 2, the sixth at 1; the ninth that of A at 1, the eleventh at 3; the last that of U at 3
    ∷ (verdict_counts (answers_to 3 verdict_comes_late)
    gives ((0, 0) ∷ (0, 0) ∷ (0, 0) ∷ (1, 0) ∷ (0, 0) ∷ (1, 0) ∷ (0, 0) ∷ (0, 0) ∷ (1, 0) ∷ (0, 0) ∷ (1, 0) ∷ (0, 0) ∷ (0, 0) ∷ (1, 0) ∷ []))
    -- 10. "Values 8,640,000 and -8,640,000 pass; one beyond: 7." (`negsuc k` is -1 - k)
    ∷ (numbers (answers_to 1 (begins 1 1000 0 (pos 8640000) ∷ begins 1 1000 0 (negsuc 8639999) ∷ begins 1 1000 0 (pos 8640001) ∷ begins 1 1000 0 (negsuc 8640000) ∷ []))
    gives (0 ∷ 0 ∷ 7 ∷ 7 ∷ []))
    ∷ []
