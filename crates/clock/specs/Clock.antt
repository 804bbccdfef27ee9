-- Document 01, "Stamps": "The last t of a site lives in one clock record, and issuing a stamp moves that record on and nothing else."
use Rattle.std.specs.Prelude.{ℕ, List, Result, Ok, Err}
use Rattle.stamps.specs.Issue.{issued}
use Rattle.refusals.specs.declared.Refusal.{Refusal}
use Rattle.stamps.specs.declared.Given.{Given}
use Rattle.clock.specs.declared.Clock.{Clock}
use Rattle.clock.specs.declared.Issued.{Issued}

-- what a site with that clock record answers
abbrev pub answered : Clock → ℕ → ℕ → List ℕ → Result Given Refusal
answered c clock base stamps = issued c.site clock c.last base stamps

-- the record after that answer: at the t given; as it came where none is
abbrev pub moved_on : Clock → Result Given Refusal → Clock
moved_on c (Ok g) = record { site = c.site; last = g.t }
moved_on c (Err r) = c

-- both
abbrev pub issuing : Clock → ℕ → ℕ → List ℕ → Issued
issuing c clock base stamps = record { answer = answered c clock base stamps; clock = moved_on c (answered c clock base stamps) }
