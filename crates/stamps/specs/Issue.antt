-- Issuing a stamp: what a site that has issued `last` answers, and where its last t then stands.
use Rattle.std.specs.Prelude.{ℕ, cond, List, leb, Result, Ok, Err}
use Rattle.refusals.specs.Numbers.{answer_number}
use Rattle.refusals.specs.declared.Refusal.{Refusal}
use Rattle.refusals.specs.declared.Refusal.TheVariants as refusal
use Rattle.stamps.specs.Stamps.{stamp_of, last_time, next_time}
use Rattle.stamps.specs.declared.Given.{Given}

-- the answer that gives this stamp, of this t
abbrev pub given : ℕ → ℕ → Result Given Refusal
given stamp t = Ok (record { stamp = stamp; t = t })

-- the answer that gives none
abbrev pub past : Result Given Refusal
past = Err refusal.TimePast

-- the stamp of the next t, or none where "t would pass 4,294,967,295"
unfoldable pub issued : ℕ → ℕ → ℕ → ℕ → List ℕ → Result Given Refusal
issued site clock last base stamps =
    cond (leb (next_time clock last base stamps) last_time)
    (given (stamp_of (next_time clock last base stamps) site) (next_time clock last base stamps))
    past

-- document 01's number for the answer
abbrev pub issue_number : Result Given Refusal → ℕ
issue_number r = answer_number r

-- the stamp given, 0 beside a refusal
abbrev pub issue_stamp : Result Given Refusal → ℕ
issue_stamp (Ok g) = g.stamp
issue_stamp (Err r) = 0

-- the site's last t after it: "issuing a stamp moves that record on and nothing else"
abbrev pub issue_last : ℕ → Result Given Refusal → ℕ
issue_last last (Ok g) = g.t
issue_last last (Err r) = last
