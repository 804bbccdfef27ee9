-- "For each public call, answer, table and buffers are determined by what went in, refused or not: show that no two outcomes satisfy its
-- promise."
use Rattle.std.specs.Prelude.{ℕ, List, ◌≡◌}
use contract.Lifetimes.{Lfts}
use denote.Triple.Clauses.{Lasts, at_exit}
use borrow.Fn.Kinds.{ParamKind, ResultKind, Dens, res_t, ended_of, Out}

-- A call with arguments a has an outcome: its result, and the last value of each parameter that was lent to it to be changed (what is lent for
-- reading, or passed by value, has none). The promise is the function's own contract, as its callers learn it. Of two outcomes that both satisfy
-- it, the results are equal, and so are the last values.
abbrev pub OneOutcome : {n : ℕ} (ps : List (ParamKind n)) (r : ResultKind n) → Out n ps r → Type 0
OneOutcome {n} ps r promise =
    (κs : Lfts n) (a : Dens κs ps) (result result' : (res_t r κs).Denot) (lasts lasts' : Lasts (ended_of n ps r) κs a)
    → promise κs a result (at_exit (ended_of n ps r) κs a lasts)
    → promise κs a result' (at_exit (ended_of n ps r) κs a lasts')
    → (result ≡ result') × (lasts ≡ lasts')

-- The same of a call that gives back a reference: what it refers to is equal. Where that stands in memory is no part of the answer.
abbrev pub OneOutcomeBehind : {n : ℕ} (ps : List (ParamKind n)) (r : ResultKind n) → Out n ps r → {X : Type 0} → ((κs : Lfts n) → (res_t r κs).Denot → X) → Type 0
OneOutcomeBehind {n} ps r promise behind =
    (κs : Lfts n) (a : Dens κs ps) (result result' : (res_t r κs).Denot) (lasts lasts' : Lasts (ended_of n ps r) κs a)
    → promise κs a result (at_exit (ended_of n ps r) κs a lasts)
    → promise κs a result' (at_exit (ended_of n ps r) κs a lasts')
    → (behind κs result ≡ behind κs result') × (lasts ≡ lasts')
