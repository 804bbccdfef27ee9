-- What the proofs of `clock` say of the record.
use Rattle.std.specs.Prelude.{ℕ, Result, Ok, Err, ◌≡◌}
use Rattle.std.proofs.Common.{◌∙◌, ap}
use Rattle.refusals.specs.declared.Refusal.{Refusal}
use Rattle.stamps.specs.Issue.{issue_last}
use Rattle.stamps.specs.declared.Given.{Given}
use Rattle.clock.specs.Clock.{moved_on}
use Rattle.clock.specs.declared.Clock.{Clock}

-- the record with the last t after an answer is the record moved on by it
with_last : (c : Clock) (r : Result Given Refusal) (t : ℕ) → t ≡ issue_last c.last r → ◌≡◌ {A = Clock} (record { site = c.site; last = t }) (moved_on c r)
with_last c (Ok g) t e = λ i. record { site = c.site; last = e i }
with_last c (Err r) t e = λ i. record { site = c.site; last = e i }

pub moved : (c : Clock) (r : Result Given Refusal) (t : ℕ) {answer : Result Given Refusal} → r ≡ answer → t ≡ issue_last c.last r → ◌≡◌ {A = Clock} (record { site = c.site; last = t }) (moved_on c answer)
moved c r t e l = with_last c r t l ∙ ap (moved_on c) e
