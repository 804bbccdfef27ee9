-- A verdict that is due at a site is backed: each voter that the site knows has that mark of its own.
use mathlib.Core.Path.{◌≡◌, refl}
use mathlib.Core.Bool.{true}
use Prim.Native.Nat.{ℕ, ◌≤◌, ◌<◌}
use native.Mathlib.Omega.{arith}
use borrow.Author.Tests.{le-leb}
use Rattle.kit.specs.Range.{number}
use Rattle.kit.proofs.Ranges.{number_grows}
use Rattle.majority.specs.Majority.{majority, blocking}
use Rattle.vote.specs.Verdicts.{verdict_due}
use Rattle.vote.specs.Voters.{knows, voters_known}
use Rattle.vote.specs.declared.data.Site.{Site}
use Rattle.vote.specs.declared.data.Verdict.{Verdict}
use Rattle.vote.specs.declared.data.Verdict.TheVariants as verdict
use Rattle.vote.proofs.KnownVoters.{voters_number}
use Rattle.vote.proofs.VerdictsDue.{accepted_due, rejected_due}
use Rattle.table.specs.Sound.{marks_ok, marks_other, backed}
use Rattle.table.specs.declared.data.Table.{Table}

-- "a voter known .. has that mark of its own": of the voters of place p that s knows, in the table t
pub record Known (t : Table) (p : ℕ) (s : Site) : Type 0 where
  pub oks : (u : ℕ) → u < 7 → knows s.oks p u ≡ true → marks_ok t p u ≡ true
  pub others : (u : ℕ) → u < 7 → knows s.others p u ≡ true → marks_other t p u ≡ true

pub due_backed : (t : Table) (p : ℕ) (s : Site) → Known t p s → backed t p (verdict_due t.count s.oks s.others p) ≡ true
due_backed t p s h = go (verdict_due t.count s.oks s.others p) refl
  where
    oks : voters_known s.oks p ≤ number 7 (marks_ok t p)
    oks = rw (voters_number s.oks p) (number_grows 7 (knows s.oks p) (marks_ok t p) h.oks)

    others : voters_known s.others p ≤ number 7 (marks_other t p)
    others = rw (voters_number s.others p) (number_grows 7 (knows s.others p) (marks_other t p) h.others)

    go : (d : Verdict) → verdict_due t.count s.oks s.others p ≡ d → backed t p d ≡ true
    go verdict.Open e = refl
    go verdict.Accepted e =
        let a = accepted_due t.count s.oks s.others p e in
        le-leb (majority t.count) (number 7 (marks_ok t p)) (omega (arith, oks))
    go verdict.Rejected e =
        let a = (rejected_due t.count s.oks s.others p e).1 in
        le-leb (blocking t.count) (number 7 (marks_other t p)) (omega (arith, others))
