-- What the code answers, told as document 01's number and values: two answers that are told alike are the same.
use Rattle.std.proofs.Common.{◌≡◌, ℕ, sym, ap}
use Rattle.std.specs.Prelude.{Result, Ok, Err}
use Rattle.refusals.specs.Numbers.{number_of}
use Rattle.refusals.specs.declared.Refusal.{Refusal}
use Rattle.refusals.proofs.Numbers.{same_refusal, same_answer}
use Rattle.sitefile.specs.Read.{SiteFile, file_answer}
use Rattle.sitefile.specs.Write.{Written, write_answer}
use Rattle.sitefile.specs.declared.SiteFile as code

-- 0 is no refusal's number
none_is_0 : (r : Refusal) → 0 ≡ number_of r → ⊥
none_is_0 r e = let q = same_answer (Ok tt) (Err r) e in cc q

pub same_file : (a b : Result code.SiteFile Refusal) → file_answer a ≡ file_answer b → a ≡ b
same_file (Ok f) (Ok g) e = ap (λ (t : SiteFile). Ok (record { site = t.site; stamps = t.stamps; values = t.values })) e
same_file (Ok f) (Err r) e = absurd (none_is_0 r (ap (λ (t : SiteFile). t.number) e))
same_file (Err r) (Ok f) e = absurd (none_is_0 r (sym (ap (λ (t : SiteFile). t.number) e)))
same_file (Err r) (Err q) e = ap Err (same_refusal r q (ap (λ (t : SiteFile). t.number) e))

pub same_written : (a b : Result ℕ Refusal) → write_answer a ≡ write_answer b → a ≡ b
same_written (Ok m) (Ok n) e = ap (λ (t : Written). Ok t.length) e
same_written (Ok m) (Err r) e = absurd (none_is_0 r (ap (λ (t : Written). t.number) e))
same_written (Err r) (Ok n) e = absurd (none_is_0 r (sym (ap (λ (t : Written). t.number) e)))
same_written (Err r) (Err q) e = ap Err (same_refusal r q (ap (λ (t : Written). t.number) e))
