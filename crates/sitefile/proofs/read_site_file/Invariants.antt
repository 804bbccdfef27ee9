-- `sitefile::read_site_file` meets its contract: the readings so far are those of the entries before the k-th.
use Rattle.std.proofs.Common.{◌≡◌}
use Rattle.sitefile.specs.Frame.{entry_at, site_in}
use Rattle.sitefile.specs.Entries.{rate_form}
use Rattle.sitefile.specs.Read.{readings_of, told_file}
use Rattle.sitefile.proofs.read_site_file.Given as goal

abbrev pub invariant-loop-k : goal.invariant-loop-k
invariant-loop-k l = told_file l.f ≡ readings_of (site_in l.bytes) (entry_at rate_form l.bytes) l.k
