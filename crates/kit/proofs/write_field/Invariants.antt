-- `kit::write_field` meets its contract. The invariant: the first bytes stand in the part, and `rest` has the others.
use mathlib.Core.Path.{◌≡◌}
use Prim.Native.Nat.{◌+◌, ◌/◌, ◌^◌, ◌≤◌}
use lib.ListN.{length}
use lib.Seq.{paste}
use Rattle.kit.specs.Bytes.{bytes_of}
use Rattle.kit.proofs.write_field.Given as goal

abbrev pub invariant-loop-b : goal.invariant-loop-b
invariant-loop-b l = (l.rest ≡ l.v / 256 ^ l.b-index) × (l.b-items ≡ paste l.initial.b-items 0 (bytes_of l.n l.v) l.b-index) × (l.at + l.n ≤ length l.fn.d)
