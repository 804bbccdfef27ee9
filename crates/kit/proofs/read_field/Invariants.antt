-- `kit::read_field` meets its contract. The invariant: v is the number of the bytes from k on, k going down.
use mathlib.Core.Path.{◌≡◌}
use Prim.Native.Nat.{◌+◌, ◌-◌, ◌≤◌}
use lib.ListN.{length, drop}
use Rattle.kit.specs.Bytes.{le}
use Rattle.kit.proofs.read_field.Given as goal

abbrev pub invariant-loop-k : goal.invariant-loop-k
invariant-loop-k l = (l.v ≡ le (l.n - l.k) (drop (l.at + l.k) l.s)) × (l.n ≤ 8) × (l.at + l.n ≤ length l.s)
