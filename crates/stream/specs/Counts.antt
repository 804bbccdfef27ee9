-- How many bytes stand at the front of a buffer.
use Rattle.std.specs.Prelude.{◌≡◌, ℕ, ◌≤◌, List, length, take}

-- `&xs[..n]` lies inside xs and has n bytes; the second part follows from the first, and spares a caller's `&xs[..n]` a proof
abbrev pub IsPrefixLen : ℕ → List ℕ → Type 0
IsPrefixLen n xs = (n ≤ length xs) × (n ≡ length (take n xs))
