-- Document 01, "The site file": "FNV-1a of all bytes before it (32 bits, basis 2166136261, prime 16777619, products cut to 32 bits)".
use Rattle.std.specs.Prelude.{ℕ, ◌*◌, ◌%◌, ◌^◌, List, [], ◌∷◌}
use Rattle.std.specs.Int.Bits.{bit_xor}

-- a product cut to 32 bits
unfoldable pub cut_product : ℕ → ℕ → ℕ
cut_product a b = a * b % 2 ^ 32

-- one byte more: joined by exclusive or, then multiplied by the prime
unfoldable pub fnv_step : ℕ → ℕ → ℕ
fnv_step h b = cut_product (bit_xor h b) 16777619

-- byte after byte, from the check h on
unfoldable pub fnv_from : ℕ → List ℕ → ℕ
fnv_from h [] = h
fnv_from h (b ∷ s) = fnv_from (fnv_step h b) s

-- the check of all bytes of s
unfoldable pub fnv_of : List ℕ → ℕ
fnv_of s = fnv_from 2166136261 s
