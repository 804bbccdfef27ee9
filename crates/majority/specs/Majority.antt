-- Document 01, "Requests and votes": how many voters decide.
use Rattle.std.specs.Prelude.{ℕ, ◌+◌, ◌-◌, ◌/◌}

-- "With n sites a majority is m = n div 2 + 1"; a site accepts when it knows m OK voters
unfoldable pub majority : ℕ → ℕ
majority n = n / 2 + 1

-- "and rejects when it knows n - m + 1 voters of DR and REJ together"
unfoldable pub blocking : ℕ → ℕ
blocking n = n - majority n + 1
