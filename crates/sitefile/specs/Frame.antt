-- How a site file stands in its bytes, whatever an entry holds and however long it is.
use Rattle.std.specs.Prelude.{ℕ, ◌-◌, ◌*◌, List, [], ◌∷◌, ◌++◌, length}
use Rattle.kit.specs.Bytes.{bytes_of, field_at}
use Rattle.fnv.specs.Fnv.{fnv_of}

-- an entry's length, its bytes, and the entry that stands at a place of a list of bytes
pub record Form (E : Type 0) : Type 0 where
  pub width : ℕ
  pub bytes : E → List ℕ
  pub read : List ℕ → ℕ → E

-- entries, one behind the other
unfoldable pub joined : {E : Type 0} → Form E → List E → List ℕ
joined f [] = []
joined f (e ∷ es) = f.bytes e ++ joined f es

-- entry k of a file
unfoldable pub entry_at : {E : Type 0} → Form E → List ℕ → ℕ → E
entry_at f b k = f.read b (f.width * k)

-- "Then a trailer of 8 bytes: site, entry count, distance back from the trailer to the first entry (2 bytes, 10 × count)": its first four,
-- for entries of w bytes
unfoldable pub trailer_of : ℕ → ℕ → ℕ → List ℕ
trailer_of w site n = bytes_of 1 site ++ (bytes_of 1 n ++ bytes_of 2 (w * n))

-- "and FNV-1a of all bytes before it": the bytes s, and their check behind them
unfoldable pub checked : List ℕ → List ℕ
checked s = s ++ bytes_of 4 (fnv_of s)

-- the file of some entries
unfoldable pub framed : {E : Type 0} → Form E → ℕ → List E → List ℕ
framed f site es = checked (joined f es ++ trailer_of f.width site (length es))

-- the trailer's numbers in a file, counted from its end: "site"
unfoldable pub site_in : List ℕ → ℕ
site_in b = field_at b (length b - 8) 1

-- "entry count"
unfoldable pub count_in : List ℕ → ℕ
count_in b = field_at b (length b - 7) 1

-- "distance back from the trailer to the first entry (2 bytes, ..)"
unfoldable pub distance_in : List ℕ → ℕ
distance_in b = field_at b (length b - 6) 2

-- the check, the last four bytes
unfoldable pub check_in : List ℕ → ℕ
check_in b = field_at b (length b - 4) 4
