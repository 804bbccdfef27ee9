-- The messages of a table taken apart: a row of five numbers each (whether the place is used, the request, from, to, the verdict's number), and
-- rows of the voters told.
use Rattle.std.specs.Prelude.{ℕ, Bool, not, List, [], ◌∷◌, eqb, get_or}
use Rattle.kit.specs.Lists.{listed}
use Rattle.kit.specs.Range.{one}
use Rattle.table.specs.Places.{no_message}
use Rattle.table.specs.declared.data.Message.{Message}
use Rattle.vote.specs.Numbers.{verdict_number, verdict_from}

-- the five numbers of a message
abbrev pub letter_of : Message → List ℕ
letter_of m = one m.used ∷ m.request ∷ m.from ∷ m.to ∷ verdict_number m.verdict ∷ []

-- whether a place is used, by its row
abbrev pub is_letter : List ℕ → Bool
is_letter row = not (eqb (get_or row 0 0) 0)

-- the message of a row, with the voters told
abbrev pub letter_from : List ℕ → List Bool → List Bool → Message
letter_from row oks others = record {
  used = is_letter row;
  request = get_or row 1 0;
  from = get_or row 2 0;
  to = get_or row 3 0;
  verdict = verdict_from (get_or row 4 0);
  oks = oks;
  others = others;
}

-- of each of the 64 places
unfoldable pub letters_in : List Message → List (List ℕ)
letters_in messages = listed 64 (λ j. letter_of (get_or messages j no_message))

unfoldable pub told_oks_in : List Message → List (List Bool)
told_oks_in messages = listed 64 (λ j. (get_or messages j no_message).oks)

unfoldable pub told_others_in : List Message → List (List Bool)
told_others_in messages = listed 64 (λ j. (get_or messages j no_message).others)

-- and put together
unfoldable pub messages_from : List (List ℕ) → List (List Bool) → List (List Bool) → List Message
messages_from letters oks others = listed 64 (λ j. letter_from (get_or letters j []) (get_or oks j []) (get_or others j []))
