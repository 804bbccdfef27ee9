-- Messages in rows: taken apart and put together again they are the same.
use mathlib.Core.Bool.{Bool, true, false, not}
use mathlib.Core.List.{List, []}
use mathlib.Core.Path.{◌≡◌, refl}
use lib.Dec.{eqb}
use lib.ListN.{length, get_or}
use Rattle.kit.specs.Range.{one}
use Rattle.kit.proofs.Listings.{listed_at}
use Rattle.kit.proofs.Turns.{listed_is}
use Rattle.table.specs.Places.{no_message}
use Rattle.table.specs.declared.data.Message.{Message}
use Rattle.vote.proofs.VoteNumbers.{verdict_back}
use Rattle.rows.specs.Letters.{letter_of, letter_from, letters_in, told_oks_in, told_others_in, messages_from}

used_back : (b : Bool) → not (eqb (one b) 0) ≡ b
used_back true = refl
used_back false = refl

-- the message of its own row
pub letter_back : (m : Message) → letter_from (letter_of m) m.oks m.others ≡ m
letter_back m = λ i. record {
  used = used_back m.used i;
  request = m.request;
  from = m.from;
  to = m.to;
  verdict = verdict_back m.verdict i;
  oks = m.oks;
  others = m.others;
}

-- taken apart and put together
pub messages_opened : (ms : List Message) → length ms ≡ 64 → messages_from (letters_in ms) (told_oks_in ms) (told_others_in ms) ≡ ms
unfolding messages_from letters_in told_oks_in told_others_in
messages_opened ms e =
    listed_is 64 _ no_message ms e
    (λ i h. rw (listed_at 64 i (λ j. letter_of (get_or ms j no_message)) [] h, listed_at 64 i (λ j. (get_or ms j no_message).oks) [] h, listed_at 64 i (λ j. (get_or ms j no_message).others) [] h)
    (letter_back (get_or ms i no_message)))
