-- A message that names a request, as the library searches for it and as document 01's numbers say it.
use Rattle.std.proofs.Common.{◌≡◌, ℕ, Bool, false, List, length, get_or}
use Rattle.std.specs.Prelude.{◌&&◌, ◌==◌, eqb, ltb}
use Rattle.std.specs.List.{list_any}
use Rattle.kit.specs.Range.{any}
use Rattle.kit.proofs.Iterated.{any_elements}
use Rattle.table.specs.Places.{no_site, no_message}
use Rattle.table.specs.declared.data.Message.{Message}
use Rattle.vote.specs.Data.{is_open, vote_at}
use Rattle.vote.specs.declared.data.Site.{Site}
use Rattle.plans.specs.Pieces.{held_back}

pub named_is : {r : Bool} (messages : List Message) (p : ℕ) → length messages ≡ 64 → r ≡ list_any (λ m. m.used && m.request == p) messages
    → r ≡ any 64 (λ j. (get_or messages j no_message).used && eqb (get_or messages j no_message).request p)
named_is messages p e h = rw (← any_elements (λ (m : Message). m.used && m.request == p) messages no_message e) h

pub held_back_is : {a b : Bool} (n : ℕ) (sites : List Site) (messages : List Message) (p : ℕ) → length messages ≡ 64
    → a ≡ false → a ≡ any 7 (λ k. ltb k n && is_open (vote_at (get_or sites k no_site).votes p).verdict) → b ≡ list_any (λ m. m.used && m.request == p) messages
    → b ≡ held_back n sites messages p
held_back_is n sites messages p e n₀ f g = rw (← f, n₀) (named_is messages p e g)
