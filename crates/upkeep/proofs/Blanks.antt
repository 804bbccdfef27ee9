-- Who holds nothing of a place holds nothing wrong there; a blank request place and a blank message place are sound.
use mathlib.Core.Path.{◌≡◌, refl, ap, ◌∙◌}
use mathlib.Core.Bool.{Bool, true, false}
use mathlib.Core.List.{List}
use Prim.Native.Nat.{ℕ, ◌<◌}
use native.Mathlib.Omega.{arith}
use Rattle.kit.specs.Range.{any, all}
use Rattle.kit.proofs.Bools.{clash}
use Rattle.kit.proofs.Ranges.{number_none}
use Rattle.majority.proofs.Majorities.{majority_some, blocking_some}
use Rattle.readings.specs.Readings.{is_zero}
use Rattle.table.specs.Blank.{zeros, zero_values, is_blank_request, is_blank_message}
use Rattle.table.specs.Fresh.{blank_message}
use Rattle.table.specs.Meaning.{ShapedRequest, ShapedMessage, SoundPlace, SoundMessage}
use Rattle.table.specs.Places.{site_at, message_at, place_at}
use Rattle.table.specs.declared.data.Message.{Message}
use Rattle.table.specs.declared.data.Table.{Table}
use Rattle.table.proofs.Nothing.{Nothing, nothing_of}
use Rattle.vote.specs.Data.{blank_request, vote_at}
use Rattle.vote.specs.Voters.{knows, has_voter, no_voters, none_known, voters_known, no_row}
use Rattle.vote.specs.declared.data.Request.{Request}
use Rattle.vote.specs.declared.data.Site.{Site}
use Rattle.vote.proofs.KnownVoters.{voters_number}
use Rattle.vote.proofs.MarkKinds.{unmarked_no_vote}
use Rattle.vote.proofs.Rows.{unknown_at}
use Rattle.upkeep.specs.But.{HoldingBut, Quiet}
use Rattle.upkeep.proofs.Carried.{open_backed, unused_message}

voters_none : (known : List Bool) (q : ℕ) → none_known known q ≡ true → voters_known known q ≡ 0
voters_none known q e = voters_number known q ∙ number_none 7 (knows known q) (λ u l. unknown_at known q u e l)

pub nothing_held : (t : Table) (s : Site) (k q : ℕ) → Nothing s q → HoldingBut t s k q
nothing_held t s k q h = record {
  known_ok = λ u l e. clash e (unknown_at s.oks q u h.no_oks l);
  known_other = λ u l e. clash e (unknown_at s.others q u h.no_others l);
  own_ok = λ e. clash e (unmarked_no_vote (vote_at s.votes q).mark h.unmarked).no_ok;
  own_other = λ e. clash e (unmarked_no_vote (vote_at s.votes q).mark h.unmarked).no_other;
  backing = open_backed t q (vote_at s.votes q).verdict h.unruled;
  judged = λ o. clash h.unruled o;
}

pub nothing_quiet : (n : ℕ) (s : Site) (q : ℕ) → Nothing s q → Quiet n s q
nothing_quiet n s q h = record {
  few_oks = λ o. rw (voters_none s.oks q h.no_oks) (majority_some n);
  few_others = λ o. rw (voters_none s.others q h.no_others) (blocking_some n);
  unheard_oks = λ o u. h.no_oks;
  unheard_others = λ o u. h.no_others;
}

-- ---- blank places

request_blank : is_blank_request blank_request ≡ true
unfolding is_blank_request blank_request zeros zero_values all is_zero
request_blank = refl

pub blank_stamp : blank_request.stamp ≡ 0
unfolding blank_request
blank_stamp = refl

pub blank_place : (t : Table) (q : ℕ) → place_at t q ≡ blank_request → ((k : ℕ) → k < 7 → Nothing (site_at t k) q) → SoundPlace t q
blank_place t q e none =
    let zero : (place_at t q).stamp ≡ 0 = ap (λ (r : Request). r.stamp) e ∙ blank_stamp in
    record {
      free_request = λ z. rw e request_blank;
      free_held = λ z k hk. nothing_of (none k hk);
      allowed = λ ne. absurd (ne zero);
      form = λ ne. absurd (ne zero);
      time = rw zero (omega arith);
      own_stamp = λ ne. absurd (ne zero);
    }

message_blank : is_blank_message blank_message ≡ true
unfolding is_blank_message blank_message no_voters has_voter no_row any
message_blank = refl

unused_blank : blank_message.used ≡ false
unfolding blank_message
unused_blank = refl

pub blank_message_lem : (t : Table) (i : ℕ) → message_at t i ≡ blank_message → SoundMessage t i
blank_message_lem t i e = unused_message t i (ap (λ (m : Message). m.used) e ∙ unused_blank) (rw e message_blank)

pub shaped_blank_request : ShapedRequest blank_request
unfolding blank_request
shaped_blank_request = record { stamps = refl; values = refl }

pub shaped_blank_message : ShapedMessage blank_message
unfolding blank_message no_row
shaped_blank_message = record { oks = refl; others = refl }
