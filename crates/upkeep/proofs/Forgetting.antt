-- A site that forgets a place: it holds nothing of it, and of each other place what it held.
use mathlib.Core.Path.{◌≡◌, refl, sym, ap, ◌∙◌}
use mathlib.Core.Bool.{true}
use Prim.Native.Nat.{ℕ, ◌<◌}
use borrow.Author.Tests.{eq-eqb, ne_eqb}
use lib.ListN.{set, length-set}
use lib.Seq.{get_or-set_same, get_or-set_other}
use Rattle.kit.specs.Range.{all}
use Rattle.kit.proofs.Bools.{by_eq}
use Rattle.kit.proofs.Ranges.{all_of}
use Rattle.table.specs.Blank.{holds_nothing, is_blank_site}
use Rattle.table.proofs.Nothing.{Nothing, nothing_of, blank_holds}
use Rattle.vote.specs.Data.{no_vote, vote_at, is_unmarked, is_open, with_votes, with_known}
use Rattle.vote.specs.Shape.{ShapedSite}
use Rattle.vote.specs.Voters.{clear_voters}
use Rattle.vote.specs.declared.data.Site.{Site}
use Rattle.vote.specs.declared.data.Vote.{Vote}
use Rattle.vote.proofs.KnownVoters.{knows_cleared}
use Rattle.vote.proofs.Rows.{length_clear_voters, unknown_of}
use Rattle.upkeep.proofs.Carried.{SameHeld, nothing_carried}

-- nothing is said of place p, and nobody is known there
abbrev pub forgets : ℕ → Site → Site
forgets p s = with_votes (set s.votes p no_vote) (with_known (clear_voters s.oks p) (clear_voters s.others p) s)

module _ (p : ℕ) (s : Site) (g : ShapedSite s) where
  pub forgets_shaped : ShapedSite (forgets p s)
  forgets_shaped = record {
    stamps = g.stamps;
    values = g.values;
    queue = g.queue;
    votes = length-set s.votes p no_vote ∙ g.votes;
    oks = length_clear_voters s.oks p ∙ g.oks;
    others = length_clear_voters s.others p ∙ g.others;
  }

  pub forgets_elsewhere : p < 16 → (q : ℕ) → q < 16 → (q ≡ p → ⊥) → SameHeld s (forgets p s) q
  forgets_elsewhere hp q hq ne = record {
    vote = get_or-set_other s.votes p q no_vote no_vote ne;
    oks = λ u l. knows_cleared s.oks p q u g.oks hp hq l ∙ rw (ne_eqb p q (λ e. ne (sym e)));
    others = λ u l. knows_cleared s.others p q u g.others hp hq l ∙ rw (ne_eqb p q (λ e. ne (sym e)));
  }

  pub forgets_here : p < 16 → Nothing (forgets p s) p
  forgets_here hp =
      let vote : vote_at (set s.votes p no_vote) p ≡ no_vote = get_or-set_same s.votes p no_vote no_vote (rw g.votes hp) in
      record {
        unmarked = ap (λ (v : Vote). is_unmarked v.mark) vote;
        unruled = ap (λ (v : Vote). is_open v.verdict) vote;
        no_oks = unknown_of (clear_voters s.oks p) p (λ u l. knows_cleared s.oks p p u g.oks hp hp l ∙ rw (eq-eqb p p refl));
        no_others = unknown_of (clear_voters s.others p) p (λ u l. knows_cleared s.others p p u g.others hp hp l ∙ rw (eq-eqb p p refl));
      }

  -- a blank site stays blank
  pub forgets_blank : p < 16 → is_blank_site s ≡ true → is_blank_site (forgets p s) ≡ true
  unfolding is_blank_site
  forgets_blank hp e =
      let old : all 16 (holds_nothing s) ≡ true = all_of 16 (holds_nothing s) (blank_holds s e) in
      let new : all 16 (holds_nothing (forgets p s)) ≡ true =
      all_of 16 (holds_nothing (forgets p s)) (λ q h. by_eq q p (λ z. rw z (nothing_of (forgets_here hp))) (λ ne. nothing_carried (forgets_elsewhere hp q h ne) (blank_holds s e q h))) in
      rw new (rw old at e)
