-- What says nothing: a deferral, voters joined, the queue changed, a site down or up, its last t moved on, messages put and lost.
use Prim.Native.Nat.{ℕ, ◌≤◌, ◌<◌}
use mathlib.Core.Bool.{Bool}
use mathlib.Core.List.{List, []}
use mathlib.Core.Path.{◌≡◌, refl, sym, ap, ◌∙◌}
use native.Mathlib.Omega.{arith}
use lib.IntN.{ℤ}
use lib.ListN.{length}
use Rattle.kit.proofs.Bools.{by_eq}
use Rattle.ledger.specs.Ledger.{History}
use Rattle.ledger.specs.View.{Word, votes_ok, votes_against, accepts, rejects, View, quiet, Goes}
use Rattle.ledger.proofs.Link.{goes_stay, goes_quiet}
use Rattle.table.specs.Places.{with_site, with_message}
use Rattle.table.specs.declared.data.Message.{Message}
use Rattle.table.specs.declared.data.Table.{Table}
use Rattle.vote.specs.Data.{vote_at, with_queue, with_known, with_last, with_up}
use Rattle.vote.specs.Shape.{ShapedSite}
use Rattle.vote.specs.Voting.{with_mark, deferred}
use Rattle.vote.specs.declared.data.Mark.{Mark}
use Rattle.vote.specs.declared.data.Mark.TheVariants as mark
use Rattle.vote.specs.declared.data.Site.{Site}
use Rattle.vote.specs.declared.data.Vote.{Vote}
use Rattle.vote.proofs.Fields.{deferred_keeps}
use Rattle.vote.proofs.MarkKinds.{NoVote}
use Rattle.vote.proofs.Said.{deferred_says}
use Rattle.tied.specs.Views.{says_of, view_of}
use Rattle.tied.proofs.Sites.{Mute, site_quiet}
use Rattle.tied.proofs.Votes.{SetsMark, reading_same}

-- a mark that is no vote in the place of another says nothing
mark_silent : (l : Word) (m : Mark) (v : Vote) → NoVote m → NoVote v.mark → says_of l (with_mark m v) ≡ says_of l v
mark_silent votes_ok m v a b = a.no_ok ∙ sym b.no_ok
mark_silent votes_against m v a b = a.no_other ∙ sym b.no_other
mark_silent accepts m v a b = refl
mark_silent rejects m v a b = refl

module _ (s : Site) where
  pub mute_mark : (p : ℕ) (m : Mark) {s' : Site} → NoVote m → NoVote (vote_at s.votes p).mark → SetsMark p m s s' → Mute s s'
  mute_mark p m a b k = record {
    says = λ l q. by_eq q p (λ e. rw e (ap (says_of l) k.says.here ∙ mark_silent l m (vote_at s.votes p) a b)) (λ n. ap (says_of l) (k.says.elsewhere q n));
    copy = reading_same k.copies;
    last = rw k.last (omega arith);
  }

  -- "A deferred request joins the end of that site's queue."
  pub mute_deferred : (p : ℕ) → ShapedSite s → p < 16 → NoVote (vote_at s.votes p).mark → Mute s (deferred s p)
  mute_deferred p g h none =
      let keep = deferred_keeps s p in
      mute_mark p mark.Deferred (record { no_ok = refl; no_other = refl }) none
      (record { says = deferred_says s p (rw g.votes h); copies = record { stamps = keep.stamps; values = keep.values }; last = keep.last })

  -- voters are joined to those that it knows
  pub mute_known : (oks others : List Bool) → Mute s (with_known oks others s)
  mute_known oks others = record { says = λ l q. refl; copy = λ i. refl; last = omega arith }

  -- one stands in its queue or leaves it
  pub mute_queue : (queue : List ℕ) (waiting : ℕ) → Mute s (with_queue queue waiting s)
  mute_queue queue waiting = record { says = λ l q. refl; copy = λ i. refl; last = omega arith }

  -- "A site that is down keeps all it holds."
  pub mute_up : (up : Bool) → Mute s (with_up up s)
  mute_up up = record { says = λ l q. refl; copy = λ i. refl; last = omega arith }

  -- its last t is moved on
  pub mute_last : (last : ℕ) → s.last ≤ last → Mute s (with_last last s)
  mute_last last h = record { says = λ l q. refl; copy = λ i. refl; last = h }

-- ---- in the table

pub mute_goes : (t : Table) (k : ℕ) → k < length t.sites → k < t.count → {s s' : Site} → Mute s s' → Goes t.count (view_of (with_site k s t)) (view_of (with_site k s' t)) []
mute_goes t k fits on {s} {s'} m = goes_quiet (site_quiet t k fits on s s' m)

-- and then something else
pub mute_then
    : (t : Table) (k : ℕ) → k < length t.sites → k < t.count → {s s' : Site} {v : View ℤ} {l : History ℤ} → Mute s s' → Goes t.count (view_of (with_site k s' t)) v l
    → Goes t.count (view_of (with_site k s t)) v l
mute_then t k fits on {s} {s'} m g = record { run = λ h. quiet (site_quiet t k fits on s s' m) (g.run h) }

-- a message is put, or lost
pub message_goes : (t : Table) (j : ℕ) (m : Message) → Goes t.count (view_of t) (view_of (with_message j m t)) []
unfolding view_of
message_goes t j m = goes_stay
