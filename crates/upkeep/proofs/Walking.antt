-- Resolving, walking and hearing at one site keep the table sound.
use mathlib.Core.Path.{◌≡◌, ap, ◌∙◌}
use mathlib.Core.Bool.{Bool, true, false}
use mathlib.Core.List.{List}
use Prim.Native.Nat.{ℕ, ◌<◌}
use Rattle.kit.proofs.Bools.{of_cond}
use Rattle.table.specs.Places.{place_at, with_site}
use Rattle.table.specs.Sound.{marks_ok, marks_other, backed}
use Rattle.table.specs.declared.data.Table.{Table}
use Rattle.vote.specs.Consider.{mark_of, defers}
use Rattle.vote.specs.Data.{is_unmarked, is_open, vote_at, request_in, with_known}
use Rattle.vote.specs.Verdicts.{verdict_due, ruled}
use Rattle.vote.specs.Voters.{has_voter, join_voters}
use Rattle.vote.specs.Voting.{voted}
use Rattle.vote.specs.declared.data.Request.{Request}
use Rattle.vote.specs.declared.data.Site.{Site}
use Rattle.vote.specs.declared.data.Verdict.{Verdict}
use Rattle.vote.specs.declared.data.Vote.{Vote}
use Rattle.vote.proofs.Said.{voted_says}
use Rattle.vote.proofs.VerdictsDue.{due_open}
use Rattle.walk.specs.Hearing.{settled, outcome_of, taken_up, heard, received}
use Rattle.walk.specs.Rules.{Walk}
use Rattle.walk.specs.Walking.{Out, queued, outcome_at, voted_at, due_at, walked, resolved}
use Rattle.walk.proofs.Walks.{follows}
use Rattle.upkeep.proofs.Lifting.{At, Fine, FineBut, quiet_at, fine_but}
use Rattle.upkeep.proofs.Ruling.{settled_fine, due_backed_at, ruled_fine}
use Rattle.upkeep.proofs.Voting.{vote_of, vote_marked, voted_fine, voted_from_fine, voted_from_marked, queued_below, queued_used, deferred_fine, joined_fine}

module _ (t : Table) (k : ℕ) (a : At t k) where
  abbrev T : Site → Table
  T s = with_site k s t

  abbrev n : ℕ
  n = t.count

  abbrev rs : List Request
  rs = t.requests

  -- ---- the walk

  walk_fine : {s : Site} {i : ℕ} {o : Out} → Walk k n rs s i o → Fine t k s → Fine t k o.site
  walk_fine (Walk.ends h) f = f
  walk_fine (Walk.keeps h e w) f = walk_fine w f
  walk_fine {s} {i} (Walk.votes h e d w) f =
      let v = vote_of (outcome_at k n rs s i) e in
      let m = mark_of (outcome_at k n rs s i) in
      walk_fine w (settled_fine t k a (queued s i) (voted_from_fine t k a s i f h m v) d (voted_from_marked t k a s i f h m v))
  walk_fine {s} {i} (Walk.rules h e d w) f =
      let v = vote_of (outcome_at k n rs s i) e in
      let b = voted_from_fine t k a s i f h (mark_of (outcome_at k n rs s i)) v in
      let hp = queued_below t k a s i f h in
      walk_fine w (ruled_fine t k a (voted_at k n rs s i) (queued s i) (due_at k n rs s i) hp (queued_used t k a s i f h) b d (due_backed_at t k a (queued s i) hp b))

  pub walked_fine : (s : Site) (i : ℕ) → Fine t k s → Fine t k (walked k n rs s i).site
  walked_fine s i f = walk_fine (follows k n rs s i) f

  module _ (p : ℕ) (hp : p < 16) (used : (place_at t p).stamp ≡ 0 → ⊥) where
    -- a backed verdict, and the walk that it calls for
    pub resolved_fine : (s : Site) (d : Verdict) → FineBut t k p s → is_open d ≡ false → backed (T s) p d ≡ true → Fine t k (resolved k n rs s p d).site
    resolved_fine s d f o b = walked_fine (ruled s (request_in rs p) p d) 0 (ruled_fine t k a s p d hp used f o b)

    -- what is due falls
    pub settled_walk_fine : (s : Site) → FineBut t k p s → is_unmarked (vote_at s.votes p).mark ≡ false → Fine t k (settled k n rs s p).site
    unfolding settled
    settled_walk_fine s f m =
        of_cond (λ (x : Out). Fine t k x.site) (is_open (verdict_due n s.oks s.others p)) (λ e. settled_fine t k a p f e m)
        (λ e. resolved_fine s (verdict_due n s.oks s.others p) f e (due_backed_at t k a p hp f))

    -- a request with no mark and no verdict due is considered
    pub taken_up_fine
        : (s : Site) → FineBut t k p s → is_open (vote_at s.votes p).verdict ≡ true → is_unmarked (vote_at s.votes p).mark ≡ true
        → is_open (verdict_due n s.oks s.others p) ≡ true → Fine t k (taken_up k n rs s p).site
    unfolding taken_up
    taken_up_fine s f o u e =
        let m = mark_of (outcome_of k n rs s p) in
        of_cond (λ (x : Out). Fine t k x.site) (defers (outcome_of k n rs s p)) (λ d. deferred_fine t k a s p hp used f o u e)
        (λ d. let v = vote_of (outcome_of k n rs s p) d in
        settled_walk_fine (voted k s p m) (voted_fine t k a s p m hp used f v u)
        (ap (λ (y : Vote). is_unmarked y.mark) (voted_says s p (rw f.shaped.votes hp) k m).here ∙ vote_marked m v))

    -- nothing is due at a site of a sound table
    pub due_none : (s : Site) → Fine t k s → is_open (vote_at s.votes p).verdict ≡ true → is_open (verdict_due n s.oks s.others p) ≡ true
    due_none s f o = let q = quiet_at t k a p hp f.sound in ap is_open (due_open n s.oks s.others p (q.few_oks o) (q.few_others o))

    module _ (s : Site) (f : Fine t k s) (oks others : List Bool)
        (mo : (u : ℕ) → u < 7 → has_voter oks u ≡ true → marks_ok (T s) p u ≡ true)
        (mx : (u : ℕ) → u < 7 → has_voter others u ≡ true → marks_other (T s) p u ≡ true) where
      pub heard_fine : is_open (vote_at s.votes p).verdict ≡ true → Fine t k (heard k n rs s p oks others).site
      unfolding heard
      heard_fine o =
          let more : Site = with_known (join_voters s.oks p oks) (join_voters s.others p others) s in
          let b = joined_fine t k a s p oks others hp used (fine_but t k a p f) mo mx in
          of_cond (λ (x : Out). Fine t k x.site) (is_open (verdict_due n more.oks more.others p))
          (λ e. of_cond (λ (x : Out). Fine t k x.site) (is_unmarked (vote_at s.votes p).mark) (λ u. taken_up_fine more b o u e) (λ u. settled_fine t k a p b e u))
          (λ e. resolved_fine more (verdict_due n more.oks more.others p) b e (due_backed_at t k a p hp b))

      pub received_fine : (sent : Verdict) → backed (T s) p sent ≡ true → Fine t k (received k n rs s p sent oks others).site
      unfolding received
      received_fine sent b =
          of_cond (λ (x : Out). Fine t k x.site) (is_open (vote_at s.votes p).verdict)
          (λ o. of_cond (λ (x : Out). Fine t k x.site) (is_open sent) (λ e. heard_fine o) (λ e. resolved_fine s sent (fine_but t k a p f) e b))
          (λ o. f)
