-- What a site of a sound table does with a request is a run of ledger events: the tie, with soundness as what each turn keeps.
use mathlib.Core.Path.{◌≡◌, sym, subst}
use mathlib.Core.Bool.{Bool, true, false}
use mathlib.Core.List.{List}
use Prim.Native.Nat.{ℕ, ◌<◌}
use Rattle.ledger.specs.View.{Goes}
use Rattle.table.specs.Meaning.{ShapedTable, Sound}
use Rattle.table.specs.Places.{site_at, place_at, verdict_at, mark_at, with_site}
use Rattle.table.specs.Sound.{marks_ok, marks_other, backed}
use Rattle.table.specs.declared.data.Table.{Table}
use Rattle.table.proofs.Places.{site_back}
use Rattle.vote.specs.Consider.{mark_of, defers}
use Rattle.vote.specs.Data.{is_open, is_unmarked, request_in, vote_at}
use Rattle.vote.specs.Verdicts.{verdict_due, ruled}
use Rattle.vote.specs.Voters.{has_voter}
use Rattle.vote.specs.Voting.{voted}
use Rattle.vote.specs.declared.data.Site.{Site}
use Rattle.vote.specs.declared.data.Verdict.{Verdict}
use Rattle.walk.specs.Hearing.{outcome_of, taken_up, received}
use Rattle.walk.specs.Walking.{queued, outcome_at, voted_at, due_at}
use Rattle.walk.proofs.HearingInductions.{joined_on}
use Rattle.walk.proofs.Inductions.{Keeps}
use Rattle.upkeep.proofs.Lifting.{At, Fine, FineBut, fine_but, fine_now}
use Rattle.upkeep.proofs.Ruling.{settled_fine, ruled_fine, due_backed_at}
use Rattle.upkeep.proofs.Voting.{vote_of, voted_from_fine, voted_from_marked, queued_below, queued_used, voted_fine, joined_fine}
use Rattle.tied.specs.Events.{events_of}
use Rattle.tied.specs.Views.{view_of}
use Rattle.tied.proofs.Hearings.{Upheld, taken_goes, received_goes}
use Rattle.tied.proofs.Soundly.{seat_of, stands_of, known_of, ready_of}
use Rattle.tied.proofs.Walks.{Seat, Stands, went_goes}

module _ (t : Table) (k : ℕ) (g : ShapedTable t) (b : Sound t) (hk : k < t.count) where
  at_site : At t k
  at_site = record { shaped = g; of_table = hk; seven = b.count_to }

  seat : Seat t k
  seat = seat_of t k g b hk

  now : Fine t k (site_at t k)
  now = fine_now t k at_site b

  stands : (s : Site) → Fine t k s → Stands t k s
  stands s f = stands_of t k seat s f.sound f.shaped

  -- each turn of a walk keeps the table sound
  keeps : Keeps k t.count t.requests (Fine t k)
  keeps = record {
    votes = λ {s} {i} x f.
        let v = vote_of (outcome_at k t.count t.requests s i) x.votes in
        let m = mark_of (outcome_at k t.count t.requests s i) in
        settled_fine t k at_site (queued s i) (voted_from_fine t k at_site s i f x.inside m v) x.due (voted_from_marked t k at_site s i f x.inside m v);
    rules = λ {s} {i} x f.
        let v = vote_of (outcome_at k t.count t.requests s i) x.votes in
        let b = voted_from_fine t k at_site s i f x.inside (mark_of (outcome_at k t.count t.requests s i)) v in
        let hp = queued_below t k at_site s i f x.inside in
        ruled_fine t k at_site (voted_at k t.count t.requests s i) (queued s i) (due_at k t.count t.requests s i) hp (queued_used t k at_site s i f x.inside) b x.due
        (due_backed_at t k at_site (queued s i) hp b);
  }

  module _ (p : ℕ) (hp : p < 16) (used : (place_at t p).stamp ≡ 0 → ⊥) where
    abbrev voted_for : Site → Site
    voted_for s = voted k s p (mark_of (outcome_of k t.count t.requests s p))

    abbrev due_for : Site → Verdict
    due_for s = verdict_due t.count s.oks s.others p

    -- a verdict that is due after a vote leaves it sound
    vote_upheld
        : (s : Site) → FineBut t k p s → is_unmarked (vote_at s.votes p).mark ≡ true → defers (outcome_of k t.count t.requests s p) ≡ false
        → is_open (due_for (voted_for s)) ≡ false → Fine t k (ruled (voted_for s) (request_in t.requests p) p (due_for (voted_for s)))
    vote_upheld s f u e o =
        let m = mark_of (outcome_of k t.count t.requests s p) in
        let v = voted_fine t k at_site s p m hp used f (vote_of (outcome_of k t.count t.requests s p) e) u in
        ruled_fine t k at_site (voted k s p m) p (verdict_due t.count (voted k s p m).oks (voted k s p m).others p) hp used v o (due_backed_at t k at_site p hp v)

    pub taken_went : is_open (verdict_at t k p) ≡ true → is_unmarked (mark_at t k p) ≡ true
        → Goes t.count (view_of t) (view_of (with_site k (taken_up k t.count t.requests (site_at t k) p).site t)) (events_of k t.requests (taken_up k t.count t.requests (site_at t k) p).log)
    taken_went o u =
        went_goes t k seat
        (taken_goes t k seat stands keeps p (site_at t k) now.shaped (ready_of t k seat (site_at t k) now.sound p hp used o u)
        (λ e d. vote_upheld (site_at t k) (fine_but t k at_site p now) u e d))

    module _ (oks others : List Bool) (mo : (u : ℕ) → u < 7 → has_voter oks u ≡ true → marks_ok t p u ≡ true)
        (mx : (u : ℕ) → u < 7 → has_voter others u ≡ true → marks_other t p u ≡ true) (sent : Verdict) (e : backed t p sent ≡ true) where
      put_back : (P : Table → Type 0) → P t → P (with_site k (site_at t k) t)
      put_back P h = subst P (sym (site_back t k)) h

      joined : FineBut t k p (joined_on (site_at t k) p oks others)
      joined =
          joined_fine t k at_site (site_at t k) p oks others hp used (fine_but t k at_site p now)
          (put_back (λ x. (u : ℕ) → u < 7 → has_voter oks u ≡ true → marks_ok x p u ≡ true) mo)
          (put_back (λ x. (u : ℕ) → u < 7 → has_voter others u ≡ true → marks_other x p u ≡ true) mx)

      upheld : Upheld t k seat stands keeps p oks others (site_at t k)
      upheld = record {
        learns = λ o. ruled_fine t k at_site (joined_on (site_at t k) p oks others) p _ hp used joined o (due_backed_at t k at_site p hp joined);
        votes = λ u d o. vote_upheld (joined_on (site_at t k) p oks others) joined u d o;
      }

      pub received_went
          : Goes t.count (view_of t) (view_of (with_site k (received k t.count t.requests (site_at t k) p sent oks others).site t))
          (events_of k t.requests (received k t.count t.requests (site_at t k) p sent oks others).log)
      received_went =
          went_goes t k seat
          (received_goes t k seat stands keeps p oks others (site_at t k) sent now.shaped hp used (known_of t k seat (site_at t k) now.sound p hp)
          (record {
            ok = put_back (λ x. (u : ℕ) → u < 7 → has_voter oks u ≡ true → marks_ok x p u ≡ true) mo;
            other = put_back (λ x. (u : ℕ) → u < 7 → has_voter others u ≡ true → marks_other x p u ≡ true) mx;
          })
          (put_back (λ x. backed x p sent ≡ true) e) (λ o. upheld)
          (λ o d. ruled_fine t k at_site (site_at t k) p sent hp used (fine_but t k at_site p now) d (put_back (λ x. backed x p sent ≡ true) e)))
