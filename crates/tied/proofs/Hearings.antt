-- What a site does with a request that it begins or hears of is a run of the ledger: settling, considering, hearing, receiving.
use Prim.Native.Nat.{ℕ, ◌<◌}
use mathlib.Core.Bool.{Bool, true, false}
use mathlib.Core.List.{List}
use mathlib.Core.Path.{◌≡◌, refl, sym, ◌∙◌}
use lib.Dec.{eqb}
use lib.ListN.{length}
use Rattle.kit.proofs.Bools.{by_test, of_cond, and_right}
use Rattle.ledger.proofs.Link.{goes_stay, goes_then}
use Rattle.table.specs.Places.{place_at, with_site}
use Rattle.table.specs.Sound.{marks_ok, marks_other, backed}
use Rattle.table.specs.declared.data.Table.{Table}
use Rattle.table.proofs.Backing.{Known, due_backed}
use Rattle.vote.specs.Consider.{mark_of, defers}
use Rattle.vote.specs.Data.{is_ok_vote, is_other, is_open, is_unmarked, request_in, vote_at}
use Rattle.vote.specs.Shape.{ShapedSite}
use Rattle.vote.specs.Verdicts.{verdict_due, ruled}
use Rattle.vote.specs.Voters.{knows, has_voter, join_voters}
use Rattle.vote.specs.Voting.{voted}
use Rattle.vote.specs.declared.data.Site.{Site}
use Rattle.vote.specs.declared.data.Verdict.{Verdict}
use Rattle.vote.proofs.KnownVoters.{knows_joined_row}
use Rattle.vote.proofs.MarkKinds.{unmarked_no_vote, vote_kind}
use Rattle.vote.proofs.Shapes.{voted_shape, shaped_as, joined_shape}
use Rattle.walk.specs.Hearing.{settled, outcome_of, taken_up, heard, received}
use Rattle.walk.specs.Walking.{Out, resolved}
use Rattle.walk.proofs.HearingInductions.{joined_on}
use Rattle.walk.proofs.Inductions.{Keeps}
use Rattle.tied.specs.Events.{events_of}
use Rattle.tied.proofs.Rulings.{rule_goes}
use Rattle.tied.proofs.Silences.{mute_deferred, mute_known, mute_goes, mute_then}
use Rattle.tied.proofs.Standing.{HeldOpen}
use Rattle.tied.proofs.Votes.{mark_stays, vote_goes, voted_casts, known_cast}
use Rattle.tied.proofs.Walks.{Ready, Stands, Seat, Went, open_marked, walked_goes}

-- ---- voters heard of are joined to those known

-- the voters told of have voted, in the table t
pub record SentVoters (t : Table) (p : ℕ) (oks others : List Bool) : Type 0 where
  pub ok : (u : ℕ) → u < 7 → has_voter oks u ≡ true → marks_ok t p u ≡ true
  pub other : (u : ℕ) → u < 7 → has_voter others u ≡ true → marks_other t p u ≡ true

-- who is known then was known, or was told of
known_joined : (known : List Bool) (p : ℕ) (row : List Bool) (u : ℕ) {A : Type 0} → length known ≡ 112 → p < 16 → u < 7 → knows (join_voters known p row) p u ≡ true
    → (knows known p u ≡ true → A) → (has_voter row u ≡ true → A) → A
known_joined known p row u l h hu e was new =
    by_test (knows known p u) was
    (λ n. new (and_right (eqb p p) (has_voter row u) (sym (rw n at (knows_joined_row known p row p u l h h hu)) ∙ e)))

module _ (t : Table) (k : ℕ) (z : Seat t k) (s : Site) (g : ShapedSite s) (p : ℕ) (oks others : List Bool) where
  joined_known : p < 16 → Known (with_site k s t) p s → SentVoters (with_site k s t) p oks others → Known (with_site k (joined_on s p oks others) t) p (joined_on s p oks others)
  joined_known h y w = record {
    oks = λ u l e. mark_stays t k z.listed s (joined_on s p oks others) p is_ok_vote (λ m. m) u
        (known_joined s.oks p oks u g.oks h l e (y.oks u l) (w.ok u l));
    others = λ u l e. mark_stays t k z.listed s (joined_on s p oks others) p is_other (λ m. m) u
        (known_joined s.others p others u g.others h l e (y.others u l) (w.other u l));
  }

-- ---- with what each turn of a walk keeps

module _ (t : Table) (k : ℕ) (z : Seat t k) {P : Site → Type 0} (stands : (s : Site) → P s → Stands t k s) (keeps : Keeps k t.count t.requests P) (p : ℕ) where
  -- the verdict that is due at s, the site after a verdict, and after a vote
  abbrev due_for : Site → Verdict
  due_for s = verdict_due t.count s.oks s.others p

  abbrev ruled_for : Site → Verdict → Site
  ruled_for s d = ruled s (request_in t.requests p) p d

  abbrev voted_for : Site → Site
  voted_for s = voted k s p (mark_of (outcome_of k t.count t.requests s p))

  -- a run from s to what is left of it
  abbrev Leads : Site → Out → Type 0
  Leads s o = Went t k z s o.log o.site

  -- a backed verdict, and the walk that it calls for
  pub resolved_goes
      : (s : Site) (d : Verdict) → ShapedSite s → HeldOpen t p s → is_open d ≡ false → backed (with_site k s t) p d ≡ true → P (ruled_for s d)
      → Leads s (resolved k t.count t.requests s p d)
  unfolding events_of
  resolved_goes s d g o e b x = record {
    goes = goes_then (rule_goes t k z.listed z.of_table z.seven s g p o (z.unvoiced p o.below) d e b)
        (walked_goes t k z stands keeps (ruled_for s d) 0 x).goes;
  }

  -- the verdict that is due, if there is one
  pub settled_goes
      : (s : Site) → ShapedSite s → HeldOpen t p s → Known (with_site k s t) p s → (is_open (due_for s) ≡ false → P (ruled_for s (due_for s)))
      → Leads s (settled k t.count t.requests s p)
  unfolding settled events_of
  settled_goes s g o y x =
      of_cond (Leads s) (is_open (due_for s)) (λ e. record { goes = goes_stay })
      (λ e. resolved_goes s (due_for s) g o e (due_backed (with_site k s t) p s y) (x e))

  -- the request is considered, having no mark
  pub taken_goes
      : (s : Site) → ShapedSite s → Ready t k p s
      → (defers (outcome_of k t.count t.requests s p) ≡ false → is_open (due_for (voted_for s)) ≡ false → P (ruled_for (voted_for s) (due_for (voted_for s))))
      → Leads s (taken_up k t.count t.requests s p)
  unfolding taken_up events_of
  taken_goes s g y x =
      let h = y.open_at.below in
      let a = outcome_of k t.count t.requests s p in
      let c = voted_casts k s g p h (mark_of a) in
      of_cond (Leads s) (defers a) (λ e. record { goes = mute_goes t k z.listed z.of_table (mute_deferred s p g h y.none) })
      (λ e. record {
        goes = goes_then (vote_goes t k z.listed s p z.of_table (voted_for s) y.open_at y.none a refl e c.marks)
            (settled_goes (voted_for s) (shaped_as (voted_shape k s p (mark_of a)) g) (open_marked t p (mark_of a) y.open_at c.marks.says)
            (known_cast t k z.listed s (voted_for s) p (mark_of a) (vote_kind a e) y.none c y.known) (x e)).goes;
      })

  module _ (oks others : List Bool) where
    -- what a verdict that falls must leave: one that the voters told of bring, and one that the vote then brings
    pub record Upheld (s : Site) : Type 0 where
      pub learns : is_open (due_for (joined_on s p oks others)) ≡ false → P (ruled_for (joined_on s p oks others) (due_for (joined_on s p oks others)))
      pub votes : is_unmarked (vote_at s.votes p).mark ≡ true → defers (outcome_of k t.count t.requests (joined_on s p oks others) p) ≡ false
          → is_open (due_for (voted_for (joined_on s p oks others))) ≡ false
          → P (ruled_for (voted_for (joined_on s p oks others)) (due_for (voted_for (joined_on s p oks others))))

    pub heard_goes
        : (s : Site) → ShapedSite s → HeldOpen t p s → Known (with_site k s t) p s → SentVoters (with_site k s t) p oks others → Upheld s
        → Leads s (heard k t.count t.requests s p oks others)
    unfolding heard events_of
    heard_goes s g o y w x =
        let j = joined_on s p oks others in
        let mute = mute_known s (join_voters s.oks p oks) (join_voters s.others p others) in
        let shape = shaped_as (joined_shape s p oks others) g in
        let known = joined_known t k z s g p oks others o.below y w in
        let open_at : HeldOpen t p j = record { below = o.below; used = o.used; unruled = o.unruled } in
        of_cond (Leads s) (is_open (due_for j))
        (λ e. of_cond (Leads s) (is_unmarked (vote_at s.votes p).mark)
        (λ m. record {
          goes = mute_then t k z.listed z.of_table mute
              (taken_goes j shape (record { open_at = open_at; none = unmarked_no_vote (vote_at s.votes p).mark m; known = known }) (x.votes m)).goes;
        })
        (λ m. record { goes = mute_goes t k z.listed z.of_table mute }))
        (λ e. record {
          goes = mute_then t k z.listed z.of_table mute (resolved_goes j (due_for j) shape open_at e (due_backed (with_site k j t) p j known) (x.learns e)).goes;
        })

    -- a message: nothing where the site has its verdict, the verdict sent, or the voters sent
    pub received_goes
        : (s : Site) (sent : Verdict) → ShapedSite s → p < 16 → ((place_at t p).stamp ≡ 0 → ⊥) → Known (with_site k s t) p s → SentVoters (with_site k s t) p oks others
        → backed (with_site k s t) p sent ≡ true → (is_open (vote_at s.votes p).verdict ≡ true → Upheld s)
        → (is_open (vote_at s.votes p).verdict ≡ true → is_open sent ≡ false → P (ruled_for s sent))
        → Leads s (received k t.count t.requests s p sent oks others)
    unfolding received events_of
    received_goes s sent g h used y w b x takes =
        of_cond (Leads s) (is_open (vote_at s.votes p).verdict)
        (λ e. let o : HeldOpen t p s = record { below = h; used = used; unruled = e } in
        of_cond (Leads s) (is_open sent) (λ f. heard_goes s g o y w (x e)) (λ f. resolved_goes s sent g o f b (takes e f)))
        (λ e. record { goes = goes_stay })
