-- The same induction over what a site does with a request that it begins or hears of: a change at place p of the table, then a walk.
use Prim.Native.Nat.{ℕ}
use mathlib.Core.Bool.{Bool, true, false}
use mathlib.Core.List.{List, [], ◌∷◌}
use mathlib.Core.Path.{◌≡◌}
use Rattle.kit.proofs.Bools.{of_cond}
use Rattle.vote.specs.Consider.{mark_of, defers}
use Rattle.vote.specs.Data.{is_open, is_unmarked, request_in, with_known}
use Rattle.vote.specs.Verdicts.{verdict_due, ruled}
use Rattle.vote.specs.Voters.{join_voters}
use Rattle.vote.specs.Voting.{voted, deferred}
use Rattle.vote.specs.declared.data.Request.{Request}
use Rattle.vote.specs.declared.data.Site.{Site}
use Rattle.vote.specs.declared.data.Verdict.{Verdict}
use Rattle.walk.specs.Hearing.{settled, outcome_of, taken_up, heard, received}
use Rattle.walk.specs.Order.{mark_at, verdict_at}
use Rattle.walk.specs.Walking.{Out, Said, vote, says_rule}
use Rattle.walk.proofs.Inductions.{Keeps, Links, Grows, grows_links, walked_kept, walked_linked}

-- ---- the changes at place p

-- the request is new to the site
pub record New (s : Site) (p : ℕ) : Type 0 where
  pub unmarked : is_unmarked (mark_at s p) ≡ true
  pub held : is_open (verdict_at s p) ≡ true

-- the site after its vote, and what is said of it
abbrev pub voted_on : ℕ → ℕ → List Request → Site → ℕ → Site
voted_on me n rs s p = voted me s p (mark_of (outcome_of me n rs s p))

abbrev pub says_vote_on : ℕ → ℕ → List Request → Site → ℕ → Said
says_vote_on me n rs s p = vote p (request_in rs p).stamp (mark_of (outcome_of me n rs s p))

-- the site after voters told of are joined to those known
abbrev pub joined_on : Site → ℕ → List Bool → List Bool → Site
joined_on s p oks others = with_known (join_voters s.oks p oks) (join_voters s.others p others) s

-- the verdict that the voters known call for, and the site after a verdict
abbrev pub due_on : ℕ → Site → ℕ → Verdict
due_on n s p = verdict_due n s.oks s.others p

abbrev pub ruled_on : List Request → Site → ℕ → Verdict → Site
ruled_on rs s p d = ruled s (request_in rs p) p d

module _ (me n : ℕ) (rs : List Request) (p : ℕ) where
  -- ---- considered: it is deferred, votes and is open, or votes and gets its verdict

  pub record ConsideringKeeps (P : Site → Type 0) : Type 0 where
    pub queues : {s : Site} → New s p → defers (outcome_of me n rs s p) ≡ true → P s → P (deferred s p)
    pub votes : {s : Site} → New s p → defers (outcome_of me n rs s p) ≡ false → is_open (due_on n (voted_on me n rs s p) p) ≡ true → P s → P (voted_on me n rs s p)
    pub rules : {s : Site} → New s p → defers (outcome_of me n rs s p) ≡ false → is_open (due_on n (voted_on me n rs s p) p) ≡ false → P s
        → P (ruled_on rs (voted_on me n rs s p) p (due_on n (voted_on me n rs s p) p))

  pub record ConsideringLinks (P : Site → Type 0) (R : Site → List Said → Site → Type 0) : Type 0 where
    pub queues : {s : Site} → New s p → defers (outcome_of me n rs s p) ≡ true → P s → R s [] (deferred s p)
    pub votes : {s : Site} → New s p → defers (outcome_of me n rs s p) ≡ false → is_open (due_on n (voted_on me n rs s p) p) ≡ true → P s
        → R s (says_vote_on me n rs s p ∷ []) (voted_on me n rs s p)
    pub rules : {s : Site} {l : List Said} {u : Site} → New s p → defers (outcome_of me n rs s p) ≡ false → is_open (due_on n (voted_on me n rs s p) p) ≡ false → P s
        → R (ruled_on rs (voted_on me n rs s p) p (due_on n (voted_on me n rs s p) p)) l u
        → R s (says_vote_on me n rs s p ∷ says_rule me n rs p (due_on n (voted_on me n rs s p) p) ∷ l) u

  -- step by step
  pub record ConsideringGrows (P : Site → Type 0) (R : Site → Site → Type 0) : Type 0 where
    pub queues : {s : Site} → New s p → defers (outcome_of me n rs s p) ≡ true → P s → R s (deferred s p)
    pub votes : {s : Site} → New s p → defers (outcome_of me n rs s p) ≡ false → is_open (due_on n (voted_on me n rs s p) p) ≡ true → P s → R s (voted_on me n rs s p)
    pub rules : {s : Site} → New s p → defers (outcome_of me n rs s p) ≡ false → is_open (due_on n (voted_on me n rs s p) p) ≡ false → P s
        → R s (ruled_on rs (voted_on me n rs s p) p (due_on n (voted_on me n rs s p) p))

  considering_links : {P : Site → Type 0} {R : Site → Site → Type 0} → Grows me n rs P R → ConsideringGrows P R → ConsideringLinks P (λ s l u. R s u)
  considering_links g c =
      record {
        queues = λ new e x. c.queues new e x;
        votes = λ new e f x. c.votes new e f x;
        rules = λ new e f x r. g.then (c.rules new e f x) r;
      }

  pub taken_kept : {P : Site → Type 0} → Keeps me n rs P → ConsideringKeeps P → (s : Site) → New s p → P s → P (taken_up me n rs s p).site
  unfolding taken_up settled
  taken_kept {P} k c s new x =
      let u : Site = voted_on me n rs s p in
      of_cond (λ (o : Out). P o.site) (defers (outcome_of me n rs s p)) (λ y. c.queues new y x)
      (λ f. of_cond (λ (o : Out). P o.site) (is_open (due_on n u p)) (λ y. c.votes new f y x)
      (λ d. walked_kept me n rs (ruled_on rs u p (due_on n u p)) 0 k (c.rules new f d x)))

  module _ {P : Site → Type 0} {R : Site → List Said → Site → Type 0} (k : Keeps me n rs P) (l : Links me n rs P R) (c : ConsideringKeeps P) (r : ConsideringLinks P R) where
    settled_linked : (s : Site) → New s p → defers (outcome_of me n rs s p) ≡ false → P s
        → R s (says_vote_on me n rs s p ∷ (settled me n rs (voted_on me n rs s p) p).log) (settled me n rs (voted_on me n rs s p) p).site
    unfolding settled
    settled_linked s new f x =
        let u : Site = voted_on me n rs s p in
        of_cond (λ (o : Out). R s (says_vote_on me n rs s p ∷ o.log) o.site) (is_open (due_on n u p)) (λ y. r.votes new f y x)
        (λ d. r.rules new f d x (walked_linked me n rs (ruled_on rs u p (due_on n u p)) 0 k l (c.rules new f d x)))

    pub taken_linked : (s : Site) → New s p → P s → R s (taken_up me n rs s p).log (taken_up me n rs s p).site
    unfolding taken_up
    taken_linked s new x =
        of_cond (λ (o : Out). R s o.log o.site) (defers (outcome_of me n rs s p)) (λ y. r.queues new y x) (λ f. settled_linked s new f x)

  pub taken_grown
      : {P : Site → Type 0} {R : Site → Site → Type 0} → Keeps me n rs P → Grows me n rs P R → ConsideringKeeps P → ConsideringGrows P R → (s : Site) → New s p → P s
      → R s (taken_up me n rs s p).site
  taken_grown {R = R} k g c r s new x = taken_linked {R = λ s l u. R s u} k (grows_links me n rs g) c (considering_links g r) s new x

  -- ---- heard of: voters are joined, which brings a verdict or not; or a verdict is taken over

  module _ (sent : Verdict) (oks others : List Bool) where
    pub record HearingKeeps (P : Site → Type 0) : Type 0 where
      pub considers : ConsideringKeeps P
      pub joins : {s : Site} → is_open (verdict_at s p) ≡ true → is_open sent ≡ true → is_open (due_on n (joined_on s p oks others) p) ≡ true → P s
          → P (joined_on s p oks others)
      pub learns : {s : Site} → is_open (verdict_at s p) ≡ true → is_open sent ≡ true → is_open (due_on n (joined_on s p oks others) p) ≡ false → P s
          → P (ruled_on rs (joined_on s p oks others) p (due_on n (joined_on s p oks others) p))
      pub takes : {s : Site} → is_open (verdict_at s p) ≡ true → is_open sent ≡ false → P s → P (ruled_on rs s p sent)

    pub record HearingLinks (P : Site → Type 0) (R : Site → List Said → Site → Type 0) : Type 0 where
      pub considers : ConsideringLinks P R
      pub joins : {s : Site} {l : List Said} {u : Site} → is_open (verdict_at s p) ≡ true → is_open sent ≡ true
          → is_open (due_on n (joined_on s p oks others) p) ≡ true → P s → R (joined_on s p oks others) l u → R s l u
      pub learns : {s : Site} {l : List Said} {u : Site} → is_open (verdict_at s p) ≡ true → is_open sent ≡ true
          → is_open (due_on n (joined_on s p oks others) p) ≡ false → P s
          → R (ruled_on rs (joined_on s p oks others) p (due_on n (joined_on s p oks others) p)) l u
          → R s (says_rule me n rs p (due_on n (joined_on s p oks others) p) ∷ l) u
      pub takes : {s : Site} {l : List Said} {u : Site} → is_open (verdict_at s p) ≡ true → is_open sent ≡ false → P s → R (ruled_on rs s p sent) l u
          → R s (says_rule me n rs p sent ∷ l) u

    -- step by step
    pub record HearingGrows (P : Site → Type 0) (R : Site → Site → Type 0) : Type 0 where
      pub considers : ConsideringGrows P R
      pub joins : {s : Site} → is_open (verdict_at s p) ≡ true → is_open sent ≡ true → is_open (due_on n (joined_on s p oks others) p) ≡ true → P s
          → R s (joined_on s p oks others)
      pub learns : {s : Site} → is_open (verdict_at s p) ≡ true → is_open sent ≡ true → is_open (due_on n (joined_on s p oks others) p) ≡ false → P s
          → R s (ruled_on rs (joined_on s p oks others) p (due_on n (joined_on s p oks others) p))
      pub takes : {s : Site} → is_open (verdict_at s p) ≡ true → is_open sent ≡ false → P s → R s (ruled_on rs s p sent)

    hearing_links : {P : Site → Type 0} {R : Site → Site → Type 0} → Grows me n rs P R → HearingGrows P R → HearingLinks P (λ s l u. R s u)
    hearing_links g c =
        record {
          considers = considering_links g c.considers;
          joins = λ h e f x r. g.then (c.joins h e f x) r;
          learns = λ h e f x r. g.then (c.learns h e f x) r;
          takes = λ h f x r. g.then (c.takes h f x) r;
        }

    module _ {P : Site → Type 0} (k : Keeps me n rs P) (c : HearingKeeps P) where
      heard_kept : (s : Site) → is_open (verdict_at s p) ≡ true → is_open sent ≡ true → P s → P (heard me n rs s p oks others).site
      unfolding heard
      heard_kept s h e x =
          let j : Site = joined_on s p oks others in
          of_cond (λ (o : Out). P o.site) (is_open (due_on n j p))
          (λ t. of_cond (λ (o : Out). P o.site) (is_unmarked (mark_at s p))
          (λ m. taken_kept k c.considers j (record { unmarked = m; held = h }) (c.joins h e t x)) (λ m. c.joins h e t x))
          (λ f. walked_kept me n rs (ruled_on rs j p (due_on n j p)) 0 k (c.learns h e f x))

      pub received_kept : (s : Site) → P s → P (received me n rs s p sent oks others).site
      unfolding received
      received_kept s x =
          of_cond (λ (o : Out). P o.site) (is_open (verdict_at s p))
          (λ h. of_cond (λ (o : Out). P o.site) (is_open sent) (λ e. heard_kept s h e x)
          (λ f. walked_kept me n rs (ruled_on rs s p sent) 0 k (c.takes h f x)))
          (λ f. x)

    module _ {P : Site → Type 0} {R : Site → List Said → Site → Type 0} (k : Keeps me n rs P) (l : Links me n rs P R) (c : HearingKeeps P) (r : HearingLinks P R) where
      heard_linked : (s : Site) → is_open (verdict_at s p) ≡ true → is_open sent ≡ true → P s
          → R s (heard me n rs s p oks others).log (heard me n rs s p oks others).site
      unfolding heard
      heard_linked s h e x =
          let j : Site = joined_on s p oks others in
          of_cond (λ (o : Out). R s o.log o.site) (is_open (due_on n j p))
          (λ t. let y : P (joined_on s p oks others) = c.joins h e t x in
          of_cond (λ (o : Out). R s o.log o.site) (is_unmarked (mark_at s p))
          (λ m. r.joins h e t x (taken_linked k l c.considers r.considers j (record { unmarked = m; held = h }) y))
          (λ m. r.joins h e t x (l.ends y)))
          (λ f. r.learns h e f x (walked_linked me n rs (ruled_on rs j p (due_on n j p)) 0 k l (c.learns h e f x)))

      pub received_linked : (s : Site) → P s → R s (received me n rs s p sent oks others).log (received me n rs s p sent oks others).site
      unfolding received
      received_linked s x =
          of_cond (λ (o : Out). R s o.log o.site) (is_open (verdict_at s p))
          (λ h. of_cond (λ (o : Out). R s o.log o.site) (is_open sent) (λ e. heard_linked s h e x)
          (λ f. r.takes h f x (walked_linked me n rs (ruled_on rs s p sent) 0 k l (c.takes h f x))))
          (λ f. l.ends x)

    pub received_grown
        : {P : Site → Type 0} {R : Site → Site → Type 0} → Keeps me n rs P → Grows me n rs P R → HearingKeeps P → HearingGrows P R → (s : Site) → P s
        → R s (received me n rs s p sent oks others).site
    received_grown {R = R} k g c r s x = received_linked {R = λ s l u. R s u} k (grows_links me n rs g) c (hearing_links g r) s x
