-- A site rules on a request: it accepts or rejects it, with as many own marks behind it as document 01 asks.
use Prim.Native.Nat.{ℕ, ◌≤◌, ◌<◌}
use mathlib.Core.Bool.{Bool, true, false, cond}
use mathlib.Core.Path.{◌≡◌, refl, sym, ap, subst, ◌∙◌}
use native.Mathlib.Omega.{arith}
use borrow.Author.Tests.{lt-ltb, le-ltb, leb-true}
use lib.IntN.{ℤ, pos}
use lib.ListN.{length, get_or, get_or-eq_default}
use Rattle.kit.specs.Range.{number}
use Rattle.kit.proofs.Bools.{clash, by_lt, by_eq}
use Rattle.kit.proofs.Counts.{number_gap}
use Rattle.ledger.specs.Ledger.{Reading, reading, writes, written}
use Rattle.ledger.specs.View.{Word, votes_ok, votes_against, accepts, rejects, copy_after, Enough, Says, Goes}
use Rattle.ledger.proofs.Link.{goes_says}
use Rattle.majority.specs.Majority.{majority, blocking}
use Rattle.table.specs.Places.{place_at, mark_at, with_site}
use Rattle.table.specs.Sound.{marks_ok, marks_other, backed}
use Rattle.table.specs.declared.data.Table.{Table}
use Rattle.table.proofs.Places.{site_other}
use Rattle.vote.specs.Data.{is_ok_vote, is_other, is_open, request_in, vote_at}
use Rattle.vote.specs.Shape.{ShapedSite}
use Rattle.vote.specs.Verdicts.{writes_item, written_site, ruled}
use Rattle.vote.specs.declared.data.Mark.{Mark}
use Rattle.vote.specs.declared.data.Request.{Request}
use Rattle.vote.specs.declared.data.Site.{Site}
use Rattle.vote.specs.declared.data.Verdict.{Verdict}
use Rattle.vote.specs.declared.data.Verdict.TheVariants as verdict
use Rattle.vote.proofs.After.{ruled_accepted, ruled_other}
use Rattle.vote.proofs.Fields.{ruled_keeps}
use Rattle.vote.proofs.MarkKinds.{NoVote, open_is, request_in_lem, after_ok, after_other}
use Rattle.vote.proofs.Said.{mark_after, ruled_says}
use Rattle.vote.proofs.Writes.{written_stamp, written_value, length_written_stamps, length_written_values}
use Rattle.tied.specs.Events.{rule_event}
use Rattle.tied.specs.Views.{request_of, says_of, reading_at, view_of}
use Rattle.tied.proofs.Sites.{Speaks, site_says}
use Rattle.tied.proofs.Standing.{Unvoiced, HeldOpen}
use Rattle.tied.proofs.Votes.{held_of, reading_same}

-- ---- the copy that an acceptance leaves is the ledger's

both_parts : {a b : ℕ} {x y : ℤ} → a ≡ b → x ≡ y → ◌≡◌ {A = Reading ℤ} (record { stamp = a; value = x }) (record { stamp = b; value = y })
both_parts e f = λ d. record { stamp = e d; value = f d }

picked : (b : Bool) (q : Request) (i : ℕ) (c : Reading ℤ)
    → ◌≡◌ {A = Reading ℤ} (record { stamp = cond b q.stamp c.stamp; value = cond b (get_or q.values i (pos 0)) c.value }) (cond b (reading (request_of q) i) c)
picked true q i c = refl
picked false q i c = refl

module _ (s : Site) (q : Request) (g : ShapedSite s) where
  -- an item is written where the ledger writes it
  writes_at : (i : ℕ) → i < 24 → writes (request_of q) i (reading_at s i) ≡ writes_item s.stamps q i
  unfolding writes writes_item
  writes_at i h = rw (lt-ltb i 24 h)

  -- there is nothing to write above item 23
  writes_above : (i : ℕ) → 24 ≤ i → writes (request_of q) i (reading_at s i) ≡ false
  unfolding writes
  writes_above i h = rw (le-ltb i 24 h)

  pub written_reading : (i : ℕ) → reading_at (written_site s q) i ≡ written (reading_at s) (request_of q) i
  unfolding written
  written_reading i = by_lt i 24
      (λ h. rw (writes_at i h) (both_parts (written_stamp s q i h g.stamps) (written_value s q i h g.values) ∙ picked (writes_item s.stamps q i) q i (reading_at s i)))
      (λ h. rw (writes_above i h)
      (both_parts (get_or-eq_default (written_site s q).stamps 0 (rw (length_written_stamps s q, g.stamps) h)
      ∙ sym (get_or-eq_default s.stamps 0 (rw g.stamps h)))
      (get_or-eq_default (written_site s q).values (pos 0) (rw (length_written_values s q, g.values) h)
      ∙ sym (get_or-eq_default s.values (pos 0) (rw g.values h)))))

-- ---- told of the site alone

-- the verdict d says w where none was
record RulingDecides (w : Word) (d : Verdict) : Type 0 where
  now : (m : Mark) → says_of w (record { mark = m; verdict = d }) ≡ true
  rest : (l : Word) (m : Mark) → (l ≡ w → ⊥) → says_of l (record { mark = mark_after m; verdict = d }) ≡ says_of l (record { mark = m; verdict = verdict.Open })

accepted_decides : RulingDecides accepts verdict.Accepted
accepted_decides = record { now = λ m. refl; rest = go }
  where
    go : (l : Word) (m : Mark) → (l ≡ accepts → ⊥) → says_of l (record { mark = mark_after m; verdict = verdict.Accepted }) ≡ says_of l (record { mark = m; verdict = verdict.Open })
    go votes_ok m ne = after_ok m
    go votes_against m ne = after_other m
    go accepts m ne = absurd (ne refl)
    go rejects m ne = refl

rejected_decides : RulingDecides rejects verdict.Rejected
rejected_decides = record { now = λ m. refl; rest = go }
  where
    go : (l : Word) (m : Mark) → (l ≡ rejects → ⊥) → says_of l (record { mark = mark_after m; verdict = verdict.Rejected }) ≡ says_of l (record { mark = m; verdict = verdict.Open })
    go votes_ok m ne = after_ok m
    go votes_against m ne = after_other m
    go accepts m ne = refl
    go rejects m ne = absurd (ne refl)

module _ (s : Site) (q : Request) (p : ℕ) (g : ShapedSite s) (h : p < 16) (unruled : is_open (vote_at s.votes p).verdict ≡ true) where
  rule_speaks
      : (w : Word) (d : Verdict) → RulingDecides w d → ((i : ℕ) → reading_at (ruled s q p d) i ≡ copy_after w (λ (u : ℕ). reading_at s) 0 (request_of q) 0 i)
      → Speaks w p (request_of q) s (ruled s q p d)
  rule_speaks w d y copies =
      let z = ruled_says s q p d (rw g.votes h) in
      let m = (vote_at s.votes p).mark in
      record {
        now = ap (says_of w) z.here ∙ y.now (mark_after m);
        rest = λ l j ne. by_eq j p
            (λ e. rw e (ap (says_of l) z.here ∙ y.rest l m (λ f. ne f e)
            ∙ ap (λ (x : Verdict). says_of l (record { mark = m; verdict = x })) (sym (open_is (vote_at s.votes p).verdict unruled))))
            (λ n. ap (says_of l) (z.elsewhere j n));
        copy = copies;
        last = (ruled_keeps s q p d).last;
      }

  pub accept_speaks : Speaks accepts p (request_of q) s (ruled s q p verdict.Accepted)
  accept_speaks =
      rule_speaks accepts verdict.Accepted accepted_decides (λ i. reading_same (ruled_accepted s q p) i ∙ written_reading s q g i)

  pub reject_speaks : Speaks rejects p (request_of q) s (ruled s q p verdict.Rejected)
  reject_speaks =
      rule_speaks rejects verdict.Rejected rejected_decides
      (λ i. reading_same (ruled_other s q p verdict.Rejected (λ e. let z : ◌≡◌ {A = ℕ} 0 1 = cc in let y : ⊥ = omega arith in y)) i)

-- ---- enough own marks

module _ (t : Table) (p : ℕ) (few : t.count ≤ 7) (u : Unvoiced t p) where
  -- the marks of all seven are those of the table's sites
  own_marks : (kind : Mark → Bool) → ((m : Mark) → NoVote m → kind m ≡ false) → number 7 (λ k. kind (mark_at t k p)) ≡ number t.count (λ k. kind (mark_at t k p))
  own_marks kind none = number_gap (λ k. kind (mark_at t k p)) t.count 7 few (λ k a b. none (mark_at t k p) (u.none k a b))

  pub enough_oks : backed t p verdict.Accepted ≡ true → Enough t.count (majority t.count) (view_of t) votes_ok p
  unfolding view_of
  enough_oks b = record {
    who = marks_ok t p;
    many = let l : majority t.count ≤ number 7 (marks_ok t p) = leb-true _ _ b in rw (own_marks is_ok_vote (λ m n. n.no_ok)) at l;
    did = λ k l e. e;
  }

  pub enough_others : backed t p verdict.Rejected ≡ true → Enough t.count (blocking t.count) (view_of t) votes_against p
  unfolding view_of
  enough_others b = record {
    who = marks_other t p;
    many = let l : blocking t.count ≤ number 7 (marks_other t p) = leb-true _ _ b in rw (own_marks is_other (λ m n. n.no_other)) at l;
    did = λ k l e. e;
  }

-- ---- in the table

module _ (t : Table) (k : ℕ) (fits : k < length t.sites) (on : k < t.count) (few : t.count ≤ 7) (s : Site) (g : ShapedSite s) (p : ℕ) (o : HeldOpen t p s) (u : Unvoiced t p) where
  -- the sites that are not used are those of t, whatever the site k is
  unvoiced_still : Unvoiced (with_site k s t) p
  unvoiced_still = record {
    none = λ j a b. subst (λ (x : Site). NoVote (vote_at x.votes p).mark) (sym (site_other t k s j (λ e. let z : ⊥ = omega arith in z))) (u.none j a b);
  }

  pub accept_says : backed (with_site k s t) p verdict.Accepted ≡ true
      → Says t.count accepts k p (view_of (with_site k s t)) (view_of (with_site k (ruled s (place_at t p) p verdict.Accepted) t))
  accept_says b =
      site_says t k fits on s (ruled s (place_at t p) p verdict.Accepted) accepts p (held_of (with_site k s t) p o.below o.used)
      (accept_speaks s (place_at t p) p g o.below o.unruled) (enough_oks (with_site k s t) p few unvoiced_still b)

  pub reject_says : backed (with_site k s t) p verdict.Rejected ≡ true
      → Says t.count rejects k p (view_of (with_site k s t)) (view_of (with_site k (ruled s (place_at t p) p verdict.Rejected) t))
  reject_says b =
      site_says t k fits on s (ruled s (place_at t p) p verdict.Rejected) rejects p (held_of (with_site k s t) p o.below o.used)
      (reject_speaks s (place_at t p) p g o.below o.unruled) (enough_others (with_site k s t) p few unvoiced_still b)

  -- a verdict, as the walk writes it
  pub rule_goes : (d : Verdict) → is_open d ≡ false → backed (with_site k s t) p d ≡ true
      → Goes t.count (view_of (with_site k s t)) (view_of (with_site k (ruled s (request_in t.requests p) p d) t)) (rule_event k (request_of (place_at t p)) d)
  unfolding view_of
  rule_goes verdict.Open e b = clash refl e
  rule_goes verdict.Accepted e b = rw (request_in_lem t.requests p o.below) (goes_says accepts k p (accept_says b))
  rule_goes verdict.Rejected e b = rw (request_in_lem t.requests p o.below) (goes_says rejects k p (reject_says b))
