-- Each small change of a table keeps it tied to its history, and so does every run of them.
use Prim.Native.Nat.{ℕ, ◌≤◌, ◌<◌}
use mathlib.Core.Path.{◌≡◌, refl, sym, ◌∙◌, ap, subst}
use mathlib.Core.Logic.{◌⊎◌, inl, inr, ⊎_elim, ⊎_map}
use mathlib.Core.Bool.{Bool, true, false, cond}
use mathlib.Core.List.Memᴰ
use mathlib.Core.List.{[], ◌∷◌, ◌++◌, append_assoc}
use native.Mathlib.Omega.{arith}
use lib.Dec.{eqb}
use Rattle.kit.specs.Lists.{◌among◌}
use Rattle.kit.proofs.Bools.{clash, by_eq}
use Rattle.kit.proofs.Members.{here, further, in_none, in_either, not_front}
use Rattle.majority.specs.Majority.{majority, blocking}
use Rattle.ledger.specs.Ledger.{Reading, Request, Event, begin, ok, against, accept, reject, History, Conflict}
use Rattle.ledger.specs.Ledger.{reading, blank, writes, written, copy_of, acceptances, of_site, copy_at, Settled}
use Rattle.ledger.specs.Ledger.{Quorum, Allowed, Valid, start, next}
use Rattle.ledger.specs.View.{Word, votes_ok, votes_against, accepts, rejects, Word-discrete, View, event, copy_after, HeldIn, Judged, Stays}
use Rattle.ledger.specs.View.{Begins, Quiet, Enough, CanOk, Can, Says, Run, stay, quiet, begins, says, Goes, Tied}
use Rattle.ledger.proofs.Safety.{ok_quorum, against_quorum, ok_begun, against_begun, accept_begun, reject_begun}

-- by cases: what is said is the very thing, or another
by_said : {P : Type 0} (l k : Word) (t s q p : ℕ) → (l ≡ k → t ≡ s → q ≡ p → P) → ((l ≡ k → t ≡ s → q ≡ p → ⊥) → P) → P
by_said {P} l k t s q p f g = go (Word-discrete l k)
  where
    go : Dec (l ≡ k) → P
    go (yes a) = by_eq t s (λ b. by_eq q p (λ c. f a b c) (λ c. g (λ i j m. c m))) (λ b. g (λ i j m. b j))
    go (no a) = g (λ i j m. a i)

-- ---- events

module _ {X : Type 0} where
  -- who says what of which request
  parts_of : Event X → Word × ℕ × Request X
  parts_of (begin r) = (votes_ok, 0, r)
  parts_of (ok s r) = (votes_ok, s, r)
  parts_of (against s r) = (votes_against, s, r)
  parts_of (accept s r) = (accepts, s, r)
  parts_of (reject s r) = (rejects, s, r)

  parts : (k : Word) (s : ℕ) (r : Request X) → parts_of (event k s r) ≡ (k, s, r)
  unfolding parts_of
  parts votes_ok s r = refl
  parts votes_against s r = refl
  parts accepts s r = refl
  parts rejects s r = refl

  -- two events that are one have the same parts
  same_parts : (k l : Word) (s t : ℕ) (q r : Request X) → event k s q ≡ event l t r → (k ≡ l) × (s ≡ t) × (q ≡ r)
  same_parts k l s t q r e =
      let p = sym (parts k s q) ∙ ap parts_of e ∙ parts l t r in
      (ap (λ (a : Word × ℕ × Request X). a.0) p, ap (λ (a : Word × ℕ × Request X). a.1) p, ap (λ (a : Word × ℕ × Request X). a.2) p)

  -- no vote or verdict is a begin
  begin_not : (k : Word) (s : ℕ) (q r : Request X) → event k s q ≡ begin r → ◌≡◌ {A = ℕ} 0 1
  begin_not votes_ok s q r e = cc
  begin_not votes_against s q r e = cc
  begin_not accepts s q r e = cc
  begin_not rejects s q r e = cc

  event_begun : {n : ℕ} {x : X} {h : History X} → Valid n x h → (k : Word) (s : ℕ) {r : Request X} → event k s r among h → begin r among h
  event_begun v votes_ok s m = ok_begun v m
  event_begun v votes_against s m = against_begun v m
  event_begun v accepts s m = accept_begun v m
  event_begun v rejects s m = reject_begun v m

  begun_before : {h : History X} (k : Word) (s : ℕ) (q r : Request X) → begin q among event k s r ∷ h → begin q among h
  begun_before k s q r m = not_front (λ e. begin_not k s r q (sym e)) m

  begun_now : {h : History X} {q r : Request X} {P : Type 0} → begin q among begin r ∷ h → (q ≡ r → P) → (begin q among h → P) → P
  begun_now m f g = in_either m (λ e. f (cc)) g

  said_before : {h : History X} (k : Word) (s : ℕ) (q r : Request X) → event k s q among begin r ∷ h → event k s q among h
  said_before k s q r m = not_front (begin_not k s q r) m

  -- ---- copies

  written_at : (c d : ℕ → Reading X) (r : Request X) (i : ℕ) → c i ≡ d i → written c r i ≡ written d r i
  unfolding written
  written_at c d r i e = ap (λ (k : Reading X). cond (writes r i k) (reading r i) k) e

  copy_next : (x : X) (h : History X) (k : Word) (c : ℕ → ℕ → Reading X) (s : ℕ) (r : Request X) (t i : ℕ)
      → c t i ≡ copy_at x h t i → copy_after k c s r t i ≡ copy_at x (event k s r ∷ h) t i
  unfolding acceptances of_site copy_of
  copy_next x h votes_ok c s r t i e = e
  copy_next x h votes_against c s r t i e = e
  copy_next x h rejects c s r t i e = e
  copy_next x h accepts c s r t i e = go (eqb t s)
    where
      go : (b : Bool) → cond b (written (c t) r) (c t) i ≡ copy_of x (cond b (r ∷ of_site t (acceptances h)) (of_site t (acceptances h))) i
      go true = written_at (c t) (copy_of x (of_site t (acceptances h))) r i e
      go false = e

-- ---- the tie

module _ {X : Type 0} {n : ℕ} {x : X} {v : View X} {h : History X} (T : Tied n x v h) where
  -- a verdict that is shown was given
  settled : (s p : ℕ) → s < n → v.held p ≡ true → Judged v s p → Settled h s (v.request p)
  settled s p l e (inl f) = inl (T.said accepts s p l e f)
  settled s p l e (inr f) = inr (T.said rejects s p l e f)

  -- ---- a place that stays

  module _ {w : View X} where
    was_held : {q : ℕ} → Stays v w q → w.held q ≡ true → v.held q ≡ true
    was_held S e = sym S.held ∙ e

    was_request : {q : ℕ} → Stays v w q → w.held q ≡ true → w.request q ≡ v.request q
    was_request S e = S.request (was_held S e)

    begun_still : {q : ℕ} → Stays v w q → w.held q ≡ true → begin (w.request q) among h
    begun_still {q} S e = Memᴰ.cast (ap begin (was_request S e)) (T.begun q (was_held S e))

    said_still : (k : Word) (s : ℕ) {q : ℕ} → Stays v w q → s < n → w.held q ≡ true → w.says k s q ≡ v.says k s q → w.says k s q ≡ true
        → event k s (w.request q) among h
    said_still k s {q} S l e f g = Memᴰ.cast (ap (event k s) (was_request S e)) (T.said k s q l (was_held S e) (sym f ∙ g))

    meant_still : (k : Word) (s : ℕ) {q : ℕ} → Stays v w q → s < n → w.held q ≡ true → w.says k s q ≡ v.says k s q
        → event k s (w.request q) among h → w.says k s q ≡ true
    meant_still k s {q} S l e f m = f ∙ T.meant k s q l (was_held S e) (Memᴰ.cast (ap (event k s) (sym (was_request S e))) m)

    apart_still : {p q : ℕ} → Stays v w p → Stays v w q → w.held p ≡ true → w.held q ≡ true → w.request p ≡ w.request q → p ≡ q
    apart_still {p} {q} S S' e f g = T.apart p q (was_held S e) (was_held S' f) (sym (was_request S e) ∙ g ∙ was_request S' f)

    -- what is held stays, or has its verdicts, in the longer history too
    held_still : (r : Request X) (a : HeldIn v r) → Stays v w a.0 → HeldIn w r
    held_still r a S = (a.0, S.held ∙ a.1, S.request a.1 ∙ a.2)

    kept_still : (d : Event X) (r : Request X) → ((a : HeldIn v r) → Stays v w a.0) → begin r among h
        → HeldIn w r ⊎ ((s : ℕ) → s < n → Settled (d ∷ h) s r)
    kept_still d r S m = ⊎_elim (λ a. inl (held_still r a (S a))) (λ f. inr (λ s l. ⊎_map further further (f s l))) (T.kept r m)

  -- ---- a quiet change

  module _ {w : View X} (Q : Quiet n v w) where
    there_still : (q : ℕ) → w.held q ≡ true → Stays v w q
    there_still q e = ⊎_elim (λ a. a) (λ b. clash e b.0) (Q.same q)

    kept_quiet : (r : Request X) → HeldIn v r ⊎ ((s : ℕ) → s < n → Settled h s r) → HeldIn w r ⊎ ((s : ℕ) → s < n → Settled h s r)
    kept_quiet r (inl a) = ⊎_elim (λ b. inl (held_still r a b))
        (λ b. inr (λ s l. subst (Settled h s) a.2 (settled s a.0 l a.1 (b.1 s (omega arith))))) (Q.same a.0)
    kept_quiet r (inr f) = inr f

    pub tied_quiet : Tied n x w h
    tied_quiet = record {
      valid = T.valid;
      begun = λ p e. begun_still (there_still p e) e;
      kept = λ r m. kept_quiet r (T.kept r m);
      said = λ k s p l e. said_still k s (there_still p e) l e (Q.says k s p l e);
      meant = λ k s p l e. meant_still k s (there_still p e) l e (Q.says k s p l e);
      copies = λ s i l. Q.copies s i l ∙ T.copies s i l;
      stamps = λ r m. Q.given _ (T.stamps r m);
      apart = λ p q e f. apart_still (there_still p e) (there_still q f) e f;
    }

  -- ---- a new request

  module _ {w : View X} (p : ℕ) (B : Begins n p v w) where
    -- it is not in the history
    unknown : {r : Request X} → r ≡ w.request p → begin r among h → ⊥
    unknown {r} e m = clash (T.stamps r m) (ap (λ (k : Request X). v.given k.stamp) e ∙ B.fresh)

    -- a place that was held is another one
    other : (q : ℕ) → v.held q ≡ true → q ≡ p → ⊥
    other q e f = clash e (ap v.held f ∙ B.free)

    begun_b : (q : ℕ) → w.held q ≡ true → begin (w.request q) among begin (w.request p) ∷ h
    begun_b q e = by_eq q p (λ f. here (ap (λ (j : ℕ). begin (w.request j)) f)) (λ ne. further (begun_still (B.same q ne) e))

    kept_b : (r : Request X) → begin r among begin (w.request p) ∷ h
        → HeldIn w r ⊎ ((s : ℕ) → s < n → Settled (begin (w.request p) ∷ h) s r)
    kept_b r m = begun_now m (λ e. inl (p, B.now, sym e)) (kept_still (begin (w.request p)) r (λ a. B.same a.0 (other a.0 a.1)))

    says_b : (k : Word) (s q : ℕ) (ne : q ≡ p → ⊥) → s < n → w.held q ≡ true → w.says k s q ≡ v.says k s q
    says_b k s q ne l e = B.says k s q ne l (was_held (B.same q ne) e)

    said_b : (k : Word) (s q : ℕ) → s < n → w.held q ≡ true → w.says k s q ≡ true → event k s (w.request q) among begin (w.request p) ∷ h
    said_b k s q l e f = by_eq q p
        (λ g. clash f (ap (w.says k s) g ∙ B.silent k s l))
        (λ ne. further (said_still k s (B.same q ne) l e (says_b k s q ne l e) f))

    meant_b : (k : Word) (s q : ℕ) → s < n → w.held q ≡ true → event k s (w.request q) among h → w.says k s q ≡ true
    meant_b k s q l e m = by_eq q p
        (λ g. absurd (unknown (ap w.request g) (event_begun T.valid k s m)))
        (λ ne. meant_still k s (B.same q ne) l e (says_b k s q ne l e) m)

    apart_b : (a b : ℕ) → w.held a ≡ true → w.held b ≡ true → w.request a ≡ w.request b → a ≡ b
    apart_b a b e f g = by_eq a p
        (λ i. by_eq b p (λ j. i ∙ sym j) (λ j. absurd (unknown (sym g ∙ ap w.request i) (begun_still (B.same b j) f))))
        (λ i. by_eq b p
        (λ j. absurd (unknown (g ∙ ap w.request j) (begun_still (B.same a i) e)))
        (λ j. apart_still (B.same a i) (B.same b j) e f g))

    pub tied_begins : Tied n x w (begin (w.request p) ∷ h)
    unfolding acceptances
    tied_begins = record {
      valid = next {e = begin (w.request p)} T.valid
          (record { fresh = λ q m e. clash (T.stamps q m) (ap v.given e ∙ B.fresh); proper = B.proper });
      begun = begun_b;
      kept = kept_b;
      said = said_b;
      meant = λ k s q l e m. meant_b k s q l e (said_before k s (w.request q) (w.request p) m);
      copies = λ s i l. B.copies s i l ∙ T.copies s i l;
      stamps = λ q m. begun_now m (λ e. ap (λ (r : Request X). w.given r.stamp) e ∙ B.issued) (λ j. B.given q.stamp (T.stamps q j));
      apart = apart_b;
    }

  -- ---- a site says something

  -- what the view shows to be enough is a quorum of the history
  quorum : (m : ℕ) {j : ℕ} (k : Word) (p : ℕ) → m ≤ j → v.held p ≡ true → Enough n j v k p → Quorum n m h (λ s. event k s (v.request p))
  quorum m k p less e E = record { who = E.who; many = omega (arith, E.many); did = λ s l b. T.said k s p l e (E.did s l b) }

  -- what the site s voted OK and conflicts has its verdict there, held or not
  cleared : (s p : ℕ) → s < n → CanOk n v s p → (q : Request X) → ok s q among h → Conflict q (v.request p)
      → HeldIn v q ⊎ ((t : ℕ) → t < n → Settled h t q) → Settled h s q
  cleared s p l C q m c (inl a) =
      let said : v.says votes_ok s a.0 ≡ true = T.meant votes_ok s a.0 l a.1 (Memᴰ.cast (ap (ok s) a.2) m) in
      let conflict : Conflict (v.request a.0) (v.request p) = rw a.2 c in
      subst (Settled h s) a.2 (settled s a.0 l a.1 (C.clear a.0 a.1 said conflict))
  cleared s p l C q m c (inr f) = f s l

  allowed : (k : Word) (s p : ℕ) → s < n → v.held p ≡ true → Can n k v s p → Allowed n x h (event k s (v.request p))
  unfolding majority blocking
  allowed votes_ok s p l e C = record {
    begun = T.begun p e;
    free = λ m. clash (T.meant votes_against s p l e m) C.free;
    same = λ i b. omega (arith, ap (λ (c : Reading X). c.stamp) (T.copies s i l), C.same i b);
    clear = λ q m c. cleared s p l C q m c (T.kept q (ok_begun T.valid m));
  }
  allowed votes_against s p l e f = record { begun = T.begun p e; free = λ m. clash (T.meant votes_ok s p l e m) f }
  allowed accepts s p l e E = quorum (majority n) votes_ok p (omega arith) e E
  allowed rejects s p l e E = quorum (blocking n) votes_against p (omega arith) e E

  module _ {w : View X} (k : Word) (s p : ℕ) (S : Says n k s p v w) where
    is_said : (l : Word) (t q : ℕ) → l ≡ k → t ≡ s → q ≡ p → w.says l t q ≡ true
    is_said l t q a b c = (λ d. w.says (a d) (b d) (c d)) ∙ S.now

    one_place : (q : ℕ) → w.held q ≡ true → w.request q ≡ v.request p → q ≡ p
    one_place q e f = T.apart q p (was_held (S.same q) e) S.there (sym (was_request (S.same q) e) ∙ f)

    says_s : (l : Word) (t q : ℕ) → (l ≡ k → t ≡ s → q ≡ p → ⊥) → t < n → w.held q ≡ true → w.says l t q ≡ v.says l t q
    says_s l t q ne b e = S.says l t q ne b (was_held (S.same q) e)

    said_s : (l : Word) (t q : ℕ) → t < n → w.held q ≡ true → w.says l t q ≡ true → event l t (w.request q) among event k s (v.request p) ∷ h
    said_s l t q b e f = by_said l k t s q p
        (λ i j m. let r : w.request q ≡ v.request p = was_request (S.same q) e ∙ ap v.request m in here (λ d. event (i d) (j d) (r d)))
        (λ ne. further (said_still l t (S.same q) b e (says_s l t q ne b e) f))

    meant_s : (l : Word) (t q : ℕ) → t < n → w.held q ≡ true → event l t (w.request q) among event k s (v.request p) ∷ h → w.says l t q ≡ true
    meant_s l t q b e m = in_either m
        (λ f. let a = same_parts l k t s (w.request q) (v.request p) f in is_said l t q a.0 a.1 (one_place q e a.2))
        (λ j. by_said l k t s q p (is_said l t q) (λ ne. meant_still l t (S.same q) b e (says_s l t q ne b e) j))

    pub tied_says : Tied n x w (event k s (v.request p) ∷ h)
    tied_says = record {
      valid = next {e = event k s (v.request p)} T.valid (allowed k s p S.site S.there S.can);
      begun = λ q e. further (begun_still (S.same q) e);
      kept = λ r m. kept_still (event k s (v.request p)) r (λ a. S.same a.0) (begun_before k s r (v.request p) m);
      said = said_s;
      meant = meant_s;
      copies = λ t i b. S.copies t i b ∙ copy_next x h k v.copy s (v.request p) t i (T.copies t i b);
      stamps = λ r m. S.given _ (T.stamps r (begun_before k s r (v.request p) m));
      apart = λ a b e f. apart_still (S.same a) (S.same b) e f;
    }

-- ---- a whole run

module _ {X : Type 0} {n : ℕ} {x : X} where
  tied_run : {v u : View X} {h g : History X} → Run n v h u g → Tied n x v h → Tied n x u g
  tied_run stay T = T
  tied_run (quiet Q r) T = tied_run r (tied_quiet T Q)
  tied_run (begins p B r) T = tied_run r (tied_begins T p B)
  tied_run (says k s p S r) T = tied_run r (tied_says T k s p S)

  -- a table that holds nothing, with blank copies, is tied to the empty history
  pub tied_fresh : (v : View X) → ((p : ℕ) → v.held p ≡ false) → ((s i : ℕ) → s < n → v.copy s i ≡ blank x) → Tied n x v []
  unfolding acceptances of_site copy_of
  tied_fresh v none blanks = record {
    valid = start;
    begun = λ p e. clash e (none p);
    kept = λ q m. in_none m;
    said = λ k s p l e f. clash e (none p);
    meant = λ k s p l e m. in_none m;
    copies = blanks;
    stamps = λ q m. in_none m;
    apart = λ p q e f g. clash e (none p);
  }

  -- what goes from a tied table comes to a tied one
  pub tied_goes : {v w : View X} {l h : History X} → Goes n v w l → Tied n x v h → Tied n x w (l ++ h)
  tied_goes {h = h} a T = tied_run (a.run h) T

-- ---- what a step is made of

module _ {X : Type 0} {n : ℕ} where
  pub goes_stay : {v : View X} → Goes n v v []
  goes_stay = record { run = λ h. stay }

  pub goes_quiet : {v w : View X} → Quiet n v w → Goes n v w []
  goes_quiet Q = record { run = λ h. quiet Q stay }

  pub goes_begins : {v w : View X} (p : ℕ) → Begins n p v w → Goes n v w (begin (w.request p) ∷ [])
  goes_begins p B = record { run = λ h. begins p B stay }

  pub goes_says : {v w : View X} (k : Word) (s p : ℕ) → Says n k s p v w → Goes n v w (event k s (v.request p) ∷ [])
  goes_says k s p S = record { run = λ h. says k s p S stay }

  and_on : {v w u : View X} {h k g : History X} → Run n v h w k → Run n w k u g → Run n v h u g
  and_on stay b = b
  and_on (quiet Q a) b = quiet Q (and_on a b)
  and_on (begins p B a) b = begins p B (and_on a b)
  and_on (says k s p S a) b = says k s p S (and_on a b)

  -- one after the other: what is written later stands in front
  pub goes_then : {v w u : View X} {l m : History X} → Goes n v w l → Goes n w u m → Goes n v u (m ++ l)
  goes_then {l = l} {m} a b = record { run = λ h. rw (append_assoc m l h) (and_on (a.run h) (b.run (l ++ h))) }

-- ---- what was said stays said

module _ {X : Type 0} (n : ℕ) where
  -- what is said of the requests that stay is still said
  abbrev pub Grows : View X → View X → Type 0
  Grows v w = (k : Word) (s q : ℕ) → s < n → v.held q ≡ true → w.held q ≡ true → v.says k s q ≡ true → w.says k s q ≡ true

module _ {X : Type 0} {n : ℕ} {v w : View X} where
  pub says_grows : (k : Word) (s p : ℕ) → Says n k s p v w → Grows n v w
  says_grows k s p S l t q b e f g = by_said l k t s q p (λ i j m. (λ d. w.says (i d) (j d) (m d)) ∙ S.now) (λ ne. S.says l t q ne b e ∙ g)

  pub quiet_grows : Quiet n v w → Grows n v w
  quiet_grows Q k s q b e f g = Q.says k s q b f ∙ g

  pub begins_grows : (p : ℕ) → Begins n p v w → Grows n v w
  begins_grows p B k s q b e f g = B.says k s q (λ i. clash e (ap v.held i ∙ B.free)) b e ∙ g

  pub enough_grows : Grows n v w → (m : ℕ) (k : Word) (p : ℕ) → v.held p ≡ true → w.held p ≡ true → Enough n m v k p → Enough n m w k p
  enough_grows G m k p e f E = record { who = E.who; many = E.many; did = λ s l b. G k s p l e f (E.did s l b) }

-- ---- a verdict that a site has is backed by the votes that the table shows

module _ {X : Type 0} {n : ℕ} {x : X} {v : View X} {h : History X} (T : Tied n x v h) (p : ℕ) (e : v.held p ≡ true) where
  shown : (m : ℕ) (k : Word) → Quorum n m h (λ s. event k s (v.request p)) → Enough n m v k p
  shown m k q = record { who = q.who; many = q.many; did = λ t b i. T.meant k t p b e (q.did t b i) }

  pub accept_backed : (s : ℕ) → s < n → v.says accepts s p ≡ true → Enough n (majority n) v votes_ok p
  accept_backed s l f = shown (majority n) votes_ok (ok_quorum T.valid (T.said accepts s p l e f))

  pub reject_backed : (s : ℕ) → s < n → v.says rejects s p ≡ true → Enough n (blocking n) v votes_against p
  reject_backed s l f = shown (blocking n) votes_against (against_quorum T.valid (T.said rejects s p l e f))
