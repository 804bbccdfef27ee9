-- The lists that are read off a history have just what the history has.
use Prim.Native.Nat.{ℕ}
use mathlib.Core.Path.{◌≡◌, refl, sym, ◌∙◌, ap}
use mathlib.Core.Bool.{true, false, false≢true}
use mathlib.Core.List.Memᴰ
use mathlib.Core.List.{List, [], ◌∷◌}
use lib.Dec.{eqb}
use borrow.Author.Tests.{eqb-true, eqb-false}
use Rattle.kit.specs.Lists.{◌among◌}
use Rattle.kit.proofs.Bools.{or_left, or_right, by_test, of_cond}
use Rattle.kit.proofs.Members.{here, further, in_none, in_either, not_front}
use Rattle.ledger.specs.Ledger.{Request, begin, ok, against, accept, reject, History, acceptances, of_site}
use Rattle.ledger.specs.Order.{named, first_met, Once}

module _ {X : Type 0} where
  pub in_acceptances : (h : History X) {s : ℕ} {r : Request X} → accept s r among h → (s, r) among acceptances h
  unfolding acceptances
  in_acceptances [] m = in_none m
  in_acceptances (begin q ∷ h) m = in_acceptances h (not_front (λ p. cc) m)
  in_acceptances (ok t q ∷ h) m = in_acceptances h (not_front (λ p. cc) m)
  in_acceptances (against t q ∷ h) m = in_acceptances h (not_front (λ p. cc) m)
  in_acceptances (accept t q ∷ h) m = in_either m (λ p. here (cc)) (λ k. further (in_acceptances h k))
  in_acceptances (reject t q ∷ h) m = in_acceptances h (not_front (λ p. cc) m)

  pub acceptances_in : (h : History X) {s : ℕ} {r : Request X} → (s, r) among acceptances h → accept s r among h
  unfolding acceptances
  acceptances_in [] m = in_none m
  acceptances_in (begin q ∷ h) m = further (acceptances_in h m)
  acceptances_in (ok t q ∷ h) m = further (acceptances_in h m)
  acceptances_in (against t q ∷ h) m = further (acceptances_in h m)
  acceptances_in (accept t q ∷ h) m =
      in_either m (λ p. here (ap (λ (k : ℕ × Request X). accept k.0 k.1) p)) (λ k. further (acceptances_in h k))
  acceptances_in (reject t q ∷ h) m = further (acceptances_in h m)

  -- ---- what one site accepted

  pub in_site : (s : ℕ) (l : List (ℕ × Request X)) {r : Request X} → (s, r) among l → r among of_site s l
  unfolding of_site
  in_site s [] m = in_none m
  in_site s (p ∷ l) {r} m = of_cond (λ (k : List (Request X)). r among k) (eqb s p.0)
      (λ e. in_either m (λ k. here (ap (λ (a : ℕ × Request X). a.1) k)) (λ k. further (in_site s l k)))
      (λ e. in_either m (λ k. absurd (eqb-false s p.0 e (ap (λ (a : ℕ × Request X). a.0) k))) (λ k. in_site s l k))

  pub site_in : (s : ℕ) (l : List (ℕ × Request X)) {r : Request X} → r among of_site s l → (s, r) among l
  unfolding of_site
  site_in s [] m = in_none m
  site_in s (p ∷ l) {r} m = of_cond (λ (k : List (Request X)). r among k → (s, r) among p ∷ l) (eqb s p.0)
      (λ e k. in_either k (λ i. here (λ d. (eqb-true s p.0 e d, i d))) (λ j. further (site_in s l j)))
      (λ e k. further (site_in s l k)) m

  -- ---- the stamps that were accepted anywhere

  pub named_in : (k : ℕ) (l : List (ℕ × Request X)) → named k l ≡ true → (p : ℕ × Request X) × (p among l) × (p.1.stamp ≡ k)
  unfolding named
  named_in k [] e = absurd (false≢true e)
  named_in k (p ∷ l) e = by_test (eqb k p.1.stamp)
      (λ f. (p, here refl, sym (eqb-true k p.1.stamp f)))
      (λ f. let a = named_in k l (rw f at e) in (a.0, further a.1, a.2))

  pub named_not : (k : ℕ) (l : List (ℕ × Request X)) → named k l ≡ false → (p : ℕ × Request X) → p among l → p.1.stamp ≡ k → ⊥
  unfolding named
  named_not k [] e p m f = in_none m
  named_not k (q ∷ l) e p m f = in_either m
      (λ j. eqb-false k q.1.stamp (or_left _ _ e) (sym f ∙ ap (λ (a : ℕ × Request X). a.1.stamp) j))
      (λ j. named_not k l (or_right (eqb k q.1.stamp) _ e) p j f)

  -- ---- each where it is met first

  pub met_in : (l : List (ℕ × Request X)) {r : Request X} → r among first_met l → (s : ℕ) × ((s, r) among l)
  unfolding first_met
  met_in [] m = in_none m
  met_in (p ∷ l) {r} m = of_cond (λ (k : List (Request X)). r among k → (s : ℕ) × ((s, r) among p ∷ l)) (named p.1.stamp l)
      (λ e k. let a = met_in l k in (a.0, further a.1))
      (λ e k. in_either k (λ i. (p.0, here (λ d. (p.0, i d)))) (λ j. let a = met_in l j in (a.0, further a.1))) m

  -- where a stamp is a name, each that is there is met
  pub in_met : (l : List (ℕ × Request X)) → ((p q : ℕ × Request X) → p among l → q among l → p.1.stamp ≡ q.1.stamp → p.1 ≡ q.1)
      → (p : ℕ × Request X) → p among l → p.1 among first_met l
  unfolding first_met
  in_met [] one p m = in_none m
  in_met (q ∷ l) one p m =
      let rest : (a : ℕ × Request X) → a among l → a.1 among first_met l = in_met l (λ a b i j. one a b (further i) (further j)) in
      of_cond (λ (k : List (Request X)). p.1 among k) (named q.1.stamp l)
      (λ e. in_either m (λ j. again (ap (λ (k : ℕ × Request X). k.1) j) (named_in q.1.stamp l e) rest) (λ j. rest p j))
      (λ e. in_either m (λ j. here (ap (λ (k : ℕ × Request X). k.1) j)) (λ j. further (rest p j)))
    where
      -- q has the stamp of one that is further back, and so is that one
      again : p.1 ≡ q.1 → (a : ℕ × Request X) × (a among l) × (a.1.stamp ≡ q.1.stamp)
          → ((a : ℕ × Request X) → a among l → a.1 among first_met l) → p.1 among first_met l
      again j a rest = Memᴰ.cast (j ∙ one q a.0 (here refl) (further a.1) (sym a.2)) (rest a.0 a.1)

  -- each is there once
  pub once : (l : List (ℕ × Request X)) → Once (first_met l)
  unfolding first_met
  once [] = tt
  once (p ∷ l) = of_cond Once (named p.1.stamp l) (λ e. once l)
      (λ e. (once l, λ q m f. let a = met_in l m in named_not p.1.stamp l e (a.0, q) a.1 f))
