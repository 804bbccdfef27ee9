-- One site of a table changed: from what is shown of that site alone to what the table shows.
use Prim.Native.Nat.{ℕ, ◌-◌, ◌≤◌, ◌<◌}
use mathlib.Core.Bool.{true}
use mathlib.Core.Logic.{inl}
use mathlib.Core.Path.{◌≡◌, refl, sym, ap, ◌∙◌}
use native.Mathlib.Omega.{arith}
use borrow.Author.Tests.{eq-eqb, ne_eqb}
use lib.Dec.{leb}
use lib.IntN.{ℤ}
use lib.ListN.{length}
use Rattle.kit.proofs.Bools.{by_eq, up_to}
use Rattle.ledger.specs.Ledger.{Reading, Request as LedgerRequest}
use Rattle.ledger.specs.View.{Word, votes_ok, votes_against, accepts, rejects, copy_after, Quiet, Can, Says}
use Rattle.stamps.specs.Stamps.{time_of, digit_of}
use Rattle.table.specs.Places.{site_at, place_at, with_site}
use Rattle.table.specs.declared.data.Table.{Table}
use Rattle.table.proofs.Places.{site_same, site_other, each_site}
use Rattle.vote.specs.Data.{vote_at}
use Rattle.vote.specs.declared.data.Site.{Site}
use Rattle.tied.specs.Views.{request_of, says_of, reading_at, view_of}

-- ---- told of the site alone

-- of the site s, changed to s': it comes to say w of the request r at place p, and nothing else changes but its copy where it accepts
pub record Speaks (w : Word) (p : ℕ) (r : LedgerRequest ℤ) (s s' : Site) : Type 0 where
  pub now : says_of w (vote_at s'.votes p) ≡ true
  pub rest : (l : Word) (q : ℕ) → (l ≡ w → q ≡ p → ⊥) → says_of l (vote_at s'.votes q) ≡ says_of l (vote_at s.votes q)
  pub copy : (i : ℕ) → reading_at s' i ≡ copy_after w (λ (u : ℕ). reading_at s) 0 r 0 i
  pub last : s'.last ≡ s.last

-- it says nothing more
pub record Mute (s s' : Site) : Type 0 where
  pub says : (l : Word) (q : ℕ) → says_of l (vote_at s'.votes q) ≡ says_of l (vote_at s.votes q)
  pub copy : (i : ℕ) → reading_at s' i ≡ reading_at s i
  pub last : s.last ≤ s'.last

-- ---- copies: at the site itself, whatever its number, and at the others

copy_here : (w : Word) (c : ℕ → ℕ → Reading ℤ) (k : ℕ) (r : LedgerRequest ℤ) (i : ℕ) → copy_after w (λ (u : ℕ). c k) 0 r 0 i ≡ copy_after w c k r k i
copy_here votes_ok c k r i = refl
copy_here votes_against c k r i = refl
copy_here accepts c k r i = rw (eq-eqb k k refl)
copy_here rejects c k r i = refl

copy_else : (w : Word) (c : ℕ → ℕ → Reading ℤ) (k : ℕ) (r : LedgerRequest ℤ) (u i : ℕ) → (u ≡ k → ⊥) → c u i ≡ copy_after w c k r u i
copy_else votes_ok c k r u i ne = refl
copy_else votes_against c k r u i ne = refl
copy_else accepts c k r u i ne = rw (ne_eqb u k ne)
copy_else rejects c k r u i ne = refl

-- ---- in the table

module _ (t : Table) (k : ℕ) (fits : k < length t.sites) where
  -- what the change leaves at k it leaves at every site
  pub site_kept : {A : Type 0} (f : Site → A) (s s' : Site) → f s' ≡ f s → (u : ℕ) → f (site_at (with_site k s' t) u) ≡ f (site_at (with_site k s t) u)
  site_kept f s s' e u =
      by_eq u k (λ g. rw (g, site_same t k s' fits, site_same t k s fits) e) (λ ne. rw (site_other t k s' u ne, site_other t k s u ne))

  module _ (on : k < t.count) (s s' : Site) where
    pub site_says
        : (w : Word) (p : ℕ) → (view_of (with_site k s t)).held p ≡ true → Speaks w p (request_of (place_at t p)) s s' → Can t.count w (view_of (with_site k s t)) k p
        → Says t.count w k p (view_of (with_site k s t)) (view_of (with_site k s' t))
    unfolding view_of
    site_says w p held y can = record {
      site = on;
      there = held;
      can = can;
      now = rw (site_same t k s' fits) y.now;
      same = λ q. record { held = refl; request = λ e. refl };
      says = λ l u q ne h e. each_site
          (λ j x. (l ≡ w → j ≡ k → q ≡ p → ⊥) → says_of l (vote_at x.votes q) ≡ says_of l (vote_at (site_at (with_site k s t) j).votes q)) t k s' u fits
          (λ f. rw (site_same t k s fits) (y.rest l q (λ g. f g refl))) (λ nu f. rw (site_other t k s u nu)) ne;
      copies = λ u i h. each_site (λ j x. reading_at x i ≡ copy_after w (λ v. reading_at (site_at (with_site k s t) v)) k (request_of (place_at t p)) j i) t k s' u fits
          (y.copy i ∙ ap (λ (x : Site). copy_after w (λ (v : ℕ). reading_at x) 0 (request_of (place_at t p)) 0 i) (sym (site_same t k s fits))
          ∙ copy_here w (λ v. reading_at (site_at (with_site k s t) v)) k (request_of (place_at t p)) i)
          (λ nu. ap (λ (x : Site). reading_at x i) (sym (site_other t k s u nu))
          ∙ copy_else w (λ v. reading_at (site_at (with_site k s t) v)) k (request_of (place_at t p)) u i nu);
      given = λ j e. ap (leb (time_of j)) (site_kept (λ x. x.last) s s' y.last (digit_of j - 1)) ∙ e;
    }

    pub site_quiet : Mute s s' → Quiet t.count (view_of (with_site k s t)) (view_of (with_site k s' t))
    unfolding view_of
    site_quiet m = record {
      same = λ q. inl (record { held = refl; request = λ e. refl });
      says = λ l u q h e. site_kept (λ x. says_of l (vote_at x.votes q)) s s' (m.says l q) u;
      copies = λ u i h. site_kept (λ x. reading_at x i) s s' (m.copy i) u;
      given = λ j e. up_to (time_of j) _ _ (lasts (digit_of j - 1)) e;
    }
      where
        lasts : (u : ℕ) → (site_at (with_site k s t) u).last ≤ (site_at (with_site k s' t) u).last
        lasts u = each_site (λ j x. (site_at (with_site k s t) j).last ≤ x.last) t k s' u fits (rw (site_same t k s fits) m.last) (λ nu. rw (site_other t k s u nu) (omega arith))
