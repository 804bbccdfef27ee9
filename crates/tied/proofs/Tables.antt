-- A request begins, a request is retired, a table is fresh: what the table then shows.
use Prim.Native.Nat.{ℕ, suc, ◌-◌, ◌^◌, ◌≤◌, ◌<◌}
use mathlib.Core.Bool.{true, false, not, ◌&&◌, and-false}
use mathlib.Core.List.{List, [], ◌∷◌}
use mathlib.Core.Logic.{◌⊎◌, inl, inr}
use mathlib.Core.Path.{◌≡◌, refl, ap, subst, ◌∙◌}
use native.Mathlib.Omega.{arith}
use borrow.Author.Tests.{lt-ltb, le-ltb, lt-leb, le-leb, ne_eqb, eqb-false, not-true}
use lib.Dec.{eqb, leb, ltb}
use lib.IntN.{pos}
use lib.ListN.{length, get_or, get_or-replicate}
use lib.Seq.{get_or-set_same, get_or-set_other}
use Rattle.kit.specs.Lists.{changed}
use Rattle.kit.proofs.Bools.{clash, and_left, and_right, by_eq, by_lt, up_to}
use Rattle.kit.proofs.Changes.{changed_at}
use Rattle.kit.proofs.Listings.{listed_at, replicate_at}
use Rattle.ledger.specs.Ledger.{begin, Proper, blank}
use Rattle.ledger.specs.View.{Word, votes_ok, votes_against, accepts, rejects, Judged, Stays, Begins, Quiet, Goes, Tied}
use Rattle.ledger.proofs.Link.{goes_quiet, goes_begins, tied_fresh}
use Rattle.sets.specs.Sets.{member, inside, of_items}
use Rattle.sets.proofs.Members.{inside_at, some_item, items_inside}
use Rattle.stamps.specs.Stamps.{time_of, digit_of}
use Rattle.stamps.specs.Issue.{given, issued}
use Rattle.stamps.proofs.Laws.{given_larger}
use Rattle.table.specs.Fresh.{blank_site, blank_table}
use Rattle.table.specs.Meaning.{ShapedTable, Sound}
use Rattle.table.specs.Places.{no_site, site_at, place_at, verdict_at, last_of, with_sites, with_site, with_request}
use Rattle.table.specs.Sound.{sets_allowed}
use Rattle.table.specs.declared.data.Table.{Table}
use Rattle.table.proofs.Nothing.{Nothing, nothing_means}
use Rattle.table.proofs.Places.{site_same, site_other, each_site}
use Rattle.vote.specs.Data.{is_open, no_request, blank_request, vote_at, with_last}
use Rattle.vote.specs.declared.data.Request.{Request}
use Rattle.vote.specs.declared.data.Site.{Site}
use Rattle.vote.proofs.After.{CopiesOf}
use Rattle.vote.proofs.MarkKinds.{unmarked_no_vote, open_is}
use Rattle.tied.specs.Views.{request_of, says_of, reading_at, view_of}
use Rattle.tied.proofs.Votes.{judged_by, reading_same}
use Rattle.tied.proofs.Words.{has_below, has_member, has_of, items_in, sets_items}

-- ---- a request that passes check 5, with a stamp later than its base stamps, is the ledger's kind of request

pub proper_of
    : (q : Request) → sets_allowed q.base q.update ≡ true → q.update < 2 ^ 32
    → ((i : ℕ) → i < 24 → member q.base i ≡ true → get_or q.stamps i 0 < q.stamp) → Proper (request_of q)
unfolding sets_allowed
proper_of q e small later = record {
  some = (r.0, has_of q.update r.0 (items_in q.update r.0 (items_inside q.update q.base within (sets_items q.base q.update e)) r.1 r.2) r.2);
  inside = λ i h. has_of q.base i (has_below q.update i h)
      (inside_at q.update q.base i within (let l = has_below q.update i h in omega arith) (has_member q.update i h));
  later = λ i h. later i (has_below q.base i h) (has_member q.base i h);
}
  where
    within : inside q.update q.base ≡ true
    within = and_left (inside q.update q.base) (of_items q.base) (and_right (not (eqb q.update 0)) (inside q.update q.base && of_items q.base) e)

    r : (i : ℕ) × (i < 32) × (member q.update i ≡ true)
    r = some_item q.update small
        (eqb-false q.update 0 (not-true (eqb q.update 0) (and_left (not (eqb q.update 0)) (inside q.update q.base && of_items q.base) e)))

-- and so is one with the stamp that its site issues for these base stamps
pub proper_issued
    : (q : Request) (site clock last : ℕ) (stamps : List ℕ) {stamp time : ℕ} → issued site clock last q.base stamps ≡ given stamp time → q.stamp ≡ stamp
    → ((i : ℕ) → i < 24 → member q.base i ≡ true → get_or q.stamps i 0 ≡ get_or stamps i 0) → sets_allowed q.base q.update ≡ true → q.update < 2 ^ 32
    → Proper (request_of q)
proper_issued q site clock last stamps {stamp} given named same e small =
    proper_of q e small (λ i h m. rw (same i h m, named) (given_larger site clock last q.base stamps given i h m))

-- ---- begin

-- the request q takes the free place p; its stamp is one of site k, later than those that it gave and at most the t `last` that it has given now
pub record Enters (t : Table) (k p last : ℕ) (q : Request) : Type 0 where
  pub listed : k < length t.sites
  pub room : p < length t.requests
  pub below : p < 16
  pub free : (place_at t p).stamp ≡ 0
  pub silent : (u : ℕ) → u < t.count → Nothing (site_at t u) p
  pub digit : digit_of q.stamp ≡ suc k
  pub later : (site_at t k).last < time_of q.stamp
  pub until : time_of q.stamp ≤ last
  pub proper : Proper (request_of q)

-- the table then
abbrev pub entered_at : Table → ℕ → ℕ → ℕ → Request → Table
entered_at t k p last q = with_request p q (with_site k (with_last last (site_at t k)) t)

-- nothing said says nothing
silent_says : (w : Word) (s : Site) (p : ℕ) → Nothing s p → says_of w (vote_at s.votes p) ≡ false
silent_says votes_ok s p n = (unmarked_no_vote (vote_at s.votes p).mark n.unmarked).no_ok
silent_says votes_against s p n = (unmarked_no_vote (vote_at s.votes p).mark n.unmarked).no_other
silent_says accepts s p n = rw (open_is (vote_at s.votes p).verdict n.unruled)
silent_says rejects s p n = rw (open_is (vote_at s.votes p).verdict n.unruled)

module _ (t : Table) (k p last : ℕ) (q : Request) (a : Enters t k p last q) where
  request_now : place_at (entered_at t k p last q) p ≡ q
  request_now = get_or-set_same t.requests p q no_request a.room

  request_else : (j : ℕ) → (j ≡ p → ⊥) → place_at (entered_at t k p last q) j ≡ place_at t j
  request_else j ne = get_or-set_other t.requests p j q no_request ne

  place : digit_of q.stamp - 1 ≡ k
  place = let e = a.digit in omega arith

  -- every site but k is as it was, and k has only its last t moved on
  site_still : {A : Type 0} (f : Site → A) → f (with_last last (site_at t k)) ≡ f (site_at t k) → (u : ℕ) → f (site_at (entered_at t k p last q) u) ≡ f (site_at t u)
  site_still f e u = by_eq u k (λ g. rw (g, site_same t k (with_last last (site_at t k)) a.listed) e)
      (λ ne. ap f (site_other t k (with_last last (site_at t k)) u ne))

  lasts : (u : ℕ) → (site_at t u).last ≤ (site_at (entered_at t k p last q) u).last
  lasts u = each_site (λ j x. (site_at t j).last ≤ x.last) t k (with_last last (site_at t k)) u a.listed (let h = a.later in let l = a.until in omega arith) (λ ne. omega arith)

  -- the stamp was not given before, and is given now
  not_yet : last_of t q.stamp < time_of q.stamp
  not_yet = let e : last_of t q.stamp ≡ (site_at t k).last = ap (λ (j : ℕ). (site_at t j).last) place in let l = a.later in omega arith

  by_now : time_of q.stamp ≤ last_of (entered_at t k p last q) q.stamp
  by_now =
      let e : last_of (entered_at t k p last q) q.stamp ≡ last =
      ap (λ (j : ℕ). (site_at (entered_at t k p last q) j).last) place ∙ ap (λ (x : Site). x.last) (site_same t k (with_last last (site_at t k)) a.listed) in
      let u = a.until in omega arith

  pub begins_at : Begins t.count p (view_of t) (view_of (entered_at t k p last q))
  unfolding view_of
  begins_at = record {
    free = rw (a.free, lt-ltb p 16 a.below);
    now = rw (request_now, lt-ltb p 16 a.below, ne_eqb q.stamp 0 (λ e. let d = a.digit in omega arith));
    proper = rw request_now a.proper;
    fresh = ap (λ (r : Request). leb (time_of r.stamp) (last_of t r.stamp)) request_now ∙ lt-leb (time_of q.stamp) (last_of t q.stamp) not_yet;
    issued = ap (λ (r : Request). leb (time_of r.stamp) (last_of (entered_at t k p last q) r.stamp)) request_now
        ∙ le-leb (time_of q.stamp) (last_of (entered_at t k p last q) q.stamp) by_now;
    silent = λ w u h. site_still (λ x. says_of w (vote_at x.votes p)) refl u ∙ silent_says w (site_at t u) p (a.silent u h);
    same = λ j ne. record { held = rw (request_else j ne); request = λ e. ap request_of (request_else j ne) };
    says = λ w u j ne h e. site_still (λ x. says_of w (vote_at x.votes j)) refl u;
    copies = λ u i h. site_still (λ x. reading_at x i) refl u;
    given = λ j e. up_to (time_of j) _ _ (lasts (digit_of j - 1)) e;
  }

  pub begin_goes : Goes t.count (view_of t) (view_of (entered_at t k p last q)) (begin (request_of q) ∷ [])
  unfolding view_of
  begin_goes = subst (λ (r : Request). Goes t.count (view_of t) (view_of (entered_at t k p last q)) (begin (request_of r) ∷ [])) request_now (goes_begins p begins_at)

-- of a sound table
pub enters_of
    : (t : Table) (k p last : ℕ) (q : Request) → ShapedTable t → Sound t → k < t.count → p < 16 → (place_at t p).stamp ≡ 0 → digit_of q.stamp ≡ suc k
    → (site_at t k).last < time_of q.stamp → time_of q.stamp ≤ last → Proper (request_of q) → Enters t k p last q
enters_of t k p last q g b on h free digit later until proper = record {
  listed = rw g.sites (let c = b.count_to in omega arith);
  room = rw g.requests h;
  below = h;
  free = free;
  silent = λ u l. nothing_means (site_at t u) p ((b.place p h).free_held free u (let c = b.count_to in omega arith));
  digit = digit;
  later = later;
  until = until;
  proper = proper;
}

-- ---- retire

-- of the site s, changed to s': it holds nothing of place p any more, and all else as it did
pub record Forgets (p : ℕ) (s s' : Site) : Type 0 where
  pub votes : (q : ℕ) → (q ≡ p → ⊥) → vote_at s'.votes q ≡ vote_at s.votes q
  pub copies : CopiesOf s s'
  pub last : s'.last ≡ s.last

-- from t to t' the request at place p goes, and every site has its verdict on it
pub record Retires (t t' : Table) (p : ℕ) : Type 0 where
  pub gone : (place_at t' p).stamp ≡ 0
  pub others : (q : ℕ) → (q ≡ p → ⊥) → place_at t' q ≡ place_at t q
  pub sites : (u : ℕ) → u < 7 → Forgets p (site_at t u) (site_at t' u)
  pub judged : (u : ℕ) → u < t.count → is_open (verdict_at t u p) ≡ false
  pub seven : t.count ≤ 7

module _ (t t' : Table) (p : ℕ) (a : Retires t t' p) where
  empty : (view_of t').held p ≡ false
  unfolding view_of
  empty = rw (a.gone, and-false)

  stays_at : (q : ℕ) → Stays (view_of t) (view_of t') q ⊎ (((view_of t').held q ≡ false) × ((u : ℕ) → u < t.count → Judged (view_of t) u q))
  unfolding view_of
  stays_at q = by_eq q p
      (λ e. rw e (inr (empty, λ u l. judged_by (verdict_at t u p) (a.judged u l))))
      (λ ne. inl (record { held = rw (a.others q ne); request = λ e. ap request_of (a.others q ne) }))

  pub retires_at : Quiet t.count (view_of t) (view_of t')
  unfolding view_of
  retires_at = record {
    same = stays_at;
    says = λ w u q l e. ap (says_of w) ((a.sites u (let s = a.seven in omega arith)).votes q (λ f. clash (rw f at e) empty));
    copies = λ u i l. reading_same (a.sites u (let s = a.seven in omega arith)).copies i;
    given = λ j e. ap (leb (time_of j)) (a.sites (digit_of j - 1) (omega arith)).last ∙ e;
  }

  pub retire_goes : Goes t.count (view_of t) (view_of t') []
  retire_goes = goes_quiet retires_at

-- a site list changed place by place, and the place emptied
pub retires_of
    : (t : Table) (p : ℕ) (f : ℕ → Site → Site) → ShapedTable t → Sound t → p < 16 → ((u : ℕ) (s : Site) → Forgets p s (f u s))
    → ((u : ℕ) → u < t.count → is_open (verdict_at t u p) ≡ false) → Retires t (with_request p blank_request (with_sites (changed 7 f t.sites) t)) p
unfolding blank_request
retires_of t p f g b h forgets judged = record {
  gone = rw (get_or-set_same t.requests p blank_request no_request (rw g.requests h));
  others = λ q ne. get_or-set_other t.requests p q blank_request no_request ne;
  sites = λ u l. rw (changed_at 7 f t.sites no_site u l (rw g.sites l)) (forgets u (site_at t u));
  judged = judged;
  seven = b.count_to;
}

-- ---- fresh

-- a fresh table is tied to the empty history
pub fresh_tied : (n : ℕ) → n ≤ 7 → Tied n (pos 0) (view_of (blank_table n)) []
unfolding view_of blank_table blank_site blank_request
fresh_tied n h = tied_fresh (view_of (blank_table n)) none blanks
  where
    none : (p : ℕ) → (view_of (blank_table n)).held p ≡ false
    none p = by_lt p 16
        (λ l. rw (lt-ltb p 16 l, get_or-replicate 16 p blank_request no_request l))
        (λ l. rw (le-ltb p 16 l))

    blanks : (s i : ℕ) → s < n → (view_of (blank_table n)).copy s i ≡ blank (pos 0)
    blanks s i l =
        let e : site_at (blank_table n) s ≡ blank_site (ltb s n) = listed_at 7 s (λ k. blank_site (ltb k n)) no_site (omega arith) in
        ap (λ (x : Site). reading_at x i) e ∙ (λ d. record { stamp = replicate_at 24 i 0 d; value = replicate_at 24 i (pos 0) d })
