-- What the tie asks of a table is part of its soundness.
use Prim.Native.Nat.{ℕ, ◌<◌}
use mathlib.Core.Bool.{true, false}
use mathlib.Core.Path.{◌≡◌, subst}
use native.Mathlib.Omega.{arith}
use Rattle.kit.proofs.Bools.{clash, by_test}
use Rattle.table.specs.Meaning.{ShapedTable, Holding, Sound}
use Rattle.table.specs.Places.{site_at, place_at, mark_at, with_site}
use Rattle.table.specs.declared.data.Table.{Table}
use Rattle.table.proofs.Backing.{Known}
use Rattle.table.proofs.Nothing.{nothing_means, blank_holds}
use Rattle.table.proofs.Places.{site_same}
use Rattle.table.proofs.Queues.{exact_means, exact_deferred}
use Rattle.vote.specs.Data.{is_unmarked, is_deferred, is_open, vote_at}
use Rattle.vote.specs.Shape.{ShapedSite}
use Rattle.vote.specs.declared.data.Site.{Site}
use Rattle.vote.proofs.MarkKinds.{unmarked_no_vote, deferred_no_vote, deferred_marked}
use Rattle.walk.specs.Walking.{queued}
use Rattle.tied.proofs.Standing.{Unvoiced}
use Rattle.tied.proofs.Walks.{Ready, Stands, Seat}

-- ---- the table

pub unvoiced_of : (t : Table) → Sound t → (p : ℕ) → p < 16 → Unvoiced t p
unvoiced_of t b p h = record {
  none = λ u l m. unmarked_no_vote (mark_at t u p) (nothing_means (site_at t u) p (blank_holds (site_at t u) ((b.site u m).unused l) p h)).unmarked;
}

pub seat_of : (t : Table) (k : ℕ) → ShapedTable t → Sound t → k < t.count → Seat t k
seat_of t k g b h = record {
  listed = rw g.sites (let l = b.count_to in omega arith);
  of_table = h;
  seven = b.count_to;
  unvoiced = unvoiced_of t b;
}

-- ---- its site k, as s

module _ (t : Table) (k : ℕ) (z : Seat t k) (s : Site) (b : Sound (with_site k s t)) where
  in_seven : k < 7
  in_seven = let a = z.of_table in let c = z.seven in omega arith

  holding_at : (p : ℕ) → p < 16 → Holding (with_site k s t) k p
  holding_at p h = b.holding k p in_seven h

  pub known_of : (p : ℕ) → p < 16 → Known (with_site k s t) p s
  known_of p h = record {
    oks = λ u l e. (holding_at p h).known_ok u l (rw (site_same t k s z.listed) e);
    others = λ u l e. (holding_at p h).known_other u l (rw (site_same t k s z.listed) e);
  }

  -- what it has marked is used
  used_of : (p : ℕ) → p < 16 → is_unmarked (vote_at s.votes p).mark ≡ false → (place_at t p).stamp ≡ 0 → ⊥
  used_of p h m e = clash (nothing_means s p (rw (site_same t k s z.listed) at ((b.place p h).free_held e k in_seven))).unmarked m

  pub ready_of : (p : ℕ) → p < 16 → ((place_at t p).stamp ≡ 0 → ⊥) → is_open (vote_at s.votes p).verdict ≡ true → is_unmarked (vote_at s.votes p).mark ≡ true → Ready t k p s
  ready_of p h used o u = record {
    open_at = record { below = h; used = used; unruled = o };
    none = unmarked_no_vote (vote_at s.votes p).mark u;
    known = known_of p h;
  }

  waits_of : (i : ℕ) → i < s.waiting → Ready t k (queued s i) s
  waits_of i h =
      let p = queued s i in
      let x = exact_means s (rw (site_same t k s z.listed) at (b.site k in_seven).queue) in
      let hp = x.inside i h in
      let d = exact_deferred s x i h in
      record {
        open_at = record {
          below = hp;
          used = used_of p hp (deferred_marked (vote_at s.votes p).mark d);
          unruled = by_test (is_open (vote_at s.votes p).verdict) (λ y. y) (λ n. clash d (judged_of p hp n));
        };
        none = deferred_no_vote (vote_at s.votes p).mark d;
        known = known_of p hp;
      }
    where
      judged_of : (p : ℕ) → p < 16 → is_open (vote_at s.votes p).verdict ≡ false → is_deferred (vote_at s.votes p).mark ≡ false
      judged_of p h =
          subst (λ (x : Site). is_open (vote_at x.votes p).verdict ≡ false → is_deferred (vote_at x.votes p).mark ≡ false) (site_same t k s z.listed)
          (holding_at p h).judged

  pub stands_of : ShapedSite s → Stands t k s
  stands_of g = record { shaped = g; waits = waits_of }
