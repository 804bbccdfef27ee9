-- Demand 3: every night keeps its promise.
use mathlib.Core.Path.{◌≡◌, refl, sym, ap, ◌∙◌, subst}
use mathlib.Core.Bool.{true, cond}
use mathlib.Core.List.Memᴰ
use mathlib.Core.List.{[], ◌++◌}
use mathlib.Core.Logic.{⊎_elim}
use Prim.Native.Nat.{ℕ, ◌^◌, ◌≤◌, ◌<◌}
use native.Mathlib.Omega.{arith}
use borrow.Author.Tests.{le-leb, eqb-true}
use lib.Dec.{eqb}
use lib.IntN.{ℤ, pos}
use lib.ListN.{length, get_or-eq_default}
use Rattle.kit.specs.Lists.{◌among◌}
use Rattle.kit.proofs.Bools.{by_eq, by_lt, and_left, and_right}
use Rattle.kit.proofs.Members.{in_none}
use Rattle.ledger.specs.Ledger.{Reading, accept, Request as LedgerRequest}
use Rattle.ledger.specs.Promise.{Newest as LedgerNewest, unchanged, changed_by}
use Rattle.ledger.specs.View.{Goes, Tied}
use Rattle.ledger.proofs.Link.{tied_goes}
use Rattle.ledger.proofs.Newest.{positive}
use Rattle.ledger.proofs.Night.{promised}
use Rattle.ledger.proofs.Safety.{accept_begun, proper}
use Rattle.record.specs.declared.Step.{Step}
use Rattle.sets.specs.Sets.{of_items}
use Rattle.sets.proofs.Members.{items_of}
use Rattle.table.specs.Blank.{is_blank_request}
use Rattle.table.specs.Fresh.{blank_table, fresh_for}
use Rattle.table.specs.Meaning.{ShapedTable, Sound}
use Rattle.table.specs.Places.{place_at}
use Rattle.table.specs.Sound.{sound_table}
use Rattle.table.specs.declared.data.Table.{Table}
use Rattle.table.proofs.FreshSound.{place_fresh, fresh_means, fresh_shaped}
use Rattle.table.proofs.Meaning.{meant}
use Rattle.vote.specs.Data.{no_request, blank_request}
use Rattle.vote.specs.declared.data.Request.{Request}
use Rattle.vote.specs.declared.data.Verdict.{Verdict}
use Rattle.vote.specs.declared.data.Verdict.TheVariants as verdict
use Rattle.steps.specs.Steps.{entered, begun, told, delivered, dropped, put_up, retired, advanced, stepped}
use Rattle.steps.proofs.Each.{each_step}
use Rattle.steps.proofs.Upkeep.{Well, advanced_well}
use Rattle.tied.specs.Views.{request_of, view_of}
use Rattle.tied.proofs.Tables.{fresh_tied}
use Rattle.tied.proofs.Words.{covers_means, concurrent_means, has_member, has_of, place_items}
use Rattle.demand.specs.Nights.{began, ruled, History, in_begin, in_deliver, happened, Night, fresh, after}
use Rattle.demand.specs.Promises.{AcceptedAt, Newest, blank, reading, Promise}
use Rattle.demand.proofs.Histories.{ledger_of, ledger_append, accept_from, accept_in, reject_in}
use Rattle.demand.proofs.Names.{Begun, one_begun, begun_next, ruled_held}
use Rattle.demand.proofs.Steps.{advanced_goes}

-- ---- a sound table holds no item above 23 in any base set

no_items : of_items 0 ≡ true
no_items = items_of 0 (omega arith)

all_items : (t : Table) → ShapedTable t → Sound t → (p : ℕ) → of_items (place_at t p).base ≡ true
unfolding is_blank_request
all_items t g b p = by_lt p 16
    (λ h. by_eq (place_at t p).stamp 0
    (λ z. let e = (b.place p h).free_request z in
    let q = place_at t p in
    rw (eqb-true q.base 0 (and_left (eqb q.base 0) _ (and_right (eqb q.stamp 0) _ e))) no_items)
    (λ used. place_items t b p h used))
    (λ h. let l : length t.requests ≤ p = rw g.requests h in rw (get_or-eq_default t.requests no_request l) no_items)

-- ---- what holds after any steps

pub record State (n : ℕ) (t : Table) (h : History) : Type 0 where
  pub well : Well t
  pub count : t.count ≡ n
  pub tied : Tied n (pos 0) (view_of t) (ledger_of h)
  pub items : (s : ℕ) (r : Request) (d : Verdict) → ruled s r d among h → of_items r.base ≡ true
  pub begun : Begun t.requests h
  pub accepted : (s : ℕ) (r : Request) → AcceptedAt h s r → began r among h

fresh_count : (n : ℕ) → (blank_table n).count ≡ n
unfolding blank_table
fresh_count n = refl

fresh_free : (n p : ℕ) → (place_at (blank_table n) p).stamp ≡ 0
unfolding blank_request
fresh_free n p =
    by_lt p 16 (λ h. ap (λ (r : Request). r.stamp) (place_fresh n p h))
    (λ h. let l : length (blank_table n).requests ≤ p = rw (fresh_shaped n).requests h in ap (λ (r : Request). r.stamp) (get_or-eq_default (blank_table n).requests no_request l))

fresh_state : (n : ℕ) → 1 ≤ n → n ≤ 7 → State n (fresh_for n).table []
unfolding fresh_for ledger_of
fresh_state n low high =
    rw (le-leb 1 n low, le-leb n 7 high)
    (record {
      well = record { sound = fresh_means n low high; shaped = fresh_shaped n };
      count = fresh_count n;
      tied = fresh_tied n high;
      items = λ s r d m. in_none m;
      begun = λ p used. absurd (used (fresh_free n p));
      accepted = λ s r m. in_none m;
    })

-- no step changes the number of sites
same_count : (t : Table) (a : Step) → (advanced t a).table.count ≡ t.count
unfolding begun entered told delivered dropped put_up retired
same_count t a = each_step t a (λ u. u.count ≡ t.count) (record {
  stays = refl;
  begins = λ _ _. refl;
  tells = λ _. refl;
  delivers = λ _ _. refl;
  drops = λ _. refl;
  downs = λ _. refl;
  ups = λ _. refl;
  retires = λ _. refl;
})

next_state : (n : ℕ) (t : Table) (h : History) (a : Step) → a.update < 2 ^ 32 → State n t h → State n (stepped t a).table (happened t a ++ h)
unfolding stepped happened
next_state n t h a small x =
    let sound : sound_table t ≡ true = meant t x.well.sound in
    let new : History = cond (eqb a.code 1) (in_begin t a) (cond (eqb a.code 3) (in_deliver t a) []) in
    let well : Well (advanced t a).table = advanced_well t a x.well in
    let tied : Tied n (pos 0) (view_of (advanced t a).table) (ledger_of (new ++ h)) =
    rw (ledger_append new h) (tied_goes (subst (λ (m : ℕ). Goes m (view_of t) (view_of (advanced t a).table) (ledger_of new)) x.count (advanced_goes t a x.well small)) x.tied) in
    let begun : Begun (advanced t a).table.requests (new ++ h) = begun_next t a h x.begun in
    rw sound
    (record {
      well = well;
      count = same_count t a ∙ x.count;
      tied = tied;
      items = λ s r d m. ⊎_elim (λ y. let z = ruled_held t a s r d y in rw z.1 (all_items (advanced t a).table well.shaped well.sound z.0)) (x.items s r d) (Memᴰ.append_cases new m);
      begun = begun;
      accepted = λ s r m.
          ⊎_elim (λ y. let z = ruled_held t a s r verdict.Accepted y in
          let used : r.stamp ≡ 0 → ⊥ = λ e. let k = positive (proper tied.valid (accept_begun tied.valid (accept_in (new ++ h) s r m))) in omega (arith, k) in
          rw z.1 (begun z.0 (rw z.1 at used)))
          (λ y. Memᴰ.append_right new (x.accepted s r y)) (Memᴰ.append_cases new m);
    })

-- after any steps from a fresh table
pub night_state : {t : Table} {h : History} → Night t h → (n : ℕ) × State n t h
night_state (fresh n low high) = (n, fresh_state n low high)
night_state (after {t} {h} night a small) = let x = night_state night in (x.0, next_state x.0 t h a small x.1)

-- ---- and so the promise

module _ {n : ℕ} {t : Table} {h : History} (x : State n t h) where
  newest_of : (s i : ℕ) (c : Reading ℤ) → i < 24 → LedgerNewest (pos 0) (λ q. accept s q among ledger_of h) i c → Newest h s i c.stamp c.value
  newest_of s i c l (unchanged none e) =
      blank (λ r m u. none (request_of r) (accept_in h s r m) (has_of r.update i l u)) (ap (λ (k : Reading ℤ). k.stamp) e) (ap (λ (k : Reading ℤ). k.value) e)
  newest_of s i c l (changed_by q m u e top) =
      let a = accept_from h s q m in
      let r : Request = a.0 in
      reading r a.1 (has_member r.update i (ap (λ (k : LedgerRequest ℤ). k.update i) a.2 ∙ u))
      (ap (λ (k : Reading ℤ). k.stamp) e ∙ ap (λ (k : LedgerRequest ℤ). k.stamp) (sym a.2))
      (ap (λ (k : Reading ℤ). k.value) e ∙ ap (λ (k : LedgerRequest ℤ). k.new_value i) (sym a.2))
      (λ p k v. let y = top (request_of p) (accept_in h s p k) (has_of p.update i l v) in let z : q.stamp ≡ r.stamp = ap (λ (k : LedgerRequest ℤ). k.stamp) (sym a.2) in omega arith)

  promise_of : Promise t h
  unfolding view_of
  promise_of =
      let p = promised x.tied in
      record {
        agreed = λ r s u a b. p.agreed (request_of r) s u (accept_in h s r a) (reject_in h u r b);
        exclusive = λ a b ne c d e f g.
            p.exclusive (request_of a) (request_of b) (λ z. ne (one_begun h x.tied.valid (x.accepted f.0 a f.1) (x.accepted g.0 b g.1) (ap (λ (k : LedgerRequest ℤ). k.stamp) z)))
            (covers_means a b (x.items g.0 b verdict.Accepted g.1) c) (covers_means b a (x.items f.0 a verdict.Accepted f.1) d)
            (concurrent_means a b e) (f.0, accept_in h f.0 a f.1) (g.0, accept_in h g.0 b g.1);
        copies = λ s i l k. newest_of s i _ k (p.copies s i (rw (← x.count) l));
      }

-- THE theorem of demand 3: "Start from a fresh table of one to seven sites and take any sequence of the steps .."
pub kept_promise : {t : Table} {h : History} → Night t h → Promise t h
kept_promise night = promise_of (night_state night).1
