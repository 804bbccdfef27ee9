-- A stamp is a request's name: what a site accepts was begun, and no two requests that were begun have one stamp.
use mathlib.Core.Path.{◌≡◌, refl, sym, ap, ◌∙◌, subst}
use mathlib.Core.Bool.{Bool, true, false, cond}
use mathlib.Core.List.Memᴰ
use mathlib.Core.List.{List, [], ◌∷◌, ◌++◌}
use mathlib.Core.Logic.{⊎_elim}
use Prim.Native.Nat.{ℕ, ◌-◌}
use borrow.Author.Tests.{eqb-true}
use lib.Dec.{eqb}
use lib.IntN.{ℤ}
use lib.ListN.{length, set, length-set, get_or-eq_default}
use lib.Seq.{get_or-set_same, get_or-set_other}
use Rattle.kit.specs.Lists.{◌among◌}
use Rattle.kit.proofs.Bools.{clash, by_test, by_eq, by_lt}
use Rattle.kit.proofs.Members.{here, in_none, in_either, not_front}
use Rattle.ledger.specs.Ledger.{begin, Valid, next, History as LedgerHistory}
use Rattle.record.specs.declared.Step.{Step}
use Rattle.table.specs.Places.{message_at, place_at}
use Rattle.table.specs.declared.data.Table.{Table}
use Rattle.vote.specs.Data.{no_request, blank_request, request_at}
use Rattle.vote.specs.declared.data.Request.{Request}
use Rattle.vote.specs.declared.data.Verdict.{Verdict}
use Rattle.steps.specs.Numbers.{free_place, place_of, begin_number, deliver_number}
use Rattle.steps.specs.Steps.{entered, begun, told, delivered, dropped, put_up, retired, unless_refused, advanced}
use Rattle.steps.proofs.Each.{each_step}
use Rattle.tied.specs.Views.{request_of}
use Rattle.demand.specs.Nights.{Event, began, ruled, History, all_said, in_begin, in_deliver}
use Rattle.demand.proofs.Histories.{ledger_event, ledger_of, event_in, said_of}

-- ---- no two requests that were begun have one stamp

valid_rest : {n : ℕ} {x : ℤ} (l : LedgerHistory ℤ) {h : LedgerHistory ℤ} → Valid n x (l ++ h) → Valid n x h
valid_rest [] v = v
valid_rest (e ∷ l) (next v a) = valid_rest l v

new_name : {n : ℕ} {x : ℤ} (a b : Request) (h : History) → Valid n x (begin (request_of a) ∷ ledger_of h) → began b among h → b.stamp ≡ a.stamp → ⊥
new_name a b h (next v may) m e = may.fresh (request_of b) (event_in h (began b) (here refl) m) e

pub one_begun : {n : ℕ} {x : ℤ} (h : History) → Valid n x (ledger_of h) → {a b : Request} → began a among h → began b among h → a.stamp ≡ b.stamp → a ≡ b
unfolding ledger_of
one_begun [] v m k e = in_none m
one_begun {n} {x} (d ∷ h) v {a} {b} m k e =
    in_either m
    (λ p. in_either k (λ q. let z : began a ≡ began b = p ∙ sym q in cc) (λ k'. absurd (new_name a b h (subst (λ (c : Event). Valid n x (ledger_event c ++ ledger_of h)) (sym p) v) k' (sym e))))
    (λ m'. in_either k (λ q. absurd (new_name b a h (subst (λ (c : Event). Valid n x (ledger_event c ++ ledger_of h)) (sym q) v) m' e))
    (λ k'. one_begun h (valid_rest (ledger_event d) v) m' k' e))

-- ---- what a place holds was begun

-- of these requests, each that is not blank
abbrev pub Begun : List Request → History → Type 0
Begun rs h = (p : ℕ) → ((request_at rs p).stamp ≡ 0 → ⊥) → began (request_at rs p) among h

begun_more : (rs : List Request) (g h : History) → Begun rs h → Begun rs (g ++ h)
begun_more rs g h b p used = Memᴰ.append_right g (b p used)

-- another at one place
begun_set : (rs : List Request) (h : History) (k : ℕ) (q : Request) → Begun rs h → (((request_at (set rs k q) k).stamp ≡ 0 → ⊥) → began (request_at (set rs k q) k) among h) → Begun (set rs k q) h
begun_set rs h k q b new p =
    by_eq p k (λ e. subst (λ (j : ℕ). ((request_at (set rs k q) j).stamp ≡ 0 → ⊥) → began (request_at (set rs k q) j) among h) (sym e) new)
    (λ ne. subst (λ (r : Request). (r.stamp ≡ 0 → ⊥) → began r among h) (sym (get_or-set_other rs k p q no_request ne)) (b p))

blank_there : (rs : List Request) (k : ℕ) → (request_at (set rs k blank_request) k).stamp ≡ 0
unfolding blank_request
blank_there rs k =
    by_lt k (length rs) (λ l. ap (λ (r : Request). r.stamp) (get_or-set_same rs k blank_request no_request l))
    (λ l. ap (λ (r : Request). r.stamp) (get_or-eq_default (set rs k blank_request) no_request (rw (length-set rs k blank_request) l)))

module _ (t : Table) (a : Step) (h : History) (b : Begun t.requests h) where
  -- begin: the new one is begun
  begun_begin : Begun (unless_refused (begin_number t a) (begun t a) t).table.requests (in_begin t a ++ h)
  unfolding in_begin begun entered
  begun_begin =
      by_test (eqb (begin_number t a) 0)
      (λ e. rw e
      (begun_set t.requests _ (free_place t) _ (begun_more t.requests (all_said (a.site - 1) (entered t a).requests (begun t a).log ++ (began (place_at (entered t a) (free_place t)) ∷ [])) h b)
      (λ used. Memᴰ.append_left h (Memᴰ.append_right (all_said (a.site - 1) (entered t a).requests (begun t a).log) (here refl)))))
      (λ e. rw e b)

  -- the other steps store nothing
  begun_other : (g : History) → eqb a.code 1 ≡ false → Begun (advanced t a).table.requests (g ++ h)
  unfolding told delivered dropped put_up retired
  begun_other g e =
      let old : Begun t.requests (g ++ h) = begun_more t.requests g h b in
      let p : ℕ = place_of t a.stamp in
      each_step t a (λ u. Begun u.requests (g ++ h)) (record {
        stays = old;
        begins = λ y. clash y e;
        tells = λ _. old;
        delivers = λ _ _. old;
        drops = λ _. old;
        downs = λ _. old;
        ups = λ _. old;
        retires = λ _. begun_set t.requests (g ++ h) p blank_request old (λ used. absurd (used (blank_there t.requests p)));
      })

  pub begun_next : Begun (advanced t a).table.requests (cond (eqb a.code 1) (in_begin t a) (cond (eqb a.code 3) (in_deliver t a) []) ++ h)
  unfolding advanced
  begun_next =
      by_test (eqb a.code 1) (λ e. rw e begun_begin)
      (λ e. subst (λ (x : Bool). Begun (advanced t a).table.requests (cond x (in_begin t a) (cond (eqb a.code 3) (in_deliver t a) []) ++ h)) (sym e) (begun_other (cond (eqb a.code 3) (in_deliver t a) []) e))

-- ---- what is ruled on in a step, a place holds after it

module _ (t : Table) (a : Step) (s : ℕ) (r : Request) (d : Verdict) where
  abbrev Held : Table → Type 0
  Held u = (p : ℕ) × (r ≡ place_at u p)

  held_begin : ruled s r d among in_begin t a → Held (unless_refused (begin_number t a) (begun t a) t).table
  unfolding in_begin begun
  held_begin =
      by_test (eqb (begin_number t a) 0)
      (λ e. rw e
      (λ m. ⊎_elim (said_of (a.site - 1) (entered t a).requests (begun t a).log s r d) (λ x. in_none (not_front (λ p. cc) x))
      (Memᴰ.append_cases (all_said (a.site - 1) (entered t a).requests (begun t a).log) m)))
      (λ e. rw e (λ m. in_none m))

  held_deliver : ruled s r d among in_deliver t a → Held (unless_refused (deliver_number t a) (delivered t a) t).table
  unfolding in_deliver delivered
  held_deliver =
      by_test (eqb (deliver_number t a) 0) (λ e. rw e (said_of (message_at t a.place).to t.requests (delivered t a).log s r d)) (λ e. rw e (λ m. in_none m))

  pub ruled_held : ruled s r d among cond (eqb a.code 1) (in_begin t a) (cond (eqb a.code 3) (in_deliver t a) []) → Held (advanced t a).table
  unfolding advanced
  ruled_held =
      by_test (eqb a.code 1) (λ e. rw e held_begin)
      (λ e. rw e
      (by_test (eqb a.code 3) (λ f. let two : eqb a.code 2 ≡ false = eqb_other f in rw (two, f) held_deliver)
      (λ f. rw f (λ m. in_none m))))
    where
      eqb_other : eqb a.code 3 ≡ true → eqb a.code 2 ≡ false
      eqb_other f = ap (λ (c : ℕ). eqb c 2) (eqb-true a.code 3 f)
