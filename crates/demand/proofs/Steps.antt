-- Each step of a sound table is a run of ledger events: those that `happened` says.
use mathlib.Core.Path.{◌≡◌, refl, sym, ap, ◌∙◌, subst}
use mathlib.Core.Bool.{Bool, true, false, cond}
use mathlib.Core.List.{[], ◌∷◌, ◌++◌}
use Prim.Native.Nat.{ℕ, suc, ◌-◌, ◌^◌, ◌<◌}
use native.Mathlib.Omega.{arith}
use borrow.Author.Tests.{eqb-true}
use lib.Dec.{eqb}
use lib.IntN.{ℤ}
use lib.ListN.{get_or}
use lib.Seq.{get_or-set_same, get_or-set_other}
use Rattle.kit.proofs.Bools.{clash, by_test}
use Rattle.kit.proofs.Listings.{listed_at}
use Rattle.ledger.specs.Ledger.{begin, Proper, History as LedgerHistory}
use Rattle.ledger.specs.View.{Goes}
use Rattle.ledger.proofs.Link.{goes_stay, goes_then}
use Rattle.plans.specs.Changes.{stored, forgotten}
use Rattle.record.specs.declared.Step.{Step}
use Rattle.sets.specs.Sets.{member}
use Rattle.stamps.specs.Stamps.{time_of, digit_of}
use Rattle.stamps.specs.Issue.{given}
use Rattle.stamps.proofs.Laws.{GivenAt, given_facts, given_digit, given_time, given_larger}
use Rattle.table.specs.Meaning.{ShapedTable, Sound}
use Rattle.table.specs.Places.{site_at, message_at, place_at, with_site}
use Rattle.table.specs.declared.data.Table.{Table}
use Rattle.table.proofs.Nothing.{Nothing, nothing_means}
use Rattle.table.proofs.Places.{site_back, site_same}
use Rattle.vote.specs.Data.{is_open, is_unmarked, no_vote, no_request, vote_at, with_last, with_up}
use Rattle.vote.specs.declared.data.Request.{Request}
use Rattle.vote.specs.declared.data.Site.{Site}
use Rattle.upkeep.proofs.Begins.{begun_entered}
use Rattle.steps.specs.Answers.{Done}
use Rattle.steps.specs.Numbers.{free_place, free_message, place_of, begin_number, tell_number, deliver_number, drop_number, retire_number}
use Rattle.steps.specs.Steps.{issue_for, entered, begun, told, delivered, dropped, put_up, retired, unless_refused, advanced}
use Rattle.steps.proofs.Allowed.{site_index_lem, free_place_lem, named_place, message_there, may_begin, may_deliver, may_down, may_up, may_retire, given_of}
use Rattle.steps.proofs.Each.{each_step}
use Rattle.steps.proofs.Upkeep.{Well}
use Rattle.walk.specs.Hearing.{taken_up}
use Rattle.tied.specs.Events.{events_of}
use Rattle.tied.specs.Views.{request_of, view_of}
use Rattle.tied.proofs.Silences.{mute_up, mute_goes, message_goes}
use Rattle.tied.proofs.Tables.{Forgets, proper_of, entered_at, enters_of, begin_goes, retires_of, retire_goes}
use Rattle.demand.specs.Nights.{began, History, all_said, in_begin, in_deliver}
use Rattle.demand.proofs.Histories.{ledger_of, ledger_append, all_ledger}
use Rattle.demand.proofs.Turns.{taken_went, received_went}

module _ (t : Table) (a : Step) (w : Well t) where
  -- the table goes there, and this is what happens
  abbrev To : Table → History → Type 0
  To u h = Goes t.count (view_of t) (view_of u) (ledger_of h)

  stays : To t []
  unfolding ledger_of
  stays = goes_stay

  -- refused, or done
  refused_or : (number : ℕ) (d : Done) (h : History) → (number ≡ 0 → To d.table h) → To (unless_refused number d t).table (cond (eqb number 0) h [])
  refused_or number d h go = by_test (eqb number 0)
      (λ e. rw e (go (eqb-true number 0 e)))
      (λ e. rw e stays)

  told_goes : tell_number t a ≡ 0 → To (told t a).table []
  unfolding told ledger_of
  told_goes e = message_goes t (free_message t) _

  dropped_goes : drop_number t a ≡ 0 → To (dropped t a).table []
  unfolding dropped ledger_of
  dropped_goes e = message_goes t a.place _

  put_up_goes : (up : Bool) → a.site - 1 < t.count → To (put_up up t a).table []
  unfolding put_up ledger_of
  put_up_goes up h =
      let c = w.sound.count_to in
      let k : ℕ = a.site - 1 in
      subst (λ (x : Table). Goes t.count (view_of x) (view_of (with_site k (with_up up (site_at t k)) t)) []) (site_back t k)
      (mute_goes t k (rw w.shaped.sites (omega arith)) h (mute_up (site_at t k) up))

  forgets_it : (p u : ℕ) (s : Site) → Forgets p s (forgotten p u s)
  unfolding forgotten
  forgets_it p u s = record { votes = λ q ne. get_or-set_other s.votes p q no_vote no_vote ne; copies = record { stamps = refl; values = refl }; last = refl }

  retired_goes : retire_number t a ≡ 0 → To (retired t a).table []
  unfolding retired ledger_of
  retired_goes e =
      let m = may_retire t a e in
      let p = named_place t a.stamp m.place in
      let c = w.sound.count_to in
      retire_goes t _ (place_of t a.stamp)
      (retires_of t (place_of t a.stamp) (forgotten (place_of t a.stamp)) w.shaped w.sound p.0 (forgets_it (place_of t a.stamp)) (λ k h. m.judged k (omega arith) h))

  delivered_goes : deliver_number t a ≡ 0 → To (delivered t a).table (all_said (message_at t a.place).to t.requests (delivered t a).log)
  unfolding delivered
  delivered_goes e =
      let i = message_there t a.place (may_deliver t a e) in
      let m = w.sound.message a.place i.0 in
      let u = i.1 in
      rw (all_ledger (message_at t a.place).to t.requests _)
      (received_went t (message_at t a.place).to w.shaped w.sound (m.names_to u) (message_at t a.place).request (m.names_place u) (m.names_request u)
      (message_at t a.place).oks (message_at t a.place).others m.sent_ok m.sent_other (message_at t a.place).verdict m.sent_is_backed)

  -- ---- begin: the request is begun, then its site considers it

  abbrev k : ℕ
  k = a.site - 1

  abbrev p : ℕ
  p = free_place t

  module _ (e : begin_number t a ≡ 0) (small : a.update < 2 ^ 32) (stamp time : ℕ) (given : issue_for t a ≡ given stamp time) where
    abbrev q : Request
    q = stored a stamp

    abbrev E : Table
    E = entered_at t k p time q

    on : (k < t.count) × (a.site ≡ suc k)
    on = site_index_lem t a.site (may_begin t a e).site

    room : (p < 16) × ((place_at t p).stamp ≡ 0)
    room = free_place_lem t (may_begin t a e).place

    seven : k < 7
    seven = let h = on.0 in let c = w.sound.count_to in omega arith

    facts : GivenAt a.site a.clock (site_at t k).last a.base a.stamps stamp time
    facts = given_facts a.site a.clock (site_at t k).last a.base a.stamps given

    stored_at : (i : ℕ) → i < 24 → member a.base i ≡ true → get_or q.stamps i 0 < stamp
    unfolding stored
    stored_at i h m =
        rw (listed_at 24 i (λ j. cond (member a.base j) (get_or a.stamps j 0) 0) 0 h, m)
        (given_larger a.site a.clock (site_at t k).last a.base a.stamps given i h m)

    proper : Proper (request_of q)
    unfolding stored
    proper = proper_of q (may_begin t a e).sets small stored_at

    -- the stamp's digit is the site's, and its t is the one given
    digit : digit_of stamp ≡ suc k
    digit = let h = seven in let o = on.1 in given_digit a.site a.clock (site_at t k).last a.base a.stamps given (omega arith) ∙ on.1

    times : time_of stamp ≡ time
    times = let h = seven in let o = on.1 in given_time a.site a.clock (site_at t k).last a.base a.stamps given (omega arith)

    begins : Goes t.count (view_of t) (view_of E) (begin (request_of q) ∷ [])
    unfolding stored
    begins =
        begin_goes t k p time q
        (enters_of t k p time q w.shaped w.sound on.0 room.0 room.1 digit (let x = times in let y = facts.after_last in omega arith) (let x = times in omega arith) proper)

    sound_now : Sound E × ShapedTable E
    unfolding stored
    sound_now =
        let m = may_begin t a e in
        begun_entered t k p w.shaped w.sound on.0 room.0 room.1 a.site a.clock a.base a.update a.stamps a.values stamp time on.1
        m.sets m.bases m.values given

    place_now : place_at E p ≡ q
    place_now = get_or-set_same t.requests p q no_request (rw w.shaped.requests room.0)

    used_now : (place_at E p).stamp ≡ 0 → ⊥
    unfolding stored
    used_now z = let n = times in let o = facts.from_one in let y : stamp ≡ 0 = ap (λ (r : Request). r.stamp) (sym place_now) ∙ z in omega arith

    site_now : site_at E k ≡ with_last time (site_at t k)
    site_now = site_same t k (with_last time (site_at t k)) (rw w.shaped.sites seven)

    unheard : Nothing (site_at t k) p
    unheard = nothing_means (site_at t k) p ((w.sound.place p room.0).free_held room.1 k seven)

    considers : Goes t.count (view_of E) (view_of (with_site k (taken_up k t.count E.requests (site_at E k) p).site E)) (events_of k E.requests (taken_up k t.count E.requests (site_at E k) p).log)
    considers =
        taken_went E k sound_now.1 sound_now.0 on.0 p room.0 used_now
        (ap (λ (s : Site). is_open (vote_at s.votes p).verdict) site_now ∙ unheard.unruled)
        (ap (λ (s : Site). is_unmarked (vote_at s.votes p).mark) site_now ∙ unheard.unmarked)

    -- what happens, as the ledger has it
    in_ledger : ledger_of (all_said k E.requests (taken_up k t.count E.requests (site_at E k) p).log ++ (began (place_at E p) ∷ []))
        ≡ events_of k E.requests (taken_up k t.count E.requests (site_at E k) p).log ++ (begin (request_of q) ∷ [])
    unfolding ledger_of
    in_ledger =
        ledger_append (all_said k E.requests (taken_up k t.count E.requests (site_at E k) p).log) (began (place_at E p) ∷ [])
        ∙ ap (λ (x : LedgerHistory ℤ). x ++ (begin (request_of (place_at E p)) ∷ [])) (all_ledger k E.requests (taken_up k t.count E.requests (site_at E k) p).log)
        ∙ ap (λ (r : Request). events_of k E.requests (taken_up k t.count E.requests (site_at E k) p).log ++ (begin (request_of r) ∷ [])) place_now

    given_goes : To (begun t a).table (all_said k (entered t a).requests (begun t a).log ++ (began (place_at (entered t a) p) ∷ []))
    unfolding begun entered
    given_goes = rw (given, in_ledger) (goes_then begins considers)

  begun_goes : begin_number t a ≡ 0 → a.update < 2 ^ 32 → To (begun t a).table (all_said k (entered t a).requests (begun t a).log ++ (began (place_at (entered t a) p) ∷ []))
  begun_goes e small = let i = given_of t a (may_begin t a e).stamp in given_goes e small i.0 i.1 i.2

  -- ---- the step

  others : eqb a.code 1 ≡ false → eqb a.code 3 ≡ false → To (advanced t a).table []
  others e f = each_step t a (λ u. To u []) (record {
    stays = stays;
    begins = λ y. clash y e;
    tells = told_goes;
    delivers = λ y. clash y f;
    drops = dropped_goes;
    downs = λ z. put_up_goes false (site_index_lem t a.site (may_down t a z)).0;
    ups = λ z. put_up_goes true (site_index_lem t a.site (may_up t a z)).0;
    retires = retired_goes;
  })

  pub advanced_goes : a.update < 2 ^ 32 → To (advanced t a).table (cond (eqb a.code 1) (in_begin t a) (cond (eqb a.code 3) (in_deliver t a) []))
  unfolding advanced in_begin in_deliver
  advanced_goes small =
      by_test (eqb a.code 1) (λ e. rw e (refused_or (begin_number t a) (begun t a) _ (λ z. begun_goes z small)))
      (λ e. by_test (eqb a.code 3)
      (λ f. let two : eqb a.code 2 ≡ false = ap (λ (c : ℕ). eqb c 2) (eqb-true a.code 3 f) in rw (e, two, f) (refused_or (deliver_number t a) (delivered t a) _ delivered_goes))
      (λ f. let quiet : cond (eqb a.code 1) (in_begin t a) (cond (eqb a.code 3) (in_deliver t a) []) ≡ [] = rw (e, f) refl in subst (To (advanced t a).table) (sym quiet) (others e f)))
