-- The table's history as a ledger's: what is in the one is in the other.
use mathlib.Core.Path.{◌≡◌, refl, sym, ap, ◌∙◌, subst}
use mathlib.Core.List.Memᴰ
use mathlib.Core.List.{List, [], ◌∷◌, ◌++◌, append_assoc, append-nil}
use mathlib.Core.Logic.{⊎_elim}
use Prim.Native.Nat.{ℕ}
use native.Mathlib.Omega.{arith}
use lib.IntN.{ℤ}
use Rattle.kit.specs.Lists.{◌among◌}
use Rattle.kit.proofs.Members.{here, further, in_none, in_either, not_front}
use Rattle.ledger.specs.Ledger.{begin, accept, reject, Request as LedgerRequest, Event as LedgerEvent, History as LedgerHistory}
use Rattle.tied.specs.Events.{vote_event, rule_event, event_of, events_of}
use Rattle.tied.specs.Views.{request_of}
use Rattle.vote.specs.Data.{request_at}
use Rattle.vote.specs.declared.data.Mark.TheVariants as mark
use Rattle.vote.specs.declared.data.Request.{Request}
use Rattle.vote.specs.declared.data.Verdict.{Verdict}
use Rattle.vote.specs.declared.data.Verdict.TheVariants as verdict
use Rattle.walk.specs.Walking.{Said, vote, rule}
use Rattle.demand.specs.Nights.{Event, began, voted, ruled, History, said_at, all_said}

-- an event of the table as the ledger has it
abbrev pub ledger_event : Event → LedgerHistory ℤ
ledger_event (began r) = begin (request_of r) ∷ []
ledger_event (voted k r m) = vote_event k (request_of r) m
ledger_event (ruled k r d) = rule_event k (request_of r) d

unfoldable pub ledger_of : History → LedgerHistory ℤ
ledger_of [] = []
ledger_of (e ∷ h) = ledger_event e ++ ledger_of h

pub ledger_append : (g h : History) → ledger_of (g ++ h) ≡ ledger_of g ++ ledger_of h
unfolding ledger_of
ledger_append [] h = refl
ledger_append (e ∷ g) h = ap (λ (l : LedgerHistory ℤ). ledger_event e ++ l) (ledger_append g h) ∙ sym (append_assoc (ledger_event e) (ledger_of g) (ledger_of h))

said_ledger : (k : ℕ) (rs : List Request) (s : Said) → ledger_event (said_at k rs s) ≡ event_of k rs s
said_ledger k rs (vote p stamp m) = refl
said_ledger k rs (rule p stamp d) = refl

-- what a site's log stands for is the same either way
pub all_ledger : (k : ℕ) (rs : List Request) (l : List Said) → ledger_of (all_said k rs l) ≡ events_of k rs l
unfolding all_said events_of ledger_of
all_ledger k rs [] = refl
all_ledger k rs (s ∷ l) =
    ledger_append (all_said k rs l) (said_at k rs s ∷ [])
    ∙ ap (λ (x : LedgerHistory ℤ). x ++ (ledger_event (said_at k rs s) ++ [])) (all_ledger k rs l)
    ∙ ap (λ (x : LedgerHistory ℤ). events_of k rs l ++ x) (append-nil (ledger_event (said_at k rs s)) ∙ said_ledger k rs s)

-- ---- acceptances and rejections, there and back

accept_event : (e : Event) (s : ℕ) (q : LedgerRequest ℤ) → accept s q among ledger_event e → (r : Request) × (e ≡ ruled s r verdict.Accepted) × (request_of r ≡ q)
accept_event (began r) s q m = in_none (not_front (λ p. cc) m)
accept_event (voted k r mark.None) s q m = in_none m
accept_event (voted k r mark.Deferred) s q m = in_none m
accept_event (voted k r mark.Ok) s q m = in_none (not_front (λ p. cc) m)
accept_event (voted k r mark.Dr) s q m = in_none (not_front (λ p. cc) m)
accept_event (voted k r mark.Rej) s q m = in_none (not_front (λ p. cc) m)
accept_event (ruled k r verdict.Open) s q m = in_none m
accept_event (ruled k r verdict.Accepted) s q m = in_either m (λ p. let e : k ≡ s = cc in let f : request_of r ≡ q = cc in (r, ap (λ (j : ℕ). ruled j r verdict.Accepted) e, f)) (λ x. in_none x)
accept_event (ruled k r verdict.Rejected) s q m = in_none (not_front (λ p. cc) m)

-- what the ledger accepted, the table accepted
pub accept_from : (h : History) (s : ℕ) (q : LedgerRequest ℤ) → accept s q among ledger_of h → (r : Request) × (ruled s r verdict.Accepted among h) × (request_of r ≡ q)
unfolding ledger_of
accept_from [] s q m = in_none m
accept_from (e ∷ h) s q m =
    ⊎_elim (λ x. let a = accept_event e s q x in (a.0, here (sym a.1), a.2)) (λ x. let a = accept_from h s q x in (a.0, further a.1, a.2))
    (Memᴰ.append_cases (ledger_event e) m)

-- an event of the table's stands in the ledger
pub event_in : (h : History) (e : Event) {x : LedgerEvent ℤ} → x among ledger_event e → e among h → x among ledger_of h
unfolding ledger_of
event_in [] e i m = in_none m
event_in (d ∷ h) e {x} i m =
    in_either m (λ p. Memᴰ.append_left (ledger_of h) (subst (λ (c : Event). x among ledger_event c) p i)) (λ k. Memᴰ.append_right (ledger_event d) (event_in h e i k))

pub accept_in : (h : History) (s : ℕ) (r : Request) → ruled s r verdict.Accepted among h → accept s (request_of r) among ledger_of h
accept_in h s r m = event_in h (ruled s r verdict.Accepted) (here refl) m

pub reject_in : (h : History) (s : ℕ) (r : Request) → ruled s r verdict.Rejected among h → reject s (request_of r) among ledger_of h
reject_in h s r m = event_in h (ruled s r verdict.Rejected) (here refl) m

-- what is said is said of a request that the table holds at some place
pub said_of : (k : ℕ) (rs : List Request) (l : List Said) (s : ℕ) (r : Request) (d : Verdict) → ruled s r d among all_said k rs l → (p : ℕ) × (r ≡ request_at rs p)
unfolding all_said
said_of k rs [] s r d m = in_none m
said_of k rs (x ∷ l) s r d m = ⊎_elim (λ y. said_of k rs l s r d y) (λ y. in_either y (one x) (λ z. in_none z)) (Memᴰ.append_cases (all_said k rs l) m)
  where
    one : (x : Said) → ruled s r d ≡ said_at k rs x → (p : ℕ) × (r ≡ request_at rs p)
    one (vote p stamp v) e = absurd (let z : ◌≡◌ {A = ℕ} 0 1 = cc in let y : ⊥ = omega arith in y)
    one (rule p stamp v) e = (p, cc)
