-- From one table to another: what soundness says of a site, a place or a message stays where what it speaks of stays or only grows.
use mathlib.Core.Path.{◌≡◌, refl, sym, ◌∙◌}
use mathlib.Core.Bool.{Bool, true, false, not, ◌&&◌}
use mathlib.Core.List.{List}
use Prim.Native.Nat.{ℕ, ◌-◌, ◌≤◌, ◌<◌}
use native.Mathlib.Omega.{arith}
use borrow.Author.Tests.{leb-true, le-leb}
use lib.Dec.{eqb}
use lib.IntN.{pos}
use lib.ListN.{get_or}
use Rattle.kit.specs.Range.{number}
use Rattle.kit.proofs.Bools.{clash, and_left, and_right, by_test}
use Rattle.kit.proofs.Ranges.{number_grows}
use Rattle.majority.specs.Majority.{majority, blocking}
use Rattle.readings.specs.Readings.{in_range}
use Rattle.stamps.specs.Stamps.{time_of, digit_of, well_formed}
use Rattle.stamps.proofs.Laws.{digit_lt}
use Rattle.table.specs.Blank.{holds_nothing, is_blank_site, is_blank_message}
use Rattle.table.specs.Meaning.{SoundSite, SoundPlace, SoundMessage}
use Rattle.table.specs.Places.{site_at, message_at, place_at, last_of}
use Rattle.table.specs.Sound.{queue_exact, marks_ok, marks_other, backed}
use Rattle.table.specs.declared.data.Message.{Message}
use Rattle.table.specs.declared.data.Table.{Table}
use Rattle.table.proofs.Nothing.{nothing_means, nothing_of}
use Rattle.vote.specs.Data.{is_open, vote_at}
use Rattle.vote.specs.Queue.{queued_at}
use Rattle.vote.specs.Voters.{knows, no_voters, none_known}
use Rattle.vote.specs.declared.data.Site.{Site}
use Rattle.vote.specs.declared.data.Verdict.{Verdict}
use Rattle.vote.specs.declared.data.Verdict.TheVariants as verdict
use Rattle.vote.proofs.KnownVoters.{voters_same}
use Rattle.vote.proofs.Rows.{nobody_at, unknown_at, unknown_of}
use Rattle.upkeep.specs.But.{HoldingBut, Quiet}

-- ---- what grows

-- an own mark of place q stays of its kind
pub record Grown (t t' : Table) (q : ℕ) : Type 0 where
  pub ok : (u : ℕ) → u < 7 → marks_ok t q u ≡ true → marks_ok t' q u ≡ true
  pub other : (u : ℕ) → u < 7 → marks_other t q u ≡ true → marks_other t' q u ≡ true

-- so a verdict that was backed still is
pub backed_grown : (t t' : Table) (q : ℕ) (d : Verdict) → t'.count ≡ t.count → Grown t t' q → backed t q d ≡ true → backed t' q d ≡ true
backed_grown t t' q verdict.Open n g e = refl
backed_grown t t' q verdict.Accepted n g e =
    let a : majority t.count ≤ number 7 (marks_ok t q) = leb-true _ _ e in
    let b : number 7 (marks_ok t q) ≤ number 7 (marks_ok t' q) = number_grows 7 (marks_ok t q) (marks_ok t' q) g.ok in
    rw n (le-leb _ _ (let z : majority t.count ≤ number 7 (marks_ok t' q) = omega arith in z))
backed_grown t t' q verdict.Rejected n g e =
    let a : blocking t.count ≤ number 7 (marks_other t q) = leb-true _ _ e in
    let b : number 7 (marks_other t q) ≤ number 7 (marks_other t' q) = number_grows 7 (marks_other t q) (marks_other t' q) g.other in
    rw n (le-leb _ _ (let z : blocking t.count ≤ number 7 (marks_other t' q) = omega arith in z))

-- none has to be
pub open_backed : (t : Table) (q : ℕ) (d : Verdict) → is_open d ≡ true → backed t q d ≡ true
open_backed t q verdict.Open o = refl
open_backed t q verdict.Accepted o = clash o refl
open_backed t q verdict.Rejected o = clash o refl

-- no site's last t falls
pub record Later (t t' : Table) : Type 0 where
  pub last : (j : ℕ) → j < 7 → (site_at t j).last ≤ (site_at t' j).last

pub later_of : {t t' : Table} (stamp : ℕ) → Later t t' → last_of t stamp ≤ last_of t' stamp
later_of stamp l = l.last (digit_of stamp - 1) (omega (arith, digit_lt stamp))

-- ---- what a site holds of a place

-- s' holds of place q what s holds
pub record SameHeld (s s' : Site) (q : ℕ) : Type 0 where
  pub vote : vote_at s'.votes q ≡ vote_at s.votes q
  pub oks : (u : ℕ) → u < 7 → knows s'.oks q u ≡ knows s.oks q u
  pub others : (u : ℕ) → u < 7 → knows s'.others q u ≡ knows s.others q u

pub none_same : (known known' : List Bool) (q : ℕ) → ((u : ℕ) → u < 7 → knows known' q u ≡ knows known q u) → none_known known q ≡ true → none_known known' q ≡ true
none_same known known' q h e = unknown_of known' q (λ u l. h u l ∙ unknown_at known q u e l)

pub held_carried
    : {t t' : Table} {s s' : Site} {k q : ℕ} → t'.count ≡ t.count → k < 7 → Grown t t' q → SameHeld s s' q → HoldingBut t s k q → HoldingBut t' s' k q
held_carried {t} {t'} {s} {s'} {k} {q} n hk g w h = record {
  known_ok = λ u l e. g.ok u l (h.known_ok u l (sym (w.oks u l) ∙ e));
  known_other = λ u l e. g.other u l (h.known_other u l (sym (w.others u l) ∙ e));
  own_ok = λ e. w.oks k hk ∙ h.own_ok (rw w.vote at e);
  own_other = λ e. w.others k hk ∙ h.own_other (rw w.vote at e);
  backing = rw w.vote (backed_grown t t' q (vote_at s.votes q).verdict n g h.backing);
  judged = rw w.vote h.judged;
}

pub quiet_carried : {n : ℕ} {s s' : Site} {q : ℕ} → SameHeld s s' q → Quiet n s q → Quiet n s' q
quiet_carried {n} {s} {s'} {q} w h = record {
  few_oks = λ o. rw (voters_same s'.oks s.oks q q w.oks) (h.few_oks (rw w.vote at o));
  few_others = λ o. rw (voters_same s'.others s.others q q w.others) (h.few_others (rw w.vote at o));
  unheard_oks = λ o u. none_same s.oks s'.oks q w.oks (h.unheard_oks (rw w.vote at o) (rw w.vote at u));
  unheard_others = λ o u. none_same s.others s'.others q w.others (h.unheard_others (rw w.vote at o) (rw w.vote at u));
}

pub nothing_carried : {s s' : Site} {q : ℕ} → SameHeld s s' q → holds_nothing s q ≡ true → holds_nothing s' q ≡ true
nothing_carried {s} {s'} {q} w e =
    let h = nothing_means s q e in
    nothing_of (record {
      unmarked = rw w.vote h.unmarked;
      unruled = rw w.vote h.unruled;
      no_oks = none_same s.oks s'.oks q w.oks h.no_oks;
      no_others = none_same s.others s'.others q w.others h.no_others;
    })

-- ---- a site's queue and copies

-- of a site s of t
pub record SiteRight (t : Table) (s : Site) : Type 0 where
  pub queue_end : (i : ℕ) → i < 16 → s.waiting ≤ i → queued_at s.queue i ≡ 0
  pub queue : queue_exact s ≡ true
  pub copy_form : (i : ℕ) → i < 24 → well_formed t.count (get_or s.stamps i 0) ≡ true
  pub copy_time : (i : ℕ) → i < 24 → time_of (get_or s.stamps i 0) ≤ last_of t (get_or s.stamps i 0)
  pub copy_value : (i : ℕ) → i < 24 → in_range (get_or s.values i (pos 0)) ≡ true
  pub copy_blank : (i : ℕ) → i < 24 → get_or s.stamps i 0 ≡ 0 → get_or s.values i (pos 0) ≡ pos 0

pub site_right : {t : Table} {j : ℕ} → SoundSite t j → SiteRight t (site_at t j)
site_right h = record {
  queue_end = h.queue_end;
  queue = h.queue;
  copy_form = h.copy_form;
  copy_time = h.copy_time;
  copy_value = h.copy_value;
  copy_blank = h.copy_blank;
}

pub site_sound : (t : Table) (j : ℕ) → (t.count ≤ j → is_blank_site (site_at t j) ≡ true) → SiteRight t (site_at t j) → SoundSite t j
site_sound t j u h = record {
  unused = u;
  queue_end = h.queue_end;
  queue = h.queue;
  copy_form = h.copy_form;
  copy_time = h.copy_time;
  copy_value = h.copy_value;
  copy_blank = h.copy_blank;
}

pub right_carried : {t t' : Table} {s : Site} → t'.count ≡ t.count → Later t t' → SiteRight t s → SiteRight t' s
right_carried {t} {t'} {s} n l h = record {
  queue_end = h.queue_end;
  queue = h.queue;
  copy_form = λ i b. rw n (h.copy_form i b);
  copy_time = λ i b. let a = h.copy_time i b in let c = later_of (get_or s.stamps i 0) l in omega arith;
  copy_value = h.copy_value;
  copy_blank = h.copy_blank;
}

-- ---- a request place

pub place_carried
    : {t t' : Table} {q : ℕ} → t'.count ≡ t.count → Later t t' → place_at t' q ≡ place_at t q
    → ((place_at t q).stamp ≡ 0 → (j : ℕ) → j < 7 → holds_nothing (site_at t' j) q ≡ true)
    → (((place_at t q).stamp ≡ 0 → ⊥) → (r : ℕ) → r < q → (place_at t' r).stamp ≡ (place_at t q).stamp → ⊥)
    → SoundPlace t q → SoundPlace t' q
place_carried {t} {t'} {q} n l e free new h = record {
  free_request = rw e h.free_request;
  free_held = rw e free;
  allowed = rw (e, n) h.allowed;
  form = rw (e, n) h.form;
  time = rw e (let a = h.time in let b = later_of (place_at t q).stamp l in let z : time_of (place_at t q).stamp ≤ last_of t' (place_at t q).stamp = omega arith in z);
  own_stamp = rw e new;
}

-- ---- a message

-- one that is not used says nothing
pub unused_message : (t : Table) (i : ℕ) → (message_at t i).used ≡ false → is_blank_message (message_at t i) ≡ true → SoundMessage t i
unfolding is_blank_message
unused_message t i e b =
    let m : Message = message_at t i in
    let no : Bool = no_voters m.oks in
    let nx : Bool = no_voters m.others in
    let op : Bool = is_open m.verdict in
    let c1 : (eqb m.request 0 && (eqb m.from 0 && (eqb m.to 0 && (op && (no && nx))))) ≡ true = and_right (not m.used) (eqb m.request 0 && (eqb m.from 0 && (eqb m.to 0 && (op && (no && nx))))) b in
    let c2 : (eqb m.from 0 && (eqb m.to 0 && (op && (no && nx)))) ≡ true = and_right (eqb m.request 0) (eqb m.from 0 && (eqb m.to 0 && (op && (no && nx)))) c1 in
    let c3 : (eqb m.to 0 && (op && (no && nx))) ≡ true = and_right (eqb m.from 0) (eqb m.to 0 && (op && (no && nx))) c2 in
    let c4 : (op && (no && nx)) ≡ true = and_right (eqb m.to 0) (op && (no && nx)) c3 in
    let c5 : (no && nx) ≡ true = and_right op (no && nx) c4 in
    record {
      unused = λ u. b;
      names_place = λ u. clash u e;
      names_request = λ u. clash u e;
      names_from = λ u. clash u e;
      names_to = λ u. clash u e;
      names_two = λ u. clash u e;
      sent_ok = λ u l v. clash v (nobody_at m.oks u (and_left no nx c5) l);
      sent_other = λ u l v. clash v (nobody_at m.others u (and_right no nx c5) l);
      sent_is_backed = open_backed t m.request m.verdict (and_left op (no && nx) c4);
    }

pub message_carried
    : {t t' : Table} {i : ℕ} → t'.count ≡ t.count → message_at t' i ≡ message_at t i
    → ((message_at t i).used ≡ true → (place_at t' (message_at t i).request).stamp ≡ 0 → (place_at t (message_at t i).request).stamp ≡ 0)
    → ((message_at t i).used ≡ true → Grown t t' (message_at t i).request)
    → SoundMessage t i → SoundMessage t' i
message_carried {t} {t'} {i} n e place grown h =
    by_test (message_at t i).used
    (λ u. record {
      unused = rw e h.unused;
      names_place = rw e h.names_place;
      names_request = rw e (λ v z. h.names_request v (place v z));
      names_from = rw (e, n) h.names_from;
      names_to = rw (e, n) h.names_to;
      names_two = rw e h.names_two;
      sent_ok = rw e (λ v l w. (grown u).ok v l (h.sent_ok v l w));
      sent_other = rw e (λ v l w. (grown u).other v l (h.sent_other v l w));
      sent_is_backed = rw e (backed_grown t t' (message_at t i).request (message_at t i).verdict n (grown u) h.sent_is_backed);
    })
    (λ u. unused_message t' i (rw e u) (rw e (h.unused u)))
