-- What holds of each reading of a site's copy, and of each reading that a request brings, holds of each reading after a walk, and after all that
-- the site does with a request that it begins or hears of.
use Prim.Native.Nat.{ℕ, ◌<◌}
use mathlib.Core.Bool.{Bool, true, false}
use mathlib.Core.List.{List}
use mathlib.Core.Path.{◌≡◌, refl}
use native.Mathlib.Omega.{arith}
use lib.IntN.{ℤ, pos}
use lib.ListN.{get_or}
use Rattle.kit.proofs.Bools.{by_test}
use Rattle.vote.specs.Consider.{mark_of, defers}
use Rattle.vote.specs.Data.{request_in}
use Rattle.vote.specs.Shape.{ShapedSite}
use Rattle.vote.specs.Verdicts.{writes_item, written_site, ruled}
use Rattle.vote.specs.declared.data.Mark.{Mark}
use Rattle.vote.specs.declared.data.Request.{Request}
use Rattle.vote.specs.declared.data.Site.{Site}
use Rattle.vote.specs.declared.data.Verdict.{Verdict}
use Rattle.vote.specs.declared.data.Verdict.TheVariants as verdict
use Rattle.vote.proofs.After.{CopiesOf, ruled_accepted, ruled_other}
use Rattle.vote.proofs.Fields.{deferred_keeps, voted_keeps, voted_from_keeps}
use Rattle.vote.proofs.Writes.{written_stamp, written_value}
use Rattle.walk.specs.Hearing.{outcome_of, taken_up, received}
use Rattle.walk.specs.Order.{InOrder}
use Rattle.walk.specs.Walking.{queued, outcome_at, voted_at, due_at, walked, resolved}
use Rattle.walk.proofs.HearingInductions.{New, voted_on, joined_on, due_on, ruled_on, ConsideringKeeps, HearingKeeps, taken_kept, received_kept}
use Rattle.walk.proofs.Inductions.{Turn, Keeps, walked_kept}
use Rattle.walk.proofs.Laters.{voted_on_order}
use Rattle.walk.proofs.Orders.{in_order_ruled, in_order_voted_from, in_order_deferred, in_order_joined}
use Rattle.walk.proofs.TurnLaws.{turn_place, turn_vote}

module _ (C : ℕ → ℕ → ℤ → Type 0) where
  -- C holds of the stamp and the value of each item
  pub record EachCopy (s : Site) : Type 0 where
    pub copy : (i : ℕ) → i < 24 → C i (get_or s.stamps i 0) (get_or s.values i (pos 0))

  -- and of each reading that the request q may write
  pub record Brings (q : Request) : Type 0 where
    pub brings : (held : List ℕ) (i : ℕ) → i < 24 → writes_item held q i ≡ true → C i q.stamp (get_or q.values i (pos 0))

  copies_of : {u t : Site} → CopiesOf u t → EachCopy u → EachCopy t
  copies_of e c = record { copy = λ i h. rw (e.stamps, e.values) (c.copy i h) }

  written_copies : {s : Site} (q : Request) → ShapedSite s → Brings q → EachCopy s → EachCopy (written_site s q)
  written_copies {s} q h b c = record {
    copy = λ i l.
        rw (written_stamp s q i l h.stamps, written_value s q i l h.values)
        (by_test (writes_item s.stamps q i) (λ e. rw e (b.brings s.stamps i l e)) (λ e. rw e (c.copy i l)));
  }

  pub ruled_copies : {s : Site} (q : Request) (p : ℕ) (d : Verdict) → ShapedSite s → Brings q → EachCopy s → EachCopy (ruled s q p d)
  ruled_copies {s} q p verdict.Open h b c =
      copies_of (ruled_other s q p verdict.Open (λ e. let z : ◌≡◌ {A = ℕ} 0 1 = cc in let y : ⊥ = omega arith in y)) c
  ruled_copies {s} q p verdict.Accepted h b c = copies_of (ruled_accepted s q p) (written_copies q h b c)
  ruled_copies {s} q p verdict.Rejected h b c =
      copies_of (ruled_other s q p verdict.Rejected (λ e. let z : ◌≡◌ {A = ℕ} 0 1 = cc in let y : ⊥ = omega arith in y)) c

  -- ---- a walk, and a request that it begins or hears of, where C holds of all that the requests bring

  pub record Copied (s : Site) : Type 0 where
    pub order : InOrder s
    pub copies : EachCopy s

  module _ (me n : ℕ) (rs : List Request) (all : (p : ℕ) → p < 16 → Brings (request_in rs p)) where
    copied_ruled : {s : Site} → Copied s → (p : ℕ) → p < 16 → (d : Verdict) → Copied (ruled_on rs s p d)
    copied_ruled x p h d = record {
      order = in_order_ruled x.order p h (request_in rs p) d;
      copies = ruled_copies (request_in rs p) p d x.order.shaped (all p h) x.copies;
    }

    turn_copied : {b : Bool} {s : Site} {i : ℕ} → Turn me n rs b s i → Copied s → Copied (voted_at me n rs s i)
    turn_copied {s = s} {i = i} t x =
        let m : Mark = mark_of (outcome_at me n rs s i) in
        let k = voted_from_keeps me s i (queued s i) m in
        record {
          order = in_order_voted_from x.order (queued s i) (turn_place x.order t) me i m t.inside refl (turn_vote x.order t);
          copies = copies_of (record { stamps = k.stamps; values = k.values }) x.copies;
        }

    copied_turns : Keeps me n rs Copied
    copied_turns = record {
      votes = λ t x. turn_copied t x;
      rules = λ {s} {i} t x. copied_ruled (turn_copied t x) (queued s i) (turn_place x.order t) (due_at me n rs s i);
    }

    pub copies_walked : (s : Site) (i : ℕ) → InOrder s → EachCopy s → EachCopy (walked me n rs s i).site
    copies_walked s i o c = (walked_kept me n rs s i copied_turns (record { order = o; copies = c })).copies

    module _ (p : ℕ) (h : p < 16) where
      pub copies_resolved : (s : Site) (d : Verdict) → InOrder s → EachCopy s → EachCopy (resolved me n rs s p d).site
      copies_resolved s d o c =
          let x : Copied (ruled_on rs s p d) = copied_ruled (record { order = o; copies = c }) p h d in
          copies_walked (ruled_on rs s p d) 0 x.order x.copies

      voted_on_copied : {s : Site} → New s p → defers (outcome_of me n rs s p) ≡ false → Copied s → Copied (voted_on me n rs s p)
      voted_on_copied {s} new e x =
          let k = voted_keeps me s p (mark_of (outcome_of me n rs s p)) in
          record {
            order = voted_on_order me n rs p h new e x.order;
            copies = copies_of (record { stamps = k.stamps; values = k.values }) x.copies;
          }

      copied_considering : ConsideringKeeps me n rs p Copied
      copied_considering = record {
        queues = λ {s} new e x.
            let k = deferred_keeps s p in
            record {
              order = in_order_deferred x.order p h new.unmarked new.held;
              copies = copies_of (record { stamps = k.stamps; values = k.values }) x.copies;
            };
        votes = λ new e f x. voted_on_copied new e x;
        rules = λ {s} new e f x. copied_ruled (voted_on_copied new e x) p h (due_on n (voted_on me n rs s p) p);
      }

      pub copies_taken : (s : Site) → New s p → InOrder s → EachCopy s → EachCopy (taken_up me n rs s p).site
      copies_taken s new o c = (taken_kept me n rs p copied_turns copied_considering s new (record { order = o; copies = c })).copies

      module _ (sent : Verdict) (oks others : List Bool) where
        joined_copied : {s : Site} → Copied s → Copied (joined_on s p oks others)
        joined_copied x = record { order = in_order_joined x.order p h oks others; copies = record { copy = x.copies.copy } }

        copied_hearing : HearingKeeps me n rs p sent oks others Copied
        copied_hearing = record {
          considers = copied_considering;
          joins = λ e f d x. joined_copied x;
          learns = λ {s} e f d x. copied_ruled (joined_copied x) p h (due_on n (joined_on s p oks others) p);
          takes = λ e f x. copied_ruled x p h sent;
        }

        pub copies_received : (s : Site) → InOrder s → EachCopy s → EachCopy (received me n rs s p sent oks others).site
        copies_received s o c = (received_kept me n rs p sent oks others copied_turns copied_hearing s (record { order = o; copies = c })).copies
