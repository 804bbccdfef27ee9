-- What holds of a table that is tied to a history: demand 3, the serial order, and what comes too late.
use Prim.Native.Nat.{ℕ, ◌<◌}
use mathlib.Core.Path.{◌≡◌, ◌∙◌}
use mathlib.Core.Bool.{true}
use mathlib.Core.List.{◌++◌}
use Rattle.ledger.specs.Ledger.{Request, History, acceptances, Accepted}
use Rattle.ledger.specs.View.{accepts, rejects, View, Tied, Goes}
use Rattle.ledger.specs.Promise.{Promise}
use Rattle.ledger.specs.Order.{Ordered}
use Rattle.ledger.proofs.Acceptances.{once}
use Rattle.ledger.proofs.Safety.{agreed, copy_is}
use Rattle.ledger.proofs.Orders.{in_order, order_in, serial, carried_is, same_copy, too_late, exclusive}
use Rattle.ledger.proofs.Link.{tied_goes}

module _ {X : Type 0} {n : ℕ} {x : X} {v : View X} {h : History X} (T : Tied n x v h) where
  -- demand 3
  pub promised : Promise n x v h
  promised = record {
    agreed = λ r s t. agreed T.valid;
    exclusive = λ a b. exclusive T.valid;
    copies = λ s i l. rw (T.copies s i l) (copy_is T.valid s i);
  }

  -- agreement, of the verdicts that the table shows
  pub agreed_shown : (s t p : ℕ) → s < n → t < n → v.held p ≡ true → v.says accepts s p ≡ true → v.says rejects t p ≡ true → ⊥
  agreed_shown s t p l m e f g = agreed T.valid (T.said accepts s p l e f) (T.said rejects t p m e g)

  -- the serial order
  pub ordered : Ordered n x v h
  ordered = record {
    every = λ r. in_order T.valid;
    only = λ r. order_in T.valid;
    once = once (acceptances h);
    serial = serial T.valid;
    last = carried_is T.valid;
    whole = λ s l all i. T.copies s i l ∙ same_copy T.valid s (λ r m. all r (in_order T.valid m)) i;
  }

  -- Once a request that changes the item i is accepted anywhere, with a stamp above the one that b is based on there, and b is not yet
  -- accepted, b never is, whatever the table does then.
  pub never_later : {w : View X} {l : History X} → Goes n v w l → (d b : Request X) (i : ℕ) → Accepted h d → d.update i ≡ true → b.base i ≡ true
      → b.base_stamp i < d.stamp → (Accepted h b → ⊥) → Accepted (l ++ h) b → ⊥
  never_later {l = l} g d b i m u k less new = too_late T.valid d b i m u k less new l (tied_goes g T).valid
