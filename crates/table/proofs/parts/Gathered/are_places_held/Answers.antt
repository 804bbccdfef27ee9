-- `table::parts::Gathered::are_places_held` meets its contract.
use mathlib.Core.Path.{refl, ◌∙◌}
use Prim.Native.Nat.{ℕ}
use mathlib.Core.Bool.{Bool}
use Rattle.std.proofs.Common.{rules, tests}
use Rattle.std.proofs.lemmas.Iterator.Search.{all_from_yields_List}
use Rattle.std.proofs.lemmas.Iterator.{YieldsList-from_range}
use Rattle.kit.proofs.Iterated.{all_numbers}
use Rattle.table.specs.Parts.{place_counted}
use Rattle.table.proofs.parts.Gathered.are_places_held.Goals as goal
use Rattle.table.proofs.parts.Gathered.are_places_held.Goals.{Start}

held : Start → ℕ → Bool
held c = place_counted c.args.self.now.n c.args.me c.args.self.now.marked.oks c.args.self.now.marked.others c.args.self.now.stamps c.args.s.now

pub returns : goal.returns
unfolding held
returns c =
    let s = (goal.at.returns c).Start in
    all_from_yields_List (held s) _ _ c.all.result c.all.ensures.ran (YieldsList-from_range 0 16 16 refl refl) (λ x b q k. search (rules, tests)) ∙ all_numbers (held s) 16
