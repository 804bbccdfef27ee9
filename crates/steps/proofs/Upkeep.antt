-- Every step keeps the table sound, through resolve and walk, whatever it is given.
use mathlib.Core.Path.{◌≡◌, refl, sym, ap, ◌∙◌}
use mathlib.Core.Bool.{Bool, true, false}
use Prim.Native.Nat.{suc, ◌-◌, ◌<◌}
use native.Mathlib.Omega.{arith}
use Rattle.kit.proofs.Bools.{of_cond}
use Rattle.plans.specs.Changes.{stored, forgotten}
use Rattle.record.specs.declared.Step.{Step}
use Rattle.table.specs.Meaning.{ShapedTable, Sound}
use Rattle.table.specs.Sound.{sound_table}
use Rattle.table.specs.declared.data.Table.{Table}
use Rattle.table.proofs.Meaning.{means, meant}
use Rattle.upkeep.proofs.Begins.{begun_sound}
use Rattle.upkeep.proofs.Changing.{dropped_sound, told_sound, put_up_sound, retired_sound}
use Rattle.upkeep.proofs.Kept.{delivered_sound}
use Rattle.steps.specs.Numbers.{free_place, free_message, place_of, begin_number, tell_number, deliver_number, drop_number, retire_number}
use Rattle.steps.specs.Steps.{entered, begun, told, delivered, dropped, put_up, retired, advanced, stepped}
use Rattle.steps.specs.Answers.{Stepped}
use Rattle.steps.proofs.Each.{each_step}
use Rattle.steps.proofs.Allowed.{site_index_lem, free_place_lem, free_message_lem, named_place, message_there, may_begin, may_tell, may_deliver, may_drop, may_down, may_up, may_retire, given_of}

-- sound, with its lists as long as they are in memory
pub record Well (t : Table) : Type 0 where
  pub sound : Sound t
  pub shaped : ShapedTable t

well : {t : Table} → Sound t × ShapedTable t → Well t
well h = record { sound = h.0; shaped = h.1 }

module _ (t : Table) (a : Step) (w : Well t) where
  pub begun_well : begin_number t a ≡ 0 → Well (begun t a).table
  unfolding begun entered stored
  begun_well e =
      let m = may_begin t a e in
      let k = site_index_lem t a.site m.site in
      let p = free_place_lem t m.place in
      let i = given_of t a m.stamp in
      rw i.2
      (well (begun_sound t (a.site - 1) (free_place t) w.shaped w.sound k.0 p.0 p.1 a.site a.clock a.base a.update a.stamps a.values i.0 i.1 k.1 m.sets m.bases m.values i.2))

  told_well : tell_number t a ≡ 0 → Well (told t a).table
  unfolding told
  told_well e =
      let m = may_tell t a e in
      let k = site_index_lem t a.site m.from in
      let j = site_index_lem t a.to m.to in
      let p = named_place t a.stamp m.place in
      well (told_sound t (a.site - 1) (a.to - 1) (place_of t a.stamp) (free_message t) w.shaped w.sound (free_message_lem t m.message) k.0 j.0
      (λ z. m.two (k.1 ∙ ap suc z ∙ sym j.1)) p.0 p.1)

  delivered_well : deliver_number t a ≡ 0 → Well (delivered t a).table
  unfolding delivered
  delivered_well e = let m = message_there t a.place (may_deliver t a e) in well (delivered_sound t a.place w.shaped w.sound m.0 m.1)

  dropped_well : drop_number t a ≡ 0 → Well (dropped t a).table
  unfolding dropped
  dropped_well e = well (dropped_sound t a.place w.shaped w.sound (message_there t a.place (may_drop t a e)).0)

  put_up_well : (up : Bool) → a.site - 1 < t.count → Well (put_up up t a).table
  unfolding put_up
  put_up_well up h = well (put_up_sound t (a.site - 1) up w.shaped w.sound h)

  retired_well : retire_number t a ≡ 0 → Well (retired t a).table
  unfolding retired forgotten
  retired_well e =
      let m = may_retire t a e in
      let p = named_place t a.stamp m.place in
      let c = w.sound.count_to in
      well (retired_sound t (place_of t a.stamp) (forgotten (place_of t a.stamp)) (λ j s. refl) w.shaped w.sound p.0
      (λ k h. m.judged k (omega arith) h) m.unnamed)

  -- the step
  pub advanced_well : Well (advanced t a).table
  advanced_well = each_step t a Well (record {
    stays = w;
    begins = λ _. begun_well;
    tells = told_well;
    delivers = λ _. delivered_well;
    drops = dropped_well;
    downs = λ z. put_up_well false (site_index_lem t a.site (may_down t a z)).0;
    ups = λ z. put_up_well true (site_index_lem t a.site (may_up t a z)).0;
    retires = retired_well;
  })

-- the same of the public step
pub stepped_well : (t : Table) (a : Step) → Well t → Well (stepped t a).table
unfolding stepped
stepped_well t a w = of_cond (λ (r : Stepped). Well r.table) (sound_table t) (λ e. advanced_well t a w) (λ e. w)

-- every step keeps the table sound
pub stepped_sound : (t : Table) (a : Step) → ShapedTable t → sound_table t ≡ true → sound_table (stepped t a).table ≡ true
stepped_sound t a g e = meant (stepped t a).table (stepped_well t a (record { sound = means t e; shaped = g })).sound
