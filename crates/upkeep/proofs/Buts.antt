-- Soundness is soundness but for one site and place, with that site quiet there.
use Prim.Native.Nat.{ℕ}
use Rattle.kit.proofs.Bools.{by_eq}
use Rattle.table.specs.Meaning.{Holding, Sound}
use Rattle.table.specs.Places.{site_at}
use Rattle.table.specs.declared.data.Table.{Table}
use Rattle.upkeep.specs.But.{HoldingBut, Quiet, SoundBut}

pub holding_but : {t : Table} {k p : ℕ} → Holding t k p → HoldingBut t (site_at t k) k p
holding_but h = record {
  known_ok = h.known_ok;
  known_other = h.known_other;
  own_ok = h.own_ok;
  own_other = h.own_other;
  backing = h.backing;
  judged = h.judged;
}

pub holding_quiet : {t : Table} {k p : ℕ} → Holding t k p → Quiet t.count (site_at t k) p
holding_quiet h = record { few_oks = h.few_oks; few_others = h.few_others; unheard_oks = h.unheard_oks; unheard_others = h.unheard_others }

pub holding_of : (t : Table) (k p : ℕ) → HoldingBut t (site_at t k) k p → Quiet t.count (site_at t k) p → Holding t k p
holding_of t k p h q = record {
  known_ok = h.known_ok;
  known_other = h.known_other;
  own_ok = h.own_ok;
  own_other = h.own_other;
  backing = h.backing;
  judged = h.judged;
  few_oks = q.few_oks;
  few_others = q.few_others;
  unheard_oks = q.unheard_oks;
  unheard_others = q.unheard_others;
}

pub sound_but : {t : Table} (k p : ℕ) → Sound t → SoundBut t k p
sound_but k p s = record {
  count_from = s.count_from;
  count_to = s.count_to;
  site = s.site;
  place = s.place;
  message = s.message;
  holding = λ j q hj hq. holding_but (s.holding j q hj hq);
  quiet = λ j q hj hq ne. holding_quiet (s.holding j q hj hq);
}

pub sound_whole : (t : Table) (k p : ℕ) → SoundBut t k p → Quiet t.count (site_at t k) p → Sound t
sound_whole t k p s z = record {
  count_from = s.count_from;
  count_to = s.count_to;
  site = s.site;
  place = s.place;
  message = s.message;
  holding = λ j q hj hq. holding_of t j q (s.holding j q hj hq)
      (by_eq j k (λ e. by_eq q p (λ f. rw (e, f) z) (λ nf. s.quiet j q hj hq (λ x y. nf y))) (λ ne. s.quiet j q hj hq (λ x y. ne x)));
}
