-- Steps that the walks by hand share. They say nothing of a crate.
--     hears            after a call that returned w: the callee's result r and its parameters' last values ws are named, what it ensures of them is learned, and what r owns, what says the last values and the tokens are had
--     lends_local      a local that holds a value h of the type R is lent as `&mut` for a lifetime that is made for the call
--     local_back       that lifetime is ended, and the local holds the reference's last value
--     lends_array      a local array is lent as `&mut [R]`, likewise.        array_back       and holds the slice's last list
--     shares_array     a local array is lent as `&[R]`, likewise.        shared_back      and holds what it held
--     meets            a walk of a function's MIR is taken to its contract
-- Assumes `Logic`.
use mathlib.Core.Path.{◌≡◌, refl, ◌∙◌}
use Prim.Native.Nat.{ℕ}
use mathlib.Core.List.{List, [], ◌∷◌}
use lib.ListN.{length}
use seplogic.Ra.Ura.{Ura}
use base.Fraction.{full_share}
use mir.Syntax.{Fn, Lifetime}
use mir.Val.{Val, vptr}
use base.Logic.{ent, id⊢}
use base.Fml.{GName, Incl-refl, fsep, flft, flent, fres}
use prog.Wp.{WpFn, Tables}
use types.Logic.{Logic}
use contract.Monad.{fact}
use sound.WpLaws.{WpFn-mono}
use types.Kit.{Goal, Soaks, Item, ‵, raw, some, later, ◌⊛◌, Seq, ◌$◌, move, drop, use1, use2, use3, split, pick, fsplit, fjoin, fpick, fpack, feq_l, feq_i, await}
use types.SemTy.{cells, Arr, Body}
use types.Share.{arr_parts}
use types.Tokens.{lft_new, lft_end, lent_back}
use denote.RattleType.{RattleType}
use denote.Array.{Array}
use denote.ArrayMemory.{Single, Array-apart, Array-whole}
use denote.Index.{row, whole_out, whole_in}
use denote.Lend.{Held, lends_ref, ref_back, lends_slice, slice_back, lends_shr_slice}
use denote.Memory.{cell_at, part_at, mem, shares, part_of}
use denote.Ref.{MutRef}
use denote.Shares.{Shares}
use denote.Signature.{type_at}
use denote.Slice.{slice_val, MutSlice, ShrSlice, Room, finally}
use denote.Steps.{heard}
use denote.Triple.Entry.{Res, alive}
use denote.Triple.Spec.{Meets, triple_of}
use denote.Triple.Clauses.{Ended, Clauses, Lasts, lasts, at_exit, closing}
use denote.Triple.Walked.{Stays, AllGo, Walks, walk_Meets}

module _ {M : Type 1} {𝓤 : Ura M} {𝓛 : Logic 𝓤} {K : Type 0} {Γ : List (Item 𝓤)} {G : Goal 𝓤 𝓛.H} where
  pub hears : K → Soaks G → (T : Ended) (c : Clauses 𝓤 T) (y : (triple_of 𝓛 T.signature (closing 𝓛 T c)).Ghost) (w : Val)
      (φ : Res T.signature y.0.0 → Lasts T y.0.0 y.0.3 → Type 0)
      → ((r : Res T.signature y.0.0) (ws : Lasts T y.0.0 y.0.3) → ent 𝓤 ((c y.0.0 y.0.3).ensures y.1 r (at_exit T y.0.0 y.0.3 ws)) (fact 𝓤 (φ r ws)))
      → ((r : Res T.signature y.0.0) (ws : Lasts T y.0.0 y.0.3) → φ r ws
      → Seq K 𝓛 (‵ ((type_at T.signature.result y.0.0).own_val r (w ∷ [])) ∷ ‵ (lasts T y.0.0 y.0.3 ws) ∷ raw (alive 𝓛 T.signature y.0.0 y.0.1) ∷ Γ) G)
      → Seq K 𝓛 (raw ((triple_of 𝓛 T.signature (closing 𝓛 T c)).post y w) ∷ Γ) G
  hears t z T c y w φ says k =
      use1 𝓛 (later (some (λ (r : Res T.signature y.0.0). (raw (alive 𝓛 T.signature y.0.0 y.0.1) ⊛ ‵ ((type_at T.signature.result y.0.0).own_val r (w ∷ [])))
      ⊛ some (λ (ws : Lasts T y.0.0 y.0.3). ‵ (lasts T y.0.0 y.0.3 ws) ⊛ raw ((c y.0.0 y.0.3).ensures y.1 r (at_exit T y.0.0 y.0.3 ws)))))) (id⊢ 𝓤 _) $
      await t z $ pick t (λ r. split t $ move t (1 ∷ []) $ pick t (λ ws. split t $ move t (1 ∷ []) $
      use1 𝓛 (raw (fact 𝓤 (φ r ws))) (says r ws) $ heard t (φ r ws) (λ e. move t (1 ∷ []) $ split t $ move t (1 ∷ 2 ∷ 0 ∷ []) $ k r ws e)))

  -- ---- a local as a `&mut`

  pub lends_local : K → Soaks G → (ℓ : Lifetime) (R : RattleType) (h : R.Denot) (vs : List Val) (b o : ℕ)
      → ((ν : ℕ) (δ : GName) → Seq K 𝓛 (‵ (flft (ν ∷ []) full_share) ∷ ‵ ((MutRef ℓ (ν ∷ []) R).own_val (record { ref_ptr = (b, o); ghost_name = δ; now = h }) (vptr b o ∷ [])) ∷ ‵ (flent (ν ∷ []) (Body (mem R) b o δ)) ∷ Γ) G)
      → Seq K 𝓛 (‵ (cell_at full_share R.mir vs b o) ∷ ‵ (R.own_val h vs) ∷ Γ) G
  unfolding part_of
  lends_local t z ℓ R h vs b o k =
      fjoin t $ fpack t (List Val) (λ us. fsep (cell_at full_share R.mir us b o) (R.own_val h us)) vs $ lft_new t z (λ ν. move t (1 ∷ []) $
      use1 𝓛 (later (some (λ (δ : GName). ‵ ((MutRef ℓ (ν ∷ []) R).own_val (record { ref_ptr = (b, o); ghost_name = δ; now = h }) (vptr b o ∷ [])) ⊛ ‵ (flent (ν ∷ []) (Body (mem R) b o δ))))) (lends_ref 𝓛 R ℓ (ν ∷ []) h b o) $
      await t z $ pick t (λ δ. split t $ move t (2 ∷ []) $ k ν δ))

  pub local_back : K → Soaks G → (R : RattleType) (h : R.Denot) (b o : ℕ) {ν : ℕ} {δ : GName}
      → ((vs : List Val) → Seq K 𝓛 (‵ (cell_at full_share R.mir vs b o) ∷ ‵ (R.own_val h vs) ∷ Γ) G)
      → Seq K 𝓛 (‵ (flft (ν ∷ []) full_share) ∷ ‵ (flent (ν ∷ []) (Body (mem R) b o δ)) ∷ ‵ (fres δ (R.coded.code h)) ∷ Γ) G
  unfolding part_of
  local_back t z R h b o {ν} {δ} k =
      lft_end t z $ use3 𝓛 (later (‵ (part_at R full_share h b o))) (ref_back 𝓛 R (ν ∷ []) δ h b o) $ await t z $ fpick t (λ vs. fsplit t $ k vs)

  -- ---- a local array of n, apart in its elements, and whole again

  apart : K → (R : RattleType) → Single R.mir → (n : ℕ) (xs : List R.Denot) (vs : List Val) (b o : ℕ)
      → Seq K 𝓛 (‵ (row R full_share xs b o) ∷ Γ) G → Seq K 𝓛 (‵ (cell_at full_share (Array R n).mir vs b o) ∷ ‵ ((Array R n).own_val xs vs) ∷ Γ) G
  unfolding part_of
  apart t R one n xs vs b o k =
      fjoin t $ fpack t (List Val) (λ us. fsep (cell_at full_share (Array R n).mir us b o) ((Array R n).own_val xs us)) vs $
      use1 𝓛 (‵ ((arr_parts (shares R) n).part full_share xs b o)) (Array-apart 𝓛 R full_share one n xs b o) $ fsplit t $ drop t $ k

  again : K → (R : RattleType) (n : ℕ) (xs : List R.Denot) → length xs ≡ n → (b o : ℕ)
      → ((vs : List Val) → Seq K 𝓛 (‵ (cell_at full_share (Array R n).mir vs b o) ∷ ‵ ((Array R n).own_val xs vs) ∷ Γ) G) → Seq K 𝓛 (‵ (row R full_share xs b o) ∷ Γ) G
  unfolding part_of
  again t R n xs e b o k =
      feq_i t ℕ (length xs) n e $ fjoin t $ use1 𝓛 (‵ (part_at (Array R n) full_share xs b o)) (Array-whole 𝓛 R full_share n xs b o) $ fpick t (λ vs. fsplit t $ k vs)

  -- ---- it as a `&mut [R]`

  pub lends_array : K → Soaks G → (ℓ : Lifetime) (R : RattleType) → Single R.mir → (n : ℕ) (xs : List R.Denot) (vs : List Val) (b o : ℕ) → Room R (length xs)
      → ((ν : ℕ) (δ : GName) → Seq K 𝓛 (‵ (flft (ν ∷ []) full_share) ∷ ‵ ((MutSlice ℓ (ν ∷ []) R).own_val (record { ref_ptr = (b, o); ghost_name = δ; now = xs }) (slice_val (b, o) (length xs) ∷ [])) ∷ ‵ (flent (ν ∷ []) (Held R (length xs) b o δ)) ∷ Γ) G)
      → Seq K 𝓛 (‵ (cell_at full_share (Array R n).mir vs b o) ∷ ‵ ((Array R n).own_val xs vs) ∷ Γ) G
  lends_array t z ℓ R one n xs vs b o room k =
      apart t R one n xs vs b o (use1 𝓛 (‵ (cells (mem R) xs b o)) (whole_in 𝓛 R xs b o) $ lft_new t z (λ ν. move t (1 ∷ []) $
      use1 𝓛 (later (some (λ (δ : GName). ‵ ((MutSlice ℓ (ν ∷ []) R).own_val (record { ref_ptr = (b, o); ghost_name = δ; now = xs }) (slice_val (b, o) (length xs) ∷ [])) ⊛ ‵ (flent (ν ∷ []) (Held R (length xs) b o δ))))) (lends_slice 𝓛 R ℓ (ν ∷ []) xs b o room) $
      await t z $ pick t (λ δ. split t $ move t (2 ∷ []) $ k ν δ)))

  pub array_back : K → Soaks G → (R : RattleType) (n m : ℕ) (zs : List R.Denot) (b o : ℕ) → m ≡ n → {ν : ℕ} {δ : GName}
      → ((vs : List Val) → Seq K 𝓛 (‵ (cell_at full_share (Array R n).mir vs b o) ∷ ‵ ((Array R n).own_val zs vs) ∷ Γ) G)
      → Seq K 𝓛 (‵ (flft (ν ∷ []) full_share) ∷ ‵ (flent (ν ∷ []) (Held R m b o δ)) ∷ ‵ (finally R δ zs) ∷ Γ) G
  array_back t z R n m zs b o e {ν} {δ} k =
      lft_end t z $ use3 𝓛 (later (‵ ((Arr (mem R) m).own_at zs b o))) (slice_back 𝓛 R (ν ∷ []) δ zs m b o) $ await t z $ fsplit t $ feq_l t (λ l.
      use1 𝓛 (‵ (row R full_share zs b o)) (whole_out 𝓛 R zs b o) $ again t R n zs (l ∙ e) b o k)

  -- ---- it as a `&[R]`

  pub shares_array : K → Soaks G → (ℓ : Lifetime) (R : RattleType) → Single R.mir → ((ν : ℕ) → Shares 𝓛 R (ν ∷ [])) → (n : ℕ) (xs : List R.Denot) (vs : List Val) (b o : ℕ) → Room R (length xs)
      → ((ν : ℕ) → Seq K 𝓛 (‵ (flft (ν ∷ []) full_share) ∷ ‵ ((ShrSlice ℓ (ν ∷ []) R).own_val (record { ref_ptr = (b, o); now = xs }) (slice_val (b, o) (length xs) ∷ [])) ∷ ‵ (flent (ν ∷ []) ((arr_parts (shares R) (length xs)).part full_share xs b o)) ∷ Γ) G)
      → Seq K 𝓛 (‵ (cell_at full_share (Array R n).mir vs b o) ∷ ‵ ((Array R n).own_val xs vs) ∷ Γ) G
  shares_array t z ℓ R one law n xs vs b o room k =
      apart t R one n xs vs b o (feq_i t ℕ (length xs) (length xs) refl $ fjoin t $ lft_new t z (λ ν. move t (1 ∷ []) $
      use2 𝓛 (later ((‵ ((ShrSlice ℓ (ν ∷ []) R).own_val (record { ref_ptr = (b, o); now = xs }) (slice_val (b, o) (length xs) ∷ [])) ⊛ ‵ (flent (ν ∷ []) ((arr_parts (shares R) (length xs)).part full_share xs b o))) ⊛ ‵ (flft (ν ∷ []) full_share)))
      (lends_shr_slice 𝓛 R ℓ (ν ∷ []) full_share xs b o room (ν ∷ []) (law ν) ((ν ∷ [], full_share) ∷ []) (Incl-refl (ν ∷ [])) (Incl-refl (ν ∷ []))) $
      await t z $ split t $ split t $ move t (2 ∷ []) $ k ν))

  pub shared_back : K → Soaks G → (R : RattleType) (n : ℕ) (xs : List R.Denot) (b o : ℕ) → length xs ≡ n → {ν : ℕ}
      → ((vs : List Val) → Seq K 𝓛 (‵ (cell_at full_share (Array R n).mir vs b o) ∷ ‵ ((Array R n).own_val xs vs) ∷ Γ) G)
      → Seq K 𝓛 (‵ (flft (ν ∷ []) full_share) ∷ ‵ (flent (ν ∷ []) ((arr_parts (shares R) (length xs)).part full_share xs b o)) ∷ Γ) G
  shared_back t z R n xs b o e k = lft_end t z $ lent_back t z $ fsplit t $ drop t $ again t R n xs e b o k

-- ---- the end of every such proof

pub meets : {M : Type 1} {𝓤 : Ura M} (𝓛 : Logic 𝓤) (T : Ended) (hs : Stays T.signature.params T.kept) → AllGo 𝓛 T.signature.lifetimes T.signature.params T.kept hs
    → (c : Clauses 𝓤 T) (function : Fn) (𝓣 : Tables 𝓤 𝓛.H) → Walks 𝓛 T hs (WpFn 𝓤 𝓛.H 𝓣.C 𝓣.Λ function) c → Meets 𝓛 T.signature (WpFn 𝓤 𝓛.H 𝓣.C 𝓣.Λ function) (closing 𝓛 T c)
meets {𝓤 = 𝓤} 𝓛 T hs go c function 𝓣 walks = walk_Meets 𝓛 T hs go c (WpFn 𝓤 𝓛.H 𝓣.C 𝓣.Λ function) (WpFn-mono 𝓤 𝓛.H 𝓛.laws 𝓣 function) walks
