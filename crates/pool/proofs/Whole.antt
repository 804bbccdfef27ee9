-- The pool as one array of 64 messages: its type, the machine value of a list, and the laws of both that a walk asks for.
use mathlib.Core.Path.{◌≡◌, sym, subst}
use mathlib.Core.List.{[], ◌∷◌, List, map}
use lib.Dec.{T as Holds, lit<}
use lib.ListN.{length}
use seplogic.Ra.Ura.{Ura}
use mir.Syntax.{Ty, ty_array}
use mir.Val.{Val, WT, has_ty}
use types.Logic.{Logic}
use denote.RattleType.{RattleType}
use denote.Array.{Array, array_val, array_vals, Array-Tells, Array-Lawful, Array-Makes}
use denote.Laws.{Is, Tells, Makes}
use denote.Slice.{Room}
use denote.Struct.Laws as LL
use Rattle.table.specs.declared.data.Message.{Message}
use Rattle.table.specs.contracts.data.Message as T
use Rattle.table.proofs.data.Message.TheLaws as T'

abbrev pub Pool : RattleType
Pool = Array T.the_row 64

abbrev pub pool_mir : Ty
pool_mir = ty_array T'.mir 64

abbrev pub mach : List Message → Val
mach ys = array_val (map (LL.val T.the_type T'.the_laws) ys)

abbrev pub vals : List Message → List Val
vals = array_vals (LL.vals T.the_type T'.the_laws)

pub tells : Tells Pool (Is Pool) vals
tells = Array-Tells T.the_row (LL.vals T.the_type T'.the_laws) (LL.tells T.the_type T'.the_laws) 64

-- there are 64, so they have room
pub count : (ys : List Message) (vs : List Val) → Is Pool ys vs → length ys ≡ 64
count ys vs is = is.1.0.1

pub room : (ys : List Message) (vs : List Val) → Is Pool ys vs → Room T.the_row (length ys)
room ys vs is = subst (Room T.the_row) (sym (count ys vs is)) (lit< tt, lit< tt)

module _ {M : Type 1} {𝓤 : Ura M} (𝓛 : Logic 𝓤) where
  pub makes : Makes 𝓛 Pool (Is Pool)
  makes = Array-Makes 𝓛 T.the_row (LL.makes T.the_type T'.the_plain 𝓛) 64

  pub typed : (ys : List Message) (v : Val) → Is Pool ys (v ∷ []) → Holds (has_ty pool_mir v) × WT v
  typed ys v is = ((Array-Lawful 𝓛 T.the_row (LL.lawful T.the_type T'.the_laws 𝓛) 64).typed ys _ is).0
