-- A `&` to a block with its elements is made where one to an element is. It lends the bound on its size, the count and the elements. Assumes `Logic`.
use mathlib.Core.Path.{subst, sym}
use mathlib.Core.List.{List, [], ◌++◌}
use Prim.Native.Nat.{ℕ, ◌+◌, ◌*◌, ◌^◌}
use lib.ListN.{length}
use mir.Syntax.{Ty, w64}
use seplogic.Ra.Ura.{Ura}
use base.Fraction.{full_share}
use base.Fml.{Lft, Fml, fsep, flt, Incl, Incl-trans}
use types.Logic.{Logic}
use contract.BorrowLft.{meet_⊑_left, ⊑_static}
use denote.RattleType.{RattleType, RowLaws}
use denote.Array.{Array, Array-row_laws}
use denote.ArrayMemory.{Single}
use denote.Builtin.{usize}
use denote.Plain.{uint_row_laws}
use denote.Sharing.{ShrLaws, said, beside}
use denote.SharingLaws.{said_shr_laws, beside_shr_laws}
use denote.RawPtr.{Ptr, RawPtr, lies_at, ◌+ₚ◌}
use denote.Shares.{Shares-less, Shares-Array}
use denote.Param.Laws.{Laws}
use denote.Param.Shared.{copy_shared}
use denote.Struct.Field.{RawPtr-field, usize-field}
use denote.Struct.Laws.{RawPtr-copy, usize-copy, field_copy}
use denote.Struct.Lending.{lent_at, lent_at_shr_laws, Lends, Lends-lies, Lends-said, Lends-first, Lends-both, of_Lends}
use Rattle.std.specs.Mem.{type_size}
use Rattle.std.specs.Align.{type_align}
use Rattle.core.specs.declared.alloc.Allocator.{Ghosts}
use Rattle.core.specs.contracts.marker.PhantomData as marker
use Rattle.pw_base.specs.Block.{way_back, thin_owns, thin_shares}
use Rattle.pw_base.specs.contracts.thin.Thin as C
use Rattle.pw_base.proofs.thin.Thin.TheLaw.Statement.{statement}

lent_laws : (R : RattleType) → RowLaws R → (p : Ptr) (xs : List R.Denot) → ShrLaws (thin_shares R p xs)
lent_laws R L p xs =
    let n : ℕ = length xs in
    beside_shr_laws _ _ (said_shr_laws (flt (n * type_size R + 16) (2 ^ 63)) tt)
    (beside_shr_laws _ _ (lent_at_shr_laws usize (uint_row_laws w64) p n) (lent_at_shr_laws (Array R n) (Array-row_laws R L n) (p +ₚ 8) xs))

module _ {M : Type 1} {𝓤 : Ura M} (𝓛 : Logic 𝓤) (l : Lft) (R : RattleType) (L : Laws R) (inc : Incl l R.lives) (t : Ty → Ptr → Fml) where
  lends : (p : Ptr) (xs : List R.Denot) → Lends 𝓛 (thin_owns t R p xs) (thin_shares R p xs) l
  lends p xs =
      let n : ℕ = length xs in
      let small : Fml = flt (n * type_size R + 16) (2 ^ 63) in
      let items : Lft → Fml = lent_at (Array R n) (p +ₚ 8) xs in
      let both : Lft → Fml = beside (lent_at usize p n) items in
      let owned : Fml = fsep (lies_at usize full_share p n) (lies_at (Array R n) full_share (p +ₚ 8) xs) in
      Lends-both 𝓛 small _ (said small) both l (Lends-said 𝓛 small tt l)
      (Lends-first 𝓛 (fsep owned (way_back R p n t)) (flt (type_align R) 9) both l
      (Lends-first 𝓛 owned (way_back R p n t) both l
      (Lends-both 𝓛 (lies_at usize full_share p n) _ (lent_at usize p n) items l
      (Lends-lies 𝓛 usize l p n (Shares-less 𝓛 usize [] l (⊑_static l) ((copy_shared usize-field usize-copy).shares M 𝓤 𝓛) n))
      (Lends-lies 𝓛 (Array R n) l (p +ₚ 8) xs (Shares-Array 𝓛 R (subst Single (sym L.one) tt) n l (Shares-less 𝓛 R R.lives l inc (L.shares 𝓛)) xs)))))

pub shares : (R A : RattleType) (g : Ghosts A.Denot) (L : Laws R) (K : Laws A) → statement R A g L K
shares R A g L K =
    of_Lends (C.struct R A g) (C.the_codes R.Denot A.Denot R.coded A.coded (marker.the_row RawPtr).coded) (C.the_heap R A g) (C.the_lent R A g)
    (λ d p. lent_laws R L.shr_laws d.ptr d.items)
    (copy_shared RawPtr-field RawPtr-copy, (copy_shared (marker.the_field RawPtr) (field_copy (marker.the_type RawPtr) tt), tt))
    (λ M 𝓤 𝓛 d p. let l : Lft = (C.the_row R A g).lives in
    lends 𝓛 l R L (Incl-trans (meet_⊑_left (R.lives ++ (A.lives ++ [])) _) (meet_⊑_left R.lives (A.lives ++ []))) (g.dealloc_token d.heap) d.ptr d.items)
