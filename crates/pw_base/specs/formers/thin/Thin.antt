-- `Thin` as a type that may hold the type that holds it.
use Rattle.std.specs.Prelude.{ℕ, ◌+◌, ◌*◌, ◌^◌, map, length}
use mathlib.Core.Path.{◌≡◌, refl, ◌∙◌}
use mathlib.Core.List.{List, []}
use mathlib.Core.Former.{Former, this, const, pair, list, via, children}
use lib.ListN.{length-map}
use base.Stored.{Gv, gcons}
use base.Fraction.{full_share}
use base.Fml.{Fml, fsep, flt, fwand}
use mir.Syntax.{Ty, w64, ty_int, ty_array, ty_struct, tcons, tnil}
use mir.Raw.{raw}
use prog.Memory.{size, align}
use denote.RattleType.{RattleType}
use denote.Array.{Array}
use denote.Builtin.{usize}
use denote.Memory.{lone}
use denote.RawPtr.{Ptr, null_ptr, lies_at, room_for, ◌+ₚ◌}
use denote.Sharing.{said, beside}
use denote.Struct.Lending.{lent_at}
use denote.Struct.Struct.{Struct}
use denote.Struct.Owning.{shape, to}
use denote.HoleLaws.{Alike}
use denote.HolePlaces.{Array-places}
use denote.Hole.Carrier.{listed, list-listed}
use denote.Param.Weighed.{Weighed, w_list}
use Rattle.std.specs.Mem.{type_size}
use Rattle.core.specs.declared.alloc.Allocator.{Ghosts}
use Rattle.core.specs.declared.marker.PhantomData.{PhantomData}
use Rattle.std_alloc.specs.Vec.Recursive.{lies_placed, lent_at_placed, codes_placed}
use Rattle.pw_base.specs.Block.{block_type, elements_type, thin_owns_at, thin_owns, thin_shares_at, thin_shares}
use Rattle.pw_base.specs.declared.thin.Thin.{Thin}
use Rattle.pw_base.specs.contracts.thin.Thin as C

abbrev Rest : Type 0 → Type 0
Rest H = Ptr × PhantomData Ptr × H

abbrev pub the_former : Former {0} → Type 0 → Former {0}
the_former g H = via (pair (const (Rest H)) (list g)) (λ X. Thin (g.Of X) H) (λ X t. ((t.ptr, t.by, t.heap), t.items))
    (λ X v. record { ptr = v.0.0; by = v.0.1; items = v.1; heap = v.0.2 }) (λ X t. refl) (λ X v. refl)

abbrev pub the_weighed : {g : Former {0}} → Weighed g → (H : Type 0) → Weighed (the_former g H)
the_weighed w H = record { weight = λ X μ t. (w_list w).weight X μ t.items; puts = λ X μ t. (w_list w).puts X μ t.items }

pub the_empty : (H : Type 0) → H → Thin ⊥ H
the_empty H heap = record { ptr = null_ptr; by = record {}; items = []; heap = heap }

abbrev pub the_items : (H X : Type 0) → Thin X H → List X
the_items H X t = t.items

pub the_items_listed : (H X : Type 0) (t : Thin X H) → listed _ (children (the_former this H) X t) ≡ the_items H X t
the_items_listed H X t = list-listed X t.items

first : {a b c : Gv} → a ≡ b → gcons a c ≡ gcons b c
first {c = c} e = λ i. gcons (e i) c

second : {a b c : Gv} → a ≡ b → gcons c a ≡ gcons c b
second {c = c} e = λ i. gcons c (e i)

module _ (R R' : RattleType) (h : R.Denot → R'.Denot) (a : Alike R R' h) where
  abbrev elements : (n : ℕ) → elements_type R' n ≡ elements_type R n
  elements n = λ i. raw (ty_array (lone (a.mir_same i)) n)

  abbrev block : (n : ℕ) → block_type R' n ≡ block_type R n
  block n = λ i. ty_struct [] (tcons (ty_int w64) (tcons (elements n i) tnil))

  abbrev size_same : (n : ℕ) → flt (n * type_size R' + 16) (2 ^ 63) ≡ flt (n * type_size R + 16) (2 ^ 63)
  size_same n = λ i. flt (n * size (lone (a.mir_same i)) + 16) (2 ^ 63)

  owns_at_placed : (t : Ty → Ptr → Fml) (p : Ptr) (n : ℕ) (xs : List R.Denot) → thin_owns_at R' p n (map h xs) t ≡ thin_owns_at R p n xs t
  owns_at_placed t p n xs = λ i. fsep (size_same n i) (fsep
      (fsep (fsep (lies_at usize full_share p n) (lies_placed (Array R n) (Array R' n) (map h) (Array-places R R' h a n) full_share
      (p +ₚ 8) xs i))
      (fsep (fwand (fsep (room_for (ty_int w64) p) (room_for (elements n i) (p +ₚ 8))) (room_for (block n i) p)) (t (block n i) p)))
      (flt (align (lone (a.mir_same i))) 9))

  owns_placed : (t : Ty → Ptr → Fml) (p : Ptr) (xs : List R.Denot) → thin_owns t R' p (map h xs) ≡ thin_owns t R p xs
  owns_placed t p xs = (λ i. thin_owns_at R' p (length-map xs h i) (map h xs) t) ∙ owns_at_placed t p (length xs) xs

  shares_at_placed : (p : Ptr) (n : ℕ) (xs : List R.Denot) → thin_shares_at R' p n (map h xs) ≡ thin_shares_at R p n xs
  shares_at_placed p n xs = λ
      i. beside (said (size_same n i))
      (beside (lent_at usize p n) (lent_at_placed (Array R n) (Array R' n) (map h) (Array-places R R' h a n) (p +ₚ 8) xs i))

  shares_placed : (p : Ptr) (xs : List R.Denot) → thin_shares R' p (map h xs) ≡ thin_shares R p xs
  shares_placed p xs = (λ i. thin_shares_at R' p (length-map xs h i) (map h xs)) ∙ shares_at_placed p (length xs) xs

module _ (A : RattleType) (G : Ghosts A.Denot) (R R' : RattleType) (h : R.Denot → R'.Denot) where
  pub the_places : Alike R R' h → Alike (C.the_row R A G) (C.the_row R' A G) ((the_former this A.Denot).map R.Denot R'.Denot h)
  the_places a = record {
    mir_same = refl;
    own_same = λ t i vs. fsep ((Struct (shape (C.the_type R A G))).own_val (to (C.the_type R A G) t) vs)
        (owns_placed R R' h a (G.dealloc_token t.heap) t.ptr t.items i);
    shr_same = λ t i b o. beside ((Struct (shape (C.the_type R A G))).shr_at (to (C.the_type R A G) t) b o)
        (shares_placed R R' h a t.ptr t.items i);
  }

  pub the_codes_placed : ((y : R.Denot) → R'.coded.code (h y) ≡ R.coded.code y) → (t : Thin R.Denot A.Denot)
      → (C.the_row R' A G).coded.code ((the_former this A.Denot).map R.Denot R'.Denot h t) ≡ (C.the_row R A G).coded.code t
  the_codes_placed e t = second (first (codes_placed R.coded.code R'.coded.code h e t.items))
