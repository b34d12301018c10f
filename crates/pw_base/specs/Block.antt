-- A block of a count and n elements of R behind it: how it is laid out, and what its owners own and lend. t is the right to free it.
use Rattle.std.specs.Prelude.{ℕ, ◌+◌, ◌*◌, ◌/◌, ◌^◌, ◌<◌, ◌≤◌, List, [], length}
use Rattle.std.specs.Mem.{type_size}
use Rattle.std.specs.Align.{type_align}
use mir.Syntax.{Ty, w64, ty_int, ty_array, ty_struct, tcons, tnil}
use mir.Raw.{raw}
use base.Fraction.{full_share}
use base.Fml.{Lft, Fml, fsep, flt, fwand}
use denote.RattleType.{RattleType}
use denote.Memory.{lone}
use denote.Builtin.{usize}
use denote.Array.{Array}
use denote.RawPtr.{Ptr, lies_at, room_for, ◌+ₚ◌}
use denote.Sharing.{said, beside}
use denote.Struct.Lending.{lent_at}

-- the elements take few enough bytes for a block, and are aligned no more than the count is
abbrev pub Fits : RattleType → ℕ → Type 0
Fits R n = (n * type_size R + 16 < 2 ^ 63) × (type_align R ≤ 8)

-- the bytes of the block: those of the count and of the elements, up to a multiple of the alignment
abbrev pub block_bytes : RattleType → ℕ → ℕ
block_bytes R n = (n * type_size R + 15) / 8 * 8

abbrev pub elements_type : RattleType → ℕ → Ty
elements_type R n = raw (ty_array (lone R.mir) n)

abbrev pub block_type : RattleType → ℕ → Ty
block_type R n = ty_struct [] (tcons (ty_int w64) (tcons (elements_type R n) tnil))

module _ (R : RattleType) (p : Ptr) (n : ℕ) where
  abbrev pub fit : Fml → Fml
  fit F = fsep (flt (n * type_size R + 16) (2 ^ 63)) (fsep F (flt (type_align R) 9))

  abbrev pub two_rooms : Fml
  two_rooms = fsep (room_for (ty_int w64) p) (room_for (elements_type R n) (p +ₚ 8))

  -- the two rooms are the block's again
  abbrev pub rejoins : Fml
  rejoins = fwand two_rooms (room_for (block_type R n) p)

  module _ (t : Ty → Ptr → Fml) where
    abbrev pub way_back : Fml
    way_back = fsep rejoins (t (block_type R n) p)

abbrev pub space_owns : (Ty → Ptr → Fml) → RattleType → Ptr → ℕ → Fml
space_owns t R p n = fit R p n (fsep (room_for (block_type R n) p) (t (block_type R n) p))

abbrev pub open_owns : (Ty → Ptr → Fml) → RattleType → Ptr → ℕ → Fml
open_owns t R p n = fit R p n (fsep (room_for (ty_int w64) p) (way_back R p n t))

module _ (R : RattleType) (p : Ptr) (n : ℕ) (xs : List R.Denot) where
  -- the count n, and the elements
  abbrev pub held : Fml
  held = fsep (lies_at usize full_share p n) (lies_at (Array R n) full_share (p +ₚ 8) xs)

  abbrev pub thin_owns_at : (Ty → Ptr → Fml) → Fml
  thin_owns_at t = fit R p n (fsep held (way_back R p n t))

  abbrev pub thin_shares_at : Lft → Fml
  thin_shares_at = beside (said (flt (n * type_size R + 16) (2 ^ 63))) (beside (lent_at usize p n) (lent_at (Array R n) (p +ₚ 8) xs))

abbrev pub thin_owns : (Ty → Ptr → Fml) → (R : RattleType) → Ptr → List R.Denot → Fml
thin_owns t R p xs = thin_owns_at R p (length xs) xs t

abbrev pub thin_shares : (R : RattleType) → Ptr → List R.Denot → Lft → Fml
thin_shares R p xs = thin_shares_at R p (length xs) xs
