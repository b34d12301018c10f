-- The layout of a block, its room cut in two, and the machine values of its owners. Assumes `Logic`.
use Rattle.std.proofs.Common.{◌≡◌, ℕ, zero, suc, ◌+◌, ◌*◌, ◌/◌, ◌^◌, ◌<◌, ◌≤◌, List, [], ◌∷◌, ◌++◌, refl, sym, ap, subst, ◌∙◌, arith, add-zero}
use Prim.Native.Nat.{max}
use seplogic.Ra.Ura.{Ura}
use mir.Syntax.{ty_array, Ty, Tys, Width, w8, w16, w32, w64, w128, ty_int, tcons, tnil}
use mir.Val.{Val, bytes, vptr, vstruct, vcons, vnil, of_list}
use prog.Memory.{size, align, up, capped}
use prog.RawLaws.{size-raw, align-raw}
use prog.Capped.{capped_is, capped_small}
use prog.Align.{align_w, align-bytes}
use prog.Model.{rooms_at}
use base.Logic.{SProp, ent, sep, wand, emp, apply∗}
use base.Fml.{Fml, ftrue, froom}
use types.Logic.{Logic, sem}
use types.Kit.{Goal, Step, step, Seq, Item, ‵, raw, ◌⊛◌, ◌$◌, ◌∵◌, !, qed, by, move, keep, drop, use1, split, split3, rewrite, fsplit, fjoin, flt_l, flt_i, assume, frame, group}
use denote.RattleType.{RattleType}
use denote.Memory.{lone}
use denote.RawPtr.{Ptr, RawPtr, block_ptr, ptr_val}
use denote.Shadow.{shadow, makes_shadow}
use denote.Steps.{nothing}
use denote.Struct.Struct.{Struct}
use mir.Syntax.{ty_ptr}
use mir.Val.{vint}
use base.Fml.{Lft, Share, flft, fat}
use types.Kit.{Soaks, feq_l, feq_i}
use denote.Memory.{cell_at, part_at, hidden_shr}
use denote.Copied.{plain_Copied, uint_Copied}
use denote.RawPtr.{coded_ptr, ptr_own, rawptr_pure}
use denote.Opens.{Shut, hide}
use denote.Steps.{looks, shuts}
use denote.Struct.Laws.{RawPtr-laws}
use denote.Struct.Lending.{lent_at}
use denote.Signature.{Slot, plain}
use denote.Builtin.{unit, usize}
use mir.Syntax.{Body}
use prog.Wp.{Env, Calls, Loops, Wp, after_seq, after_block}
use types.Kit.{Post, any_q, post}
use Rattle.std.specs.Mem.{type_size}
use Rattle.std.specs.Align.{type_align}
use Rattle.pw_base.specs.Block.{block_bytes, elements_type, block_type, fit, two_rooms, rejoins}

-- a struct by its fields alone: what it owns does not read its name
abbrev pub plainly : List RattleType → RattleType
plainly Rs = Struct (record { name = []; args = []; types = []; fields = Rs })

-- a pointer and a marker without bytes
abbrev pub owner_val : Ptr → Val
owner_val p = vstruct (vcons (ptr_val p) (vcons (vstruct vnil) vnil))

abbrev pub owner_own : Ptr → List Val → Fml
owner_own p = (plainly (RawPtr ∷ plainly [] ∷ [])).own_val (p, (tt, tt))

pub owner_told : (p : Ptr) (vs : List Val) → shadow (owner_own p vs) → vs ≡ owner_val p ∷ []
owner_told p vs s = s.1.0 ∙ (λ i. vstruct (of_list (s.1.1.0 i ++ (s.1.1.1.0.1.0 i ++ []))) ∷ [])

pub owner_made : {M : Type 1} {𝓤 : Ura M} (𝓛 : Logic 𝓤) (p : Ptr) → ent 𝓤 (emp 𝓤) (sem 𝓛 (owner_own p (owner_val p ∷ [])))
owner_made 𝓛 p = makes_shadow 𝓛 (owner_own p (owner_val p ∷ [])) (λ _. (tt, (tt, ((λ _. (tt, tt)), tt)))) ((ptr_val p ∷ [], (vstruct vnil ∷ [], tt)), (refl, (refl, ((tt, (refl, tt)), tt))))

at_width : (w : Width) → bytes w ≤ 8 → (max 8 (max (bytes w) 1) ≡ 8) × (up (bytes w) 8 ≡ 8)
at_width w8 le = (refl, refl)
at_width w16 le = (refl, refl)
at_width w32 le = (refl, refl)
at_width w64 le = (refl, refl)
at_width w128 le = absurd (omega arith)

width_small : (w : Width) → bytes w < 2 ^ 64
width_small w8 = omega arith
width_small w16 = omega arith
width_small w32 = omega arith
width_small w64 = omega arith
width_small w128 = omega arith

-- what `size_of` and `align_of` give is the type's own
pub size_as_told : (τ : Ty) → capped (size τ) < 2 ^ 63 → capped (size τ) ≡ size τ
size_as_told τ small = let short = capped_small (size τ) (omega arith) in capped_is (size τ) (omega arith)

pub align_as_told : (τ : Ty) → capped (align τ) ≡ align τ
align_as_told τ = capped_is (align τ) (subst (λ (a : ℕ). a < 2 ^ 64) (sym (align-bytes τ)) (width_small (align_w τ)))

pub low_align : (τ : Ty) → align τ ≤ 8 → (max 8 (max (align τ) 1) ≡ 8) × (up (align τ) 8 ≡ 8)
low_align τ le = subst (λ (a : ℕ). (max 8 (max a 1) ≡ 8) × (up a 8 ≡ 8)) (sym (align-bytes τ)) (at_width (align_w τ) (subst (λ (a : ℕ). a ≤ 8) (align-bytes τ) le))

pub bytes_small : (R : RattleType) (n : ℕ) → n * type_size R + 16 < 2 ^ 63 → block_bytes R n < 2 ^ 63
bytes_small R n small = omega (arith, small)

module _ (R : RattleType) (n : ℕ) (low : type_align R ≤ 8) where
  abbrev τ : Ty
  τ = lone R.mir

  abbrev σ : Ty
  σ = elements_type R n

  -- what stands before the elements is a multiple of their alignment
  laid : (max 8 (max (align σ) 1) ≡ 8) × (up (align σ) 8 ≡ 8)
  laid = low_align σ (subst (λ (a : ℕ). a ≤ 8) (sym (align-raw (ty_array τ n))) low)

  pub block_align : align (block_type R n) ≡ 8
  block_align = laid.0

  pub block_size : size (block_type R n) ≡ block_bytes R n
  block_size = (λ i. up (laid.0 i) (laid.1 i + size-raw (ty_array τ n) i)) ∙ rounds (n * size τ)
    where
      rounds : (x : ℕ) → up 8 (8 + x) ≡ (x + 15) / 8 * 8
      rounds x = omega arith

  module _ {M : Type 1} {𝓤 : Ura M} (𝓛 : Logic 𝓤) (b o : ℕ) where
    open 𝓛 use {H}

    abbrev p : Ptr
    p = block_ptr b o

    abbrev fields : Tys
    fields = tcons (ty_int w64) (tcons (elements_type R n) tnil)

    pub block_cut : ent 𝓤 (H.room (block_type R n) b o) (sep 𝓤 (sem 𝓛 (two_rooms R p n)) (sem 𝓛 (rejoins R p n)))
    block_cut =
        let far : o + up (align σ) 8 ≡ o + 8 = ap (λ (k : ℕ). o + k) laid.1 in
        let near : o + 0 ≡ o = add-zero o in
        let Back : SProp 𝓤 = wand 𝓤 (rooms_at 𝓤 H fields 0 b o) (H.room (block_type R n) b o) in
        qed 𝓛 (‵ (froom (block_type R n) b o) ∷ []) ∵
        use1 𝓛 ((‵ (froom (ty_int w64) b (o + 0)) ⊛ ‵ (froom (elements_type R n) b (o + up (align σ) 8)) ⊛ ‵ ftrue) ⊛ raw Back) (𝓛.laws.room_fields [] fields b o) $ split ! $ split3 ! $
        rewrite ! 0 (λ (k : ℕ). ‵ (froom (ty_int w64) b k)) near refl $ rewrite ! 1 (λ (k : ℕ). ‵ (froom (elements_type R n) b k)) far refl $ fjoin ! $ frame ! $
        keep ! (1 ∷ []) $ assume ! (‵ (two_rooms R p n)) $ fsplit ! $
        rewrite ! 0 (λ (k : ℕ). ‵ (froom (ty_int w64) b k)) (sym near) refl $ rewrite ! 1 (λ (k : ℕ). ‵ (froom (elements_type R n) b k)) (sym far) refl $
        nothing ! $ move ! (1 ∷ 2 ∷ 0 ∷ []) $ group ! 3 $ by ! (apply∗ 𝓤 (rooms_at 𝓤 H fields 0 b o) (H.room (block_type R n) b o))

    pub block_glue : ent 𝓤 (sep 𝓤 (sem 𝓛 (two_rooms R p n)) (sem 𝓛 (rejoins R p n))) (H.room (block_type R n) b o)
    block_glue = apply∗ 𝓤 (sem 𝓛 (two_rooms R p n)) (H.room (block_type R n) b o)

module _ {M : Type 1} {𝓤 : Ura M} {𝓛 : Logic 𝓤} {K : Type 0} {Γ : List (Item 𝓤)} {G : Goal 𝓤 𝓛.H} (R : RattleType) (p : Ptr) (n : ℕ) where
  pub fit_out : K → (F : Fml) → (n * type_size R + 16 < 2 ^ 63 → type_align R ≤ 8 → Seq K 𝓛 (‵ F ∷ Γ) G) → Seq K 𝓛 (‵ (fit R p n F) ∷ Γ) G
  fit_out t F k = fsplit t $ flt_l t (λ small. fsplit t $ move t (1 ∷ []) $ flt_l t (λ low. k small (omega arith)))

  pub fit_in : K → (F : Fml) → n * type_size R + 16 < 2 ^ 63 → type_align R ≤ 8 → Step K 𝓛 (‵ (fit R p n F) ∷ Γ) G (‵ F ∷ Γ) G
  fit_in t F small low = step (λ s. flt_i t (type_align R) 9 (omega arith) $ move t (1 ∷ 0 ∷ []) $ fjoin t $ flt_i t (n * type_size R + 16) (2 ^ 63) small $ fjoin t $ s)

-- the parts of a body, and what follows a part
abbrev pub slot_at : {n : ℕ} → ℕ → List (Slot n) → Slot n
slot_at k [] = plain (λ _. unit)
slot_at zero (s ∷ ss) = s
slot_at (suc k) (s ∷ ss) = slot_at k ss

module _ {M : Type 1} {𝓤 : Ura M} (𝓛 : Logic 𝓤) where
  open 𝓛 use {H}

  abbrev pub then_runs : Calls 𝓤 H → Loops 𝓤 H → Env 𝓤 H → Body → Post 𝓤 H → Post 𝓤 H
  then_runs C Λ E b q = any_q (after_seq 𝓤 H (Wp 𝓤 H C Λ E b (post 𝓤 H q)) (post 𝓤 H q))

  abbrev pub out_of_block : Post 𝓤 H → Post 𝓤 H
  out_of_block q = any_q (after_block 𝓤 H (post 𝓤 H q))

module _ {M : Type 1} {𝓤 : Ura M} {𝓛 : Logic 𝓤} {K : Type 0} {Γ : List (Item 𝓤)} {G : Goal 𝓤 𝓛.H} where
  -- a pointer, and a word behind a pointer, are read through a `&`. [the cell; the way back]
  pub pointer_in : K → Soaks G → {κ : Lft} {q : Share} (b o rb at : ℕ)
      → ((q' : Share) → Seq K 𝓛 (‵ (fat q' ty_ptr rb at (vptr b o)) ∷ Shut 𝓛 κ q (part_at RawPtr q' (block_ptr b o) rb at) ∷ Γ) G)
      → Seq K 𝓛 (‵ (hidden_shr RawPtr κ (block_ptr b o) rb at) ∷ ‵ (flft κ q) ∷ Γ) G
  pointer_in t z {κ} {q} b o rb at k =
      looks t z RawPtr (plain_Copied 𝓛 Ptr coded_ptr (ty_ptr ∷ []) ptr_own rawptr_pure ptr_val RawPtr-laws.tells).opens (block_ptr b o) rb at (λ q' vs. move t (1 ∷ []) $ feq_l t (λ e.
      rewrite t 0 (λ (us : List Val). ‵ (cell_at q' RawPtr.mir us rb at)) e refl $ move t (2 ∷ []) $ drop t $ k q'))

  pub pointer_out : K → Soaks G → {κ : Lft} {q q' : Share} (b o rb at : ℕ)
      → Step K 𝓛 (‵ (flft κ q) ∷ Γ) G (‵ (fat q' ty_ptr rb at (vptr b o)) ∷ Shut 𝓛 κ q (part_at RawPtr q' (block_ptr b o) rb at) ∷ Γ) G
  pointer_out t z {q' = q'} b o rb at = step (λ s.
      feq_i t (List Val) (vptr b o ∷ []) (vptr b o ∷ []) refl $ move t (1 ∷ 0 ∷ []) $ shuts t z RawPtr q' (block_ptr b o) (vptr b o ∷ []) rb at $ s)

  pub word_in : K → Soaks G → {κ : Lft} {q : Share} (n b at : ℕ)
      → ((q' : Share) → n < 2 ^ 64 → Seq K 𝓛 (‵ (fat q' (ty_int w64) b at (vint w64 n)) ∷ Shut 𝓛 κ q (part_at usize q' n b at) ∷ Γ) G)
      → Seq K 𝓛 (‵ (lent_at usize (block_ptr b at) n κ) ∷ ‵ (flft κ q) ∷ Γ) G
  word_in t z {κ} {q} n b at k =
      fsplit t $ drop t $ hide t $ looks t z usize (uint_Copied 𝓛 w64).opens n b at (λ q' vs. move t (1 ∷ []) $ fsplit t $ feq_l t (λ e. flt_l t (λ fn.
      rewrite t 0 (λ (us : List Val). ‵ (cell_at q' usize.mir us b at)) e refl $ move t (2 ∷ []) $ drop t $ k q' fn)))

  pub word_out : K → Soaks G → {κ : Lft} {q q' : Share} (n b at : ℕ) → n < 2 ^ 64
      → Step K 𝓛 (‵ (flft κ q) ∷ Γ) G (‵ (fat q' (ty_int w64) b at (vint w64 n)) ∷ Shut 𝓛 κ q (part_at usize q' n b at) ∷ Γ) G
  word_out t z {q' = q'} n b at fn = step (λ s.
      flt_i t n (2 ^ 64) fn $ feq_i t (List Val) (vint w64 n ∷ []) (vint w64 n ∷ []) refl $ fjoin t $ move t (1 ∷ 0 ∷ []) $ shuts t z usize q' n (vint w64 n ∷ []) b at $ s)
