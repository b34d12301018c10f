-- The machine value of a place, and what it owns, taken apart and put together.
use Rattle.std.proofs.Common.{◌≡◌, ℕ, List, [], ◌∷◌, ◌++◌, refl, subst}
use mathlib.Core.Bool.{Bool, true, false}
use seplogic.Ra.Ura.{Ura}
use mir.Raw.{raw as bare}
use mir.Val.{Val, vptr, vstruct, vcons, vnil, of_list}
use base.Logic.{never, fst∗}
use types.Logic.{Logic, sem}
use types.Kit.{Item, Goal, Seq, Step, step, ‵, ◌$◌, drop, fsplit, fjoin, fpick, fpack, rewrite, feq_i, feq_l}
use denote.RattleType.{RattleType, Valss}
use denote.Builtin.{RawPtr}
use denote.Memory.{lone}
use denote.RawPtr.{Ptr, block_ptr, null_ptr, ptr_val, in_a_block}
use denote.Steps.{nothing}
use denote.Struct.Struct.{within}
use denote.Struct.Owning.{shape}
use Rattle.std_alloc.specs.Box.Ownership.{box_owns}
use Rattle.pw_handles.specs.Handles.{held, to_free}
use Rattle.pw_handles.specs.declared.kept.Kept.TheVariants.{Nothing}
use Rattle.pw_handles.specs.contracts.kept.Kept as thing
use Rattle.pw_handles.specs.contracts.place.Place as place

abbrev pub alone : Val → Val
alone v = vstruct (vcons v vnil)

abbrev pub R : RattleType
R = thing.the_row

abbrev pub P : RattleType
P = place.the_row

module _ {M : Type 1} {𝓤 : Ura M} {𝓛 : Logic 𝓤} {K : Type 0} {Γ : List (Item 𝓤)} {G : Goal 𝓤 𝓛.H} where
  pub place_out : K → (d : P.Denot) (vs : List Val) → d.full ≡ true
      → ((b o : ℕ) → d.at ≡ block_ptr b o → vs ≡ alone (vptr b o) ∷ [] → Seq K 𝓛 (‵ (box_owns to_free R (block_ptr b o) d.value) ∷ Γ) G)
      → Seq K 𝓛 (‵ (P.own_val d vs) ∷ Γ) G
  place_out t d vs full k =
      fsplit t $ fpick t (λ vss. fsplit t $ feq_l t (λ ev. fsplit t $ feq_l t (λ ep. drop t $
      rewrite t 0 (λ (x : Bool). ‵ (held x d.at d.value)) full refl $
      in_a_block t d.at (λ p. box_owns to_free R p d.value) (fst∗ 𝓤 (never 𝓤) (sem 𝓛 (to_free (bare (lone R.mir)) null_ptr))) (λ b o e. k b o e
      (subst (λ (p : Ptr). vs ≡ vstruct (of_list (ptr_val p ∷ [])) ∷ []) e
      (subst (λ (ps : List Val). vs ≡ vstruct (of_list (ps ++ [])) ∷ []) ep ev))))))

  pub place_in : K → (b o : ℕ) (x : R.Denot)
      → Step K 𝓛 (‵ (P.own_val (record { at = block_ptr b o; full = true; value = x }) (alone (vptr b o) ∷ [])) ∷ Γ) G (‵ (box_owns to_free R (block_ptr b o) x) ∷ Γ) G
  place_in t b o x = step (λ s. let v : Val = alone (vptr b o) in
      nothing t $ feq_i t (List Val) (vptr b o ∷ []) (vptr b o ∷ []) refl $ fjoin t $ feq_i t (List Val) (v ∷ []) (v ∷ []) refl $ fjoin t $
      fpack t (Valss (RawPtr ∷ [])) (within (shape place.the_type) (block_ptr b o, tt) (v ∷ [])) (vptr b o ∷ [], tt) $ fjoin t $ s)

  pub nowhere_in : K
      → Step K 𝓛 (‵ (P.own_val (record { at = null_ptr; full = false; value = Nothing }) (alone (ptr_val null_ptr) ∷ [])) ∷ Γ) G Γ G
  nowhere_in t = step (λ s. let v : Val = alone (ptr_val null_ptr) in
      nothing t $ nothing t $ feq_i t (List Val) (ptr_val null_ptr ∷ []) (ptr_val null_ptr ∷ []) refl $ fjoin t $ feq_i t (List Val) (v ∷ []) (v ∷ []) refl $ fjoin t $
      fpack t (Valss (RawPtr ∷ [])) (within (shape place.the_type) (null_ptr, tt) (v ∷ [])) (ptr_val null_ptr ∷ [], tt) $ fjoin t $ s)
