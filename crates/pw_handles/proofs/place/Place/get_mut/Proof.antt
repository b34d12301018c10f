-- `get_mut` lends what a full place owns, and the place follows it.
use mathlib.Core.Path.{◌≡◌, refl, sym}
use mathlib.Core.List.{List, [], ◌∷◌}
use mathlib.Core.Bool.{Bool, true}
use Prim.Native.Nat.{ℕ}
use seplogic.Ra.Ura.{Ura}
use base.Fraction.{full_share}
use base.Fml.{GName, Fml, ftrue, fsep, flft}
use base.Logic.{SProp, ent, sep}
use mir.Raw.{raw as bare}
use mir.Syntax.{named}
use mir.Val.{Val, vptr}
use prog.Memory.{Memory}
use prog.Routine.{Routine}
use prog.Wp.{Env, WpFn, Tables}
use types.Logic.{Logic, sem}
use contract.Monad.{Fun, fact}
use contract.Running.{tables, tables_of}
use sound.WpLaws.{WpFn-mono}
use types.Kit.{‵, raw, ◌⊛◌, some, later, at_ret, ◌$◌, ◌∵◌, !, qed, by, move, keep, use1, split, join, pick, rewrite, fsplit, fsplit3, fjoin, fpack, suffices, frame, await, group, done}
use types.Part.{whole, sub, look_in}
use types.Run.{stop, fld, load, addr, of_opd, first, blocks, exec, returns, enter}
use types.ByLocal.{alloc_all, pass_all, free_all, look_at, get, through, sets, sets_last, env}
use denote.Builtin.{RefMutOf}
use denote.Exit.{no}
use denote.Follow.{follows, Part, lends_Part}
use denote.Memory.{cell_at, part_at, part_of, mem, lone}
use denote.RattleType.{owns}
use denote.RawPtr.{Ptr, block_ptr}
use denote.Ref.{MutBor, MutRef, mut_vals, mut_Tells}
use denote.Signature.{plain, types_at}
use denote.Steps.{heard, nothing, opens}
use denote.Triple.Clauses.{Clauses, closing}
use denote.Triple.Spec.{Meets, triple_of}
use denote.Triple.Table.{entered}
use denote.Triple.Walked.{says, Stays, stay_dropped, walk_of, ends_at, walked, Goes-spent_ref, walk_Meets}
use Rattle.std_alloc.proofs.VecSteps.Shapes.{after}
use Rattle.pw_handles.specs.Handles.{to_free}
use Rattle.pw_handles.specs.Lending.{with_value}
use Rattle.pw_handles.proofs.Places.{alone, place_in, place_out, P, R}
use Rattle.pw_handles.specs.contracts.place.Place.get_mut as F
use Rattle.pw_handles.specs.contracts.place.Place.get_mut.Key.{name as #self}
use Rattle.pw_handles.proofs.place.Place.get_mut.Statement as stated
use Rattle.pw_handles.proofs.place.Place.get_mut.Code as code

abbrev stayed : Stays (F.ended).signature.params (F.ended).kept
stayed = (stay_dropped (RefMutOf (0 ∷ []) tt (plain (λ _. P)) (λ _. tt)) no, tt)

module _ {M : Type 1} {𝓤 : Ura M} (𝓛 : Logic 𝓤) (rb ro b o : ℕ) (h : P.Denot) where
  -- all of the place but the value
  abbrev Rest : Fml
  Rest = fsep (to_free (bare (lone R.mir)) (block_ptr b o)) (cell_at full_share P.mir (alone (vptr b o) ∷ []) rb ro)

  back : h.at ≡ block_ptr b o → h.full ≡ true → (w : R.Denot)
      → ent 𝓤 (sep 𝓤 (sem 𝓛 ((mem R).own_at w b o)) (sem 𝓛 Rest)) (sem 𝓛 ((mem P).own_at (with_value h w) rb ro))
  unfolding part_of
  back at_b full w =
      qed 𝓛 (‵ (part_at R full_share w b o) ∷ ‵ Rest ∷ []) ∵ move ! (1 ∷ []) $ fsplit ! $ move ! (2 ∷ 0 ∷ []) $ fjoin ! $ place_in ! b o w $
      rewrite ! 0 (λ (p : Ptr). ‵ (P.own_val (record { at = p; full = true; value = w }) (alone (vptr b o) ∷ []))) (sym at_b) refl $
      rewrite ! 0 (λ (x : Bool). ‵ (P.own_val (record { at = h.at; full = x; value = w }) (alone (vptr b o) ∷ []))) (sym full) refl $
      move ! (1 ∷ 0 ∷ []) $ fjoin ! $ fpack ! (List Val) (λ us. fsep (cell_at full_share P.mir us rb ro) (P.own_val (with_value h w) us)) (alone (vptr b o) ∷ []) $ done !

module _ {M : Type 1} {𝓤 : Ura M} (𝓛 : Logic 𝓤) (at_mem : Memory → SProp 𝓤) (run : Routine → Fun 𝓤) (𝓣 : Tables 𝓤 𝓛.H) where
  open 𝓛 use {H, A}

  abbrev held : Clauses 𝓤 (F.ended)
  held = F.clauses 𝓛 at_mem run

  abbrev Bound : Type 0
  Bound = (walk_of 𝓛 F.ended stayed held).Ghost

  abbrev spelled : Bound → Bound
  spelled z = ((z.0.0, z.0.1, z.0.2, z.0.3, (mut_vals z.0.3.0, tt)), z.1)

  abbrev Post : Bound → Val → SProp 𝓤
  Post z = (walk_of 𝓛 F.ended stayed held).post (spelled z)

  exits : (z : Bound) (b o : ℕ) (γ : GName)
      → ent 𝓤 (sep 𝓤 (sem 𝓛 ((MutRef (named 0) z.0.0.0 R).own_val (record { ref_ptr = (b, o); ghost_name = γ; now = z.0.3.0.now.value }) (vptr b o ∷ [])))
      (sep 𝓤 (A.lft z.0.0.0 z.0.1.0) (sem 𝓛 (follows P R z.0.3.0.ghost_name γ (with_value z.0.3.0.now))))) (Post z (vptr b o))
  exits z b o γ =
      let r : MutBor R.Denot = record { ref_ptr = (b, o); ghost_name = γ; now = z.0.3.0.now.value } in
      qed 𝓛 (‵ ((MutRef (named 0) z.0.0.0 R).own_val r (vptr b o ∷ [])) ∷ ‵ (flft z.0.0.0 z.0.1.0) ∷ ‵ (follows P R z.0.3.0.ghost_name γ (with_value z.0.3.0.now)) ∷ []) ∵
      suffices ! _ (ends_at 𝓛 F.ended stayed held (spelled z) (vptr b o) r (tt, tt) (tt, tt)) $
      nothing ! $ nothing ! $ fjoin ! $ join ! $ nothing ! $ move ! (2 ∷ 0 ∷ []) $ join ! $ join ! $ frame ! $ says ! refl $ done !

  walk : (z : Bound) → ent 𝓤 ((walk_of 𝓛 F.ended stayed held).pre (spelled z)) (WpFn 𝓤 H 𝓣.C 𝓣.Λ code.function (mut_vals z.0.3.0) (Post z))
  walk z =
      let κ = z.0.0.0 in let q = z.0.1.0 in
      let rb : ℕ = z.0.3.0.ref_ptr.0 in let ro : ℕ = z.0.3.0.ref_ptr.1 in let γ : GName = z.0.3.0.ghost_name in let h : P.Denot = z.0.3.0.now in
      qed 𝓛 (((‵ (flft κ q) ⊛ ‵ ftrue) ⊛ ‵ (owns (types_at (F.ended).signature.params z.0.0) z.0.3 (spelled z).0.4)) ∷ raw (fact 𝓤 (h.full ≡ true)) ∷ []) ∵
      move ! (1 ∷ []) $ heard ! (h.full ≡ true) (λ full.
      split ! $ split ! $ move ! (2 ∷ []) $ fsplit ! $ fsplit3 ! $ keep ! (1 ∷ 2 ∷ 4 ∷ []) $
      enter ! 𝓣.C 𝓣.Λ code.function (vptr rb ro ∷ []) _ $ alloc_all ! (λ l. pass_all ! refl ((tt, tt), tt) $
      let En : Env 𝓤 H = env (code.function).locals l in
      opens ! tt P {h = h} rb ro (λ vs. move ! (1 ∷ []) $ place_out ! h vs full (λ b o at_b ws. fsplit ! $
      rewrite ! 2 (λ (us : List Val). ‵ (cell_at full_share P.mir us rb ro)) ws refl $
      -- [the value; the right to free its block; the pointer; the open borrow; obs; auth]
      first ! $ blocks ! $ sets ! (of_opd ! (load ! (through ! refl (fld ! refl (stop !))) (look_in ! 2 (sub ! 0 refl (whole !))))) refl (tt, tt) $
      sets ! (of_opd ! (get ! refl)) refl (tt, tt) $ sets_last ! (addr ! (through ! refl (stop !))) refl (tt, tt) $
      exec ! 𝓣.C 𝓣.Λ En (after 1 (code.function).body) (at_ret En (Post z)) $ sets ! (of_opd ! (get ! refl)) refl (tt, tt) $
      move ! (1 ∷ 2 ∷ []) $ fjoin ! $ move ! (2 ∷ 3 ∷ 4 ∷ 1 ∷ 0 ∷ []) $ group ! 5 $
      use1 𝓛 (later (some (λ (δ : GName). raw (Part 𝓛 P R (with_value h) (named 0) κ q rb ro b o γ (sem 𝓛 (Rest 𝓛 rb ro b o h)) (back 𝓛 rb ro b o h at_b full) h.value δ))))
      (lends_Part 𝓛 P R (with_value h) (named 0) κ q rb ro b o γ (sem 𝓛 (Rest 𝓛 rb ro b o h)) (back 𝓛 rb ro b o h at_b full) (P.coded.code h) (P.coded.code h) h.value) $ await ! tt $ pick ! (λ δ.
      returns ! (look_at ! 0 refl) $ free_all ! refl $ keep ! (0 ∷ []) $ by ! (exits z b o δ))))))

  meets : Meets 𝓛 (F.ended).signature (WpFn 𝓤 H 𝓣.C 𝓣.Λ code.function) (closing 𝓛 F.ended held)
  meets =
      walk_Meets 𝓛 F.ended stayed (Goes-spent_ref 𝓛 1 (0 ∷ []) tt (plain (λ _. P)), tt) held (WpFn 𝓤 H 𝓣.C 𝓣.Λ code.function) (WpFn-mono 𝓤 H 𝓛.laws 𝓣 code.function)
      (walked 𝓛 F.ended stayed held (WpFn 𝓤 H 𝓣.C 𝓣.Λ code.function) (λ κs. (mut_vals, tt)) (λ κs. (mut_Tells (named 0) κs.0 P, tt))
      (λ κs qs bounds a g are. walk ((κs, qs, bounds, a, (mut_vals a.0, tt)), g)))

pub get_mut_spec : {M : Type 1} → stated.statement M
unfolding tables_of
get_mut_spec 𝓤 𝓛 𝓜 𝓡 wired =
    let 𝓣 : Tables 𝓤 𝓛.H = tables_of 𝓤 𝓛.H 𝓜 (tables 𝓤 𝓛.H 𝓜 𝓡 𝓡.env) in
    entered 𝓤 𝓛.H (triple_of 𝓛 F.signature (F.spec 𝓛 𝓜.mem 𝓡.returns)) 𝓣.C 𝓣.Λ #self code.function (code.unfolded 𝓤 𝓛.H 𝓜 𝓡 wired) (meets 𝓛 𝓜.mem 𝓡.returns 𝓣)
