-- `empty` makes room of the places, and of it and the count's the block's again. Assumes `Logic`.
use Rattle.std.proofs.Common.{◌≡◌, ℕ, ◌+◌, List, [], ◌∷◌, ◌++◌, refl, sym, ap, subst, ◌∙◌, w64}
use mir.Syntax.{Fn, Args, a_type, place, dcons, dnil, ty_int}
use mir.Val.{Val}
use mir.MapTy.{inst_fn}
use base.Logic.{SProp, emp, never, fst∗}
use types.Logic.{sem}
use base.Fml.{Lft, Share, ftrue, fsep, froom, flft}
use prog.Wp.{Env, WpFn}
use contract.BorrowLft.{◌⊑◌}
use contract.Monad.{fact, fact_i}
use contract.Running.{tables}
use types.Kit.{‵, raw, ◌⊛◌, given, later, prop, settles, at_ret, ◌$◌, ◌∵◌, !, qed, by, move, drop, use0, use1, use2, split, split3, join, learn, rewrite, regoal, fsplit, fjoin, await}
use types.Part.{whole, sub, agg}
use types.Run.{stop, fld, of_opd, no_more, and_then, first, blocks, exec, returns, enter}
use types.ByLocal.{alloc_all, pass_all, free_all, look_at, get, get_in, sets, lands_last, env}
use denote.RattleType.{RattleType, owns}
use denote.RawPtr.{◌+ₚ◌, Ptr, room_for, block_ptr, null_ptr, in_a_block}
use denote.Param.{param, bounded}
use denote.Signature.{types_at}
use denote.Steps.{nothing, heard}
use denote.Triple.Call.{calls_at_last}
use denote.Triple.Walked.{Stays, stay_dropped, walk_of}
use Rattle.core.proofs.alloc.Calls.{Goes-blank}
use Rattle.core.proofs.alloc.Shapes.{after}
use Rattle.core.proofs.atomic.Steps.{fm}
use Rattle.std_alloc.proofs.RawLayout.{as_raw}
use denote.Memory.{lone}
use mir.Syntax.{ty_array}
use Rattle.std.proofs.raw_atomic.Walks.{proved_at, leaves}
use Rattle.std_alloc.proofs.VecSteps.El.{El}
use Rattle.std_alloc.proofs.vec.Blocks.{el, all}
use Rattle.std_alloc.proofs.vec.Spares.{Row, Into, at_into, Into-goes, Into-gives}
use Rattle.core.proofs.slots.Opens.{words_val, row_val, row_had, row_made}
use Rattle.core.proofs.slots.Runs.{to_space}
use Rattle.core.proofs.slots.Slots.into_raw_parts.Met as callee
use Rattle.pw_base.proofs.ThinBlocks.{slot_at, then_runs, out_of_block, owner_val, owner_own, owner_told, owner_made, block_glue, fit_out, fit_in}
use Rattle.pw_base.specs.Block.{Fits, block_type, way_back, open_owns}
use Rattle.pw_base.specs.contracts.thin.Space as space
use Rattle.pw_base.specs.contracts.thin.Open.empty.{ended, clauses}
use Rattle.pw_base.specs.contracts.thin.Open.empty.Key.{name as #self}
use Rattle.pw_base.proofs.thin.Open.empty.Statement.{statement}
use Rattle.pw_base.proofs.thin.Open.empty.Code as compiled

pub empty_spec : {M : Type 1} → statement M
empty_spec 𝓤 𝓛 𝓜 𝓡 wired T A LT LA g d dd met md =
    let H = 𝓛.H in
    let En₀ = ended T A g d dd in
    let c = clauses T A g d dd 𝓛 𝓜.mem 𝓡.returns in
    let args : Args = bounded (a_type ∷ a_type ∷ []) (T, (A, tt)) (dcons d (dcons dd dnil)) in
    let fn : Fn = inst_fn args compiled.function in
    let ps = En₀.signature.params in
    let stays : Stays ps En₀.kept = (stay_dropped (slot_at 0 ps) En₀.kept.0, (stay_dropped (slot_at 1 ps) En₀.kept.1.0, tt)) in
    let C = (tables 𝓤 H 𝓜 𝓡 𝓡.env).C in
    let Λ = (tables 𝓤 H 𝓜 𝓡 𝓡.env).Λ in
    proved_at 𝓛 En₀ stays c 𝓜 𝓡 (Goes-blank 𝓛 2 (slot_at 0 ps) En₀.kept.0 (λ κs x f. tt), (Goes-blank 𝓛 2 (slot_at 1 ps) En₀.kept.1.0 (λ κs x f. tt), tt))
    (#self args) fn (compiled.unfolded 𝓤 H 𝓜 𝓡 wired (T, (A, tt)) d dd) (λ z are.
    let Post : Val → SProp 𝓤 = (walk_of 𝓛 En₀ stays c).post z in
    let a = z.0.3 in
    let vss = z.0.4 in
    let κT : Lft = z.0.0.0 in
    let qT : Share = z.0.1.0 in
    let κA : Lft = z.0.0.1.0 in
    let R : RattleType = param 0 T in
    let E : El = record { row = T; laws = LT; al = record { row = A; laws = LA; g = g; d = d; drops = dd } } in
    let x = a.0 in
    let r = a.1.0 in
    let n = r.len in
    let xs : List T.Denot = r.items in
    let t = g.dealloc_token x.heap in
    let First : Type 0 = (r.ptr ≡ x.ptr +ₚ 8) × (n ≡ x.len) in
    qed 𝓛 (((‵ (flft κT qT) ⊛ ‵ (flft κA z.0.1.1.0) ⊛ ‵ ftrue) ⊛ ‵ (owns (types_at ps z.0.0) a vss)) ∷ (raw (fact 𝓤 (κT ⊑ T.lives)) ⊛ raw (fact 𝓤 (κA ⊑ A.lives)) ⊛ raw (fact 𝓤 First)) ∷ []) ∵
    move ! (1 ∷ []) $ split3 ! $ heard ! (κT ⊑ T.lives) (λ le. drop ! $ heard ! First (λ asked. split ! $ split ! $ move ! (2 ∷ []) $ fsplit ! $ fsplit ! $ drop ! $
    move ! (1 ∷ []) $ fsplit ! $ move ! (1 ∷ []) $ drop ! $ move ! (1 ∷ []) $ rewrite ! 0 (λ (k : ℕ). ‵ (open_owns t R x.ptr k)) (sym asked.1) refl $
    fit_out R x.ptr n ! (fsep (room_for (ty_int w64) x.ptr) (way_back R x.ptr n t)) (λ small low.
    in_a_block ! x.ptr (λ p. fsep (room_for (ty_int w64) p) (way_back R p n t)) (fst∗ 𝓤 (never 𝓤) (sem 𝓛 (way_back R null_ptr n t))) (λ b o at.
    let p : Ptr = block_ptr b o in
    let there : r.ptr ≡ block_ptr b (o + 8) = asked.0 ∙ ap (λ (u : Ptr). u +ₚ 8) at in
    fsplit ! $ move ! (2 ∷ []) $ row_had (el E) ! r vss.1.0 (λ b' o' at' told fn' fits. row_made (el E) ! r b' o' at' fn' fits $
    rewrite ! 0 (λ (u : Ptr). ‵ ((Row E).own_val r (words_val u n ∷ []))) (sym at' ∙ there) refl $
    -- [the slots; the count's room; the way back and the right to free; the tokens]
    let y = at_into E 𝓛 𝓜.mem 𝓡.returns κT qT r b (o + 8) in
    let told' : vss.1.0 ≡ row_val b (o + 8) n ∷ [] = told ∙ ap (λ (u : Ptr). words_val u n ∷ []) (sym at' ∙ there) in
    regoal ! (λ (us : List Val). prop (WpFn 𝓤 H C Λ fn us Post)) (λ i. (owner_told x.ptr vss.0 are.0.0 ∙ ap (λ (u : Ptr). owner_val u ∷ []) at) i ++ (told' i ++ [])) refl $
    enter ! C Λ fn (owner_val p ∷ row_val b (o + 8) n ∷ []) Post $
    alloc_all ! (λ l. pass_all ! refl ((tt, (tt, (tt, tt))), ((tt, (tt, (record { fits = fn' }, tt))), tt)) $ let En : Env 𝓤 𝓛.H = env fn.locals l in
    first ! $ blocks ! $ sets ! (of_opd ! (get ! refl)) refl (tt, (tt, (record { fits = fn' }, tt))) $ move ! (0 ∷ 3 ∷ []) $
    use2 𝓛 (raw ((Into E 𝓛 𝓜.mem 𝓡.returns).pre y)) (Into-goes E 𝓛 𝓜.mem 𝓡.returns κT qT r b (o + 8) le) $
    calls_at_last ! (fm 𝓛 𝓜 𝓡) (Into E 𝓛 𝓜.mem 𝓡.returns) (callee.met 𝓤 𝓛 𝓜 𝓡 (compiled.calls-core::slots::Slots::into_raw_parts 𝓡.env wired) T LT) y (and_then ! (get ! refl) (no_more !)) (λ v.
    use1 𝓛 (later (given (v ≡ row_val b (o + 8) n) (‵ (all E b (o + 8) xs r.filled) ⊛ ‵ (flft κT qT)))) (Into-gives E 𝓛 𝓜.mem 𝓡.returns κT qT r b (o + 8) v there) $ await ! tt $ learn !
    (λ is. split ! $
    regoal ! (λ (u : Val). settles En (place 6 []) u (out_of_block 𝓛 (then_runs 𝓛 C Λ En (after 1 fn.body) (at_ret En Post)))) (is) refl $
    lands_last ! refl (tt, (tt, (record { fits = fn' }, tt))) $ exec ! C Λ En (after 1 fn.body) (at_ret En Post) $
    sets ! (of_opd ! (get ! refl)) refl (tt, (tt, (record { fits = fn' }, tt))) $
    sets ! (of_opd ! (get_in ! (fld ! refl (stop !)) (sub ! 0 refl (whole !)))) refl (tt, tt) $
    sets ! (of_opd ! (get_in ! (fld ! refl (stop !)) (sub ! 1 refl (whole !)))) refl (tt, tt) $
    sets ! (agg ! (and_then ! (get ! refl) (and_then ! (get ! refl) (no_more !)))) refl (tt, (tt, (tt, tt))) $
    returns ! (look_at ! 0 refl) $ free_all ! refl $
    -- [the places; the token; the count's room; the way back and the right to free; the other tokens]
    use1 𝓛 (‵ (froom (ty_array (lone R.mir) n) b (o + 8))) (to_space (el E) 𝓛 b (o + 8) n xs (sym r.ok.0) r.filled (sym r.ok.1)) $ as_raw ! (ty_array (lone R.mir) n) b (o + 8) $
    move ! (2 ∷ 0 ∷ []) $ fjoin ! $ move ! (2 ∷ []) $ fsplit ! $ move ! (2 ∷ 0 ∷ []) $ use2 𝓛 (‵ (froom (block_type R n) b o)) (block_glue R n low 𝓛 b o) $ fjoin ! $
    fit_in R p n ! (fsep (room_for (block_type R n) p) (t (block_type R n) p)) small low $
    let S : RattleType = space.the_row R (param 1 A) g in
    let s : S.Denot = record { ptr = p; by = record {}; len = n; heap = x.heap } in
    let Kept : Type 0 = (n ≡ x.len) × (x.heap ≡ x.heap) × Fits R x.len in
    use0 𝓛 (‵ (owner_own p (owner_val p ∷ []))) (owner_made 𝓛 p) $ fjoin ! $ move ! (1 ∷ 2 ∷ []) $ join ! $
    use0 𝓛 (raw (fact 𝓤 Kept)) (fact_i 𝓤 Kept (emp 𝓤) (asked.1, refl, subst (Fits R) asked.1 (small, low))) $ nothing ! $ nothing ! $ fjoin ! $ nothing ! $ fjoin ! $ move ! (2 ∷ 0 ∷ 3 ∷ 1 ∷ []) $
    by ! (leaves 𝓛 En₀ stays c z (owner_val p) s (tt, (tt, tt)) (tt, (tt, tt)))))))))))
    )
