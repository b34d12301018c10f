-- `open` reads the count, and makes full places of the elements. Assumes `Logic`.
use Rattle.std.proofs.Common.{◌≡◌, ℕ, ◌+◌, ◌<◌, false, List, [], ◌∷◌, ◌++◌, true, length, replicate, refl, sym, ap, subst, ◌∙◌, w64, Bool, arith}
use lib.ListN.{length-replicate, get_or-replicate}
use mir.Syntax.{Fn, Args, a_type, place, dcons, dnil, ty_int}
use mir.Val.{Val, vint, vptr}
use mir.MapTy.{inst_fn}
use base.Logic.{SProp, emp, never, fst∗}
use types.Logic.{sem}
use base.Fml.{Lft, Share, Fml, ftrue, fsep, froom, flft}
use prog.Wp.{Env, WpFn}
use contract.BorrowLft.{◌⊑◌}
use contract.Monad.{fact, fact_i}
use contract.Running.{tables}
use types.Kit.{‵, raw, ◌⊛◌, some, given, later, prop, settles, at_ret, ◌$◌, ◌∵◌, !, qed, by, move, drop, use0, use1, use2, split, split3, join, pick, learn, regoal, fsplit, fjoin, await}
use types.Part.{whole, sub, agg}
use types.Run.{stop, fld, lit, bin, load, look, well_typed, of_opd, no_more, and_then, first, blocks, exec, returns, enter}
use types.ByLocal.{through, alloc_all, pass_all, free_all, look_at, get, get_in, sets, sets_last, lands_last, is, env}
use denote.RattleType.{RattleType, owns}
use denote.RawPtr.{◌+ₚ◌, lies_at, Ptr, room_for, block_ptr, null_ptr, in_a_block}
use denote.Param.{param, bounded}
use denote.Signature.{types_at}
use denote.Plain.{uint_out}
use denote.Builtin.{usize}
use denote.Array.{Array}
use base.Fraction.{full_share}
use base.Fml.{ffalse, fat}
use base.Logic.{ent, via}
use Rattle.std.specs.Prelude.{slice_index_or}
use Rattle.core.specs.Mem.Slots.Ownership.{Filled}
use denote.Steps.{nothing, heard}
use denote.Struct.Tuple.{Tuple}
use denote.Triple.Call.{calls_at_last}
use denote.Triple.Walked.{Stays, stay_dropped, walk_of}
use Rattle.core.proofs.alloc.Calls.{Goes-blank}
use Rattle.core.proofs.alloc.Shapes.{after}
use Rattle.core.proofs.atomic.Steps.{fm}
use Rattle.std_alloc.proofs.Pairs.{pair_of, pair_val}
use Rattle.std.proofs.raw_atomic.Walks.{proved_at, leaves}
use Rattle.std_alloc.proofs.VecSteps.El.{El}
use Rattle.std_alloc.proofs.vec.Blocks.{el, all}
use Rattle.std_alloc.proofs.vec.Spares.{Row, From, at_from, Made, from_goes, from_gives}
use Rattle.core.proofs.slots.Opens.{row_val}
use Rattle.core.proofs.slots.Runs.{of_values}
use Rattle.core.proofs.slots.Slots.from_raw_parts.Met as callee
use Rattle.pw_base.proofs.ThinBlocks.{slot_at, then_runs, out_of_block, owner_val, owner_own, owner_told, owner_made, fit_out, fit_in}
use Rattle.pw_base.specs.Block.{way_back}
use Rattle.pw_base.specs.contracts.thin.Open as opened
use Rattle.pw_base.specs.contracts.thin.Thin.open.{ended, clauses}
use Rattle.pw_base.specs.contracts.thin.Thin.open.Key.{name as #self}
use Rattle.pw_base.proofs.thin.Thin.open.Statement.{statement}
use Rattle.pw_base.proofs.thin.Thin.open.Code as compiled

pub open_spec : {M : Type 1} → statement M
open_spec 𝓤 𝓛 𝓜 𝓡 wired T A LT LA g d dd met md =
    let H = 𝓛.H in
    let En₀ = ended T A g d dd in
    let c = clauses T A g d dd 𝓛 𝓜.mem 𝓡.returns in
    let args : Args = bounded (a_type ∷ a_type ∷ []) (T, (A, tt)) (dcons d (dcons dd dnil)) in
    let fn : Fn = inst_fn args compiled.function in
    let ps = En₀.signature.params in
    let stays : Stays ps En₀.kept = (stay_dropped (slot_at 0 ps) En₀.kept.0, tt) in
    let C = (tables 𝓤 H 𝓜 𝓡 𝓡.env).C in
    let Λ = (tables 𝓤 H 𝓜 𝓡 𝓡.env).Λ in
    proved_at 𝓛 En₀ stays c 𝓜 𝓡 (Goes-blank 𝓛 2 (slot_at 0 ps) En₀.kept.0 (λ κs x f. tt), tt)
    (#self args) fn (compiled.unfolded 𝓤 H 𝓜 𝓡 wired (T, (A, tt)) d dd) (λ z are.
    let Post : Val → SProp 𝓤 = (walk_of 𝓛 En₀ stays c).post z in
    let a = z.0.3 in
    let vss = z.0.4 in
    let κT : Lft = z.0.0.0 in
    let qT : Share = z.0.1.0 in
    let κA : Lft = z.0.0.1.0 in
    let R : RattleType = param 0 T in
    let E : El = record { row = T; laws = LT; al = record { row = A; laws = LA; g = g; d = d; drops = dd } } in
    let x = a.0 in
    let xs : List T.Denot = x.items in
    let n : ℕ = length xs in
    let fs : List Bool = replicate n true in
    let t = g.dealloc_token x.heap in
    let Held : Ptr → Fml = λ p. fsep (lies_at usize full_share p n) (lies_at (Array R n) full_share (p +ₚ 8) xs) in
    let Back : Ptr → Fml = λ p. way_back R p n t in
    let no_block : ent 𝓤 (sem 𝓛 (fsep (Held null_ptr) (Back null_ptr))) (never 𝓤) = via 𝓤 (sem 𝓛 (Held null_ptr)) (fst∗ 𝓤 (sem 𝓛 (Held null_ptr)) (sem 𝓛 (Back null_ptr)))
    (fst∗ 𝓤 (never 𝓤) (sem 𝓛 ffalse)) in
    qed 𝓛 (((‵ (flft κT qT) ⊛ ‵ (flft κA z.0.1.1.0) ⊛ ‵ ftrue) ⊛ ‵ (owns (types_at ps z.0.0) a vss)) ∷ (raw (fact 𝓤 (κT ⊑ T.lives)) ⊛ raw (fact 𝓤 (κA ⊑ A.lives)) ⊛ ‵ ftrue) ∷ []) ∵
    move ! (1 ∷ []) $ split3 ! $ heard ! (κT ⊑ T.lives) (λ le. drop ! $ drop ! $ split ! $ split ! $ move ! (2 ∷ []) $ fsplit ! $ fsplit ! $ drop ! $ move ! (1 ∷ []) $ drop ! $
    fit_out R x.ptr n ! (fsep (Held x.ptr) (Back x.ptr)) (λ small low.
    in_a_block ! x.ptr (λ p. fsep (Held p) (Back p)) no_block (λ b o at. let p : Ptr = block_ptr b o in
    fsplit ! $ fsplit ! $ use1 𝓛 (‵ (fat full_share (ty_int w64) b o (vint w64 n))) (uint_out 𝓛 full_share w64 n b o) $ well_typed ! (λ ok. let fn' = ok.1.fits in
    move ! (1 ∷ []) $ use1 𝓛 (‵ (all E b (o + 8) xs fs)) (of_values (el E) 𝓛 b (o + 8) n xs refl) $
    -- [the places; the count; the way back and the right to free; the tokens]
    let y = at_from E 𝓛 𝓜.mem 𝓡.returns κT qT b (o + 8) n xs fs in
    regoal ! (λ (us : List Val). prop (WpFn 𝓤 H C Λ fn us Post)) (λ i. (owner_told x.ptr vss.0 are.0.0 ∙ ap (λ (u : Ptr). owner_val u ∷ []) at) i ++ []) refl $
    enter ! C Λ fn (owner_val p ∷ []) Post $
    alloc_all ! (λ l. pass_all ! refl ((tt, (tt, (tt, tt))), tt) $ let En : Env 𝓤 𝓛.H = env fn.locals l in
    sets ! (of_opd ! (get_in ! (fld ! refl (stop !)) (sub ! 0 refl (whole !)))) refl (tt, tt) $
    sets ! (of_opd ! (get_in ! (fld ! refl (stop !)) (sub ! 1 refl (whole !)))) refl (tt, tt) $
    first ! $ blocks ! $ sets ! (of_opd ! (get ! refl)) refl (tt, tt) $
    sets_last ! (of_opd ! (load ! (through ! refl (stop !)) (look ! 1 refl))) refl (tt, record { fits = fn' }) $
    exec ! C Λ En (after 3 fn.body) (at_ret En Post) $ sets ! (of_opd ! (get ! refl)) refl (tt, record { fits = fn' }) $
    first ! $ blocks ! $ sets ! (of_opd ! (get ! refl)) refl (tt, tt) $ sets ! (of_opd ! (get ! refl)) refl (tt, tt) $
    sets_last ! (is ! (bin ! (get ! refl) (lit ! tt) tt) (ap (vptr b) {y = o + 8} (omega arith))) refl (tt, tt) $
    exec ! C Λ En (after 5 fn.body) (at_ret En Post) $
    sets ! (of_opd ! (get ! refl)) refl (tt, tt) $ sets ! (of_opd ! (get ! refl)) refl (tt, tt) $
    first ! $ blocks ! $ sets ! (of_opd ! (get ! refl)) refl (tt, tt) $ sets ! (of_opd ! (get ! refl)) refl (tt, record { fits = fn' }) $
    move ! (0 ∷ 3 ∷ []) $
    use2 𝓛 (raw ((From E 𝓛 𝓜.mem 𝓡.returns).pre y)) (from_goes E 𝓛 𝓜.mem 𝓡.returns κT qT b (o + 8) n xs fs le refl (sym (length-replicate n true)) fn' (omega arith)) $
    calls_at_last ! (fm 𝓛 𝓜 𝓡) (From E 𝓛 𝓜.mem 𝓡.returns) (callee.met 𝓤 𝓛 𝓜 𝓡 (compiled.calls-core::slots::Slots::from_raw_parts 𝓡.env wired) T LT) y
    (and_then ! (get ! refl) (and_then ! (get ! refl) (no_more !))) (λ v.
    use1 𝓛 (later (some (λ (r : (Row E).Denot). given ((v ≡ row_val b (o + 8) n)
    × Made E 𝓛 𝓜.mem 𝓡.returns κT qT b (o + 8) n xs fs r) (‵ ((Row E).own_val r (row_val b (o + 8) n ∷ [])) ⊛ ‵ (flft κT qT))))) (from_gives E 𝓛 𝓜.mem 𝓡.returns κT qT b (o + 8) n xs fs v) $
    await ! tt $ pick ! (λ r. learn ! (λ made. split ! $ regoal ! (λ (u : Val). settles En (place 13 []) u (out_of_block 𝓛 (then_runs 𝓛 C Λ En (after 8 fn.body) (at_ret En Post)))) (made.0) refl $
    lands_last ! refl (tt, (tt, (record { fits = fn' }, tt))) $ exec ! C Λ En (after 8 fn.body) (at_ret En Post) $
    sets ! (of_opd ! (get ! refl)) refl (tt, (tt, (record { fits = fn' }, tt))) $ sets ! (of_opd ! (get ! refl)) refl (tt, (tt, (record { fits = fn' }, tt))) $
    sets ! (of_opd ! (get ! refl)) refl (tt, tt) $ sets ! (of_opd ! (get ! refl)) refl (tt, tt) $
    sets ! (agg ! (and_then ! (get ! refl) (and_then ! (get ! refl) (no_more !)))) refl (tt, (tt, (tt, tt))) $
    sets ! (agg ! (and_then ! (get ! refl) (and_then ! (get ! refl) (no_more !)))) refl (tt, ((tt, (record { fits = fn' }, tt)), ((tt, (tt, tt)), tt))) $
    returns ! (look_at ! 0 refl) $ free_all ! refl $
    -- [the slots; their token; the count; the way back and the right to free; the other token]
    move ! (2 ∷ []) $ use1 𝓛 (‵ (froom (ty_int w64) b o)) (𝓛.laws.at_room (ty_int w64) b o (vint w64 n)) $ move ! (0 ∷ 3 ∷ []) $ fjoin ! $
    fit_in R p n ! (fsep (room_for (ty_int w64) p) (way_back R p n t)) small low $
    let O : RattleType = opened.the_row R (param 1 A) g in
    let k : O.Denot = record { ptr = p; by = record {}; len = n; heap = x.heap } in
    let full : Filled r.filled 0 r.len = λ i _ lt. ap (λ (gs : List Bool). slice_index_or gs i false) made.1.3 ∙ get_or-replicate n i true false (subst (λ (m : ℕ). i < m) made.1.1 lt) in
    let Slots : Type 0 = (r.ptr ≡ block_ptr b (o + 8)) × Filled r.filled 0 r.len × (r.items ≡ xs) in
    let Kept : Type 0 = (n ≡ r.len) × (x.heap ≡ x.heap) in
    use0 𝓛 (‵ (owner_own p (owner_val p ∷ []))) (owner_made 𝓛 p) $ fjoin ! $ move ! (1 ∷ 0 ∷ []) $
    use2 𝓛 (‵ ((Tuple (Row E ∷ O ∷ [])).own_val (r, k) (pair_val (row_val b (o + 8) n) (owner_val p) ∷ []))) (pair_of 𝓛 (Row E) O r k (row_val b (o + 8) n) (owner_val p)) $
    move ! (1 ∷ 2 ∷ []) $ join ! $
    use0 𝓛 (raw (fact 𝓤 Kept)) (fact_i 𝓤 Kept (emp 𝓤) (sym made.1.1, refl)) $ use0 𝓛 (raw (fact 𝓤 Slots)) (fact_i 𝓤 Slots (emp 𝓤) (made.1.0, full, made.1.2)) $ join ! $
    nothing ! $ nothing ! $ fjoin ! $ move ! (2 ∷ 0 ∷ 3 ∷ 1 ∷ []) $
    by ! (leaves 𝓛 En₀ stays c z (pair_val (row_val b (o + 8) n) (owner_val p)) (r, k) (tt, tt) (tt, tt))))))))))
    )
