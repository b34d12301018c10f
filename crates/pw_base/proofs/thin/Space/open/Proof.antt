-- `open` cuts the room, and makes empty places of the elements'. Assumes `Logic`.
use Rattle.std.proofs.Common.{◌≡◌, ℕ, ◌+◌, false, List, [], ◌∷◌, ◌++◌, length, replicate, refl, sym, ap, ◌∙◌, w64, Bool, arith}
use lib.ListN.{length-replicate}
use mir.Syntax.{Fn, Args, a_type, place, dcons, dnil, ty_int}
use mir.Val.{Val, vptr}
use mir.MapTy.{inst_fn}
use base.Logic.{SProp, emp, never, fst∗}
use types.Logic.{sem}
use base.Fml.{Lft, Share, ftrue, fsep, flft}
use prog.Wp.{Env, WpFn}
use contract.BorrowLft.{◌⊑◌}
use contract.Monad.{fact, fact_i}
use contract.Running.{tables}
use types.Kit.{‵, raw, ◌⊛◌, some, given, later, prop, settles, at_ret, ◌$◌, ◌∵◌, !, qed, by, move, keep, drop, use0, use1, use2, split, split3, join, pick, learn, rewrite, regoal, fsplit, fjoin, await}
use types.Part.{whole, sub, agg}
use types.Run.{stop, fld, lit, bin, of_opd, no_more, and_then, first, blocks, exec, returns, enter}
use types.ByLocal.{alloc_all, pass_all, free_all, look_at, get, get_in, sets, sets_last, lands_last, is, env}
use denote.RattleType.{RattleType, owns}
use denote.RawPtr.{Ptr, room_for, block_ptr, null_ptr, in_a_block}
use denote.Param.{param, bounded}
use denote.Signature.{types_at}
use denote.Slice.{slice_val}
use denote.Steps.{nothing, heard}
use denote.Struct.Tuple.{Tuple}
use denote.Triple.Call.{calls_at_last}
use denote.Triple.Walked.{Stays, stay_dropped, walk_of, Goes-dropped}
use Rattle.core.proofs.alloc.Calls.{Goes-blank}
use Rattle.core.proofs.alloc.Shapes.{after}
use Rattle.core.proofs.atomic.Steps.{fm}
use Rattle.std_alloc.proofs.RawLayout.{as_written}
use denote.Memory.{lone}
use mir.Syntax.{ty_array}
use Rattle.std_alloc.proofs.Pairs.{pair_of, pair_val}
use Rattle.std.proofs.raw_atomic.Walks.{proved_at, leaves}
use Rattle.std_alloc.proofs.VecSteps.El.{El}
use Rattle.std_alloc.proofs.vec.Blocks.{el, all}
use Rattle.std_alloc.proofs.vec.Spares.{Row, From, at_from, Made, from_goes, from_gives}
use Rattle.core.proofs.slots.Opens.{row_val}
use Rattle.core.proofs.slots.Runs.{of_space}
use Rattle.core.proofs.slots.Slots.from_raw_parts.Met as callee
use Rattle.pw_base.proofs.ThinBlocks.{slot_at, then_runs, out_of_block, owner_val, owner_own, owner_told, owner_made, block_cut, fit_out, fit_in}
use Rattle.pw_base.specs.Block.{block_type, rejoins, way_back, space_owns, two_rooms}
use Rattle.pw_base.specs.contracts.thin.Open as opened
use Rattle.pw_base.specs.contracts.thin.Space.open.{ended, clauses}
use Rattle.pw_base.specs.contracts.thin.Space.open.Key.{name as #self}
use Rattle.pw_base.proofs.thin.Space.open.Statement.{statement}
use Rattle.pw_base.proofs.thin.Space.open.Code as compiled

pub open_spec : {M : Type 1} → statement M
open_spec 𝓤 𝓛 𝓜 𝓡 wired T A LT LA g d dd met md =
    let H = 𝓛.H in
    let En₀ = ended T A g d dd in
    let c = clauses T A g d dd 𝓛 𝓜.mem 𝓡.returns in
    let args : Args = bounded (a_type ∷ a_type ∷ []) (T, (A, tt)) (dcons d (dcons dd dnil)) in
    let fn : Fn = inst_fn args compiled.function in
    let ps = En₀.signature.params in
    let stays : Stays ps En₀.kept = (stay_dropped (slot_at 0 ps) En₀.kept.0, (stay_dropped (slot_at 1 ps) En₀.kept.1.0, tt)) in
    let C = (tables 𝓤 H 𝓜 𝓡 𝓡.env).C in
    let Λ = (tables 𝓤 H 𝓜 𝓡 𝓡.env).Λ in
    proved_at 𝓛 En₀ stays c 𝓜 𝓡 (Goes-blank 𝓛 3 (slot_at 0 ps) En₀.kept.0 (λ κs x f. tt), (Goes-dropped 𝓛 3 (slot_at 1 ps) En₀.kept.1.0 (λ κs x f. refl), tt))
    (#self args) fn (compiled.unfolded 𝓤 H 𝓜 𝓡 wired (T, (A, tt)) d dd) (λ z are.
    let Post : Val → SProp 𝓤 = (walk_of 𝓛 En₀ stays c).post z in
    let a = z.0.3 in
    let vss = z.0.4 in
    let κT : Lft = z.0.0.1.0 in
    let qT : Share = z.0.1.1.0 in
    let κA : Lft = z.0.0.1.1.0 in
    let R : RattleType = param 0 T in
    let E : El = record { row = T; laws = LT; al = record { row = A; laws = LA; g = g; d = d; drops = dd } } in
    let x = a.0 in
    let xs : List T.Denot = a.1.0.now in
    let n : ℕ = length xs in
    let lp = a.1.0.ref_ptr in
    let fs : List Bool = replicate n false in
    let First : Type 0 = x.len ≡ n in
    let t = g.dealloc_token x.heap in
    qed 𝓛 (((‵ (flft z.0.0.0 z.0.1.0) ⊛ ‵ (flft κT qT) ⊛ ‵ (flft κA z.0.1.1.1.0) ⊛ ‵ ftrue) ⊛ ‵ (owns (types_at ps z.0.0) a vss))
    ∷ (raw (fact 𝓤 (κT ⊑ T.lives)) ⊛ raw (fact 𝓤 (κA ⊑ A.lives)) ⊛ raw (fact 𝓤 First)) ∷ []) ∵
    move ! (1 ∷ []) $ split3 ! $ heard ! (κT ⊑ T.lives) (λ le. drop ! $ heard ! First (λ long. split ! $ split3 ! $ move ! (3 ∷ []) $ fsplit ! $ fsplit ! $ drop ! $
    keep ! (0 ∷ 2 ∷ 3 ∷ 4 ∷ []) $ rewrite ! 0 (λ (k : ℕ). ‵ (space_owns t R x.ptr k)) long refl $
    fit_out R x.ptr n ! (fsep (room_for (block_type R n) x.ptr) (t (block_type R n) x.ptr)) (λ small low.
    in_a_block ! x.ptr (λ r. fsep (room_for (block_type R n) r) (t (block_type R n) r)) (fst∗ 𝓤 (never 𝓤) (sem 𝓛 (t (block_type R n) null_ptr))) (λ b o at. let p : Ptr = block_ptr b o in
    -- [the room; the right to free it; the tokens]
    fsplit ! $ use1 𝓛 (‵ (two_rooms R p n) ⊛ ‵ (rejoins R p n)) (block_cut R n low 𝓛 b o) $ split ! $ fsplit ! $
    move ! (1 ∷ []) $ as_written ! (ty_array (lone R.mir) n) b (o + 8) $ use1 𝓛 (‵ (all E b (o + 8) xs fs)) (of_space (el E) 𝓛 b (o + 8) n xs refl) $
    let slice : List Val = slice_val lp n ∷ [] in
    let fn' = are.1.0.0.1.0 in
    let y = at_from E 𝓛 𝓜.mem 𝓡.returns κT qT b (o + 8) n xs fs in
    regoal ! (λ (us : List Val). prop (WpFn 𝓤 H C Λ fn us Post)) (λ i. (owner_told x.ptr vss.0 are.0.0 ∙ ap (λ (r : Ptr). owner_val r ∷ []) at) i ++ (are.1.0.0.0 i ++ [])) refl $
    enter ! C Λ fn (owner_val p ∷ slice_val lp n ∷ []) Post $
    alloc_all ! (λ l. pass_all ! refl ((tt, (tt, (tt, tt))), ((tt, (tt, (record { fits = fn' }, tt))), tt)) $ let En : Env 𝓤 𝓛.H = env fn.locals l in
    sets ! (of_opd ! (get_in ! (fld ! refl (stop !)) (sub ! 0 refl (whole !)))) refl (tt, tt) $
    sets ! (of_opd ! (get_in ! (fld ! refl (stop !)) (sub ! 1 refl (whole !)))) refl (tt, tt) $
    first ! $ blocks ! $ sets ! (of_opd ! (get ! refl)) refl (tt, tt) $ sets ! (of_opd ! (get ! refl)) refl (tt, tt) $
    sets_last ! (is ! (bin ! (get ! refl) (lit ! tt) tt) (ap (vptr b) {y = o + 8} (omega arith))) refl (tt, tt) $
    exec ! C Λ En (after 3 fn.body) (at_ret En Post) $
    sets ! (of_opd ! (get ! refl)) refl (tt, tt) $ sets ! (of_opd ! (get ! refl)) refl (tt, tt) $
    first ! $ blocks ! $ sets ! (of_opd ! (get ! refl)) refl (tt, tt) $
    sets ! (of_opd ! (get_in ! (fld ! refl (stop !)) (sub ! 1 refl (whole !)))) refl (tt, record { fits = fn' }) $
    -- [the places; the count's room; the way back; the right to free; the tokens]
    move ! (0 ∷ 5 ∷ []) $
    use2 𝓛 (raw ((From E 𝓛 𝓜.mem 𝓡.returns).pre y)) (from_goes E 𝓛 𝓜.mem 𝓡.returns κT qT b (o + 8) n xs fs le refl (sym (length-replicate n false)) fn' (omega arith)) $
    calls_at_last ! (fm 𝓛 𝓜 𝓡) (From E 𝓛 𝓜.mem 𝓡.returns) (callee.met 𝓤 𝓛 𝓜 𝓡 (compiled.calls-core::slots::Slots::from_raw_parts 𝓡.env wired) T LT) y
    (and_then ! (get ! refl) (and_then ! (get ! refl) (no_more !))) (λ v.
    use1 𝓛 (later (some (λ (r : (Row E).Denot). given ((v ≡ row_val b (o + 8) n)
    × Made E 𝓛 𝓜.mem 𝓡.returns κT qT b (o + 8) n xs fs r) (‵ ((Row E).own_val r (row_val b (o + 8) n ∷ [])) ⊛ ‵ (flft κT qT))))) (from_gives E 𝓛 𝓜.mem 𝓡.returns κT qT b (o + 8) n xs fs v) $
    await ! tt $ pick ! (λ r. learn ! (λ made. split ! $ regoal ! (λ (u : Val). settles En (place 11 []) u (out_of_block 𝓛 (then_runs 𝓛 C Λ En (after 6 fn.body) (at_ret En Post)))) (made.0) refl $
    lands_last ! refl (tt, (tt, (record { fits = fn' }, tt))) $ exec ! C Λ En (after 6 fn.body) (at_ret En Post) $
    sets ! (of_opd ! (get ! refl)) refl (tt, (tt, (record { fits = fn' }, tt))) $ sets ! (of_opd ! (get ! refl)) refl (tt, (tt, (record { fits = fn' }, tt))) $ sets ! (of_opd ! (get ! refl)) refl
    (tt, tt) $ sets ! (of_opd ! (get ! refl)) refl (tt, tt) $
    sets ! (agg ! (and_then ! (get ! refl) (and_then ! (get ! refl) (no_more !)))) refl (tt, (tt, (tt, tt))) $
    sets ! (agg ! (and_then ! (get ! refl) (and_then ! (get ! refl) (no_more !)))) refl (tt, ((tt, (record { fits = fn' }, tt)), ((tt, (tt, tt)), tt))) $
    returns ! (look_at ! 0 refl) $ free_all ! refl $
    -- [the slots; their token; the count's room; the way back; the right to free; the other tokens]
    move ! (1 ∷ 6 ∷ []) $ join ! $ move ! (5 ∷ 0 ∷ []) $ join ! $ move ! (3 ∷ 4 ∷ []) $ fjoin ! $ move ! (3 ∷ 0 ∷ []) $ fjoin ! $
    fit_in R p n ! (fsep (room_for (ty_int w64) p) (way_back R p n t)) small low $
    let O : RattleType = opened.the_row R (param 1 A) g in
    let k : O.Denot = record { ptr = p; by = record {}; len = n; heap = x.heap } in
    let Slots : Type 0 = (r.ptr ≡ block_ptr b (o + 8)) × (r.len ≡ x.len) in
    let Kept : Type 0 = (n ≡ x.len) × (x.heap ≡ x.heap) in
    use0 𝓛 (‵ (owner_own p (owner_val p ∷ []))) (owner_made 𝓛 p) $ fjoin ! $ move ! (2 ∷ 0 ∷ []) $
    use2 𝓛 (‵ ((Tuple (Row E ∷ O ∷ [])).own_val (r, k) (pair_val (row_val b (o + 8) n) (owner_val p) ∷ []))) (pair_of 𝓛 (Row E) O r k (row_val b (o + 8) n) (owner_val p)) $
    use0 𝓛 (raw (fact 𝓤 Kept)) (fact_i 𝓤 Kept (emp 𝓤) (sym long, refl)) $ use0 𝓛 (raw (fact 𝓤 Slots)) (fact_i 𝓤 Slots (emp 𝓤) (made.1.0, made.1.1 ∙ sym long)) $ join ! $
    nothing ! $ nothing ! $ fjoin ! $ nothing ! $ fjoin ! $ move ! (3 ∷ 0 ∷ 2 ∷ 1 ∷ []) $
    by ! (leaves 𝓛 En₀ stays c z (pair_val (row_val b (o + 8) n) (owner_val p)) (r, k) (tt, (tt, tt)) (tt, (tt, tt)))))))))))
    )
