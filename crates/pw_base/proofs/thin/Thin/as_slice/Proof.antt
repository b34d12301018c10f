-- `as_slice` reads the count through a `&`, and lends the elements. Assumes `Logic`.
use Rattle.std.proofs.Common.{◌≡◌, ℕ, ◌+◌, ◌*◌, ◌^◌, List, [], ◌∷◌, ◌++◌, length, refl, ap, arith}
use mir.Syntax.{Fn, Args, a_type, dcons, dnil}
use mir.Val.{Val, vptr}
use mir.MapTy.{inst_fn}
use base.Logic.{SProp, emp, never}
use types.Logic.{sem}
use base.Fml.{Lft, Share, ftrue, flft}
use prog.Wp.{Env, WpFn}
use contract.BorrowLft.{◌⊑◌}
use contract.Monad.{fact, fact_i}
use contract.Running.{tables}
use types.Kit.{‵, raw, ◌⊛◌, prop, at_ret, ◌$◌, ◌∵◌, !, qed, by, move, keep, drop, use0, split, join, rewrite, regoal, fsplit, fjoin}
use types.Part.{agg}
use types.Run.{stop, fld, lit, bin, load, look, of_opd, no_more, and_then, first, blocks, exec, returns, enter}
use types.ByLocal.{through, alloc_all, pass_all, free_all, look_at, get, sets, sets_last, is, env}
use denote.RattleType.{RattleType, owns}
use denote.RawPtr.{Ptr, block_ptr, null_ptr, in_a_block}
use denote.Param.{param, bounded}
use denote.Signature.{types_at}
use denote.Slice.{slice_val}
use denote.Memory.{mem, hidden_shr}
use denote.RawPtr.{RawPtr}
use denote.Opens.{hide, unhide}
use denote.Ref.{Bor}
use base.Logic.{ent}
use types.Kit.{feq_i, flt_i, flt_l, done}
use denote.Steps.{nothing}
use denote.Triple.Walked.{Stays, stay_dropped, walk_of, Goes-dropped}
use Rattle.core.proofs.alloc.Shapes.{after}
use Rattle.std.proofs.raw_atomic.Walks.{proved_at, leaves}
use Rattle.pw_base.proofs.ThinBlocks.{slot_at, pointer_in, pointer_out, word_in, word_out}
use Rattle.pw_base.specs.Block.{thin_shares}
use Rattle.pw_base.specs.contracts.thin.Thin.as_slice.{ended, clauses}
use Rattle.pw_base.specs.contracts.thin.Thin.as_slice.Key.{name as #self}
use Rattle.pw_base.proofs.thin.Thin.as_slice.Statement.{statement}
use Rattle.pw_base.proofs.thin.Thin.as_slice.Code as compiled

pub as_slice_spec : {M : Type 1} → statement M
as_slice_spec 𝓤 𝓛 𝓜 𝓡 wired T A LT LA g d dd met md =
    let H = 𝓛.H in
    let En₀ = ended T A g d dd in
    let c = clauses T A g d dd 𝓛 𝓜.mem 𝓡.returns in
    let args : Args = bounded (a_type ∷ a_type ∷ []) (T, (A, tt)) (dcons d (dcons dd dnil)) in
    let fn : Fn = inst_fn args compiled.function in
    let ps = En₀.signature.params in
    let stays : Stays ps En₀.kept = (stay_dropped (slot_at 0 ps) En₀.kept.0, tt) in
    let C = (tables 𝓤 H 𝓜 𝓡 𝓡.env).C in
    let Λ = (tables 𝓤 H 𝓜 𝓡 𝓡.env).Λ in
    proved_at 𝓛 En₀ stays c 𝓜 𝓡 (Goes-dropped 𝓛 3 (slot_at 0 ps) En₀.kept.0 (λ κs x f. refl), tt)
    (#self args) fn (compiled.unfolded 𝓤 H 𝓜 𝓡 wired (T, (A, tt)) d dd) (λ z are.
    let Post : Val → SProp 𝓤 = (walk_of 𝓛 En₀ stays c).post z in
    let a = z.0.3 in
    let vss = z.0.4 in
    let κ : Lft = z.0.0.0 in
    let q : Share = z.0.1.0 in
    let R : RattleType = param 0 T in
    let rb = a.0.ref_ptr.0 in
    let ro = a.0.ref_ptr.1 in
    let x = a.0.now in
    let xs : List T.Denot = x.items in
    let n : ℕ = length xs in
    let no_block : ent 𝓤 (sem 𝓛 (thin_shares R null_ptr xs κ)) (never 𝓤) = qed 𝓛 (‵ (thin_shares R null_ptr xs κ) ∷ []) ∵ fsplit ! $ drop ! $ fsplit ! $ fsplit ! $ keep ! (0 ∷ []) $ done ! in
    qed 𝓛 (((‵ (flft κ q) ⊛ ‵ (flft z.0.0.1.0 z.0.1.1.0) ⊛ ‵ (flft z.0.0.1.1.0 z.0.1.1.1.0) ⊛ ‵ ftrue) ⊛ ‵ (owns (types_at ps z.0.0) a vss))
    ∷ (raw (fact 𝓤 (z.0.0.1.0 ⊑ T.lives)) ⊛ raw (fact 𝓤 (z.0.0.1.1.0 ⊑ A.lives)) ⊛ ‵ ftrue) ∷ []) ∵
    split ! $ split ! $ move ! (2 ∷ []) $ fsplit ! $ fsplit ! $ keep ! (1 ∷ 3 ∷ 4 ∷ []) $
    unhide ! $ fsplit ! $ fsplit ! $ fsplit ! $ hide ! $ keep ! (0 ∷ 3 ∷ 4 ∷ 5 ∷ []) $ move ! (1 ∷ []) $
    in_a_block ! x.ptr (λ p. thin_shares R p xs κ) no_block (λ b o at. let p : Ptr = block_ptr b o in
    rewrite ! 1 (λ (u : Ptr). ‵ (hidden_shr RawPtr κ u rb (ro + 0))) at refl $
    fsplit ! $ flt_l ! (λ small. fsplit ! $ move ! (1 ∷ []) $ fsplit ! $ drop ! $ fsplit ! $ drop ! $ hide ! $
    -- [the elements; the count; the pointer; the tokens]
    regoal ! (λ (us : List Val). prop (WpFn 𝓤 H C Λ fn us Post)) (λ i. are.0.0 i ++ []) refl $
    enter ! C Λ fn (vptr rb ro ∷ []) Post $
    alloc_all ! (λ l. pass_all ! refl ((tt, tt), tt) $ let En : Env 𝓤 𝓛.H = env fn.locals l in
    move ! (2 ∷ 3 ∷ []) $ pointer_in ! tt b o rb (ro + 0) (λ q₁.
    sets ! (of_opd ! (load ! (through ! refl (fld ! refl (stop !))) (look ! 0 refl))) refl (tt, tt) $ pointer_out ! tt b o rb (ro + 0) $
    move ! (2 ∷ 0 ∷ []) $ first ! $ blocks ! $ word_in ! tt n b o (λ q₂ fn'.
    sets ! (of_opd ! (load ! (through ! refl (stop !)) (look ! 0 refl))) refl (tt, record { fits = fn' }) $ word_out ! tt n b o fn' $
    sets ! (of_opd ! (get ! refl)) refl (tt, tt) $ sets ! (is ! (bin ! (get ! refl) (lit ! tt) tt) (ap (vptr b) {y = o + 8} (omega arith))) refl (tt, tt) $ sets ! (of_opd ! (get ! refl)) refl
    (tt, tt) $
    sets_last ! (agg ! (and_then ! (get ! refl) (and_then ! (get ! refl) (no_more !)))) refl (tt, (tt, (record { fits = fn' }, tt))) $
    exec ! C Λ En (after 2 fn.body) (at_ret En Post) $ sets ! (of_opd ! (get ! refl)) refl (tt, (tt, (record { fits = fn' }, tt))) $
    returns ! (look_at ! 0 refl) $ free_all ! refl $
    -- [the token; the elements; the other tokens]
    let there : ℕ × ℕ = (b, o + 8) in let s : Bor (List T.Denot) = record { ref_ptr = there; now = xs } in
    move ! (1 ∷ []) $ flt_i ! (n * (mem R).size) (2 ^ 63) (omega arith) $ flt_i ! n (2 ^ 64) fn' $ fjoin ! $
    feq_i ! (List Val) (slice_val there n ∷ []) (slice_val there n ∷ []) refl $ fjoin ! $ fjoin ! $ move ! (1 ∷ 2 ∷ []) $ join ! $
    use0 𝓛 (raw (fact 𝓤 (xs ≡ xs))) (fact_i 𝓤 (xs ≡ xs) (emp 𝓤) refl) $ nothing ! $ nothing ! $ fjoin ! $ move ! (2 ∷ 0 ∷ 3 ∷ 1 ∷ []) $
    by ! (leaves 𝓛 En₀ stays c z (slice_val there n) s (tt, tt) (tt, tt)))))))
    )
