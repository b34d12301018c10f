-- `free` gives the allocator its block and its token. Assumes `Logic`.
use Rattle.std.proofs.Common.{◌≡◌, w64, List, [], ◌∷◌, ◌++◌, refl, sym, ap, ◌∙◌, arith, lit<}
use mir.Syntax.{Ty, Fn, Args, a_type, dcons, dnil, place}
use mir.Val.{Val, vint, vptr, vunit}
use mir.MapTy.{inst_fn}
use base.Logic.{SProp, never, id⊢, fst∗}
use base.Fml.{Lft, Share, ftrue, fsep, flft}
use prog.Wp.{Env, WpFn}
use contract.BorrowLft.{◌⊑◌, ⊑_trans}
use contract.Monad.{fact}
use contract.Running.{tables}
use types.Logic.{sem}
use types.Kit.{‵, raw, ◌⊛◌, given, later, prop, settles, at_ret, ◌$◌, ◌∵◌, !, qed, by, move, drop, use1, use3, split, split3, join, learn, rewrite, regoal, fsplit, fjoin, feq_i, await}
use types.Part.{whole, sub}
use types.Run.{stop, fld, lit, unit_lit, of_opd, no_more, and_then, first, blocks, exec, returns, enter}
use types.ByLocal.{alloc_all, pass_all, free_all, look_at, get, get_in, sets, lands_last, env}
use denote.RattleType.{RattleType, owns}
use denote.RawPtr.{Ptr, block_ptr, null_ptr, room_for, in_a_block}
use denote.Param.{param, bounded}
use denote.Signature.{types_at}
use denote.Steps.{nothing, heard}
use denote.Triple.Call.{calls_at_last}
use denote.Triple.Walked.{Stays, stay_dropped, walk_of, Goes-dropped}
use Rattle.core.proofs.alloc.Calls.{Al, seen, Goes-blank, Gives, at_gives, Gives-goes, Gives-Gives}
use Rattle.core.proofs.alloc.Shapes.{after}
use Rattle.core.proofs.atomic.Steps.{fm}
use Rattle.std.proofs.raw_atomic.Walks.{proved_at, leaves}
use Rattle.pw_base.proofs.ThinBlocks.{slot_at, then_runs, out_of_block, owner_val, owner_told, block_align, block_size, bytes_small, fit_out}
use prog.Memory.{size, align, capped}
use prog.Capped.{capped_is}
use Rattle.pw_base.specs.Block.{block_bytes, block_type, space_owns}
use Rattle.pw_base.specs.contracts.thin.Space.free.{ended, clauses}
use Rattle.pw_base.specs.contracts.thin.Space.free.Key.{name as #self}
use Rattle.pw_base.proofs.thin.Space.free.Statement.{statement}
use Rattle.pw_base.proofs.thin.Space.free.Code as compiled

pub free_spec : {M : Type 1} → statement M
free_spec 𝓤 𝓛 𝓜 𝓡 wired T A LT LA g d dd met md =
    let H = 𝓛.H in
    let En₀ = ended T A g d dd in
    let c = clauses T A g d dd 𝓛 𝓜.mem 𝓡.returns in
    let args : Args = bounded (a_type ∷ a_type ∷ []) (T, (A, tt)) (dcons d (dcons dd dnil)) in
    let fn : Fn = inst_fn args compiled.function in
    let ps = En₀.signature.params in
    let hs : Stays ps En₀.kept = (stay_dropped (slot_at 0 ps) En₀.kept.0, (stay_dropped (slot_at 1 ps) En₀.kept.1.0, (stay_dropped (slot_at 2 ps) En₀.kept.1.1.0, tt))) in
    let C = (tables 𝓤 H 𝓜 𝓡 𝓡.env).C in
    let Λ = (tables 𝓤 H 𝓜 𝓡 𝓡.env).Λ in
    proved_at 𝓛 En₀ hs c 𝓜 𝓡 (
      Goes-blank 𝓛 3 (slot_at 0 ps) En₀.kept.0 (λ κs x f. tt),
      (
        Goes-dropped 𝓛 3 (slot_at 1 ps) En₀.kept.1.0 (λ κs x f. refl),
        (
          Goes-dropped 𝓛 3 (slot_at 2 ps) En₀.kept.1.1.0
              (λ κs x f. refl),
          tt,
        ),
      ),
    )
    (#self args) fn (compiled.unfolded 𝓤 H 𝓜 𝓡 wired (T, (A, tt)) d dd) (λ z are.
    let Post : Val → SProp 𝓤 = (walk_of 𝓛 En₀ hs c).post z in
    let a = z.0.3 in
    let vss = z.0.4 in
    let Y : Al = record { row = A; laws = LA; g = g; d = d; drops = dd } in
    let κ : Lft = z.0.0.0 in
    let q : Share = z.0.1.0 in
    let κA : Lft = z.0.0.1.1.0 in
    let R : RattleType = param 0 T in
    let x = a.0 in
    let n = x.len in
    let h = a.1.0.now in
    let at = a.1.0.ref_ptr in
    let m = a.1.1.0 in
    let fm' = are.1.1.0.1 in
    let τ : Ty = block_type R n in
    let t = g.dealloc_token h in
    let told = owner_told x.ptr vss.0 are.0.0 in
    let Asked : Type 0 = (x.heap ≡ h) × (m ≡ block_bytes R n) in
    qed 𝓛 (((‵ (flft κ q) ⊛ ‵ (flft z.0.0.1.0 z.0.1.1.0) ⊛ ‵ (flft κA z.0.1.1.1.0) ⊛ ‵ ftrue) ⊛ ‵ (owns (types_at ps z.0.0) a vss))
    ∷ (raw (fact 𝓤 (z.0.0.1.0 ⊑ T.lives)) ⊛ raw (fact 𝓤 (κA ⊑ A.lives)) ⊛ raw (fact 𝓤 Asked)) ∷ []) ∵
    move ! (1 ∷ []) $ split3 ! $ drop ! $ heard ! (κA ⊑ A.lives) (λ le. heard ! Asked (λ asked. split ! $ split ! $ move ! (2 ∷ []) $
    fsplit ! $ fsplit ! $ drop ! $ rewrite ! 0 (λ (u : A.Denot). ‵ (space_owns (g.dealloc_token u) R x.ptr n)) asked.0 refl $
    fit_out R x.ptr n ! (fsep (room_for τ x.ptr) (t τ x.ptr)) (λ small low.
    in_a_block ! x.ptr (λ r. fsep (room_for τ r) (t τ r)) (fst∗ 𝓤 (never 𝓤) (sem 𝓛 (t τ null_ptr))) (λ b o placed.
    -- [the block; the handle and the count; its token; the other tokens]
    move ! (1 ∷ []) $ fsplit ! $ fsplit ! $ drop ! $ move ! (1 ∷ []) $ drop ! $ use1 𝓛 (‵ (seen Y κ at h)) (id⊢ 𝓤 _) $ move ! (0 ∷ 2 ∷ []) $ join ! $ move ! (1 ∷ []) $ fsplit ! $
    let within = bytes_small R n small in
    let sized : capped (size τ) ≡ m = ap capped (block_size R n low ∙ sym asked.1) ∙ capped_is m (omega (arith, asked.1)) in
    let aligned : capped (align τ) ≡ 8 = ap capped (block_align R n low) in
    let y = at_gives Y 𝓛 𝓜.mem 𝓡.returns κ q at h b o m 8 τ in
    regoal ! (λ (us : List Val). prop (WpFn 𝓤 H C Λ fn us Post)) (λ i. (told ∙ ap (λ (r : Ptr). owner_val r ∷ []) placed) i ++ (are.1.0.0 i ++ (are.1.1.0.0 i ++ []))) refl $
    enter ! C Λ fn (owner_val (block_ptr b o) ∷ vptr at.0 at.1 ∷ vint w64 m ∷ []) Post $
    alloc_all ! (λ l. pass_all ! refl ((tt, (tt, (tt, tt))), ((tt, tt), ((tt, record { fits = fm' }), tt))) $ let En : Env 𝓤 𝓛.H = env fn.locals l in
    sets ! (of_opd ! (get_in ! (fld ! refl (stop !)) (sub ! 0 refl (whole !)))) refl (tt, tt) $
    first ! $ blocks ! $ sets ! (of_opd ! (get ! refl)) refl (tt, tt) $
    use3 𝓛 (raw ((Gives Y 𝓛 𝓜.mem 𝓡.returns).pre y)) (Gives-goes Y 𝓛 𝓜.mem 𝓡.returns κ q at h (⊑_trans κ κA A.lives z.0.2.0 le) b o m 8 τ sized aligned fm' (lit< tt)) $
    calls_at_last ! (fm 𝓛 𝓜 𝓡) (Gives Y 𝓛 𝓜.mem 𝓡.returns) (met.deallocate dd) y (and_then ! (get ! refl) (and_then ! (get ! refl) (and_then ! (get ! refl) (and_then ! (lit ! tt) (no_more !))))) (λ v.
    use1 𝓛 (later (given (v ≡ vunit) (‵ (flft κ q)))) (Gives-Gives Y 𝓛 𝓜.mem 𝓡.returns κ q at h b o m 8 τ v) $ await ! tt $ learn ! (λ e. move ! (0 ∷ 1 ∷ []) $ join ! $
    regoal ! (λ (u : Val). settles En (place 5 []) u (out_of_block 𝓛 (then_runs 𝓛 C Λ En (after 2 fn.body) (at_ret En Post)))) (e) refl $ lands_last ! refl (tt, tt) $
    exec ! C Λ En (after 2 fn.body) (at_ret En Post) $
    sets ! (of_opd ! (unit_lit !)) refl (tt, tt) $
    returns ! (look_at ! 0 refl) $ free_all ! refl $
    feq_i ! (List Val) (vunit ∷ []) (vunit ∷ []) refl $ nothing ! $ nothing ! $ nothing ! $ fjoin ! $ nothing ! $ fjoin ! $ nothing ! $ fjoin ! $ move ! (3 ∷ 0 ∷ 2 ∷ 1 ∷ []) $
    by ! (leaves 𝓛 En₀ hs c z vunit tt (tt, (tt, (tt, tt))) (tt, (tt, (tt, tt)))))))))))
    )
