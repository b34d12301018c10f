-- `measures` gives the machine's two numbers. Assumes `Logic`.
use Rattle.std.proofs.Common.{◌≡◌, ◌^◌, ◌<◌, List, [], ◌∷◌, refl, w64}
use mir.Syntax.{Ty, Fn, Args, a_type}
use mir.Val.{Val, vint}
use mir.MapTy.{inst_fn}
use base.Logic.{SProp, emp}
use base.Fml.{ftrue}
use prog.Memory.{size, align, capped}
use prog.Capped.{capped_fits}
use prog.Wp.{Env}
use contract.BorrowLft.{◌⊑◌}
use contract.Monad.{fact, fact_i}
use contract.Running.{tables}
use types.Kit.{‵, raw, ◌⊛◌, ◌$◌, ◌∵◌, !, qed, by, move, drop, use0, use2, split, join, fjoin, feq_i, flt_i}
use types.Part.{agg}
use types.Run.{size_word, align_word, no_more, and_then, returns, enter}
use types.ByLocal.{alloc_all, pass_all, free_all, look_at, sets, env}
use denote.RattleType.{owns}
use denote.Builtin.{usize}
use denote.Param.{layout, layouts}
use denote.Signature.{types_at}
use denote.Steps.{nothing, heard}
use denote.Struct.Tuple.{Tuple}
use denote.Triple.Entry.{alive}
use denote.Triple.Walked.{Stays, walk_of}
use Rattle.std_alloc.proofs.Pairs.{pair_of, pair_val}
use Rattle.std.proofs.raw_atomic.Walks.{proved_at, leaves}
use Rattle.pw_base.proofs.ThinBlocks.{size_as_told, align_as_told}
use Rattle.pw_base.specs.contracts.thin.measures.{ended, clauses}
use Rattle.pw_base.specs.contracts.thin.measures.Key.{name as #self}
use Rattle.pw_base.proofs.thin.measures.Statement.{statement}
use Rattle.pw_base.proofs.thin.measures.Code as compiled

pub measures_spec : {M : Type 1} → statement M
measures_spec 𝓤 𝓛 𝓜 𝓡 wired T L =
    let H = 𝓛.H in
    let En₀ = ended T in
    let c₀ = clauses T 𝓛 𝓜.mem 𝓡.returns in
    let args : Args = layouts (a_type ∷ []) (T, tt) in
    let fn : Fn = inst_fn args compiled.function in
    let hs : Stays En₀.signature.params En₀.kept = tt in
    let c = c₀ in
    let C = (tables 𝓤 H 𝓜 𝓡 𝓡.env).C in
    let Λ = (tables 𝓤 H 𝓜 𝓡 𝓡.env).Λ in
    proved_at 𝓛 En₀ hs c 𝓜 𝓡 tt (#self args) fn (compiled.unfolded 𝓤 H 𝓜 𝓡 wired (T, tt)) (λ z are.
    let Post : Val → SProp 𝓤 = (walk_of 𝓛 En₀ hs c).post z in
    let a = z.0.3 in
    let vss = z.0.4 in
    let τ : Ty = layout T in
    let n = capped (size τ) in
    let al = capped (align τ) in
    let Sized : Type 0 = n < 2 ^ 63 → n ≡ size τ in
    qed 𝓛 ((raw (alive 𝓛 En₀.signature z.0.0 z.0.1) ⊛ ‵ (owns (types_at En₀.signature.params z.0.0) a vss)) ∷ (raw (fact 𝓤 (z.0.0.0 ⊑ T.lives)) ⊛ ‵ ftrue) ∷ []) ∵
    move ! (1 ∷ []) $ split ! $ heard ! (z.0.0.0 ⊑ T.lives) (λ le. drop ! $ split ! $ move ! (1 ∷ []) $
    drop ! $
    enter ! C Λ fn [] Post $
    alloc_all ! (λ l. pass_all ! refl tt $ let En : Env 𝓤 𝓛.H = env fn.locals l in
    sets ! (agg ! (and_then ! (size_word !) (and_then ! (align_word !) (no_more !)))) refl (tt, (record { fits = capped_fits (size τ) }, (record { fits = capped_fits (align τ) }, tt))) $
    returns ! (look_at ! 0 refl) $ free_all ! refl $
    flt_i ! al (2 ^ 64) (capped_fits (align τ)) $ feq_i ! (List Val) (vint w64 al ∷ []) (vint w64 al ∷ []) refl $ fjoin ! $
    flt_i ! n (2 ^ 64) (capped_fits (size τ)) $ feq_i ! (List Val) (vint w64 n ∷ []) (vint w64 n ∷ []) refl $ fjoin ! $ use2 𝓛
    (‵ ((Tuple (usize ∷ usize ∷ [])).own_val (n, al) (pair_val (vint w64 n) (vint w64 al) ∷ []))) (pair_of 𝓛 (usize) (usize) (n) (al) (vint w64 n) (vint w64 al)) $ use0 𝓛
    (raw (fact 𝓤 (al ≡ align τ))) (fact_i 𝓤 (al ≡ align τ) (emp 𝓤) (align_as_told τ)) $
    use0 𝓛 (raw (fact 𝓤 Sized)) (fact_i 𝓤 Sized (emp 𝓤) (size_as_told τ)) $ join ! $ nothing ! $ move ! (3 ∷ 0 ∷ 2 ∷ 1 ∷ []) $
    by ! (leaves 𝓛 En₀ hs c z (pair_val (vint w64 n) (vint w64 al)) (n, al) tt tt))))
