use Rattle.std.proofs.Common.{◌≡◌, ◌<◌, ◌-◌, ◌∙◌, ◌++◌, [], length, sym, ap, append_assoc, arith}
use Rattle.std.specs.List.{flat_map, range_with_len}
use Rattle.pw_plan.proofs.Ranges.{pushed_flat_map}
use Rattle.pw_text.proofs.Putting.{PutsText-as, PutsText-none, PutsText-stop, PutsText-then}
use Rattle.pw_generate.specs.inner.Ending.{standing_behind, standings_behind}
use Rattle.pw_generate.proofs.ends.put_standings.Goals as goal

pub loop-place-init : goal.loop-place-init
loop-place-init g c =
    let P = c.args.plan.now in
    let whole : length P.domains - 0 ≡ length P.domains = omega arith in
    ([], PutsText-none c.args.sink.now c.args.page.now, ap (λ n. flat_map (standing_behind P c.args.state.now) (range_with_len 0 n)) whole)

pub returns-in_err-put_standing : goal.returns-in_err-put_standing
returns-in_err-put_standing g c =
    let P = c.args.plan.now in
    let S = c.args.state.now in
    let d = c.loop-place.place in
    let so_far = c.loop-place.invariant in
    let lt : d < length P.domains = rw (← c.as_slice-place-end.ensures) c.loop-place-test.true in
    let next = pushed_flat_map so_far.0 (standings_behind P S) d (length P.domains) lt (standing_behind P S) so_far.2 in
    PutsText-as (standings_behind P S) (sym (append_assoc so_far.0 (standing_behind P S d) _) ∙ next)
    (PutsText-then so_far.1 (PutsText-stop _ c.from_residual.result c.from_residual.ensures.0 c.in_err-put_standing.ensures))

pub loop-place-preserved : goal.loop-place-preserved
loop-place-preserved g c =
    let P = c.args.plan.now in
    let S = c.args.state.now in
    let d = c.loop-place.place in
    let so_far = c.loop-place.invariant in
    let lt : d < length P.domains = rw (← c.as_slice-place-end.ensures) c.loop-place-test.true in
    let next = pushed_flat_map so_far.0 (standings_behind P S) d (length P.domains) lt (standing_behind P S) so_far.2 in
    (so_far.0 ++ standing_behind P S d, PutsText-then so_far.1 c.in_ok-put_standing.ensures, next)
