use Rattle.std.proofs.Common.{◌++◌, [], refl, sym}
use Rattle.std.specs.List.{flat_map}
use Rattle.std.proofs.lemmas.Grind.{flat_map-append}
use Rattle.pw_text.proofs.Putting.{PutsText-as, PutsText-none, PutsText-stop, PutsText-then}
use Rattle.pw_show.specs.inner.Pieces.{comma_number}
use Rattle.pw_show.proofs.Chains.{more_done, of_parts}
use Rattle.pw_show.proofs.json_buffers.put_others.Goals as goal

pub loop-rest-init : goal.loop-rest-init
loop-rest-init g c = ([], refl, PutsText-none c.args.sink.now c.args.page.now)

pub loop-rest-preserved : goal.loop-rest-preserved
loop-rest-preserved g c =
    let done = c.loop-rest.invariant.0 in
    let piece = c.split_at.result.0.now in (
      done ++ piece,
      more_done c.args.bytes.now done c.loop-rest.rest.now piece c.split_at.result.1.now 512 c.loop-rest.invariant.1 c.split_at.ensures.front c.split_at.ensures.back,
      PutsText-as (flat_map comma_number (done ++ piece)) (sym (flat_map-append comma_number done piece)) (PutsText-then c.loop-rest.invariant.2 c.in_ok-put_piece.ensures),
    )

pub returns-in_err-put_piece : goal.returns-in_err-put_piece
returns-in_err-put_piece g c =
    let bytes = c.args.bytes.now in
    let done = c.loop-rest.invariant.0 in
    let piece = c.split_at.result.0.now in
    let others = c.split_at.result.1.now in
    let all = more_done bytes done c.loop-rest.rest.now piece others 512 c.loop-rest.invariant.1 c.split_at.ensures.front c.split_at.ensures.back in
    PutsText-as (flat_map comma_number bytes) (of_parts comma_number bytes (done ++ piece) others all)
    (PutsText-stop (flat_map comma_number others) c.from_residual.result c.from_residual.ensures.0
    (PutsText-as (flat_map comma_number (done ++ piece)) (sym (flat_map-append comma_number done piece)) (PutsText-then c.loop-rest.invariant.2 c.in_err-put_piece.ensures)))

pub returns : goal.returns
returns g c =
    PutsText-as (flat_map comma_number c.args.bytes.now) (of_parts comma_number c.args.bytes.now c.loop-rest.invariant.0 c.loop-rest.rest.now c.loop-rest.invariant.1)
    (PutsText-then c.loop-rest.invariant.2 c.put_piece-2.ensures)
