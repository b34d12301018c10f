use Rattle.std.proofs.Common.{◌≡◌, ◌++◌, ◌∙◌, [], ℕ, List, ap, arith, length, refl, sym}
use Rattle.std.specs.List.{flat_map}
use Rattle.std.proofs.lemmas.Grind.{flat_map-append}
use Rattle.std.proofs.lemmas.List.{append-nil}
use Rattle.pw_base.proofs.Facts.{empty}
use Rattle.pw_text.proofs.Putting.{PutsText-as, PutsText-none, PutsText-then}
use Rattle.pw_show.specs.inner.Pieces.{character_text}
use Rattle.pw_show.proofs.Chains.{more_done, of_parts}
use Rattle.pw_show.proofs.Putting.{fault_is, puts_as, puts_done, puts_stop, puts_then}
use Rattle.pw_show.proofs.json_strings.put_pieces.Goals as goal

pub loop-rest-init : goal.loop-rest-init
loop-rest-init g c = ([], refl, PutsText-none c.args.sink.now c.args.page.now)

pub loop-rest-preserved : goal.loop-rest-preserved
loop-rest-preserved g c =
    let done = c.loop-rest.invariant.0 in
    let piece = c.split_at.result.0.now in (
      done ++ piece,
      more_done c.args.bytes.now done c.loop-rest.rest.now piece c.split_at.result.1.now c.first_piece-size.result c.loop-rest.invariant.1 c.split_at.ensures.front c.split_at.ensures.back,
      PutsText-as (flat_map character_text (done ++ piece)) (sym (flat_map-append character_text done piece))
          (PutsText-then c.loop-rest.invariant.2 (c.in_ok-put_piece.ensures.whole refl)),
    )

pub returns-in_err-put_piece : goal.returns-in_err-put_piece
returns-in_err-put_piece g c =
    let bytes = c.args.bytes.now in
    let done = c.loop-rest.invariant.0 in
    let piece = c.split_at.result.0.now in
    let others = c.split_at.result.1.now in
    let all = more_done bytes done c.loop-rest.rest.now piece others c.first_piece-size.result c.loop-rest.invariant.1 c.split_at.ensures.front c.split_at.ensures.back in
    let fault = fault_is c.from_residual.result _ c.from_residual.ensures.1 in
    puts_as (flat_map character_text bytes) (of_parts character_text bytes (done ++ piece) others all) refl
    (puts_stop (flat_map character_text others) c.from_residual.ensures.0
    (puts_as (flat_map character_text (done ++ piece)) (sym (flat_map-append character_text done piece)) (sym fault)
    (puts_then c.loop-rest.invariant.2 c.in_err-put_piece.ensures)))

pub returns : goal.returns
returns g c =
    let bytes = c.args.bytes.now in
    let done = c.loop-rest.invariant.0 in
    let rest = c.loop-rest.rest.now in
    let none : length rest ≡ 0 = grind (arith, c.is_empty.ensures, c.loop-rest-test.false, c.loop-rest-test.ensures) in
    let all : done ≡ bytes = sym (c.loop-rest.invariant.1 ∙ ap (λ (l : List ℕ). done ++ l) (empty rest none) ∙ append-nil done) in
    puts_done _ (PutsText-as _ (ap (λ (l : List ℕ). flat_map character_text l) all) c.loop-rest.invariant.2)
