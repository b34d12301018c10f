use Rattle.std.proofs.Common.{◌≡◌, ◌∙◌, suc, [], Ok, None, Some, sym, ap, length, arith, refl, add-one}
use Rattle.std.proofs.lemmas.List.{append-nil}
use Rattle.std.proofs.lemmas.Grind.{common_steps}
use Rattle.pw_text.specs.Fields.{lines_of}
use Rattle.pw_text.proofs.Refusing.{bad_past, no_texts}
use Rattle.pw_model.specs.States.{opening}
use Rattle.pw_script.specs.Forms.{wish_in}
use Rattle.pw_script.specs.Reading.{LawfullyChosen, AreLines, requests_of}
use Rattle.pw_notice.specs.Limits.{AnsweredBy}
use Rattle.pw_script.proofs.Limiting.{limits_on}
use Rattle.pw_script.proofs.Making.{reads_on, past_on}
use Rattle.pw_script.proofs.parsing.read_into.Goals as goal

pub loop-left-preserved : goal.loop-left-preserved
loop-left-preserved g c =
    let P = c.args.plan.now in
    let items = c.loop-left.lines.items in
    let chooses = LawfullyChosen (goal.F-post g c.args.governor.now) in
    let moves = AnsweredBy (goal.P-post g c.args.handlers.now.0) (goal.T-post g c.args.handlers.now.1) in
    let e = c.first_line.ensures.value in
    let size = ap length e in
    let room = c.loop-left.invariant.room in
    let q = c.request_of-request.result in
    let w : wish_in P c.first_line.result.0.now ≡ Ok (Some c.in-Ok-Some.wish) = grind (arith, common_steps, c.in_ok-why.ensures.wish, c.in-Ok-Some.is, c.in-Ok-Some.field-0-is) in
    let is = c.in_ok-push-in-Ok-Some.ensures.items in
    record {
      reads = reads_on P chooses moves (AreLines P chooses moves [] 1 (lines_of c.args.bytes.now)) items _ c.loop-left.number _ _ _ c.in-Ok-Some.wish q e w
          (c.request_of-request.ensures.asked (requests_of items) c.loop-left.invariant.limits) is c.loop-left.invariant.reads;
      bad = rw add-one (sym (bad_past (wish_in P) (suc c.loop-left.number) _ _ _ (Some c.in-Ok-Some.wish) e w) ∙ c.loop-left.invariant.bad);
      room = omega arith;
      limits = limits_on P (opening P) c.loop-left.state c.note.new.state items _ _ q is c.note.ensures.limits c.loop-left.invariant.limits;
      fits = c.note.ensures.fits;
    }

pub loop-left-preserved-in-Ok-None : goal.loop-left-preserved-in-Ok-None
loop-left-preserved-in-Ok-None g c =
    let P = c.args.plan.now in
    let items = c.loop-left.lines.items in
    let chooses = LawfullyChosen (goal.F-post g c.args.governor.now) in
    let moves = AnsweredBy (goal.P-post g c.args.handlers.now.0) (goal.T-post g c.args.handlers.now.1) in
    let e = c.first_line.ensures.value in
    let size = ap length e in
    let room = c.loop-left.invariant.room in
    let w : wish_in P c.first_line.result.0.now ≡ Ok None = grind (arith, common_steps, c.in_ok-why.ensures.wish, c.in-Ok-None.is, c.in-Ok-None.field-0-is) in
    record {
      reads = past_on P chooses moves (AreLines P chooses moves [] 1 (lines_of c.args.bytes.now)) items c.loop-left.number _ _ _ e w c.loop-left.invariant.reads;
      bad = rw add-one (sym (bad_past (wish_in P) (suc c.loop-left.number) _ _ _ None e w) ∙ c.loop-left.invariant.bad);
      room = omega arith;
      limits = c.loop-left.invariant.limits;
      fits = c.loop-left.invariant.fits;
    }

pub returns-clause-read : goal.returns-clause-read
returns-clause-read g c =
    let empty : length c.loop-left.left.now ≡ 0 = grind (arith, c.is_empty.ensures, c.loop-left-test.false, c.loop-left-test.ensures) in
    let none : lines_of c.loop-left.left.now ≡ [] = no_texts c.loop-left.left.now empty in
    let read = c.loop-left.invariant.reads [] (rw none refl) in
    rw append-nil at read
