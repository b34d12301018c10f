use Rattle.std.proofs.Common.{◌≡◌, ◌∙◌, suc, Ok, Some, sym, ap, length, arith, add-one}
use Rattle.std.proofs.lemmas.Grind.{common_steps}
use Rattle.pw_text.proofs.Refusing.{bad_past}
use Rattle.pw_cppc.specs.Requests.{Has}
use Rattle.pw_cppc_drive.specs.Forms.{request_in}
use Rattle.pw_cppc_drive.proofs.Making.{all_have, read_on}
use Rattle.pw_cppc_drive.proofs.parsing.read_into.Goals as goal

pub loop-left-preserved : goal.loop-left-preserved
loop-left-preserved c =
    let P = c.args.plan.now in
    let items = c.loop-left.lines.items in
    let e = c.first_line.ensures.value in
    let size = ap length e in
    let room = c.loop-left.invariant.room in
    let few = c.loop-left.invariant.few in
    let q = c.in-Ok-Some.request in
    let w : request_in P c.first_line.result.0.now ≡ Ok (Some q) =
    grind (arith, common_steps, c.in_ok-why.ensures.request, c.in-Ok-Some.is, c.in-Ok-Some.field-0-is, c.in-Ok-Some.request-is) in
    let has : Has P q = grind (arith, common_steps, c.in_ok-why.ensures.exists, c.in-Ok-Some.is, c.in-Ok-Some.field-0-is, c.in-Ok-Some.request-is) in
    let is = c.in_ok-push-in-Ok-Some.ensures.items in
    record {
      read = read_on P items _ _ c.loop-left.number _ _ _ q e w is c.loop-left.invariant.read;
      bad = rw add-one (sym (bad_past (request_in P) (suc c.loop-left.number) _ _ _ (Some q) e w) ∙ c.loop-left.invariant.bad);
      room = omega arith;
      few = grind (arith, common_steps, is, few);
      exist = all_have P items _ _ is c.loop-left.invariant.exist has;
    }
