use Rattle.std.specs.Fmt.{digits}
use Rattle.std.proofs.Common.{◌≡◌, ◌-◌, ◌∙◌, true, take, drop, length, length-drop, arith}
use Rattle.std.proofs.lemmas.List.{take_all}
use Rattle.pw_text.proofs.Putting.{PutsText-as, PutsText-stop, PutsText-then}
use Rattle.pw_text.proofs.numbers.put_hex.Goals as goal

pub returns-in_err-put : goal.returns-in_err-put
returns-in_err-put g c = PutsText-stop (digits 16 true c.args.number) c.from_residual.result c.from_residual.ensures.0 c.in_err-put.ensures

pub returns : goal.returns
returns g c =
    let start = c.write_hex-start.result in
    let buf = c.write_hex-start.new.buf in
    let long : length buf ≡ 64 = c.write_hex-start.array_long in
    let whole : take (64 - start) (drop start buf) ≡ digits 16 true c.args.number = take_all (64 - start) (drop start buf) (omega (arith, length-drop start buf)) ∙ c.write_hex-start.ensures.text in
    PutsText-then c.in_ok-put.ensures (PutsText-as (digits 16 true c.args.number) whole c.put-2.ensures)
