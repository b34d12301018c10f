use Rattle.std.specs.Fmt.{digits}
use Rattle.std.proofs.Common.{◌≡◌, ◌-◌, ◌++◌, ◌∙◌, ℕ, List, true, ap, append_assoc, codes, take, drop, length, length-drop, arith}
use Rattle.std.proofs.lemmas.List.{take_all}
use Rattle.std.proofs.lemmas.Result.{on_ok_weaker}
use Rattle.pw_audit.proofs.words.push_hex.Goals as goal

pub returns : goal.returns
returns c =
    let start = c.write_hex-start.result in
    let buf = c.write_hex-start.new.buf in
    let long : length buf ≡ 64 = c.write_hex-start.array_long in
    let whole : take (64 - start) (drop start buf) ≡ digits 16 true c.args.number = take_all (64 - start) (drop start buf) (omega (arith, length-drop start buf)) ∙ c.write_hex-start.ensures.text in
    let before = c.args.line.now.items in
    let shown = take (64 - start) (drop start buf) in
    on_ok_weaker c.push-2.result
    (λ e. e ∙ ap (λ (l : List ℕ). l ++ shown) c.in_ok-push.ensures
    ∙ append_assoc before (codes "0x") shown ∙ ap (λ (l : List ℕ). before ++ (codes "0x" ++ l)) whole)
    c.push-2.ensures
