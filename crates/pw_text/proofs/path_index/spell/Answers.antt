use Rattle.std.proofs.Common.{◌∙◌, refl}
use Rattle.std.proofs.lemmas.Result.{on_ok_weaker}
use Rattle.pw_text.proofs.Spelling.{spelled_too, taken_apart}
use Rattle.pw_text.proofs.path_index.spell.Goals as goal

pub returns-in_ok-from_slice-in-Some-clause-spelled : goal.returns-in_ok-from_slice-in-Some-clause-spelled
returns-in_ok-from_slice-in-Some-clause-spelled c =
    let I = c.args.index.now in
    let text = c.args.text.now in
    let leads = rw c.in-Some.is at (taken_apart I text c.write_name.new.name c.in_ok-write_name.field-0 c.find_path.result c.if-not-branch.false
    c.in_ok-write_name.ensures c.find_path.ensures) in
    on_ok_weaker c.index_text.result
    (λ also. spelled_too I (record { names = I.names; texts = c.index_text.new.index }) c.in_ok-from_slice-in-Some.field-0.items text c.in-Some.number c.requires refl
    c.in_ok-from_slice-in-Some.ensures.items leads also)
    c.index_text.ensures
