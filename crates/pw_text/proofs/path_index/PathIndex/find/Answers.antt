use Rattle.std.proofs.Common.{◌∙◌, sym}
use Rattle.pw_text.proofs.Spelling.{found_spelled, taken_apart}
use Rattle.pw_text.proofs.path_index.PathIndex.find.Goals as goal

pub returns-then-is_some : goal.returns-then-is_some
returns-then-is_some c =
    found_spelled c.args.self.now (record { bytes = c.extend_from_slice.new.self }) c.args.text.now c.find_text-spelled.result c.requires
    (rw c.clear.ensures.items at c.in_ok-extend_from_slice.ensures.items) c.find_text-spelled.ensures (sym c.is_some.ensures ∙ c.if-is_some.true)

pub returns : goal.returns
returns c =
    taken_apart c.args.self.now c.args.text.now c.write_name.new.name c.in_ok-write_name.field-0 c.find_path.result c.if-not-branch.false
    c.in_ok-write_name.ensures c.find_path.ensures
