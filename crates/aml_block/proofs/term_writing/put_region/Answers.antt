use Rattle.std.proofs.Common.{◌∷◌, ◌++◌, [], is_ok}
use Rattle.aml_data.specs.Written.{written_constant, written_name}
use Rattle.aml_block.specs.Opcodes.{opcode_bytes}
use Rattle.aml_block.proofs.Appended.{Appends-parts}
use Rattle.aml_block.specs.declared.opcode.TheConstants.{OP_REGION_OP}
use Rattle.aml_block.proofs.term_writing.put_region.Goals as goal

pub returns : goal.returns
returns c =
    let range = written_constant c.args.offset ++ written_constant c.args.length in
    Appends-parts c.args.out.now.items c.put_opcode.new.out.items c.put_name.new.out.items c.put_constant-2.new.out.items (opcode_bytes OP_REGION_OP) (written_name c.args.path.now) (c.args.space
    ∷ range)
    (is_ok c.put_constant-2.result) c.in_ok-put_opcode.ensures c.in_ok-put_name.ensures
    (Appends-parts c.put_name.new.out.items c.put.new.out.items c.put_constant.new.out.items c.put_constant-2.new.out.items (c.args.space ∷ []) (written_constant c.args.offset)
    (written_constant c.args.length) (is_ok c.put_constant-2.result) c.in_ok-put.ensures c.in_ok-put_constant.ensures c.put_constant-2.ensures)
