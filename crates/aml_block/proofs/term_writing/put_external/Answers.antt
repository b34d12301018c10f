use Rattle.std.proofs.Common.{◌∷◌, [], is_ok}
use Rattle.aml_data.specs.Written.{written_name}
use Rattle.aml_block.specs.Opcodes.{opcode_bytes}
use Rattle.aml_block.proofs.Appended.{Appends-parts}
use Rattle.aml_block.specs.declared.opcode.TheConstants.{EXTERNAL_OP}
use Rattle.aml_block.proofs.term_writing.put_external.Goals as goal

pub returns : goal.returns
returns c =
    Appends-parts c.args.out.now.items c.put_opcode.new.out.items c.put_name.new.out.items c.put.new.out.items (opcode_bytes EXTERNAL_OP) (written_name c.args.path.now) (c.args.kind ∷ c.args.args
    ∷ [])
    (is_ok c.put.result) c.in_ok-put_opcode.ensures c.in_ok-put_name.ensures c.put.ensures
