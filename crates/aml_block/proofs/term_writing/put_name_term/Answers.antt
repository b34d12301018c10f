use Rattle.std.proofs.Common.{is_ok}
use Rattle.aml_data.specs.Written.{written, written_name}
use Rattle.aml_block.specs.Opcodes.{opcode_bytes}
use Rattle.aml_block.proofs.Appended.{Appends-parts}
use Rattle.aml_block.specs.declared.opcode.TheConstants.{NAME_OP}
use Rattle.aml_block.proofs.term_writing.put_name_term.Goals as goal

pub returns : goal.returns
returns c =
    Appends-parts c.args.out.now.items c.put_opcode.new.out.items c.put_name.new.out.items c.put_object.new.out.items (opcode_bytes NAME_OP) (written_name c.args.path.now) (written c.args.value.now)
    (is_ok c.put_object.result) c.in_ok-put_opcode.ensures c.in_ok-put_name.ensures c.put_object.ensures
