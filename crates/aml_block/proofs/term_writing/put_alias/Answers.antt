use Rattle.std.proofs.Common.{is_ok}
use Rattle.aml_data.specs.Written.{written_name}
use Rattle.aml_block.specs.Opcodes.{opcode_bytes}
use Rattle.aml_block.proofs.Appended.{Appends-parts}
use Rattle.aml_block.specs.declared.opcode.TheConstants.{ALIAS_OP}
use Rattle.aml_block.proofs.term_writing.put_alias.Goals as goal

pub returns : goal.returns
returns c =
    Appends-parts c.args.out.now.items c.put_opcode.new.out.items c.put_name.new.out.items c.put_name-2.new.out.items (opcode_bytes ALIAS_OP) (written_name c.args.source.now)
    (written_name c.args.alias.now)
    (is_ok c.put_name-2.result) c.in_ok-put_opcode.ensures c.in_ok-put_name.ensures c.put_name-2.ensures
