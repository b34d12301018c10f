use Rattle.std.proofs.Common.{◌≡◌, ◌∙◌, true}
use Rattle.aml_block.proofs.Counted.{is_block, has_fault}
use Rattle.aml_block.proofs.blocks_reading.read_counted.Goals as goal

pub returns-in_err-block-clause-fault : goal.returns-in_err-block-clause-fault
returns-in_err-block-clause-fault g c =
    has_fault (g.F.Files.told c.args.files.now ≡ true) (g.F.Files.holds c.args.files.now c.args.name.now) c.in_ok-bytes.bytes.items
    c.parse.result c.in_err-block.field-0.0 c.from_residual-in_err-block.result c.in_err-block.was
    c.in_ok-bytes.ensures.content (rw c.deref.ensures.value at c.parse.ensures.fault) c.from_residual-in_err-block.ensures.1

pub returns-clause-found : goal.returns-clause-found
returns-clause-found g c =
    is_block (g.F.Files.told c.args.files.now ≡ true) (g.F.Files.holds c.args.files.now c.args.name.now) c.in_ok-bytes.bytes.items c.in_ok-block.block c.len.result
    c.in_ok-bytes.ensures.content (rw c.deref.ensures.value at c.in_ok-block.ensures.found) (c.len.ensures ∙ c.in_ok-bytes.bytes.ok.0)
