use Rattle.std.proofs.Common.{◌≡◌, true, rules}
use Rattle.aml_block.proofs.Contents.{more_told}
use Rattle.aml_block.proofs.file.read_more.Goals as goal

pub returns-clause-content : goal.returns-clause-content
returns-clause-content g c =
    more_told c.read-read.result (g.F.Files.told c.args.files.now ≡ true) (g.F.Files.holds c.args.files.now c.args.name.now) c.args.filled c.args.buffer.now _ c.read-read.new.buf _
    c.requires (search rules) c.read-read.auto.buf c.read-read.ensures.within c.read-read.ensures.content
