use Rattle.std.proofs.Common.{◌≡◌, ◌∙◌, true}
use Rattle.pw_base.specs.Outside.{Rose}
use Rattle.aml_block.proofs.Held.{held_found, held_fault, held_only, held_refused, read_of, never_read}
use Rattle.aml_block.proofs.reading.read.Goals as goal

pub returns-clause-failed : goal.returns-clause-failed
returns-clause-failed g c = never_read c.parse.result (Rose (g.F.Files.faults c.args.files.now c.args.name.now) (g.F.Files.faults c.read_all.new.files c.args.name.now)) c.parse.ensures.no_file

pub returns-clause-found : goal.returns-clause-found
returns-clause-found g c =
    held_found c.parse.result (g.F.Files.told c.args.files.now ≡ true) (g.F.Files.holds c.args.files.now c.args.name.now) c.in_ok-bytes.bytes.items
    c.in_ok-bytes.ensures.content (rw c.deref.ensures.value at c.parse.ensures.found)

pub returns-clause-only : goal.returns-clause-only
returns-clause-only g c = λ tells content held.
    held_only c.parse.result c.deref.result.now content (c.deref.ensures.value ∙ read_of _ c.in_ok-bytes.bytes.items content held (c.in_ok-bytes.ensures.content tells)) c.parse.ensures.only

pub returns-clause-fault : goal.returns-clause-fault
returns-clause-fault g c =
    held_fault c.parse.result (g.F.Files.told c.args.files.now ≡ true) (g.F.Files.holds c.args.files.now c.args.name.now) c.in_ok-bytes.bytes.items
    c.in_ok-bytes.ensures.content (rw c.deref.ensures.value at c.parse.ensures.fault)

pub returns-clause-refused : goal.returns-clause-refused
returns-clause-refused g c = λ tells content held.
    held_refused c.parse.result c.deref.result.now content (c.deref.ensures.value ∙ read_of _ c.in_ok-bytes.bytes.items content held (c.in_ok-bytes.ensures.content tells)) c.parse.ensures.refused
