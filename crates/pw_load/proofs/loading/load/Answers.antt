use Rattle.std.proofs.Common.{◌≡◌, length, sym}
use Rattle.std.proofs.lemmas.List.{length-map}
use Rattle.pw_base.specs.Seen.{files_seen}
use Rattle.aml_block.specs.Held.{names_of}
use Rattle.pw_load.specs.Lines.{blocks_line}
use Rattle.pw_load.proofs.Stopping.{stops_loading}
use Rattle.pw_load.proofs.loading.load.Goals as goal

pub returns-in-Err-clause-stopped : goal.returns-in-Err-clause-stopped
returns-in-Err-clause-stopped g c =
    let names = names_of c.args.names.now in
    let many : length c.args.names.now ≡ length names = sym (length-map c.args.names.now (λ n. n.now)) in
    let before = files_seen g.F.Files c.args.files.now in
    let after = files_seen g.F.Files c.read_blocks.new.files in
    let fault = c.in-Err.fault in
    record {
      line = blocks_line (length names) fault;
      way = rw c.refuse.ensures.status (stops_loading before after names fault c.in-Err.ensures.own c.in-Err.ensures.failed c.in-Err.ensures.fault);
      said = rw many at c.refuse.ensures.line;
    }
