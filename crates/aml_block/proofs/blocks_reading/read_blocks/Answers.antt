use Rattle.std.proofs.Common.{◌∙◌, arith}
use Rattle.pw_base.proofs.Keeping.{KeepsFiles-then}
use Rattle.aml_block.specs.Held.{IsBlock, HasFault}
use Rattle.aml_block.proofs.Progress.{at_next, name_here, one_more, all_done, is_large, is_fault, is_unread, held_before}
use Rattle.aml_block.proofs.blocks_reading.read_blocks.Goals as goal

pub returns-in-Err-clause-fault : goal.returns-in-Err-clause-fault
returns-in-Err-clause-fault g c =
    let name = name_here c.args.names.now c.loop-name.name-index in
    let next = at_next c.args.names.now c.loop-name.name-index c.loop-name.invariant.1 (omega arith) in
    rw c.fault_in.ensures (is_fault c.len.result name c.in-Err.fault next (c.len.ensures ∙ c.loop-name.blocks.ok.0)
    (λ m n. held_before g.F.Files.told g.F.Files.holds g.F.Files.faults c.args.files.now c.loop-name.files name
    (λ held. HasFault held c.in-Err.fault) c.loop-name.invariant.0 (c.in-Err.ensures.fault m n)))

pub returns-in-Err-clause-failed : goal.returns-in-Err-clause-failed
returns-in-Err-clause-failed g c =
    let name = name_here c.args.names.now c.loop-name.name-index in
    let next = at_next c.args.names.now c.loop-name.name-index c.loop-name.invariant.1 (omega arith) in
    let faults = g.F.Files.faults in
    rw c.fault_in.ensures (is_unread c.len.result name c.in-Err.fault (faults c.args.files.now) (faults c.loop-name.files) (faults c.read_counted.new.files) next
    (c.len.ensures ∙ c.loop-name.blocks.ok.0) (c.loop-name.invariant.0.count name) c.in-Err.ensures.failed)

pub returns-then-total-gt-LARGEST_SUM-clause-fault : goal.returns-then-total-gt-LARGEST_SUM-clause-fault
returns-then-total-gt-LARGEST_SUM-clause-fault g c =
    let name = name_here c.args.names.now c.loop-name.name-index in
    let next = at_next c.args.names.now c.loop-name.name-index c.loop-name.invariant.1 (omega arith) in
    is_large name c.in-Ok.read.0 next
    (held_before g.F.Files.told g.F.Files.holds g.F.Files.faults c.args.files.now c.loop-name.files name
    (λ held. IsBlock held c.in-Ok.read.0 c.in-Ok.read.1) c.loop-name.invariant.0 c.in-Ok.ensures.found)
    c.if-total-gt-LARGEST_SUM.true

pub loop-name-preserved : goal.loop-name-preserved
loop-name-preserved g c =
    let name = name_here c.args.names.now c.loop-name.name-index in
    let next = at_next c.args.names.now c.loop-name.name-index c.loop-name.invariant.1 (omega arith) in
    let block = c.in-Ok.read.0 in (
      KeepsFiles-then c.loop-name.invariant.0 c.read_counted.ensures.keeps,
      rw c.in_ok-push.ensures.items (one_more name block next
          (held_before g.F.Files.told g.F.Files.holds g.F.Files.faults c.args.files.now c.loop-name.files name
          (λ held. IsBlock held block c.in-Ok.read.1) c.loop-name.invariant.0 c.in-Ok.ensures.found)
          c.in-Ok.ensures.writable (omega arith)),
    )

pub returns-clause-found : goal.returns-clause-found
returns-clause-found g c = all_done c.args.names.now c.loop-name.name-index c.loop-name.invariant.1 (omega arith)
