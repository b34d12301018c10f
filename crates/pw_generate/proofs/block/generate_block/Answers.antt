use Rattle.pw_generate.specs.Machines.{machine_block}
use Rattle.pw_generate.proofs.Writable.{machine_writable}
use Rattle.pw_generate.proofs.block.generate_block.Goals as goal

pub returns-clause-writable : goal.returns-clause-writable
unfolding machine_block
returns-clause-writable c =
    rw (c.from_vec.ensures, c.in_ok-vec.ensures.items, c.in_ok-path.ensures, c.in_ok-terms.ensures, c.of_segment.ensures, c.block_header.ensures)
    (machine_writable c.args.n c.requires)
