use Rattle.std.proofs.Common.{inl}
use Rattle.pw_words.specs.declared.command.Task.TheVariants.{Check}
use Rattle.pw_load.proofs.Outcomes.{did_stop, did_within}
use Rattle.pw_tasks.proofs.Parts.{checking_within, placing_within}
use Rattle.pw_tasks.proofs.check.check.Goals as goal

pub check_space-status-requires-clause-countable : goal.check_space-status-requires-clause-countable
check_space-status-requires-clause-countable g c = rw c.in-Ok.ensures.placed (c.blocks_are_countable.ensures c.args.blocks.now c.requires.writable)

pub returns-in-Err-clause-did : goal.returns-in-Err-clause-did
returns-in-Err-clause-did g c =
    did_within (placing_within Check c.args.blocks.now (λ status line twice. inl twice))
    (did_stop g.K.Sink c.args.out.now c.args.err.now c.place.new.err c.in-Err.status c.in-Err.ensures.stopped)

pub returns-in-Ok-clause-did : goal.returns-in-Ok-clause-did
returns-in-Ok-clause-did g c =
    let did = rw c.in-Ok.ensures.quiet at c.check_space-status.ensures.did in
    did_within (checking_within c.in-Ok.space c.args.blocks.now c.in-Ok.ensures.placed c.in-Ok.ensures.distinct) did
