use Rattle.pw_words.specs.declared.command.Task.TheVariants.{Lint}
use Rattle.pw_load.proofs.Outcomes.{did_stop, did_within}
use Rattle.pw_tasks.proofs.Parts.{linting_within, placing_within}
use Rattle.pw_tasks.proofs.lint.lint.Goals as goal

pub lint_passing-status-requires : goal.lint_passing-status-requires
lint_passing-status-requires g c = rw c.in-Ok.ensures.placed (c.blocks_are_countable.ensures c.args.blocks.now c.requires.writable)

pub returns-in-Err-clause-did : goal.returns-in-Err-clause-did
returns-in-Err-clause-did g c =
    did_within (placing_within Lint c.args.blocks.now (λ status line twice. twice))
    (did_stop g.K.Sink c.args.out.now c.args.err.now c.place.new.err c.in-Err.status c.in-Err.ensures.stopped)

pub returns-in-Ok-clause-did : goal.returns-in-Ok-clause-did
returns-in-Ok-clause-did g c =
    let did = rw c.in-Ok.ensures.quiet at c.lint_passing-status.ensures.did in
    did_within (linting_within c.in-Ok.space c.args.blocks.now c.in-Ok.ensures.placed c.in-Ok.ensures.distinct) did
