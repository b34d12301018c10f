use Rattle.std.proofs.Common.{inr}
use Rattle.pw_words.specs.declared.command.Task.TheVariants.{Show}
use Rattle.pw_show.specs.Show.{show_text}
use Rattle.pw_load.proofs.Outcomes.{did_print, did_stop, did_within}
use Rattle.pw_tasks.specs.Tasks.{work_over}
use Rattle.pw_tasks.proofs.Parts.{placing_within, shows}
use Rattle.pw_tasks.proofs.show.show.Goals as goal

pub returns-in-Err-clause-did : goal.returns-in-Err-clause-did
returns-in-Err-clause-did g c =
    did_within (placing_within Show c.args.blocks.now (λ status line twice. twice))
    (did_stop g.K.Sink c.args.out.now c.args.err.now c.place.new.err c.in-Err.status c.in-Err.ensures.stopped)

pub returns-in-Ok-clause-did : goal.returns-in-Ok-clause-did
returns-in-Ok-clause-did g c =
    let space = c.in-Ok.space in
    let text = shows space c.args.blocks.now c.in-Ok.ensures.placed c.in-Ok.ensures.distinct in
    let said = rw c.in-Ok.ensures.quiet at c.printed.ensures.line in
    rw c.printed.ensures.status (did_print (work_over Show c.args.blocks.now) g.K.Sink c.args.out.now c.print_space-outcome.new.out c.args.err.now c.printed.new.err
    (show_text space) c.print_space-outcome.result text c.print_space-outcome.ensures.whole c.print_space-outcome.ensures.part
    c.print_space-outcome.ensures.sink (λ memory. inr (c.print_space-outcome.ensures.memory memory)) said)
