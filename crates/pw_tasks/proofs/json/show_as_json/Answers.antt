use Rattle.std.proofs.Common.{inl, refl}
use Rattle.pw_words.specs.declared.command.Task.TheVariants.{ShowAsJson}
use Rattle.pw_show.specs.Json.{json_text}
use Rattle.pw_load.proofs.Outcomes.{did_print, did_stop, did_within}
use Rattle.pw_tasks.specs.Tasks.{work_over}
use Rattle.pw_tasks.proofs.Parts.{placing_within, shows_as_json}
use Rattle.pw_tasks.proofs.json.show_as_json.Goals as goal

pub returns-in-Err-clause-did : goal.returns-in-Err-clause-did
returns-in-Err-clause-did g c =
    did_within (placing_within ShowAsJson c.args.blocks.now (λ status line twice. twice))
    (did_stop g.K.Sink c.args.out.now c.args.err.now c.place.new.err c.in-Err.status c.in-Err.ensures.stopped)

pub returns-in-Ok-clause-did : goal.returns-in-Ok-clause-did
returns-in-Ok-clause-did g c =
    let space = c.in-Ok.space in
    let text = shows_as_json space c.args.blocks.now c.in-Ok.ensures.placed c.in-Ok.ensures.distinct in
    let said = rw c.in-Ok.ensures.quiet at c.printed.ensures.line in
    rw c.printed.ensures.status (did_print (work_over ShowAsJson c.args.blocks.now) g.K.Sink c.args.out.now c.print_json-outcome.new.out c.args.err.now c.printed.new.err
    (json_text space) c.print_json-outcome.result text c.print_json-outcome.ensures.whole c.print_json-outcome.ensures.part
    c.print_json-outcome.ensures.sink (λ memory. inl refl) said)
