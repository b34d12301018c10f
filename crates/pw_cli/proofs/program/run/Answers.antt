use Rattle.std.proofs.Common.{None, refl}
use Rattle.pw_words.specs.Command.{asked_of}
use Rattle.pw_words.specs.Words.{texts}
use Rattle.pw_load.proofs.Outcomes.{ended_as, ended_saying}
use Rattle.pw_load.specs.Seen.{all_seen}
use Rattle.pw_cli.specs.Runs.{EndsBy, words_line}
use Rattle.pw_cli.specs.Runs.EndsBy.{commanded}
use Rattle.pw_cli.proofs.Complete.{complete_of, refused_so}
use Rattle.pw_cli.proofs.Obeying.{within_of}
use Rattle.pw_cli.proofs.Spared.{spared_of}
use Rattle.pw_cli.proofs.program.run.Goals as goal

pub obey-requires : goal.obey-requires
obey-requires g c =
    let within = within_of (texts c.args.words.now) (asked_of c.in-Ok.command) c.in-Ok.ensures.read in
    (c.type_bounds.send-R, (c.type_bounds.sync-T, (c.type_bounds.sync-G, within)))

pub returns-in-Ok-clause-ran : goal.returns-in-Ok-clause-ran
returns-in-Ok-clause-ran g c = ended_as (λ text line way. commanded (asked_of c.in-Ok.command) c.in-Ok.ensures.read way) c.obey.ensures.obeyed

pub returns-in-Ok-clause-complete : goal.returns-in-Ok-clause-complete
returns-in-Ok-clause-complete g c = complete_of (returns-in-Ok-clause-ran g c)

pub returns-in-Ok-clause-spared : goal.returns-in-Ok-clause-spared
returns-in-Ok-clause-spared g c = spared_of (returns-in-Ok-clause-ran g c)

pub returns-clause-ran : goal.returns-clause-ran
returns-clause-ran g c =
    let before = all_seen g.F.Files g.K.Sink g.R.Registers c.args.files.now c.args.out.now c.args.err.now c.args.regs in
    let after = all_seen g.F.Files g.K.Sink g.R.Registers c.args.files.now c.args.out.now c.refuse_words.new.err c.args.regs in
    ended_saying {ways = EndsBy (texts c.args.words.now) None before after} g.K.Sink c.args.out.now c.args.err.now c.refuse_words.new.err (words_line c.in-Err.fault) c.refuse_words.result
    (rw c.refuse_words.ensures.status (refused_so (texts c.args.words.now) None before after c.in-Err.fault c.in-Err.ensures.read refl refl))
    c.refuse_words.ensures.line

pub returns-clause-complete : goal.returns-clause-complete
returns-clause-complete g c = complete_of (returns-clause-ran g c)

pub returns-clause-spared : goal.returns-clause-spared
returns-clause-spared g c = spared_of (returns-clause-ran g c)
