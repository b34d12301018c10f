use Rattle.std.proofs.Common.{rules}
use Rattle.pw_runs.proofs.Parsed.{few_read, has_read, none_read, script_read}
use Rattle.pw_runs.proofs.script.parse_by.Goals as goal

pub returns-clause-few : goal.returns-clause-few
returns-clause-few g c = few_read c.args.plan.now c.args.bytes.now c.parse.result c.parse.ensures.good c.parse.ensures.fit

pub returns-clause-has : goal.returns-clause-has
returns-clause-has g c = has_read c.args.plan.now c.args.bytes.now c.parse.result c.parse.ensures.fit

pub returns-clause-script : goal.returns-clause-script
returns-clause-script g c =
    let read = rw c.new-handlers.ensures.functions at c.parse.ensures.read in
    script_read c.args.plan.now c.args.bytes.now _ _ _ (λ t tolerance residency s a b h. search rules) c.parse.result c.parse.ensures.good read c.parse.ensures.fits

pub returns-clause-none : goal.returns-clause-none
returns-clause-none g c =
    let fault = rw c.new-handlers.ensures.functions at c.parse.ensures.fault in
    none_read c.args.plan.now c.args.bytes.now _ _ _ (λ t tolerance residency s a b h. search rules) c.parse.result fault
