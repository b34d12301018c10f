use Rattle.std.proofs.Common.{◌<◌, ◌∙◌, map, sym, subst}
use Rattle.pw_audit.specs.inner.Stopping.{known}
use Rattle.pw_audit.proofs.Walking.{leaves_init, walked_init}
use Rattle.pw_audit.proofs.walk.read_entries.Goals as goal

pub walk-walked-requires-clause-walked : goal.walk-walked-requires-clause-walked
walk-walked-requires-clause-walked g c =
    let W = g.T.Audited.words in
    let P = c.args.plan.now in
    let qs = map g.T.Audited.ask c.args.lines.now in
    let S = c.in-Ok.state in
    let queues = c.in-Ok-asked_by.asked in
    let leaves = leaves_init W P qs queues (c.in-Ok-asked_by.ensures.size ∙ c.cpus-2.ensures) (λ p lt. c.in-Ok-asked_by.ensures.each p (subst (λ n. p < n) (sym c.cpus-2.ensures) lt)) in
    rw c.new-entries.ensures.items
    (walked_init W g.T.Audited.fits c.args.form P (known W P qs) c.args.text.now S queues c.args.before c.args.behind.now c.in-Ok.ensures.opening c.in-Ok.ensures.fits leaves c.requires.opened)
