use Rattle.std.proofs.Common.{ap, refl}
use Rattle.pw_journal.proofs.Places.{faultless_none, none_faultless, place_running, place_stopped}
use Rattle.pw_journal.proofs.journal.Journal.fault_at.Goals as goal

pub returns-then-self-clause-none : goal.returns-then-self-clause-none
returns-then-self-clause-none g c =
    let is = ap (λ j. j.entries) c.self.view_is in
    let place = place_stopped c.self.inside.past.items c.self.inside.stopped c.self.inside.count c.self.invariant.4 c.if-self.true in
    (λ e. cc, λ a. let none = faultless_none c.args.self.now.entries a in cc)

pub returns-else-self-clause-none : goal.returns-else-self-clause-none
returns-else-self-clause-none g c =
    let is = ap (λ j. j.entries) c.self.view_is in
    let place = place_running c.self.inside.past.items c.self.inside.stopped c.self.inside.count c.self.invariant.4 c.if-self.false in
    (λ e. none_faultless c.args.self.now.entries (rw (← is) place), λ a. refl)
