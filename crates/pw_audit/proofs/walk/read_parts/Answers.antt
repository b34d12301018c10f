use Rattle.std.proofs.Common.{◌≡◌, ◌<◌, ◌+◌, ◌∙◌, ℕ, Option, length, map, sym, subst}
use Rattle.std.proofs.lemmas.Result.{err_from_is_err_and}
use Rattle.pw_audit.specs.declared.answer.AuditFault.TheVariants.{Wrong}
use Rattle.pw_audit.specs.Tracing.{ShowsAs}
use Rattle.pw_audit.specs.inner.Stopping.{OpeningRead, Refuses, WithinOpening, known}
use Rattle.pw_audit.proofs.Knowing.{known_asked, refuses_to}
use Rattle.pw_audit.proofs.Refusing.{at_opening, behind_opening}
use Rattle.pw_audit.proofs.Telling.{shows_entries, shows_opening}
use Rattle.pw_audit.proofs.Walking.{none_left, some_left}
use Rattle.pw_audit.proofs.walk.read_parts.Goals as goal

pub returns-in_err-opening-clause-refuses : goal.returns-in_err-opening-clause-refuses
returns-in_err-opening-clause-refuses g c =
    let W = g.T.Audited.words in
    let p = err_from_is_err_and c.from_residual.result c.from_residual.ensures.1 in
    let P = c.args.plan.now in
    let qs = map g.T.Audited.ask c.args.lines.now in
    let text = c.args.text.now in
    let fault = c.in_err-opening.field-0.0 in
    let are = known_asked W P g.T.Audited.is_narrow_request qs c.requires.narrow in
    rw (p.1, p.2) (refuses_to W P c.args.form qs text fault (at_opening c.args.form P c.requires.laws.texts (known W P qs) are text fault c.in_err-opening.ensures.stops))

pub returns-then-not-is_empty-clause-refuses : goal.returns-then-not-is_empty-clause-refuses
returns-then-not-is_empty-clause-refuses g c =
    let W = g.T.Audited.words in
    let P = c.args.plan.now in
    let form = c.args.form in
    let qs = map g.T.Audited.ask c.args.lines.now in
    let text = c.args.text.now in
    let left = c.in_ok-opening.left.now in
    let k = c.in-Some.field-0 in
    let some : 0 < length left = some_left (length left) (sym c.is_empty.ensures ∙ c.if-not-is_empty.true) in
    let within = subst (λ (o : Option ℕ). WithinOpening (length (W.opening_ops P)) o) c.in-Some.is c.in_ok-opening.ensures.within in
    let read = subst (λ (o : Option ℕ). OpeningRead W form P o text c.in_ok-opening.before left) c.in-Some.is c.in_ok-opening.ensures.read in
    let are = known_asked W P g.T.Audited.is_narrow_request qs c.requires.narrow in
    let wrong = behind_opening form P c.requires.laws.texts (known W P qs) are k text left read.first within read.opens read.is some in
    refuses_to W P form qs text (Wrong (c.in_ok-opening.before + 1)) (subst (λ (n : ℕ). Refuses W form P (known W P qs) text (Wrong (n + 1))) (sym read.lines) wrong)

pub returns-in-Some-clause-shown : goal.returns-in-Some-clause-shown
returns-in-Some-clause-shown g c =
    let W = g.T.Audited.words in
    let P = c.args.plan.now in
    let form = c.args.form in
    let qs = map g.T.Audited.ask c.args.lines.now in
    let text = c.args.text.now in
    let left = c.in_ok-opening.left.now in
    let k = c.in-Some.field-0 in
    let none : length left ≡ 0 = none_left (length left) (sym c.is_empty.ensures ∙ c.if-not-is_empty.false) in
    let within = subst (λ (o : Option ℕ). WithinOpening (length (W.opening_ops P)) o) c.in-Some.is c.in_ok-opening.ensures.within in
    let read = subst (λ (o : Option ℕ). OpeningRead W form P o text c.in_ok-opening.before left) c.in-Some.is c.in_ok-opening.ensures.read in
    shows_opening W form P qs text left c.in_ok-opening.opening k c.in_ok-opening.before c.from_vec.result c.in-Some.is within read none (c.from_vec.ensures ∙ c.new.ensures.items)

pub returns-in_err-entries-clause-refuses : goal.returns-in_err-entries-clause-refuses
returns-in_err-entries-clause-refuses g c =
    let p = err_from_is_err_and c.from_residual-in_err-entries.result c.from_residual-in_err-entries.ensures.1 in
    rw (p.1, p.2)
    (refuses_to g.T.Audited.words c.args.plan.now c.args.form (map g.T.Audited.ask c.args.lines.now) c.args.text.now c.in_err-entries.field-0.0 c.in_err-entries.ensures.refuses)

pub returns-clause-shown : goal.returns-clause-shown
returns-clause-shown g c =
    let W = g.T.Audited.words in
    let P = c.args.plan.now in
    let form = c.args.form in
    let qs = map g.T.Audited.ask c.args.lines.now in
    let text = c.args.text.now in
    let es = c.in_ok-entries.entries.items in
    subst (λ entries. ShowsAs W form P qs text c.in_ok-opening.opening entries) (sym c.from_vec-2.ensures)
    (shows_entries W form P qs text c.in_ok-opening.opening es c.in_default.is c.in_ok-entries.ensures.shows)
