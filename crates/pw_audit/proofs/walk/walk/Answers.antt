use Rattle.std.proofs.Common.{◌≡◌, ◌≢◌, ◌≤◌, ◌+◌, ◌∙◌, ℕ, true, false, [], length, map, sym, subst, arith}
use Rattle.std.specs.Prelude.{None}
use Rattle.std.proofs.lemmas.Result.{err_from_is_err_and}
use Rattle.pw_audit.specs.Tracing.{ShowsAs}
use Rattle.pw_audit.specs.inner.Queues.{left_of}
use Rattle.pw_audit.specs.inner.Stopping.{known}
use Rattle.pw_audit.specs.inner.Walking.{Walked}
use Rattle.pw_audit.proofs.Knowing.{known_asked}
use Rattle.pw_audit.proofs.Walking.{end_shows, end_unfinished, fault_shows, fault_wrong, none_left, some_left, step_short, step_shorter, walked_own, walked_refuses, walked_short, walked_size, walked_step}
use Rattle.pw_audit.proofs.walk.walk.Goals as goal

differ : false ≡ true → ⊥
differ e = cc

pub loop-left-init : goal.loop-left-init
loop-left-init g c = record { walked = c.requires.walked; room = c.requires.room }

pub read_entry-requires-clause-size : goal.read_entry-requires-clause-size
read_entry-requires-clause-size g c = walked_size c.loop-left.invariant.walked

pub read_entry-requires-clause-own : goal.read_entry-requires-clause-own
read_entry-requires-clause-own g c = walked_own c.loop-left.invariant.walked

pub read_entry-requires-clause-fits : goal.read_entry-requires-clause-fits
read_entry-requires-clause-fits g c = c.loop-left.invariant.walked.fits

pub read_entry-requires-clause-room : goal.read_entry-requires-clause-room
read_entry-requires-clause-room g c = c.loop-left.invariant.room

pub read_entry-requires-clause-some : goal.read_entry-requires-clause-some
read_entry-requires-clause-some g c = some_left (length c.loop-left.left.now) (sym c.is_empty.ensures ∙ c.loop-left-test.true)

pub read_entry-requires-clause-short : goal.read_entry-requires-clause-short
read_entry-requires-clause-short g c =
    let few = walked_short c.loop-left.invariant.walked in
    let short = c.requires.short in
    omega arith

pub returns-in_err-read-clause-refuses : goal.returns-in_err-read-clause-refuses
returns-in_err-read-clause-refuses g c =
    let number : c.len.result + 1 ≡ 1 + length c.loop-left.entries.items = omega (arith, c.len.ensures, c.loop-left.entries.ok.0) in
    let some = some_left (length c.loop-left.left.now) (sym c.is_empty.ensures ∙ c.loop-left-test.true) in
    let are = known_asked g.T.Audited.words c.args.plan.now g.T.Audited.is_narrow_request (map g.T.Audited.ask c.args.lines.now) c.requires.narrow in
    let p = err_from_is_err_and c.from_residual.result c.from_residual.ensures.1 in
    rw (p.1, p.2) (walked_refuses c.loop-left.invariant.walked number c.requires.laws.texts are c.in_err-read.field-0.0 some c.in_err-read.ensures.stops)

pub overflow_add-result : goal.overflow_add-result
overflow_add-result g c =
    let number : c.len.result + 1 ≡ 1 + length c.loop-left.entries.items = omega (arith, c.len.ensures, c.loop-left.entries.ok.0) in
    let few = step_short c.loop-left.invariant.walked number c.requires.laws.texts c.in_ok-read.ensures.steps in
    let short = c.requires.short in
    omega arith

pub returns-then-not-is_empty-clause-refuses : goal.returns-then-not-is_empty-clause-refuses
returns-then-not-is_empty-clause-refuses g c =
    let number : c.len.result + 1 ≡ 1 + length c.loop-left.entries.items = omega (arith, c.len.ensures, c.loop-left.entries.ok.0) in
    let are = known_asked g.T.Audited.words c.args.plan.now g.T.Audited.is_narrow_request (map g.T.Audited.ask c.args.lines.now) c.requires.narrow in
    let more = some_left (length c.in_ok-read.read.2.now) (sym c.is_empty-then-fault-ne0.ensures ∙ c.if-not-is_empty.true) in
    fault_wrong c.loop-left.invariant.walked number c.requires.laws.texts c.in_ok-read.ensures.steps are (subst (λ k. k ≢ 0) c.fault-fault.ensures c.if-fault-ne0.true) more

pub returns-then-fault-ne0-clause-shows : goal.returns-then-fault-ne0-clause-shows
returns-then-fault-ne0-clause-shows g c =
    let number : c.len.result + 1 ≡ 1 + length c.loop-left.entries.items = omega (arith, c.len.ensures, c.loop-left.entries.ok.0) in
    let none = none_left (length c.in_ok-read.read.2.now) (sym c.is_empty-then-fault-ne0.ensures ∙ c.if-not-is_empty.false) in
    let L = known g.T.Audited.words c.args.plan.now (map g.T.Audited.ask c.args.lines.now) in
    subst (λ es. ShowsAs g.T.Audited.words c.args.form c.args.plan.now L c.args.text.now None es) (sym c.in_ok-push.ensures.items)
    (fault_shows c.loop-left.invariant.walked number c.requires.laws.texts c.in_ok-read.ensures.steps (subst (λ k. k ≢ 0) c.fault-fault.ensures c.if-fault-ne0.true) none)

pub loop-left-preserved : goal.loop-left-preserved
loop-left-preserved g c =
    let number : c.len.result + 1 ≡ 1 + length c.loop-left.entries.items = omega (arith, c.len.ensures, c.loop-left.entries.ok.0) in
    let w = walked_step c.loop-left.invariant.walked number c.requires.laws.texts c.in_ok-read.ensures.steps (sym c.fault-fault.ensures ∙ c.if-fault-ne0.false) in
    let L = known g.T.Audited.words c.args.plan.now (map g.T.Audited.ask c.args.lines.now) in
    let T = c.read_entry.new.state in
    let new = c.read_entry.new.asked in
    record {
      walked = subst (λ es. Walked g.T.Audited.words g.T.Audited.fits c.args.form c.args.plan.now L c.args.text.now es T new c.in_ok-read.read.1 c.in_ok-read.read.2.now)
          (sym c.in_ok-push.ensures.items) w;
      room = subst (λ (k : ℕ). g.T.Audited.most c.args.plan.now ≤ k) (sym c.in_ok-read.ensures.room) c.loop-left.invariant.room;
    }

pub loop-left-smaller : goal.loop-left-smaller
loop-left-smaller g c =
    let number : c.len.result + 1 ≡ 1 + length c.loop-left.entries.items = omega (arith, c.len.ensures, c.loop-left.entries.ok.0) in
    step_shorter c.loop-left.invariant.walked number c.requires.laws.texts c.in_ok-read.ensures.steps

pub returns-then-not-is_empty-2-clause-refuses : goal.returns-then-not-is_empty-2-clause-refuses
returns-then-not-is_empty-2-clause-refuses g c =
    let are = known_asked g.T.Audited.words c.args.plan.now g.T.Audited.is_narrow_request (map g.T.Audited.ask c.args.lines.now) c.requires.narrow in
    let none = none_left (length c.loop-left.left.now) (sym c.is_empty.ensures ∙ c.loop-left-test.false) in
    let some = λ (made : (p : ℕ) → left_of c.loop-left.asked p ≡ []). differ (sym c.if-not-is_empty-2.true ∙ c.is_empty-2.ensures.1 made) in
    end_unfinished c.loop-left.invariant.walked none c.requires.laws.texts are some

pub returns-clause-shows : goal.returns-clause-shows
returns-clause-shows g c =
    let none = none_left (length c.loop-left.left.now) (sym c.is_empty.ensures ∙ c.loop-left-test.false) in
    end_shows c.loop-left.invariant.walked none (c.is_empty-2.ensures.0 c.if-not-is_empty-2.false)
