use Rattle.std.proofs.Common.{◌≡◌, ◌∙◌, ◌+◌, List, length, ap, sym, subst, inl, inr, refl, arith}
use Rattle.std.proofs.lemmas.Result.{err_from_is_err_and}
use Rattle.acpi_values.specs.declared.operation.Op.{Op}
use Rattle.pw_text.specs.Behind.{behind}
use Rattle.pw_history.specs.HistoryText.{entry_line}
use Rattle.pw_audit.specs.inner.Heading.{head_text}
use Rattle.pw_audit.specs.inner.Queues.{AreWithin}
use Rattle.pw_audit.specs.inner.Stopping.{outcome_at}
use Rattle.pw_audit.specs.inner.Walking.{Steps}
use Rattle.pw_audit.proofs.Entries.{counted, done_of, done_within, entry_steps, fits_le, line_less, line_read, no_end, no_head, stops_behind}
use Rattle.pw_audit.proofs.Told.{ops_length}
use Rattle.pw_audit.proofs.entry.read_entry.Goals as goal

pub returns-in_default-clause-stops : goal.returns-in_default-clause-stops
returns-in_default-clause-stops g c =
    let none = rw c.in_default.is at c.in_ok-head.ensures.read in
    inr (inl (refl, no_head c.requires.laws.texts.entries c.args.state.now c.args.number c.args.asked.now c.args.left.now none))

pub returns-in_default-2-clause-stops : goal.returns-in_default-2-clause-stops
returns-in_default-2-clause-stops g c =
    let head = rw c.in-Some.is at c.in_ok-head.ensures.read in
    let only = rw c.in-Some.is at c.in_ok-head.ensures.only in
    let none = rw c.in_default-2.is at c.in_ok-fault.ensures.read in
    inr (inl (refl, no_end c.requires.laws.texts.entries c.args.state.now c.args.number c.args.asked.now c.args.left.now c.in-Some.head.0 c.in-Some.head.1.now head.2 only none))

pub returns-in_err-next-clause-stops : goal.returns-in_err-next-clause-stops
returns-in_err-next-clause-stops g c =
    let W = g.T.Audited.words in
    let p = err_from_is_err_and c.from_residual-in_err-next.result c.from_residual-in_err-next.ensures.1 in
    let P = c.args.plan.now in
    let S = c.args.state.now in
    let q = c.in-Some.head.0 in
    let f = c.in-Some-2.fault in
    let laws = c.requires.laws in
    let head = rw c.in-Some.is at c.in_ok-head.ensures.read in
    let only = rw c.in-Some.is at c.in_ok-head.ensures.only in
    let end = rw c.in-Some-2.is at c.in_ok-fault.ensures.read in
    let ops : c.list.result.now ≡ W.kind.ops P S q = c.list.ensures ∙ c.in_ok-fault.ensures.ops in
    let done : c.done_before-done.result.now ≡ done_of (W.kind.ops P S q) f = c.done_before-done.ensures ∙ ap (λ (os : List Op). done_of os f) ops in
    rw (p.1, p.2)
    (inr (inr (stops_behind laws.texts.entries S c.args.number c.args.asked.now c.args.left.now q c.in-Some.head.1.now head.2 only laws.made f c.in-Some-2.rest.now head.0 c.read_head.new.asked head.1
    end.0 end.1 c.args.form c.done_before-done.result.now c.args.before c.in_err-next.field-0.0 done c.in_err-next.ensures.stops)))

pub pass_done-requires-clause-within : goal.pass_done-requires-clause-within
pass_done-requires-clause-within g c =
    let W = g.T.Audited.words in
    let P = c.args.plan.now in
    let S = c.args.state.now in
    let q = c.in-Some.head.0 in
    let f = c.in-Some-2.fault in
    let head = rw c.in-Some.is at c.in_ok-head.ensures.read in
    let ops : c.list.result.now ≡ W.kind.ops P S q = c.list.ensures ∙ c.in_ok-fault.ensures.ops in
    let done : c.done_before-done.result.now ≡ done_of (W.kind.ops P S q) f = c.done_before-done.ensures ∙ ap (λ (os : List Op). done_of os f) ops in
    subst (AreWithin (W.cpus P)) (sym done) (done_within W P c.requires.laws.within S q f head.0)

pub returns-clause-steps : goal.returns-clause-steps
returns-clause-steps g c =
    let W = g.T.Audited.words in
    let P = c.args.plan.now in
    let S = c.args.state.now in
    let q = c.in-Some.head.0 in
    let f = c.in-Some-2.fault in
    let laws = c.requires.laws in
    let head = rw c.in-Some.is at c.in_ok-head.ensures.read in
    let only = rw c.in-Some.is at c.in_ok-head.ensures.only in
    let end = rw c.in-Some-2.is at c.in_ok-fault.ensures.read in
    let ops : c.list.result.now ≡ W.kind.ops P S q = c.list.ensures ∙ c.in_ok-fault.ensures.ops in
    let done : c.done_before-done.result.now ≡ done_of (W.kind.ops P S q) f = c.done_before-done.ensures ∙ ap (λ (os : List Op). done_of os f) ops in
    let T = c.read_outcome.new.state in
    let new = c.read_head.new.asked in
    let next = c.in_ok-next.next.now in
    subst
    (λ e. Steps W g.T.Audited.fits c.args.form P S c.args.number c.args.asked.now c.args.before c.args.left.now e T new (c.args.before + 1 + length c.done_before-done.result.now) next)
    (sym c.entry.ensures)
    (entry_steps laws.texts.entries S c.args.number c.args.asked.now c.args.left.now q c.in-Some.head.1.now head.2 only laws.made f c.in-Some-2.rest.now head.0 new head.1 end.0 end.1
    g.T.Audited.fits c.args.form c.done_before-done.result.now T c.args.before next done c.in_ok-next.ensures.ok end.2 c.in_ok-fault.ensures.fits)

pub done_before-done-requires : goal.done_before-done-requires
done_before-done-requires g c =
    let end = rw c.in-Some-2.is at c.in_ok-fault.ensures.read in
    fits_le g.T.Audited.words c.args.plan.now c.args.state.now c.in-Some.head.0 c.in-Some-2.fault c.list.result.now (c.list.ensures ∙ c.in_ok-fault.ensures.ops) end.0

pub pass_done-requires-clause-short : goal.pass_done-requires-clause-short
pass_done-requires-clause-short g c =
    let W = g.T.Audited.words in
    let q = c.in-Some.head.0 in
    let head = rw c.in-Some.is at c.in_ok-head.ensures.read in
    let end = rw c.in-Some-2.is at c.in_ok-fault.ensures.read in
    let outcome = behind (outcome_at W c.args.plan.now c.args.state.now q c.in-Some-2.fault) in
    let less = line_less (head_text W c.args.plan.now c.args.number q) c.in-Some.head.1.now outcome c.in-Some-2.rest.now c.args.left.now head.2 end.1 in
    let short = c.requires.short in
    omega arith

pub overflow_cast-result : goal.overflow_cast-result
overflow_cast-result g c =
    let W = g.T.Audited.words in
    let P = c.args.plan.now in
    let S = c.args.state.now in
    let q = c.in-Some.head.0 in
    let f = c.in-Some-2.fault in
    let laws = c.requires.laws in
    let head = rw c.in-Some.is at c.in_ok-head.ensures.read in
    let only = rw c.in-Some.is at c.in_ok-head.ensures.only in
    let end = rw c.in-Some-2.is at c.in_ok-fault.ensures.read in
    let first = line_read laws.texts.entries S c.args.number c.args.asked.now c.args.left.now q c.in-Some.head.1.now head.2 only laws.made f c.in-Some-2.rest.now head.0 c.read_head.new.asked head.1
    end.0 end.1 in
    let read = c.in_ok-next.ensures.ok in
    let size = ops_length W c.args.form P c.done_before-done.result.now read.lines read.tells in
    let few = counted W c.args.form P c.args.left.now (entry_line W P S c.args.number (W.faulted q f)) c.in-Some-2.rest.now c.in_ok-next.next.now c.done_before-done.result.now first read size in
    let short = c.requires.short in
    omega arith

pub overflow_add-result-2 : goal.overflow_add-result-2
overflow_add-result-2 g c =
    let W = g.T.Audited.words in
    let P = c.args.plan.now in
    let S = c.args.state.now in
    let q = c.in-Some.head.0 in
    let f = c.in-Some-2.fault in
    let laws = c.requires.laws in
    let head = rw c.in-Some.is at c.in_ok-head.ensures.read in
    let only = rw c.in-Some.is at c.in_ok-head.ensures.only in
    let end = rw c.in-Some-2.is at c.in_ok-fault.ensures.read in
    let first = line_read laws.texts.entries S c.args.number c.args.asked.now c.args.left.now q c.in-Some.head.1.now head.2 only laws.made f c.in-Some-2.rest.now head.0 c.read_head.new.asked head.1
    end.0 end.1 in
    let read = c.in_ok-next.ensures.ok in
    let size = ops_length W c.args.form P c.done_before-done.result.now read.lines read.tells in
    let few = counted W c.args.form P c.args.left.now (entry_line W P S c.args.number (W.faulted q f)) c.in-Some-2.rest.now c.in_ok-next.next.now c.done_before-done.result.now first read size in
    let short = c.requires.short in
    omega arith
