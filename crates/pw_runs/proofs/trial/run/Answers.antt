use Rattle.std.proofs.Common.{◌≡◌, [], None, ap, codes, subst, sym, ◌∙◌}
use Rattle.pw_load.specs.Seen.{outputs_seen}
use Rattle.pw_regs.specs.Seen.{registers_seen}
use Rattle.pw_turns.specs.declared.close.Sealed.{Sealed}
use Rattle.pw_script.specs.Reading.{requests_of}
use Rattle.pw_drive.specs.Drives.{Runs}
use Rattle.pw_load.proofs.Outcomes.{ended_as, ended_saying}
use Rattle.pw_runs.proofs.Many.{seals_closed, seals_none}
use Rattle.pw_runs.specs.inner.Trying.Tries.{ran}
use Rattle.pw_runs.proofs.Runs.{run_faultless, run_legal}
use Rattle.pw_runs.proofs.Trying.{tries_none}
use Rattle.pw_runs.proofs.trial.run.Goals as goal

pub print_run-status-requires-in-Ok-Closed-clause-legal : goal.print_run-status-requires-in-Ok-Closed-clause-legal
print_run-status-requires-in-Ok-Closed-clause-legal g c =
    let o = c.in-Ok-Closed in
    let s = c.into_parts-sealed.result.0 in
    let drove = rw o.field-0-is at o.ensures.drove in
    let sealed : s ≡ o.closed.sealed = ap (λ p. p.0) c.into_parts-sealed.ensures in
    let plan = c.plan-plan.ensures ∙ ap (λ (x : Sealed). x.plan) sealed ∙ drove.0 in
    let entries = c.entries-entries.ensures ∙ ap (λ (x : Sealed). x.entries) sealed in
    rw (plan, entries) (run_legal c.args.plan (requests_of c.args.script.now.lines) None o.closed.sealed.entries drove.1.lawful)

pub print_run-status-requires-in-Ok-Closed-clause-faultless : goal.print_run-status-requires-in-Ok-Closed-clause-faultless
print_run-status-requires-in-Ok-Closed-clause-faultless g c = run_faultless None c.entries-entries.result.now

pub print_run-status-requires-in-Ok-Closed-clause-known : goal.print_run-status-requires-in-Ok-Closed-clause-known
print_run-status-requires-in-Ok-Closed-clause-known g c =
    let o = c.in-Ok-Closed in
    let s = c.into_parts-sealed.result.0 in
    let drove = rw o.field-0-is at o.ensures.drove in
    let told = rw o.field-0-is at o.ensures.replies in
    let sealed : s ≡ o.closed.sealed = ap (λ p. p.0) c.into_parts-sealed.ensures in
    let plan = c.plan-plan.ensures ∙ ap (λ (x : Sealed). x.plan) sealed ∙ drove.0 in
    let entries = c.entries-entries.ensures ∙ ap (λ (x : Sealed). x.entries) sealed in
    rw (plan, entries) (c.as_slice.ensures ∙ told)

pub returns-in-Err-clause-ran : goal.returns-in-Err-clause-ran
returns-in-Err-clause-ran g c =
    let before = outputs_seen g.K.Sink c.args.out.now c.args.err.now in
    let after = outputs_seen g.K.Sink c.args.out.now c.without_memory.new.err in
    ended_saying g.K.Sink c.args.out.now c.args.err.now c.without_memory.new.err (codes "no memory\n") c.without_memory.result
    (rw c.without_memory.ensures.status
    (tries_none g.R.Registers c.args.plan c.args.script.now.lines before after c.args.regs c.in-Err.regs c.in-Err.ensures.given_back)) c.without_memory.ensures.line

pub returns-in-Ok-Opening-clause-ran : goal.returns-in-Ok-Opening-clause-ran
returns-in-Ok-Opening-clause-ran g c =
    let o = c.in-Ok-Opening in
    let drove = rw o.field-0-is at o.ensures.drove in
    let printed = rw drove.0 at c.print_run-status.ensures.printed in
    ended_as (λ written text prints. ran drove.1 prints (seals_none c.args.plan o.done [] c.print_run-status.result)) printed

pub returns-in-Ok-Closed-clause-ran : goal.returns-in-Ok-Closed-clause-ran
returns-in-Ok-Closed-clause-ran g c =
    let o = c.in-Ok-Closed in
    let P = c.args.plan in
    let es = o.closed.sealed.entries in
    let s = c.into_parts-sealed.result.0 in
    let drove = rw o.field-0-is at o.ensures.drove in
    let sealed : s ≡ o.closed.sealed = ap (λ p. p.0) c.into_parts-sealed.ensures in
    let regs : c.into_parts-sealed.result.1 ≡ o.closed.regs = ap (λ p. p.1) c.into_parts-sealed.ensures in
    let plan : s.plan ≡ P = ap (λ (x : Sealed). x.plan) sealed ∙ drove.0 in
    let entries : s.entries ≡ es = ap (λ (x : Sealed). x.entries) sealed in
    let printed = rw (c.plan-plan.ensures ∙ plan, c.entries-entries.ensures ∙ entries) at c.print_run-status-in-Ok-Closed.ensures.printed in
    let before = registers_seen g.R.Registers c.args.regs in
    let run = subst (λ r. Runs P c.args.script.now.lines None es before (registers_seen g.R.Registers r)) (sym regs) drove.1 in
    let seals = seals_closed P es c.print_run-status-in-Ok-Closed.result s c.handed_on.result plan entries c.handed_on.ensures.given c.handed_on.ensures.unended in
    ended_as (λ written text prints. ran run prints seals) printed
