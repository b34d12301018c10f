use Rattle.std.proofs.Common.{[], ◌∙◌, refl}
use Rattle.std.proofs.lemmas.List.{append-nil}
use Rattle.pw_text.proofs.Putting.{PutsText-as, PutsText-stop, PutsText-then}
use Rattle.pw_runs.specs.Histories.{lawful_line}
use Rattle.pw_runs.proofs.AuditWorded.{count_line}
use Rattle.pw_runs.proofs.audit_print.put_lawful.Goals as goal

pub returns-in_err-put_between-clause-text : goal.returns-in_err-put_between-clause-text
returns-in_err-put_between-clause-text g c =
    PutsText-as (lawful_line c.args.entries) (append-nil _ ∙ count_line c.args.entries)
    (PutsText-stop [] c.from_residual.result c.from_residual.ensures.0 c.in_err-put_between.ensures)

pub returns-in_err-put_between-clause-empty : goal.returns-in_err-put_between-clause-empty
returns-in_err-put_between-clause-empty g c = c.in_err-put_between.ensures.emptied refl

pub returns-clause-text : goal.returns-clause-text
returns-clause-text g c =
    PutsText-as (lawful_line c.args.entries) (append-nil _ ∙ count_line c.args.entries) (PutsText-then c.in_ok-put_between.ensures c.flush.ensures.puts)
