use Rattle.std.proofs.Common.{ap}
use Rattle.pw_text.specs.Lines.{text_of}
use Rattle.pw_text.proofs.Putting.{PutsText-as, PutsText-stop, PutsText-then}
use Rattle.pw_generate.specs.inner.Ending.{end_lines}
use Rattle.pw_generate.proofs.Printed.{whole_text}
use Rattle.pw_generate.proofs.printing.put_summary.Goals as goal

pub returns-in_err-put_sizes-clause-text : goal.returns-in_err-put_sizes-clause-text
returns-in_err-put_sizes-clause-text g c =
    PutsText-as _ (whole_text c.args.plan.now c.args.entries.now)
    (PutsText-stop _ c.from_residual.result c.from_residual.ensures.0 c.in_err-put_sizes.ensures)

pub returns-in_err-put_counts-clause-text : goal.returns-in_err-put_counts-clause-text
returns-in_err-put_counts-clause-text g c =
    PutsText-as _ (whole_text c.args.plan.now c.args.entries.now) (PutsText-then c.in_ok-put_sizes.ensures
    (PutsText-stop _ c.from_residual-in_err-put_counts.result c.from_residual-in_err-put_counts.ensures.0
    (rw c.requires.counts at c.in_err-put_counts.ensures)))

pub returns-in_err-put_ends-clause-text : goal.returns-in_err-put_ends-clause-text
returns-in_err-put_ends-clause-text g c =
    PutsText-as _ (whole_text c.args.plan.now c.args.entries.now) (PutsText-then c.in_ok-put_sizes.ensures
    (PutsText-then (rw c.requires.counts at c.in_ok-put_counts.ensures)
    (PutsText-stop _ c.from_residual-in_err-put_ends.result c.from_residual-in_err-put_ends.ensures.0
    (PutsText-as _ (ap (λ S. text_of (end_lines c.args.plan.now S)) c.requires.state) c.in_err-put_ends.ensures))))

pub returns-clause-text : goal.returns-clause-text
returns-clause-text g c =
    PutsText-as _ (whole_text c.args.plan.now c.args.entries.now) (PutsText-then c.in_ok-put_sizes.ensures
    (PutsText-then (rw c.requires.counts at c.in_ok-put_counts.ensures)
    (PutsText-then (PutsText-as _ (ap (λ S. text_of (end_lines c.args.plan.now S)) c.requires.state) c.in_ok-put_ends.ensures)
    c.flush.ensures.puts)))
