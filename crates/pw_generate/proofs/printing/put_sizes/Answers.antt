use Rattle.std.proofs.Common.{length}
use Rattle.pw_text.proofs.Putting.{PutsText-as, PutsText-stop, PutsText-then}
use Rattle.pw_generate.proofs.Printed.{sizes_text}
use Rattle.pw_generate.proofs.printing.put_sizes.Goals as goal

pub returns-in_err-put_line : goal.returns-in_err-put_line
returns-in_err-put_line g c =
    PutsText-as _ (sizes_text (length c.args.plan.now.cpus) (length c.args.entries.now))
    (PutsText-stop _ c.from_residual.result c.from_residual.ensures.0 (rw c.as_slice.ensures at c.in_err-put_line.ensures))

pub returns : goal.returns
returns g c =
    PutsText-as _ (sizes_text (length c.args.plan.now.cpus) (length c.args.entries.now))
    (PutsText-then (rw c.as_slice.ensures at c.in_ok-put_line.ensures) c.put_line-2.ensures)
