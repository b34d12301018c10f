use Rattle.pw_check.proofs.Listed.{whole_text}
use Rattle.pw_text.proofs.Putting.{PutsText-as, PutsText-stop, PutsText-then}
use Rattle.pw_check.proofs.printing.put_lines.Goals as goal

pub returns-in_err-put_containers : goal.returns-in_err-put_containers
returns-in_err-put_containers g c = PutsText-as _ (whole_text c.args.plan.now c.args.notes.now) (PutsText-stop _ c.from_residual.result c.from_residual.ensures.0
    (rw c.as_slice-containers.ensures at c.in_err-put_containers.ensures))

pub returns-in_err-put_cpus : goal.returns-in_err-put_cpus
returns-in_err-put_cpus g c = PutsText-as _ (whole_text c.args.plan.now c.args.notes.now) (PutsText-then (rw c.as_slice-containers.ensures at c.in_ok-put_containers.ensures)
    (PutsText-stop _ c.from_residual-in_err-put_cpus.result c.from_residual-in_err-put_cpus.ensures.0 (rw (c.as_slice-containers.ensures, c.as_slice.ensures) at c.in_err-put_cpus.ensures)))

pub returns-in_err-put_domains : goal.returns-in_err-put_domains
returns-in_err-put_domains g c = PutsText-as _ (whole_text c.args.plan.now c.args.notes.now) (PutsText-then (rw c.as_slice-containers.ensures at c.in_ok-put_containers.ensures)
    (PutsText-then (rw (c.as_slice-containers.ensures, c.as_slice.ensures) at c.in_ok-put_cpus.ensures)
    (PutsText-stop _ c.from_residual-in_err-put_domains.result c.from_residual-in_err-put_domains.ensures.0 (rw c.as_slice-2.ensures at c.in_err-put_domains.ensures))))

pub returns-in_err-put_groups : goal.returns-in_err-put_groups
returns-in_err-put_groups g c = PutsText-as _ (whole_text c.args.plan.now c.args.notes.now) (PutsText-then (rw c.as_slice-containers.ensures at c.in_ok-put_containers.ensures)
    (PutsText-then (rw (c.as_slice-containers.ensures, c.as_slice.ensures) at c.in_ok-put_cpus.ensures) (PutsText-then (rw c.as_slice-2.ensures at c.in_ok-put_domains.ensures)
    (PutsText-stop _ c.from_residual-in_err-put_groups.result c.from_residual-in_err-put_groups.ensures.0 (rw c.as_slice-3.ensures at c.in_err-put_groups.ensures)))))

pub returns-in_err-put_notes : goal.returns-in_err-put_notes
returns-in_err-put_notes g c = PutsText-as _ (whole_text c.args.plan.now c.args.notes.now) (PutsText-then (rw c.as_slice-containers.ensures at c.in_ok-put_containers.ensures)
    (PutsText-then (rw (c.as_slice-containers.ensures, c.as_slice.ensures) at c.in_ok-put_cpus.ensures) (PutsText-then (rw c.as_slice-2.ensures at c.in_ok-put_domains.ensures)
    (PutsText-then (rw c.as_slice-3.ensures at c.in_ok-put_groups.ensures) (PutsText-stop _ c.from_residual-in_err-put_notes.result c.from_residual-in_err-put_notes.ensures.0
    c.in_err-put_notes.ensures)))))

pub returns : goal.returns
returns g c = PutsText-as _ (whole_text c.args.plan.now c.args.notes.now) (PutsText-then (rw c.as_slice-containers.ensures at c.in_ok-put_containers.ensures)
    (PutsText-then (rw (c.as_slice-containers.ensures, c.as_slice.ensures) at c.in_ok-put_cpus.ensures) (PutsText-then (rw c.as_slice-2.ensures at c.in_ok-put_domains.ensures)
    (PutsText-then (rw c.as_slice-3.ensures at c.in_ok-put_groups.ensures) (PutsText-then c.in_ok-put_notes.ensures c.put_note_count.ensures)))))
