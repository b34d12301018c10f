use Rattle.std.proofs.Common.{◌∙◌, sym, ap, subst}
use Rattle.acpi_build.specs.Building.{each}
use Rattle.acpi_build.specs.inner.Answers.{remarks_in}
use Rattle.acpi_build.specs.inner.Fitting.{AreContainers, AreCpus}
use Rattle.acpi_build.specs.Machine.{container_parts, cpu_parts}
use Rattle.acpi_build.proofs.Parents.{containers_within, processors_within}
use Rattle.acpi_build.proofs.Planned.{parts_fit, parts_made}
use Rattle.acpi_build.proofs.machine.read_parts.Goals as goal

pub parents-requires-clause-within : goal.parents-requires-clause-within
parents-requires-clause-within c = rw (c.as_slice-order.ensures.value, c.in_ok-outer.ensures) (containers_within c.args.space.now)

pub read_containers-requires-clause-within : goal.read_containers-requires-clause-within
read_containers-requires-clause-within c = rw (c.as_slice-order.ensures.value, c.in_ok-outer.ensures) (containers_within c.args.space.now)

pub read_cpus-requires-clause-within : goal.read_cpus-requires-clause-within
read_cpus-requires-clause-within c = rw (c.as_slice-numbers.ensures.value, c.in_ok-declared.ensures) (processors_within c.args.space.now)

pub returns-clause-value : goal.returns-clause-value
returns-clause-value c =
    let space = c.args.space.now in
    let containers = ap (λ order. each (container_parts space) order (remarks_in c.args.said.now)) (sym (c.as_slice-order.ensures.value ∙ c.in_ok-outer.ensures)) ∙ c.in_ok-containers.ensures.value in
    let cpus = ap (λ order. each (cpu_parts space) order (remarks_in c.read_containers.new.said)) (sym (c.as_slice-numbers.ensures.value ∙ c.in_ok-declared.ensures)) ∙ c.in_ok-cpus.ensures.value in
    parts_made space c.in_ok-containers.containers.items c.in_ok-cpus.cpus.items (remarks_in c.args.said.now) (remarks_in c.read_containers.new.said) (remarks_in c.read_cpus.new.said) containers cpus

pub returns-clause-fit : goal.returns-clause-fit
returns-clause-fit c =
    let space = c.args.space.now in
    parts_fit space c.in_ok-containers.containers.items c.in_ok-cpus.cpus.items c.placed-objects.ensures.distinct
    (subst (λ order. AreContainers space order c.in_ok-containers.containers.items) (c.as_slice-order.ensures.value ∙ c.in_ok-outer.ensures) c.in_ok-containers.ensures.parts)
    (subst (λ order. AreCpus space order c.in_ok-cpus.cpus.items) (c.as_slice-numbers.ensures.value ∙ c.in_ok-declared.ensures) c.in_ok-cpus.ensures.parts)
