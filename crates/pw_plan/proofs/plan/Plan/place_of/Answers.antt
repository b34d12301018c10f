use Rattle.std.proofs.Common.{◌<◌, length, get_or, None, ap, arith}
use Rattle.pw_plan.specs.declared.domain.Child.TheVariants.{Cpu, Container}
use Rattle.pw_plan.specs.declared.index.CpuIndex.{CpuIndex}
use Rattle.pw_plan.proofs.Memberships.{child_is, index_none, index_some, place_is, places_size}
use Rattle.pw_plan.proofs.plan.Plan.place_of.Goals as goal

pub returns-in_err-index_of-in-Cpu : goal.returns-in_err-index_of-in-Cpu
returns-in_err-index_of-in-Cpu c =
    let P = c.args.self.now in
    let lt : c.in-Cpu.cpu < length P.cpus = rw c.in-Cpu.is at c.requires in
    let none = index_none P c.in-Cpu.cpu c.in_err-index_of-in-Cpu.ensures in
    absurd (omega (arith, lt, none))

pub bounds-as_slice-node : goal.bounds-as_slice-node
bounds-as_slice-node c =
    let P = c.args.self.now in
    let lt : c.in-Container.node < length P.containers = rw c.in-Container.is at c.requires in
    let size = places_size P in
    rw c.as_slice.ensures (omega (arith, lt, size))

pub returns-in_ok-index_of-in-Cpu : goal.returns-in_ok-index_of-in-Cpu
returns-in_ok-index_of-in-Cpu c =
    let P = c.args.self.now in
    let i = c.in_ok-index_of-in-Cpu.field-0.now in
    let lt : c.in-Cpu.cpu < length P.cpus = rw c.in-Cpu.is at c.requires in
    rw c.in-Cpu.is (child_is P (Cpu c.in-Cpu.cpu) lt i.child (ap (λ (x : CpuIndex). x.child) (index_some P c.in-Cpu.cpu i c.in_ok-index_of-in-Cpu.ensures)))

pub returns-in-Container : goal.returns-in-Container
returns-in-Container c =
    let P = c.args.self.now in
    let n = c.in-Container.node in
    let lt : n < length P.containers = rw c.in-Container.is at c.requires in
    rw (c.as_slice.ensures, c.in-Container.is) (child_is P (Container n) lt (get_or P.container_index n None) (place_is P n None lt))
