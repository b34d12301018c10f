use Rattle.std.proofs.Common.{◌++◌, ◌∙◌, List, ap, append-nil, arith, refl, sym}
use Rattle.acpi_values.specs.declared.operation.Op.{Op}
use Rattle.pw_base.specs.Room.{Bounded}
use Rattle.pw_cppc.proofs.Followed.{in_two, operates, placed, refused}
use Rattle.pw_cppc.proofs.following.CppcStandings.operations.Goals as goal

pub returns-in_default : goal.returns-in_default
returns-in_default c = record {
  list = λ S are told. sym (ap (λ (ops : List Op). c.args.ops.now.elements ++ ops) (refused c.args.plan.now S c.args.request c.args.reply told c.in_default.not-Stands).0
      ∙ append-nil c.args.ops.now.elements);
  room = refl;
}

pub returns-in-Some-clause-list : goal.returns-in-Some-clause-list
returns-in-Some-clause-list c = λ S are told.
    let bound = ap (λ (ops : Bounded Op). ops.elements) c.set_bound.ensures in
    let set = rw (c.number-before.ensures, c.as_slice.ensures, c.self.view_is, ← c.in-Some.ensures.0, c.cpu-cpu.ensures) at (ap (λ (ops : Bounded Op). ops.elements) c.set_changed.ensures) in
    in_two _ _ _ _ _ _ bound set (sym (operates c.args.plan.now S c.args.request c.args.self.now are c.in-Stands.value (told ∙ c.in-Stands.is)))

pub returns-in_default-domain_of-clause-list : goal.returns-in_default-domain_of-clause-list
returns-in_default-domain_of-clause-list c = λ S are told.
    let there = placed c.args.plan.now S c.args.request c.args.self.now are c.in-Stands.value (told ∙ c.in-Stands.is) in
    let none = rw c.cpu-cpu.ensures at c.in_default-domain_of.ensures in
    absurd (omega (arith, there, none))
