use Rattle.std.proofs.Common.{◌≡◌, drop}
use Rattle.std.specs.List.{list_all}
use Rattle.std.specs.Prelude.{is_some}
use Rattle.pw_cppc.specs.declared.parts.Control.TheVariants as controls
use Rattle.pw_cppc.specs.Parts.{parts_in, register_of}
use Rattle.pw_cppc.proofs.domains.have_registers.Given as goal

abbrev pub invariant-loop-member : goal.invariant-loop-member
invariant-loop-member l =
    list_all (λ p. is_some (register_of controls.Desired (parts_in l.cpus p))) (drop l.member-index l.members)
    ≡ list_all (λ p. is_some (register_of controls.Desired (parts_in l.cpus p))) l.members
