use Rattle.std.proofs.Common.{◌≡◌, ◌≤◌, ◌+◌, ◌*◌, drop}
use Rattle.std.specs.Prelude.{sum_by}
use Rattle.pw_cppc.specs.declared.parts.Control.TheVariants as controls
use Rattle.pw_cppc.specs.Parts.{parts_in}
use Rattle.pw_cppc.specs.Requests.{register_count}
use Rattle.pw_cppc.proofs.bounds.bounds_of.Given as goal

abbrev pub invariant-loop-member : goal.invariant-loop-member
invariant-loop-member l = record {
  counted : l.count + sum_by (λ p. register_count controls.Minimum (parts_in l.cpus p) + register_count controls.Maximum (parts_in l.cpus p)) (drop l.member-index l.members)
      ≡ sum_by (λ p. register_count controls.Minimum (parts_in l.cpus p) + register_count controls.Maximum (parts_in l.cpus p)) l.members;
  small : l.count ≤ 2 * l.member-index;
}
