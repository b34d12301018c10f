use Rattle.std.proofs.Common.{refl}
use Rattle.acpi_values.specs.declared.dependency.Coord.TheVariants.{HwAll, SwAll}
use Rattle.pw_model.proofs.AnyMember.{any_is_set}
use Rattle.pw_model.proofs.Setting.{member_is_set}
use Rattle.pw_model.proofs.laws.registers_stand.Goals as goal

pub returns-clause-all : goal.returns-clause-all
returns-clause-all c = λ P H d p legal faults on own. member_is_set P SwAll d p refl on own H legal.well_formed.entries faults

pub returns-clause-each : goal.returns-clause-each
returns-clause-each c = λ P H d p legal faults on own. member_is_set P HwAll d p refl on own H legal.well_formed.entries faults

pub returns-clause-any : goal.returns-clause-any
returns-clause-any c = λ P H d p legal faults on own. any_is_set P d p on own H legal.well_formed.entries faults
