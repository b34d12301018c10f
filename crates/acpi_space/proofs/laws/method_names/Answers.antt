use Rattle.aml_data.proofs.Places.{all_bytes}
use Rattle.acpi_space.proofs.Naming.{named_from, named_to, one_name}
use Rattle.acpi_space.proofs.laws.method_names.Goals as goal

pub returns-clause-named : goal.returns-clause-named
returns-clause-named c = λ body path fits. (named_to body path (all_bytes body fits), named_from body path)

pub returns-clause-one : goal.returns-clause-one
returns-clause-one c = λ body a b p q. one_name body a b p q
