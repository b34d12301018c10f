-- A chain is that of its states.
use Rattle.std.proofs.Common.{◌≡◌, ◌-◌, ◌++◌, ℕ, List, length, refl, ap, sym, ◌∙◌, take, replicate}
use Rattle.acpi_values.specs.declared.operation.Chain.{Chain}
use Rattle.pw_model.specs.Answers.{chain_of}
use Rattle.pw_core.specs.Chains.{IsChain, states_in}
use Rattle.pw_core.proofs.Climbing.{length-states_in, same_chain}
