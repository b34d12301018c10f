-- What a request for a performance comes to.
use Rattle.std.specs.Prelude.{◌≡◌, ℕ, List, Some}
use Rattle.aml_block.specs.declared.block.Block.{Block}
use Rattle.acpi_space.specs.Namespace.{entries_in}
use Rattle.pw_cppc.specs.declared.request.CppcRequest.{CppcRequest}
use Rattle.pw_cppc.specs.Requests.{Has}
use Rattle.pw_cppc.specs.SpacePlan.{IsPlanOver}
use Rattle.pw_cppc.specs.Answers.{after, answer}
use Rattle.pw_cppc.specs.Operations.{opening_ops, ops_of}
use Rattle.pw_cppc.specs.States.{opening}
use Rattle.pw_embed.specs.declared.cppc.Cppc.{Cppc}
use Rattle.pw_embed.specs.declared.cppc_numbers.CppcReplyNumbers.{CppcReplyNumbers}
use Rattle.pw_embed.specs.declared.cppc_numbers.CppcRequestNumbers.{CppcRequestNumbers}
use Rattle.pw_embed.specs.declared.status.Status.{Status}
use Rattle.pw_embed.specs.declared.status.Status.TheVariants.{Done, Range}
use Rattle.pw_embed.specs.Blocks.{AreSpelled}
use Rattle.pw_embed.specs.CppcNumbers.{numbers_of, request_in}

-- at the start of its plan: the numbers, and the operations in the list
pub record IsOpening (c : Cppc) : Type 0 where
  pub state : c.state ≡ opening c.plan
  pub ops : c.ops.elements ≡ opening_ops c.plan

-- the coordinator of the processors of the blocks that the bytes spell, at its start
pub record IsSteered (sources : List (List ℕ)) (c : Cppc) : Type 0 where
  pub blocks : List Block
  pub spelled : AreSpelled sources blocks
  pub over : IsPlanOver (entries_in blocks) c.plan
  pub opening : IsOpening c

-- The request was made: the same plan, the numbers after it, and its operations in the list.
pub record Stepped (old : Cppc) (q : CppcRequest) (new : Cppc) : Type 0 where
  pub has : Has old.plan q
  pub plan : new.plan ≡ old.plan
  pub state : new.state ≡ after old.plan old.state q
  pub ops : new.ops.elements ≡ ops_of old.plan old.state q

-- The request that the numbers ask for was made, and the reply has the numbers of its answer; or they ask for none of the plan's
-- processors, and nothing changed.
unfoldable pub Asked : Cppc → CppcRequestNumbers → CppcReplyNumbers → Cppc → CppcReplyNumbers → Status → Type 0
Asked old a reply new reply' Done =
    (q : CppcRequest) × (request_in a ≡ Some q) × Stepped old q new × (reply' ≡ numbers_of (answer old.plan old.state q))
Asked old a reply new reply' Range = ((q : CppcRequest) → request_in a ≡ Some q → Has old.plan q → ⊥) × (new ≡ old) × (reply' ≡ reply)
Asked old a reply new reply' _ = ⊥
