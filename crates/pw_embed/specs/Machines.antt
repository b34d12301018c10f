-- What calls on a machine come to.
use Rattle.std.specs.Prelude.{◌≡◌, ℕ, List, Option, Some, None, Result, Err, IfErr, IfOk}
use Rattle.pw_plan.specs.declared.plan.Plan.{Plan}
use Rattle.pw_model.specs.Operations.{opening_ops}
use Rattle.pw_model.specs.States.{opening}
use Rattle.pw_embed.specs.declared.cppc.Cppc.{Cppc}
use Rattle.pw_embed.specs.declared.faults.FaultNumbers.{FaultNumbers}
use Rattle.pw_embed.specs.declared.machine.Machine.{Machine}
use Rattle.pw_embed.specs.declared.machine.Machine.TheVariants.{Blocks, Planned, Started}
use Rattle.pw_embed.specs.declared.operations.OpNumbers.{OpNumbers}
use Rattle.pw_embed.specs.declared.planned.Counts.{Counts as counts}
use Rattle.pw_embed.specs.declared.planned.CpuNumbers.{CpuNumbers}
use Rattle.pw_embed.specs.declared.planned.Planned.{Planned as planned}
use Rattle.pw_embed.specs.declared.replies.ReplyNumbers.{ReplyNumbers}
use Rattle.pw_embed.specs.declared.requests.RequestNumbers.{RequestNumbers}
use Rattle.pw_embed.specs.declared.single.Single.{Single}
use Rattle.pw_embed.specs.declared.status.Status.{Status}
use Rattle.pw_embed.specs.declared.status.Status.TheVariants.{Done, Kind, NoMemory}
use Rattle.pw_embed.specs.Blocks.{Added, IsPlanned, Refused, Unplanned}
use Rattle.pw_embed.specs.Cppc.{IsSteered}
use Rattle.pw_embed.specs.Operations.{Listed}
use Rattle.pw_embed.specs.Planned.{ToldCpu, counts_of}
use Rattle.pw_embed.specs.Single.{Asked}

-- # Blocks

-- what a call on blocks comes to: where there is a plan nothing changes
unfoldable pub AtBlocks : Machine → Machine → Status → Type 0 → (List (List ℕ) → Machine → Status → Type 0) → Type 0
AtBlocks (Blocks b) m s same P = P b m s
AtBlocks old m s same P = (m ≡ old) × (s ≡ Kind) × same

-- a block is added
abbrev pub AddsBlock : Machine → List ℕ → FaultNumbers → Machine → FaultNumbers → Status → Type 0
AddsBlock old bytes fault new fault' s =
    AtBlocks old new s (fault' ≡ fault) (λ b m t. (c : List (List ℕ)) × (m ≡ Blocks c) × Added b bytes fault c fault' t)

-- the plan of the blocks is made, and they are kept; or they make none, for this reason
unfoldable pub Planning : List (List ℕ) → FaultNumbers → List ℕ → Machine → FaultNumbers → List ℕ → Status → Type 0
Planning b fault room m fault' room' Done =
    (p : planned) × (m ≡ Planned p) × (p.blocks ≡ b) × IsPlanned b p.plan p.notes × (fault' ≡ fault) × (room' ≡ room)
Planning b fault room m fault' room' s = (m ≡ Blocks b) × Refused b fault room fault' room' s

abbrev pub Plans : Machine → FaultNumbers → List ℕ → Machine → FaultNumbers → List ℕ → Status → Type 0
Plans old fault room new fault' room' s =
    AtBlocks old new s ((fault' ≡ fault) × (room' ≡ room)) (λ b m t. Planning b fault room m fault' room' t)

-- # The plan

-- the plan, and how many notes there are
abbrev pub plan_in : Machine → Option (Plan × ℕ)
plan_in (Blocks b) = None
plan_in (Planned p) = Some (p.plan, p.notes)
plan_in (Started s) = Some (s.plan, s.notes)

-- what is told of a plan: nothing where there is none
abbrev pub OfPlan : Option (Plan × ℕ) → Status → Type 0 → (Plan → ℕ → Type 0) → Type 0
OfPlan None s same P = (s ≡ Kind) × same
OfPlan (Some p) s same P = P p.0 p.1

unfoldable pub Counts : Machine → counts → counts → Status → Type 0
Counts m told told' s = OfPlan (plan_in m) s (told' ≡ told) (λ P notes. (s ≡ Done) × (told' ≡ counts_of P notes))

unfoldable pub TellsCpu : Machine → ℕ → CpuNumbers × List ℕ × ℕ → CpuNumbers × List ℕ × ℕ → Status → Type 0
TellsCpu m p old new s = OfPlan (plan_in m) s (new ≡ old) (λ P notes. ToldCpu P p old new s)

-- # The coordinator of one caller

-- at the start of a plan: its state, and its operations in the list
pub record IsOpening (p : planned) (single : Single) : Type 0 where
  pub plan : single.plan ≡ p.plan
  pub notes : single.notes ≡ p.notes
  pub state : single.state ≡ opening p.plan
  pub ops : single.ops.elements ≡ opening_ops p.plan

-- The coordinator is started on the plan; or there was no memory, or no plan, and nothing changed.
unfoldable pub Starts : Machine → Machine → Status → Type 0
Starts (Planned p) new Done = (single : Single) × (new ≡ Started single) × IsOpening p single
Starts (Planned p) new s = (s ≡ NoMemory) × (new ≡ Planned p)
Starts old new s = (s ≡ Kind) × (new ≡ old)

-- a request is made
unfoldable pub Asks : Machine → RequestNumbers → ReplyNumbers → Machine → ReplyNumbers → Status → Type 0
Asks (Started old) a reply new reply' s = (single : Single) × (new ≡ Started single) × Asked old a reply single reply' s
Asks old a reply new reply' s = (s ≡ Kind) × (new ≡ old) × (reply' ≡ reply)

-- the operations of the last request are told
unfoldable pub Lists : Machine → List OpNumbers → ℕ → List OpNumbers → ℕ → Status → Type 0
Lists (Started single) out count out' count' s = Listed single.ops.elements out out' count' s
Lists m out count out' count' s = (s ≡ Kind) × (out' ≡ out) × (count' ≡ count)

-- # Desired performance

-- The coordinator by `_CPC` of the plan's processors, at its start; or why there is none.
unfoldable pub Steers : Machine → Result Cppc Status → Type 0
Steers (Planned p) r = IfOk r (IsSteered p.blocks) × IfErr r (Unplanned p.blocks)
Steers m r = r ≡ Err Kind
