-- What a kind of coordination is.
use Rattle.std.specs.Prelude.{ℕ, List}
use Rattle.acpi_values.specs.declared.operation.Op.{Op}

-- Of plans P, requests Q, replies A, entries of histories E and states S.
pub record Coordination (P Q A E S : Type 0) : Type 1 where
  -- of an entry: its request, and 0, or one more than how many of the request's operations were done before a register failed
  pub request : E → Q
  pub fault : E → ℕ
  -- an entry that a history of the plan may have
  pub IsEntry : P → E → Type 0
  -- the state that a plan opens with
  pub opening : P → S
  -- of a request in a state: what it is answered, its operations, and the state that it leaves
  pub answer : P → S → Q → A
  pub ops : P → S → Q → List Op
  pub after : P → S → Q → S
