-- What a kind of coordination is asked and answered, in words.
use Rattle.std.specs.Prelude.{ℕ, List}
use Rattle.acpi_values.specs.declared.operation.Op.{Op}
use Rattle.pw_kind.specs.Coordination.{Coordination}

-- Of plans P, requests Q, replies A, entries of histories E and states S.
pub record Wording (P Q A E S : Type 0) : Type 1 where
  pub kind : Coordination P Q A E S
  -- how many processors a plan has, and the number of that of a request and of an entry
  pub cpus : P → ℕ
  pub cpu : Q → ℕ
  pub asker : E → ℕ
  -- who made an entry, 0 for one that a text tells
  pub seat : E → ℕ
  -- the entry of a request that was answered, and an entry whoever made it: both of seat 0
  pub entry : Q → E
  -- and that of one with this fault
  pub faulted : Q → ℕ → E
  pub unseated : E → E
  -- the operations that a plan opens with
  pub opening_ops : P → List Op
  -- a processor's path
  pub path : P → ℕ → List ℕ
  -- what was asked, and what was answered
  pub request_words : Q → List (List ℕ)
  pub reply_words : A → List (List ℕ)
