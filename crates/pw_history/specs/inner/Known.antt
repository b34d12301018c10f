-- Replies that are known.
use Rattle.std.specs.Prelude.{◌≡◌, ◌==◌, ℕ, List, [], ◌∷◌, length, Option, Some, None, if◌then◌else◌}
use Rattle.pw_kind.specs.Coordination.{Coordination}
use Rattle.pw_kind.specs.History.{Faultless, replies_from}

module _ {P Q A E S : Type 0} (C : Coordination P Q A E S) where
  -- the replies to these entries, of which the first was asked in state s and none is a fault, are known; or none are
  abbrev pub AreKnown : P → S → List E → Option (List A) → Type 0
  AreKnown plan s es None = Unit {0}
  AreKnown plan s es (Some replies) = (replies ≡ replies_from C plan s es) × Faultless C es

  -- the reply to this entry is known, which is then no fault
  abbrev pub IsKnown : P → S → E → Option A → Type 0
  IsKnown plan s e None = Unit {0}
  IsKnown plan s e (Some reply) = (C.fault e ≡ 0) × (C.answer plan s (C.request e) ≡ reply)

-- the first of known replies
abbrev pub first_known : {A : Type 0} → Option (List A) → Option A
first_known None = None
first_known (Some []) = None
first_known (Some (reply ∷ replies)) = Some reply

-- those behind it
abbrev pub others_known : {A : Type 0} → Option (List A) → Option (List A)
others_known None = None
others_known (Some []) = Some []
others_known (Some (reply ∷ replies)) = Some replies

-- known replies where there is one for each of n entries
abbrev pub for_each : {A : Type 0} → ℕ → Option (List A) → Option (List A)
for_each n None = None
for_each n (Some replies) = if length replies == n then Some replies else None
