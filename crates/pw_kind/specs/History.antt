-- Histories of a kind of coordination: what was asked, one request after the other.
use Rattle.std.specs.Prelude.{◌≡◌, ◌==◌, ◌+◌, ◌-◌, ◌<◌, ◌≤◌, ◌⊎◌, ℕ, Option, Some, None, List, [], ◌∷◌, ◌++◌, length, take, if◌then◌else◌}
use Rattle.std.specs.List.{AllByRecursion}
use Rattle.acpi_values.specs.declared.operation.Op.{Op}
use Rattle.pw_kind.specs.Coordination.{Coordination}

module _ {P Q A E S : Type 0} (C : Coordination P Q A E S) where
  -- the state that an entry leaves: a fault changes nothing
  abbrev pub after_entry : P → S → E → S
  after_entry plan s e = if C.fault e == 0 then C.after plan s (C.request e) else s

  abbrev pub replay_from : P → S → List E → S
  replay_from plan s [] = s
  replay_from plan s (e ∷ es) = replay_from plan (after_entry plan s e) es

  -- The state that a history leaves.
  unfoldable pub replay : P → List E → S
  replay plan es = replay_from plan (C.opening plan) es

  -- the reply to an entry, unless it is a fault
  abbrev pub entry_reply : P → S → E → List A
  entry_reply plan s e = if C.fault e == 0 then C.answer plan s (C.request e) ∷ [] else []

  abbrev pub replies_from : P → S → List E → List A
  replies_from plan s [] = []
  replies_from plan s (e ∷ es) = entry_reply plan s e ++ replies_from plan (after_entry plan s e) es

  -- The replies of a history.
  unfoldable pub replies : P → List E → List A
  replies plan es = replies_from plan (C.opening plan) es

  -- the operations of an entry: of a fault those that were done before it
  abbrev pub entry_ops : P → S → E → List Op
  entry_ops plan s e = if C.fault e == 0 then C.ops plan s (C.request e) else take (C.fault e - 1) (C.ops plan s (C.request e))

  abbrev pub ops_from : P → S → List E → List Op
  ops_from plan s [] = []
  ops_from plan s (e ∷ es) = entry_ops plan s e ++ ops_from plan (after_entry plan s e) es

  -- The operations of a history, without those at the start.
  unfoldable pub history_ops : P → List E → List Op
  history_ops plan es = ops_from plan (C.opening plan) es

  -- # Which histories there are

  -- no entry is a fault
  abbrev pub Faultless : List E → Type 0
  Faultless es = AllByRecursion (λ e. C.fault e ≡ 0) es

  -- the operation at which a register failed, counted from 0 among those of the entry's request
  abbrev pub fault_at : List E → Option ℕ
  fault_at [] = None
  fault_at (e ∷ es) = if C.fault e == 0 then fault_at es else Some (C.fault e - 1)

  -- only the last entry may be a fault
  abbrev pub FaultIsLast : List E → Type 0
  FaultIsLast [] = Unit {0}
  FaultIsLast (e ∷ []) = Unit {0}
  FaultIsLast (e ∷ f ∷ es) = (C.fault e ≡ 0) × FaultIsLast (f ∷ es)

  pub record WellFormed (plan : P) (es : List E) : Type 0 where
    pub entries : AllByRecursion (C.IsEntry plan) es
    pub fault : FaultIsLast es

  -- a fault comes at one of the operations of its request
  abbrev pub FaultFits : P → S → E → Type 0
  FaultFits plan s e = (C.fault e ≡ 0) ⊎ (C.fault e ≤ length (C.ops plan s (C.request e)))

  abbrev pub FaultsFit : P → S → List E → Type 0
  FaultsFit plan s [] = Unit {0}
  FaultsFit plan s (e ∷ es) = FaultFits plan s e × FaultsFit plan (after_entry plan s e) es

  -- A history that can come about.
  pub record Legal (plan : P) (es : List E) : Type 0 where
    pub well_formed : WellFormed plan es
    pub faults : FaultsFit plan (C.opening plan) es

  -- One more entry may follow: the history has no fault, and the entry is one of the plan and fits.
  pub record MayFollow (plan : P) (es : List E) (e : E) : Type 0 where
    pub faultless : Faultless es
    pub entry : C.IsEntry plan e
    pub fits : FaultFits plan (replay plan es) e

  -- The history ends with an entry whose request had its operation k fail, counted from 0.
  pub record StopsAt (plan : P) (es : List E) (k : ℕ) : Type 0 where
    pub before : List E
    pub last : E
    pub is : es ≡ before ++ last ∷ []
    pub faultless : Faultless before
    pub fault : C.fault last ≡ k + 1
    pub within : k < length (C.ops plan (replay plan before) (C.request last))
