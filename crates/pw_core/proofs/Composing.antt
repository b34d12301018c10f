-- Composites, built upwards.
use Rattle.std.proofs.Common.{◌≡◌, ◌<◌, ◌≤◌, ◌+◌, ℕ, List, length, drop, get_or, Option, Some, None, refl, ap, sym, ◌∙◌, drop-cons, add-one, get_or-take}
use Rattle.std.proofs.lemmas.List.{drop_all}
use Rattle.acpi_values.specs.Idle.{rows_of}
use Rattle.acpi_values.specs.declared.operation.Chain.{Chain}
use Rattle.acpi_values.specs.declared.register.Register.{Register}
use Rattle.pw_plan.specs.declared.plan.Plan.{Plan}
use Rattle.pw_plan.specs.Places.{container_at, row_at}
use Rattle.pw_plan.specs.Tree.{line_from}
use Rattle.pw_plan.proofs.Lines.{Within}
use Rattle.pw_model.specs.Composites.{add_entries, add_entry}
use Rattle.pw_core.specs.Chains.{states_in, AreStates}
use Rattle.pw_core.proofs.Climbing.{line-None, line-Some, within_up}

-- how far a register has come that is to be composed of these states
pub record Composes (P : Plan) (whole : Register) (states : List ℕ) (r : Register) (next : Option ℕ) (place : ℕ) : Type 0 where
  pub within : Within P.containers (length P.containers) next
  pub fit : AreStates P (line_from P.containers next) (drop place states)
  pub told : add_entries P r (line_from P.containers next) (drop place states) ≡ whole

module _ (P : Plan) (whole : Register) (states : List ℕ) (r : Register) (place : ℕ) where
  pub composes-end : (next : Option ℕ) → length states ≤ place → Composes P whole states r next place → r ≡ whole
  composes-end next le h = sym (ap (λ ss. add_entries P r (line_from P.containers next) ss) (drop_all place states le)) ∙ h.told

  pub composes-None : place < length states → Composes P whole states r None place → ⊥
  composes-None lt h =
      let f = rw (line-None P, drop-cons states place 0) at h.fit in
      f

  module _ (n : ℕ) (lt : place < length states) (h : Composes P whole states r (Some n) place) where
    pub composes-exists : n < length P.containers
    composes-exists = (h.within n refl).1

    pub composes-state : (1 ≤ get_or states place 0) × (get_or states place 0 ≤ length (rows_of (container_at P n).idle))
    composes-state =
        let f = rw (line-Some P n composes-exists, drop-cons states place 0) at h.fit in
        (f.0, f.1)

    pub composes-more : Composes P whole states (add_entry r (row_at (container_at P n).idle (get_or states place 0)).entry) (container_at P n).parent (place + 1)
    composes-more =
        let f = rw (line-Some P n composes-exists, drop-cons states place 0) at h.fit in
        let t = rw (line-Some P n composes-exists, drop-cons states place 0) at h.told in
        record {
          within = within_up P n composes-exists;
          fit = rw add-one f.2;
          told = rw add-one t;
        }

-- what stands in the chain at a place
pub state_at : (c : Chain) (i : ℕ) → i < c.len → get_or (states_in c) i 0 ≡ get_or c.states i 0
state_at c i lt = get_or-take c.len c.states i 0 lt
