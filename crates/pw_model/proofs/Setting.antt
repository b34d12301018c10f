-- The control registers of members, from the start over every request of a history.
use Rattle.std.proofs.Common.{◌≡◌, ◌≢◌, ℕ, true, List, ◌++◌, ap, sym, ◌∙◌}
use Rattle.std.specs.List.{AllByRecursion}
use Rattle.acpi_values.specs.declared.dependency.Coord.{Coord}
use Rattle.acpi_values.specs.declared.operation.Op.TheVariants as op
use Rattle.acpi_values.specs.declared.register.Register.{Register}
use Rattle.pw_plan.specs.declared.plan.Plan.{Plan}
use Rattle.pw_plan.specs.Parts.{scale_of}
use Rattle.pw_plan.specs.Places.{cpu_at, domain_at}
use Rattle.pw_model.specs.declared.entry.HistoryEntry.{HistoryEntry}
use Rattle.pw_model.specs.declared.state.Change.TheVariants as changes
use Rattle.pw_model.specs.States.{with_change}
use Rattle.pw_model.specs.History.{Faultless, IsEntry, history_ops, replay}
use Rattle.pw_model.specs.Laws.{HasOwnRegisters, IsFitMember, IsSetToStanding, standing_value}
use Rattle.pw_model.specs.Operations.{opening_ops, register_of}
use Rattle.pw_model.proofs.Histories.{Keeps, history_stands}
use Rattle.pw_model.proofs.LastSets.{last_append}
use Rattle.pw_model.proofs.Registers.{IsSetOnEach, Stands, domain_stands, is_each, moved, opening_stands}
use Rattle.pw_model.proofs.Standings.{standing-spared}
use Rattle.pw_base.proofs.Facts.{weaker}

-- # Of a member that is set itself

module _ (P : Plan) (d p : ℕ) (on : IsSetOnEach P d p) (own : HasOwnRegisters P p) where
  each_keeps : Keeps P (Stands P d p on own)
  each_keeps = record {
    opening = opening_stands P d p on own;
    voted = λ S q v ops last. moved P d p on own S (with_change S (changes.Vote q v)) ops (sym (standing-spared P S (changes.Vote q v) d p on.member (λ m e. tt))) last;
    entered = λ S ops more none last. last_append p (register_of (scale_of (domain_at P d).kind (cpu_at P p))) (standing_value P S d p) ops more last
        (weaker (λ o. (q : ℕ) (r : Register) (w : ℕ) → o ≢ op.Set q r w) (λ o. (w : ℕ) → o ≢ op.Set p (register_of (scale_of (domain_at P d).kind (cpu_at P p))) w)
        (λ o h w. h p (register_of (scale_of (domain_at P d).kind (cpu_at P p))) w) more none);
    requested = λ S c kind q exists accepted scaled spares ops last. domain_stands P d p on own S c kind q exists accepted scaled spares ops last;
  }

pub member_is_set : (P : Plan) (x : Coord) (d p : ℕ) → is_each x ≡ true → IsFitMember P x d p → HasOwnRegisters P p → (es : List HistoryEntry) → AllByRecursion (IsEntry P) es → Faultless es
    → IsSetToStanding P (replay P es) d p (opening_ops P ++ history_ops P es)
member_is_set P x d p each is own es entries faults =
    let on : IsSetOnEach P d p = record { exists = is.exists; kind = is.kind; coord = ap is_each is.coordinated ∙ each; fit = is.fit; member = is.member } in
    history_stands P (Stands P d p on own) (each_keeps P d p on own) es entries faults
