-- Which line of a script's text an entry of a history comes from.
use Rattle.std.specs.Prelude.{◌≡◌, ◌<◌, ◌++◌, ◌∷◌, ℕ, List, [], length, Some, None, Ok}
use Rattle.acpi_values.specs.declared.idle.IdleTable.{IdleTable}
use Rattle.pw_plan.specs.declared.domain.DomainKind.{DomainKind}
use Rattle.pw_plan.specs.declared.domain.DomainKind.TheVariants as kinds
use Rattle.pw_plan.specs.declared.parts.Scale.{Scale}
use Rattle.pw_plan.specs.declared.plan.Plan.{Plan}
use Rattle.pw_plan.specs.declared.request.Request.{Request}
use Rattle.pw_plan.specs.declared.request.Request.TheVariants.{Idle, Wake, PerfLimit, ThrottleLimit}
use Rattle.pw_plan.specs.Parts.{scale_of}
use Rattle.pw_plan.specs.Places.{cpu_at}
use Rattle.pw_model.specs.declared.entry.HistoryEntry.{HistoryEntry}
use Rattle.pw_model.specs.declared.state.ScaleKind.{ScaleKind}
use Rattle.pw_model.specs.declared.state.ScaleKind.TheVariants as scales
use Rattle.pw_model.specs.declared.state.State.{State}
use Rattle.pw_model.specs.States.{limit_of}
use Rattle.pw_model.specs.History.{replay, request_of}
use Rattle.pw_notice.specs.Limits.{own, requests}
use Rattle.pw_script.specs.declared.script.Line.{Line as line}
use Rattle.pw_script.specs.declared.wish.Wish.{Wish}
use Rattle.pw_script.specs.declared.wish.Wish.TheVariants.{Plain, Within, Notice}
use Rattle.pw_script.specs.Forms.{wish_in}
use Rattle.pw_script.specs.Reading.{AreLines, requests_of}

-- n is the limit that a handler answers, shown how many states of this kind processor p has, the limit that stands for it, and
-- the value; without such states it is the value.
pub record IsHandled (P : Plan) (answers : ℕ → ℕ → ℕ → ℕ → Type 0) (S : State) (kind : DomainKind) (p value n : ℕ) : Type 0 where
  pub answered : (scale : Scale) → scale_of kind (cpu_at P p) ≡ Some scale → answers (length scale.controls) (limit_of kind S p) value n
  pub passed_on : scale_of kind (cpu_at P p) ≡ None → n ≡ value

-- q is what a wish comes to in a state: itself, the idle state that is chosen, or the limit that the handler of its kind answers
abbrev pub ComesTo : Plan → (IdleTable → ℕ → ℕ → ℕ → Type 0) → (ScaleKind → ℕ → ℕ → ℕ → ℕ → Type 0) → State → Wish → Request → Type 0
ComesTo P chooses answers S (Plain r) q = q ≡ r
ComesTo P chooses answers S (Within p tolerance residency) q =
    (s : ℕ) × chooses (cpu_at P p).idle tolerance residency s × (s ≡ 0 → q ≡ Wake p) × (0 < s → q ≡ Idle p s tolerance)
ComesTo P chooses answers S (Notice p scales.Perf value) q =
    (n : ℕ) × IsHandled P (answers scales.Perf) S kinds.Perf p value n × (q ≡ PerfLimit p n)
ComesTo P chooses answers S (Notice p scales.Throttle value) q =
    (n : ℕ) × IsHandled P (answers scales.Throttle) S kinds.Throttle p value n × (q ≡ ThrottleLimit p n)

-- The entry behind these comes from a text: of the lines that the texts before it give its processor made its own, and the
-- entry's request is what the text's wish comes to in the state that stands.
pub record ComesFrom (P : Plan) (chooses : IdleTable → ℕ → ℕ → ℕ → Type 0) (answers : ScaleKind → ℕ → ℕ → ℕ → ℕ → Type 0) (n : ℕ)
    (texts : List (List ℕ)) (es : List HistoryEntry) (e : HistoryEntry) : Type 0 where
  pub earlier : List (List ℕ)
  pub text : List ℕ
  pub later : List (List ℕ)
  pub stands : texts ≡ earlier ++ text ∷ later
  pub lines : List line
  pub gives : AreLines P chooses answers [] n earlier lines
  pub made : own e.cpu (requests es) ≡ own e.cpu (requests_of lines)
  pub wish : Wish
  pub asks : wish_in P text ≡ Ok (Some wish)
  pub comes : ComesTo P chooses answers (replay P es) wish (request_of e)
