-- A script: its lines' requests, and why bytes are none.
use Rattle.std.specs.Prelude.{◌≡◌, ◌==◌, ◌+◌, ◌≤◌, ℕ, suc, List, [], ◌∷◌, ◌++◌, map, length, sum_by, Option, Some, None, Result, Ok, Err, if◌then◌else◌}
use denote.Ref.{Bor}
use Rattle.std.specs.List.{AllByRecursion}
use Rattle.acpi_values.specs.declared.idle.IdleTable.{IdleTable}
use Rattle.pw_plan.specs.declared.plan.Plan.{Plan}
use Rattle.pw_plan.specs.declared.request.Request.{Request}
use Rattle.pw_plan.specs.declared.request.Request.TheVariants.{Idle, Wake}
use Rattle.pw_plan.specs.Places.{cpu_at}
use Rattle.pw_plan.specs.Requests.{Has, cpu_of, ops_bound, opening_bound}
use Rattle.pw_model.specs.declared.state.ScaleKind.{ScaleKind}
use Rattle.pw_governor.specs.Choices.{ChosenBy, IsLawful}
use Rattle.pw_notice.specs.Limits.{IsNoticed}
use Rattle.pw_script.specs.declared.script.Line.{Line as line}
use Rattle.pw_text.specs.declared.script.LineWhy.{LineWhy}
use Rattle.pw_text.specs.declared.script.ScriptFault.{ScriptFault}
use Rattle.pw_text.specs.Scripts.{first_bad_by, refused_by}
use Rattle.pw_script.specs.declared.wish.Wish.{Wish}
use Rattle.pw_script.specs.declared.wish.Wish.TheVariants.{Plain, Within, Notice}
use Rattle.pw_script.specs.Forms.{wish_in}

-- # Wishes that are answered

-- a state that a governor may answer, and that may be chosen for this latency and residency
abbrev pub LawfullyChosen : (Bor IdleTable → ℕ → ℕ → ℕ → Type 0) → IdleTable → ℕ → ℕ → ℕ → Type 0
LawfullyChosen post t tolerance residency s = ChosenBy post t tolerance residency s × IsLawful t tolerance residency s

-- answers by functions, as of a governor or handlers whose answers are known
abbrev pub Chosen : (IdleTable → ℕ → ℕ → ℕ) → IdleTable → ℕ → ℕ → ℕ → Type 0
Chosen choose t tolerance residency s = s ≡ choose t tolerance residency

abbrev pub Answered : (ScaleKind → ℕ → ℕ → ℕ → ℕ) → ScaleKind → ℕ → ℕ → ℕ → ℕ → Type 0
Answered answer kind count current value n = n ≡ answer kind count current value

-- q is what a wish asks for, behind the requests before it, with what a governor chooses and handlers answer
abbrev pub IsAsked : Plan → (IdleTable → ℕ → ℕ → ℕ → Type 0) → (ScaleKind → ℕ → ℕ → ℕ → ℕ → Type 0) → List Request → Wish → Request → Type 0
IsAsked P chooses answers before (Plain r) q = q ≡ r
IsAsked P chooses answers before (Within p tolerance residency) q =
    (s : ℕ) × chooses (cpu_at P p).idle tolerance residency s × (q ≡ (if s == 0 then Wake p else Idle p s tolerance))
IsAsked P chooses answers before (Notice p kind value) q = IsNoticed P answers before p kind value q

-- the processor that wishes
abbrev pub asker : Wish → ℕ
asker (Plain q) = cpu_of q
asker (Within p tolerance residency) = p
asker (Notice p kind value) = p

-- # Lines one after the other, numbered from n on

abbrev pub first_bad : Plan → ℕ → List (List ℕ) → Option ScriptFault
first_bad P = first_bad_by (wish_in P)

abbrev pub requests_of : List line → List Request
requests_of lines = map (λ l. l.request) lines

-- the lines that a wish and the texts behind it give
abbrev pub GivesLines : Plan → (IdleTable → ℕ → ℕ → ℕ → Type 0) → (ScaleKind → ℕ → ℕ → ℕ → ℕ → Type 0) → List Request → ℕ
    → Result (Option Wish) LineWhy
    → (List Request → List line → Type 0) → List line → Type 0
GivesLines P chooses answers before n (Err why) behind lines = ⊥
GivesLines P chooses answers before n (Ok None) behind lines = behind before lines
GivesLines P chooses answers before n (Ok (Some wish)) behind lines =
    (q : Request) × IsAsked P chooses answers before wish q × (more : List line) × (lines ≡ record { number = n; request = q } ∷ more)
    × behind (before ++ q ∷ []) more

-- Each text asks for nothing, or for the next line.
abbrev pub AreLines : Plan → (IdleTable → ℕ → ℕ → ℕ → Type 0) → (ScaleKind → ℕ → ℕ → ℕ → ℕ → Type 0) → List Request → ℕ → List (List ℕ)
    → List line → Type 0
AreLines P chooses answers before n [] lines = lines ≡ []
AreLines P chooses answers before n (text ∷ texts) lines = GivesLines P chooses answers before n (wish_in P text)
    (λ b l. AreLines P chooses answers b (suc n) texts l) lines

-- # The whole script

-- why bytes are no script, whatever is answered
abbrev pub refused : Plan → List ℕ → Option ScriptFault
refused P = refused_by (wish_in P)

-- how many operations there are at most, with those at the start
abbrev pub operations : Plan → List line → ℕ
operations P lines = opening_bound P + sum_by (λ l. ops_bound P l.request) lines

-- the processor of each line exists, and there are no more lines than texts
pub record Fit (P : Plan) (texts : List (List ℕ)) (lines : List line) : Type 0 where
  pub few : length lines ≤ length texts
  pub exist : AllByRecursion (λ (l : line). Has P l.request) lines
