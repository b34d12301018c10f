-- An audit of a history of requests for performance that files hold has one text, or is refused in one way.
use Rattle.std.proofs.Common.{◌≡◌, ℕ, true, List, [], ◌∷◌, map, inl, inr, ◌⊎◌, sym, subst}
use Rattle.std.specs.List.{AllByRecursion}
use Rattle.pw_base.specs.Seen.{FilesSeen}
use Rattle.pw_plan.specs.declared.parts.CpuParts.{CpuParts}
use Rattle.pw_script.specs.Telling as power
use Rattle.pw_history.specs.Telling.{TextsTell}
use Rattle.pw_cppc.specs.declared.plan.CppcPlan.{CppcPlan}
use Rattle.pw_cppc_drive.specs.declared.script.CppcLine.{CppcLine}
use Rattle.pw_cppc_drive.specs.HistoryText.{performance_words}
use Rattle.pw_cppc_drive.specs.Reading.{requests_of}
use Rattle.pw_cppc_drive.specs.Telling.{HasSegments, IsNarrow, IsNarrowRequest, IsOfSegments}
use Rattle.pw_cppc_drive.proofs.Told.{performance_laws}
use Rattle.pw_audit.specs.declared.form.Form.{Form}
use Rattle.pw_load.specs.Seen.{NoneFailed}
use Rattle.pw_load.proofs.Completeness.{IsOne}
use Rattle.pw_runs.specs.CppcRuns.{AreGiven, AreSteered, IsRefusalOn}
use Rattle.pw_runs.specs.CppcReviews.{IsRefusalFor, reviewing}
use Rattle.pw_runs.specs.Reviewing.IsRefusalFor.{ungiven, unlawful}
use Rattle.pw_runs.proofs.AuditOne.{Contains-behind, Contains-one, apart, behind_first, one_refusal, one_text}
use Rattle.pw_runs.proofs.CppcOne as steers
use Rattle.pw_runs.proofs.Paths.{planned_segments}

paths_segments : (cpus : List CpuParts) → AllByRecursion power.IsOfSegments cpus → AllByRecursion IsOfSegments (map (λ (c : CpuParts). c.path) cpus)
paths_segments [] all = tt
paths_segments (c ∷ cpus) all = (all.0, paths_segments cpus all.1)

-- the paths of processors whose performance is steered are made of segments
steered_segments : (files : FilesSeen) (names : List (List ℕ)) (P : CppcPlan) → files.told ≡ true → AreSteered files names P → HasSegments P
steered_segments files names P tells steered =
    let segments = planned_segments files names steered.machine tells steered.planned in
    record { paths = subst (AllByRecursion IsOfSegments) (sym steered.paths) (paths_segments steered.machine.cpus segments.cpus) }

-- An audit of what files hold has one text, or is refused in one way, and never both.
pub reviewing_is_one : (form : Form) (script history : List ℕ) (names : List (List ℕ)) (before after : FilesSeen) → before.told ≡ true
    → IsOne (reviewing form script history names before after)
reviewing_is_one form script history names before after tells = record {
  texts = one_text performance_words requests_of given refuse form history before tells one once so laws;
  refusals = one_refusal performance_words requests_of given refuse form history before tells one once so laws;
  apart = apart performance_words requests_of given refuse form history before tells one once so laws;
}
  where
    given : FilesSeen → CppcPlan → List CppcLine → Type 0
    given files = AreGiven files script names

    refuse : FilesSeen → ℕ → List ℕ → Type 0
    refuse files = IsRefusalOn files script names

    one : (P Q : CppcPlan) (ls ms : List CppcLine) → AreGiven before script names P ls → AreGiven before script names Q ms → (P ≡ Q) × (ls ≡ ms)
    one = steers.one_given script names before tells

    once : (s t : ℕ) (a b : List ℕ) → IsRefusalOn before script names s a → IsRefusalOn before script names t b → (s ≡ t) × (a ≡ b)
    once = (steers.steer_is_one script names before before tells).refusals

    so : (P : CppcPlan) (ls : List CppcLine) (s : ℕ) (a : List ℕ) → AreGiven before script names P ls → IsRefusalOn before script names s a → ⊥
    so P ls s a is r = steers.given_not_refused script names before tells P ls is s a r

    laws : (P : CppcPlan) (ls : List CppcLine) → AreGiven before script names P ls → TextsTell performance_words P IsNarrow IsNarrowRequest
    laws P ls is = performance_laws P (steered_segments before names P tells is.steered)

-- No file is unread where no read of the script, of the history or of a block failed.
pub never_read_fault : (form : Form) (script history : List ℕ) (names : List (List ℕ)) (before after : FilesSeen) → NoneFailed (script ∷ history ∷ names) before after
    → (reviewing form script history names before after).read_fault → ⊥
never_read_fault form script history names before after none (inl u) =
    steers.never_read_fault script names before after (λ name within. none name (behind_first script history name names within)) (inl u)
never_read_fault form script history names before after none (inr (inl u)) =
    steers.never_read_fault script names before after (λ name within. none name (behind_first script history name names within)) (inr u)
never_read_fault form script history names before after none (inr (inr u)) = none history (Contains-behind script (history ∷ names) history (Contains-one history names)) u.rose

-- A refusal has status 1 where the blocks are refused, 7 where the script is, and 8 where the history is.
pub refusal_is_1_7_or_8 : (form : Form) (script history : List ℕ) (names : List (List ℕ)) (files : FilesSeen) (status : ℕ) (line : List ℕ)
    → IsRefusalFor form files script history names status line → (status ≡ 1) ⊎ (status ≡ 7) ⊎ (status ≡ 8)
refusal_is_1_7_or_8 form script history names files status line (ungiven r) =
    elim (steers.refusal_is_1_or_7 script names files status line r) [
      | inl one ↦ inl one
      | inr seven ↦ inr (inl seven)
    ]
refusal_is_1_7_or_8 form script history names files status line (unlawful r) = inr (inr r.is)
