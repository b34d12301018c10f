-- The summary of a history.
use Rattle.std.specs.Prelude.{◌≡◌, ◌+◌, ℕ, Bool, true, false, List, [], ◌∷◌, map, filter, length, count_by, slice_index_or, codes, decimal}
use Rattle.std.specs.List.{range_with_len}
use Rattle.pw_text.specs.Lines.{spaced, text_of}
use Rattle.pw_plan.specs.declared.domain.DomainKind.TheVariants.{Perf}
use Rattle.pw_plan.specs.declared.plan.Plan.{Plan}
use Rattle.pw_plan.specs.declared.request.Request.{Request}
use Rattle.pw_plan.specs.declared.request.Request.TheVariants.{Idle, Wake}
use Rattle.pw_plan.specs.Covering.{same_kind}
use Rattle.pw_plan.specs.Places.{domain_at}
use Rattle.pw_model.specs.declared.entry.HistoryEntry.{HistoryEntry}
use Rattle.pw_model.specs.declared.reply.Reply.{Reply}
use Rattle.pw_model.specs.declared.reply.Reply.TheVariants.{Entered, Running, Stands}
use Rattle.pw_model.specs.declared.state.State.{State}
use Rattle.pw_model.specs.Containers.{container_vote}
use Rattle.pw_model.specs.Domains.{standing}
use Rattle.pw_model.specs.History.{entry_of, replay, replies}

-- # Kinds of replies

-- whether the processor idles
abbrev pub is_entered : Reply → Bool
is_entered (Entered chain) = true
is_entered _ = false

-- whether the processor runs
abbrev pub is_running : Reply → Bool
is_running Running = true
is_running _ = false

-- whether the reply says where a domain stands
abbrev pub is_stands : Reply → Bool
is_stands (Stands index) = true
is_stands _ = false

-- whether the request was refused: every other reply says why
abbrev pub is_refused : Reply → Bool
is_refused (Entered chain) = false
is_refused Running = false
is_refused (Stands index) = false
is_refused _ = true

-- the kind of what a request is answered where it is accepted
abbrev pub accepted_kind : Request → Reply → Bool
accepted_kind (Idle p s t) = is_entered
accepted_kind (Wake p) = is_running
accepted_kind _ = is_stands

-- # Where all stand

-- the states of the containers, in their order
abbrev pub container_states : Plan → State → List ℕ
container_states P S = map (λ n. (container_vote P S n).state) (range_with_len 0 (length P.containers))

-- the places of the performance domains, in their order
abbrev pub perf_places : Plan → List ℕ
perf_places P = filter (λ d. same_kind (domain_at P d).kind Perf) (range_with_len 0 (length P.domains))

-- where the domain at place d stands; one that hardware coordinates, by its first member
abbrev pub standing_of : Plan → State → ℕ → ℕ
standing_of P S d = standing P S d (slice_index_or (domain_at P d).members 0 0)

-- where the performance domains stand, in their order
abbrev pub standings : Plan → State → List ℕ
standings P S = map (standing_of P S) (perf_places P)

-- # The text

-- a name and numbers, each behind a space
abbrev pub labelled : List ℕ → List ℕ → List ℕ
labelled name numbers = spaced (name ∷ map decimal numbers)

abbrev pub summary_lines : Plan → List HistoryEntry → List (List ℕ)
summary_lines P es =
    labelled (codes "processors") (length P.cpus ∷ [])
    ∷ labelled (codes "lines") (length es ∷ [])
    ∷ labelled (codes "entered") (count_by is_entered (replies P es) ∷ [])
    ∷ labelled (codes "running") (count_by is_running (replies P es) ∷ [])
    ∷ labelled (codes "stands") (count_by is_stands (replies P es) ∷ [])
    ∷ labelled (codes "refused") (count_by is_refused (replies P es) ∷ [])
    ∷ labelled (codes "containers") (container_states P (replay P es))
    ∷ labelled (codes "standing") (standings P (replay P es))
    ∷ []

-- The summary of a history: how many processors and lines there are, how many requests were answered in which way, and
-- where the containers and the performance domains stand at the end.
unfoldable pub summary_text : Plan → List HistoryEntry → List ℕ
summary_text P es = text_of (summary_lines P es)

-- The summary of a script: that of the requests of its lines, made in their order.
unfoldable pub script_summary : Plan → List Request → List ℕ
script_summary P asked = summary_text P (map (entry_of 0) asked)

-- # What the counts tell

-- The summary's second line says how many lines there are, and the four behind it numbers that add up to that.
pub record AddsUp (P : Plan) (es : List HistoryEntry) : Type 0 where
  pub first : List ℕ
  pub entered : ℕ
  pub running : ℕ
  pub stands : ℕ
  pub refused : ℕ
  pub rest : List (List ℕ)
  pub says : summary_text P es ≡ text_of (first ∷ labelled (codes "lines") ((entered + running + stands + refused) ∷ [])
      ∷ labelled (codes "entered") (entered ∷ []) ∷ labelled (codes "running") (running ∷ [])
      ∷ labelled (codes "stands") (stands ∷ []) ∷ labelled (codes "refused") (refused ∷ []) ∷ rest)
