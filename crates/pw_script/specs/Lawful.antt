-- Which histories a script allows.
use Rattle.std.specs.Prelude.{◌≡◌, ◌<◌, ◌++◌, ◌∷◌, ℕ, List, [], length, Option, Some, None}
use Rattle.pw_plan.specs.declared.domain.DomainKind.{DomainKind}
use Rattle.pw_plan.specs.declared.plan.Plan.{Plan}
use Rattle.pw_plan.specs.declared.request.Request.{Request}
use Rattle.pw_model.specs.declared.entry.HistoryEntry.{HistoryEntry}
use Rattle.pw_model.specs.History.{Faultless, Legal, replay, request_of}
use Rattle.pw_model.specs.States.{limit_of}
use Rattle.pw_model.specs.Operations.{opening_ops}
use Rattle.pw_notice.specs.Limits.{own, own_limit, requests}
use Rattle.pw_history.specs.Asked as any
use Rattle.pw_script.specs.HistoryText.{power_words}

-- One list begins another.
abbrev pub Begins : {X : Type 0} → List X → List X → Type 0
Begins = any.Begins

-- A history of the requests of a script's lines: each processor's requests are a beginning of its lines', all of them
-- where no entry is a fault.
abbrev pub IsRunOf : Plan → List Request → List HistoryEntry → Type 0
IsRunOf = any.IsRunOf power_words

-- One in the order of the lines: its requests are a beginning of theirs, all of them where no entry is a fault.
pub record IsSerialRunOf (P : Plan) (asked : List Request) (es : List HistoryEntry) : Type 0 where
  pub legal : Legal P es
  pub begins : Begins (requests es) asked
  pub whole : Faultless es → requests es ≡ asked

-- What may come of a script's lines: the opening was ended by a fault after k of its operations, and nothing was asked; or
-- the plan was opened, and there is a history of the lines.
abbrev pub Lawful : Plan → List Request → Option ℕ → List HistoryEntry → Type 0
Lawful = any.Lawful power_words

-- The same in the order of the lines.
abbrev pub LawfulSerial : Plan → List Request → Option ℕ → List HistoryEntry → Type 0
LawfulSerial P asked (Some k) es = (k < length (opening_ops P)) × (es ≡ [])
LawfulSerial P asked None es = IsSerialRunOf P asked es

-- The request of an entry behind these is that of a line: the entry's processor made before it just what its lines before
-- that one ask, and its limits are its own ones behind those lines.
pub record HasLine (P : Plan) (asked : List Request) (es : List HistoryEntry) (e : HistoryEntry) : Type 0 where
  pub before : List Request
  pub later : List Request
  pub is : asked ≡ before ++ request_of e ∷ later
  pub made : own e.cpu (requests es) ≡ own e.cpu before
  pub limits : (kind : DomainKind) → limit_of kind (replay P es) e.cpu ≡ own_limit P kind e.cpu before
