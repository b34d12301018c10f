-- A script of requests for performance: its lines, and why bytes are none.
use Rattle.std.specs.Prelude.{◌≡◌, ◌<◌, ◌≤◌, ◌+◌, ℕ, suc, List, [], ◌∷◌, map, length, sum_by, Option, Some, None, Result, Ok, Err}
use Rattle.std.specs.List.{AllByRecursion}
use Rattle.pw_text.specs.declared.script.ScriptFault.TheVariants as faults
use Rattle.pw_text.specs.declared.script.LineWhy.{LineWhy}
use Rattle.pw_text.specs.declared.script.ScriptFault.{ScriptFault}
use Rattle.pw_text.specs.declared.script.TheConstants.{MOST_LINES, MOST_OPERATIONS}
use Rattle.pw_text.specs.Fields.{lines_of}
use Rattle.pw_text.specs.Scripts.{refused_by}
use Rattle.pw_cppc.specs.declared.plan.CppcPlan.{CppcPlan}
use Rattle.pw_cppc.specs.declared.request.CppcRequest.{CppcRequest}
use Rattle.pw_cppc.specs.Requests.{Has, opening_bound, ops_bound}
use Rattle.pw_cppc_drive.specs.declared.script.CppcLine.{CppcLine}
use Rattle.pw_cppc_drive.specs.Forms.{request_in}

-- what a text asks for as line n, in front of the lines behind it; a bad one asks nothing
abbrev pub asked_in : ℕ → Result (Option CppcRequest) LineWhy → List CppcLine → List CppcLine
asked_in n (Ok (Some q)) lines = record { number = n; request = q } ∷ lines
asked_in n (Ok None) lines = lines
asked_in n (Err why) lines = lines

-- the lines of texts that ask for something, the first text having number n
abbrev pub lines_from : CppcPlan → ℕ → List (List ℕ) → List CppcLine
lines_from P n [] = []
lines_from P n (text ∷ texts) = asked_in n (request_in P text) (lines_from P (suc n) texts)

-- The lines of a script's bytes that ask for something, in their order.
abbrev pub lines_in : CppcPlan → List ℕ → List CppcLine
lines_in P bytes = lines_from P 1 (lines_of bytes)

-- why bytes are no script: too many bytes or lines, or a bad line
abbrev pub refused : CppcPlan → List ℕ → Option ScriptFault
refused P bytes = refused_by (request_in P) bytes

-- how many operations there are at most, with those at the start
abbrev pub operations : CppcPlan → List CppcLine → ℕ
operations P lines = opening_bound P + sum_by (λ l. ops_bound P l.request) lines

abbrev pub requests_of : List CppcLine → List CppcRequest
requests_of lines = map (λ l. l.request) lines

-- Bytes are a script of these lines.
pub record IsScript (P : CppcPlan) (bytes : List ℕ) (lines : List CppcLine) : Type 0 where
  pub good : refused P bytes ≡ None
  pub lines_are : lines ≡ lines_in P bytes
  pub few : operations P lines ≤ MOST_OPERATIONS

-- Bytes are no script: for what they are, or since too many operations may come of their lines.
pub data IsNoScript (P : CppcPlan) (bytes : List ℕ) : ScriptFault → Type 0 where
  bad : {fault : ScriptFault} → refused P bytes ≡ Some fault → IsNoScript P bytes fault
  too_much : refused P bytes ≡ None → MOST_OPERATIONS < operations P (lines_in P bytes)
      → IsNoScript P bytes (faults.TooLong MOST_OPERATIONS)

-- The processor of each line exists, and there are no more lines than a script may have.
pub record Fit (P : CppcPlan) (lines : List CppcLine) : Type 0 where
  pub few : length lines ≤ MOST_LINES
  pub exist : AllByRecursion (λ (l : CppcLine). Has P l.request) lines
