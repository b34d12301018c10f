-- How many operations there are at most in a history of some lines: no more than in the lines.
use Rattle.std.proofs.Common.{◌≤◌, List, arith}
use Rattle.pw_plan.specs.declared.plan.Plan.{Plan}
use Rattle.pw_plan.specs.Requests.{ops_bound}
use Rattle.pw_model.specs.declared.entry.HistoryEntry.{HistoryEntry}
use Rattle.pw_model.specs.History.{request_of}
use Rattle.pw_rule.specs.Promises.{bound_of}
use Rattle.pw_script.specs.declared.script.Line.{Line}
use Rattle.pw_script.specs.Reading.{operations, requests_of}
use Rattle.pw_books.specs.Asked.{IsRunOf}
use Rattle.pw_books.proofs.Sums.{asks_no_more, sum-map_by}
use Rattle.pw_drive.specs.inner.Telling.{telling}

-- # A history of some lines

pub run-bound : (P : Plan) (lines : List Line) (es : List HistoryEntry) → IsRunOf telling (requests_of lines) es → bound_of P es ≤ operations P lines
run-bound P lines es run =
    let fewer = asks_no_more telling (ops_bound P) (requests_of lines) es run in
    let left = sum-map_by (ops_bound P) request_of es in
    let right = sum-map_by (ops_bound P) (λ (l : Line). l.request) lines in
    omega (arith, fewer, left, right)
