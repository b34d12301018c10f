-- The line of a request up to what came of it.
use Rattle.std.specs.Prelude.{ℕ, List}
use Rattle.pw_text.specs.Behind.{asked_head}
use Rattle.pw_plan.specs.declared.plan.Plan.{Plan}
use Rattle.pw_plan.specs.declared.request.Request.{Request}
use Rattle.pw_plan.specs.Requests.{cpu_of}
use Rattle.pw_script.specs.HistoryText.{path_of, request_words}

-- of request n
abbrev pub head_text : Plan → ℕ → Request → List ℕ
head_text P n q = asked_head n (path_of P (cpu_of q)) (request_words q)
