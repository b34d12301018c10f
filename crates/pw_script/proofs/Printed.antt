-- The text of an entry in its parts.
use Rattle.std.proofs.Common.{◌≡◌, ℕ, List, [], ◌∷◌, ◌++◌, map}
use Rattle.std.specs.List.{flat_map}
use Rattle.acpi_values.specs.declared.operation.Op.{Op}
use Rattle.pw_plan.specs.declared.plan.Plan.{Plan}
use Rattle.pw_plan.specs.declared.request.Request.{Request}
use Rattle.pw_plan.specs.Requests.{cpu_of}
use Rattle.pw_text.specs.Lines.{text_of}
use Rattle.pw_text.specs.Behind.{behind}
use Rattle.pw_text.proofs.Printed.{asked_text}
use Rattle.pw_script.specs.HistoryText.{op_line, path_of, request_line, request_words}
use Rattle.pw_script.specs.inner.Behind.{head_text}

pub entry_text : (P : Plan) (n : ℕ) (q : Request) (out : List (List ℕ)) (ops : List Op)
    → head_text P n q ++ (behind out ++ (10 ∷ flat_map (λ o. op_line P o ++ (10 ∷ [])) ops)) ≡ text_of (request_line P n (cpu_of q) q out ∷ map (op_line P) ops)
entry_text P n q out ops = asked_text (op_line P) n (path_of P (cpu_of q)) (request_words q) out ops
