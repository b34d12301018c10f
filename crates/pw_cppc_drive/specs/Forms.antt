-- What a line of a script asks of a processor's performance, or why it is bad.
use Rattle.std.specs.Prelude.{◌==◌, ℕ, List, [], ◌∷◌, codes, bytes_eq, Option, Some, None, Result, Ok, Err, if◌then◌else◌}
use Rattle.std.specs.Option.{option_map}
use Rattle.aml_data.specs.declared.path.FullPath.{FullPath}
use Rattle.pw_text.specs.declared.script.LineWhy.{LineWhy}
use Rattle.pw_text.specs.declared.script.LineWhy.TheVariants.{Grammar, Processor, Number}
use Rattle.pw_text.specs.Fields.{fields_of}
use Rattle.pw_text.specs.Forms.{is_number, name_of, named_from, number_of}
use Rattle.pw_cppc.specs.declared.parts.Control.{Control}
use Rattle.pw_cppc.specs.declared.parts.Control.TheVariants as controls
use Rattle.pw_cppc.specs.declared.plan.CppcPlan.{CppcPlan}
use Rattle.pw_cppc.specs.declared.request.CppcRequest.{CppcRequest}
use Rattle.pw_cppc.specs.declared.request.CppcRequest.TheVariants.{Desired, Minimum, Maximum}

-- # Forms

abbrev pub control_named : List ℕ → Option Control
control_named word =
    if bytes_eq word (codes "desired") then Some controls.Desired else
    if bytes_eq word (codes "minimum") then Some controls.Minimum else
    if bytes_eq word (codes "maximum") then Some controls.Maximum else
    None

-- what the fields behind the path say: a word and a number, none for one that 32 bits don't hold
abbrev pub Said : Type 0
Said = Control × Option ℕ

abbrev pub said : List (List ℕ) → Option Said
said (word ∷ n ∷ []) = if is_number n then option_map (λ control. (control, number_of n)) (control_named word) else None
said _ = None

-- # What a form asks for

abbrev pub segs_of : FullPath → List (List ℕ)
segs_of path = path.segs

-- the first processor with these segments
abbrev pub cpu_named : CppcPlan → List ℕ → Option ℕ
cpu_named P name = named_from segs_of 0 P.paths name

abbrev pub request_by : Control → ℕ → ℕ → CppcRequest
request_by controls.Desired p n = Desired p n
request_by controls.Minimum p n = Minimum p n
request_by controls.Maximum p n = Maximum p n

abbrev pub request_with : Control → ℕ → Option ℕ → Result CppcRequest LineWhy
request_with control p (Some n) = Ok (request_by control p n)
request_with control p None = Err Number

abbrev pub request_on : Option ℕ → Said → Result CppcRequest LineWhy
request_on None s = Err Processor
request_on (Some p) s = request_with s.0 p s.1

-- of a path's segments and what the fields behind it say
abbrev pub request_of : CppcPlan → Option (List ℕ) → Option Said → Result CppcRequest LineWhy
request_of P (Some name) (Some s) = request_on (cpu_named P name) s
request_of P (Some name) None = Err Grammar
request_of P None s = Err Grammar

-- # Lines

abbrev pub some_request : Result CppcRequest LineWhy → Result (Option CppcRequest) LineWhy
some_request (Ok q) = Ok (Some q)
some_request (Err why) = Err why

-- a line without a field asks nothing, nor does one that begins with `#`
abbrev pub request_in_fields : CppcPlan → List (List ℕ) → Result (Option CppcRequest) LineWhy
request_in_fields P [] = Ok None
request_in_fields P ([] ∷ fields) = Ok None
request_in_fields P ((b ∷ path) ∷ fields) = if b == 35 then Ok None else some_request (request_of P (name_of (b ∷ path)) (said fields))

-- What a line asks for, if anything, or why it is bad.
abbrev pub request_in : CppcPlan → List ℕ → Result (Option CppcRequest) LineWhy
request_in P line = request_in_fields P (fields_of line)
