-- What a line asks for, or why it is bad.
use Rattle.std.specs.Prelude.{◌==◌, ◌&&◌, ℕ, List, [], ◌∷◌, codes, bytes_eq, Option, Some, None, Result, Ok, Err, ok_or, option_map, if◌then◌else◌}
use Rattle.pw_text.specs.declared.script.LineWhy.{LineWhy}
use Rattle.pw_text.specs.declared.script.LineWhy.TheVariants.{Grammar, Processor, Number}
use Rattle.pw_text.specs.Fields.{fields_of}
use Rattle.pw_text.specs.Forms.{is_number, name_of, named_from, number_of}
use Rattle.pw_plan.specs.declared.parts.CpuParts.{CpuParts}
use Rattle.pw_plan.specs.declared.plan.Plan.{Plan}
use Rattle.pw_plan.specs.declared.request.Request.TheVariants as requests
use Rattle.pw_model.specs.declared.state.ScaleKind.TheVariants as scales
use Rattle.pw_model.specs.States.{any_latency}
use Rattle.pw_script.specs.declared.wish.Verb.{Verb}
use Rattle.pw_script.specs.declared.wish.Verb.TheVariants as verbs
use Rattle.pw_script.specs.declared.wish.Wish.{Wish}
use Rattle.pw_script.specs.declared.wish.Wish.TheVariants.{Plain, Within, Notice}

-- # Forms

abbrev pub verb_alone : List ℕ → Option Verb
verb_alone word = if bytes_eq word (codes "wake") then Some verbs.Wake else None

abbrev pub verb_of_one : List ℕ → Option Verb
verb_of_one word =
    if bytes_eq word (codes "idle") then Some verbs.Idle else
    if bytes_eq word (codes "perf") then Some verbs.Perf else
    if bytes_eq word (codes "throttle") then Some verbs.Throttle else
    if bytes_eq word (codes "plimit") then Some verbs.PerfLimit else
    if bytes_eq word (codes "tlimit") then Some verbs.ThrottleLimit else
    None

abbrev pub verb_of_two : List ℕ → Option Verb
verb_of_two word =
    if bytes_eq word (codes "idle") then Some verbs.IdleBearing else
    if bytes_eq word (codes "within") then Some verbs.Within else
    if bytes_eq word (codes "notify") then Some verbs.Notify else
    None

-- what the fields behind the path say: a word's verb, and its numbers, 0 for one that there isn't
abbrev pub Said : Type 0
Said = Verb × Option ℕ × Option ℕ

abbrev pub said : List (List ℕ) → Option Said
said (word ∷ []) = option_map (λ verb. (verb, Some 0, Some 0)) (verb_alone word)
said (word ∷ n ∷ []) = if is_number n then option_map (λ verb. (verb, number_of n, Some 0)) (verb_of_one word) else None
said (word ∷ n ∷ m ∷ []) = if is_number n && is_number m then option_map
    (λ verb. (verb, number_of n, number_of m)) (verb_of_two word) else None
said _ = None

-- # What a form asks for

-- the segments of a processor's path
abbrev pub segs_of : CpuParts → List (List ℕ)
segs_of c = c.path.segs

-- the first processor with these segments; the processors are numbered from n on
abbrev pub cpu_from : ℕ → List CpuParts → List ℕ → Option ℕ
cpu_from n cs name = named_from segs_of n cs name

abbrev pub cpu_named : Plan → List ℕ → Option ℕ
cpu_named P name = cpu_from 0 P.cpus name

-- notifications 0x80 and 0x82 (ACPI 6.5, 8.4.5.3 and 8.4.4.3)
abbrev pub wish_by : Verb → ℕ → ℕ → ℕ → Option Wish
wish_by verbs.Wake p n m = Some (Plain (requests.Wake p))
wish_by verbs.Idle p n m = Some (Plain (requests.Idle p n any_latency))
wish_by verbs.IdleBearing p n m = Some (Plain (requests.Idle p n m))
wish_by verbs.Perf p n m = Some (Plain (requests.Perf p n))
wish_by verbs.Throttle p n m = Some (Plain (requests.Throttle p n))
wish_by verbs.PerfLimit p n m = Some (Plain (requests.PerfLimit p n))
wish_by verbs.ThrottleLimit p n m = Some (Plain (requests.ThrottleLimit p n))
wish_by verbs.Within p n m = Some (Within p n m)
wish_by verbs.Notify p n m =
    if n == 128 then Some (Notice p scales.Perf m) else
    if n == 130 then Some (Notice p scales.Throttle m) else
    None

abbrev pub wish_with : Verb → ℕ → Option ℕ → Option ℕ → Result Wish LineWhy
wish_with verb p (Some n) (Some m) = ok_or (wish_by verb p n m) Number
wish_with verb p (Some n) None = Err Number
wish_with verb p None m = Err Number

abbrev pub wish_on : Option ℕ → Said → Result Wish LineWhy
wish_on None s = Err Processor
wish_on (Some p) s = wish_with s.0 p s.1 s.2

-- of a path's segments and what the fields behind it say
abbrev pub wish_of : Plan → Option (List ℕ) → Option Said → Result Wish LineWhy
wish_of P (Some name) (Some s) = wish_on (cpu_named P name) s
wish_of P (Some name) None = Err Grammar
wish_of P None s = Err Grammar

-- # Lines

abbrev pub some_wish : Result Wish LineWhy → Result (Option Wish) LineWhy
some_wish (Ok wish) = Ok (Some wish)
some_wish (Err why) = Err why

-- a line without a field asks nothing, nor does one that begins with `#`
abbrev pub wish_in_fields : Plan → List (List ℕ) → Result (Option Wish) LineWhy
wish_in_fields P [] = Ok None
wish_in_fields P ([] ∷ fields) = Ok None
wish_in_fields P ((b ∷ path) ∷ fields) = if b == 35 then Ok None else some_wish (wish_of P (name_of (b ∷ path)) (said fields))

-- What a line asks for, if anything, or why it is bad.
abbrev pub wish_in : Plan → List ℕ → Result (Option Wish) LineWhy
wish_in P line = wish_in_fields P (fields_of line)
