-- Histories that a script's lines allow, in whatever order processors come to their lines.
use Rattle.std.proofs.Common.{◌≡◌, ◌<◌, ◌==◌, ◌∙◌, ℕ, suc, Bool, true, false, cond, List, [], ◌∷◌, length, Option, Some, None, Result, Ok, Err, refl, sym, subst, append-nil}
use Rattle.std.specs.Prelude.{IfOk, IfSome}
use Rattle.std.specs.List.{AllByRecursion}
use Rattle.pw_base.specs.Seen.{FilesSeen}
use Rattle.pw_text.specs.declared.script.LineWhy.{LineWhy}
use Rattle.pw_text.specs.Forms.{name_of}
use Rattle.pw_text.specs.Fields.{fields_of, lines_of}
use Rattle.pw_text.proofs.Leading.{name_within}
use Rattle.pw_cppc.specs.declared.parts.Control.{Control}
use Rattle.pw_cppc.specs.declared.parts.Control.TheVariants as controls
use Rattle.pw_cppc.specs.declared.plan.CppcPlan.{CppcPlan}
use Rattle.pw_cppc.specs.declared.request.CppcRequest.{CppcRequest}
use Rattle.pw_cppc.specs.declared.request.CppcRequest.TheVariants.{Desired, Minimum, Maximum}
use Rattle.pw_cppc.specs.Requests.{Has, cpu_of}
use Rattle.pw_cppc.specs.History.{Faultless, IsSerialRunOf, StatesRequest, entry_of, performance, requests}
use Rattle.pw_cppc.specs.History.{request_of as request_of_entry}
use Rattle.pw_kind.proofs.Joining.{legal-faultless}
use Rattle.pw_cppc.proofs.Joining.{entry_states}
use Rattle.pw_cppc_drive.specs.Forms.{Said, cpu_named, request_by, request_in, request_in_fields, request_of, request_on, request_with, said, segs_of, some_request}
use Rattle.pw_cppc_drive.specs.declared.script.CppcLine.{CppcLine}
use Rattle.pw_cppc_drive.specs.Reading.{asked_in, lines_from, requests_of}
use Rattle.pw_cppc_drive.specs.Lawful.{Lawful}
use Rattle.pw_cppc_drive.proofs.Serial.{serial-lawful}
use Rattle.pw_runs.specs.CppcRuns.{IsTextOn, entries_of}
use Rattle.pw_runs.specs.CppcScripts.{HoldsScript}
use Rattle.pw_runs.specs.CppcWorkers.{IsTextBy}

-- # The processors of lines

-- who is asked of is one of k processors, where something is asked
abbrev Among : ℕ → Result (Option CppcRequest) LineWhy → Type 0
Among k r = IfOk r (λ some. IfSome some (λ q. cpu_of q < k))

by_control : (control : Control) (k p n : ℕ) → p < k → cpu_of (request_by control p n) < k
by_control controls.Desired k p n lt = lt
by_control controls.Minimum k p n lt = lt
by_control controls.Maximum k p n lt = lt

with_number : (control : Control) (k p : ℕ) (n : Option ℕ) → p < k → Among k (some_request (request_with control p n))
with_number control k p (Some n) lt = by_control control k p n lt
with_number control k p None lt = tt

on_said : (k : ℕ) (o : Option ℕ) (s : Said) → IfSome o (λ p. p < k) → Among k (some_request (request_on o s))
on_said k None s h = tt
on_said k (Some p) s h = with_number s.0 k p s.1 h

of_path : (P : CppcPlan) (name : Option (List ℕ)) (s : Option Said) → Among (length P.cpus) (some_request (request_of P name s))
of_path P (Some name) (Some s) =
    on_said (length P.cpus) (cpu_named P name) s
    (subst (λ k. IfSome (cpu_named P name) (λ p. p < k)) P.planned.paths_are (name_within segs_of P.paths name))
of_path P (Some name) None = tt
of_path P None s = tt

in_fields : (P : CppcPlan) (fields : List (List ℕ)) → Among (length P.cpus) (request_in_fields P fields)
in_fields P [] = tt
in_fields P ([] ∷ fields) = tt
in_fields P ((b ∷ path) ∷ fields) = step (b == 35) (some_request (request_of P (name_of (b ∷ path)) (said fields))) (of_path P (name_of (b ∷ path)) (said fields))
  where
    step : (c : Bool) (r : Result (Option CppcRequest) LineWhy) → Among (length P.cpus) r → Among (length P.cpus) (cond c (Ok None) r)
    step true r h = tt
    step false r h = h

lines_exist : (P : CppcPlan) (n : ℕ) (texts : List (List ℕ)) → AllByRecursion (Has P) (requests_of (lines_from P n texts))
lines_exist P n [] = tt
lines_exist P n (text ∷ texts) = step (request_in P text) (lines_from P (suc n) texts) (in_fields P (fields_of text)) (lines_exist P (suc n) texts)
  where
    step : (r : Result (Option CppcRequest) LineWhy) (lines : List CppcLine) → Among (length P.cpus) r → AllByRecursion (Has P) (requests_of lines)
        → AllByRecursion (Has P) (requests_of (asked_in n r lines))
    step (Ok (Some q)) lines has rest = (has, rest)
    step (Ok None) lines has rest = rest
    step (Err why) lines has rest = rest

-- those of a script's lines exist
lines_have : (held : Option (List ℕ)) (P : CppcPlan) (lines : List CppcLine) → HoldsScript held P lines → AllByRecursion (Has P) (requests_of lines)
lines_have held P lines script =
    subst (λ (ls : List CppcLine). AllByRecursion (Has P) (requests_of ls)) (sym script.reads.lines_are) (lines_exist P 1 (lines_of script.bytes))

-- # The lines in their order

entry_has : (P : CppcPlan) (q : CppcRequest) → Has P q → StatesRequest P (entry_of 0 q)
entry_has P (Desired p v) has = entry_states P 0 0 (Desired p v) has
entry_has P (Minimum p v) has = entry_states P 0 0 (Minimum p v) has
entry_has P (Maximum p v) has = entry_states P 0 0 (Maximum p v) has

entries_have : (P : CppcPlan) (asked : List CppcRequest) → AllByRecursion (Has P) asked → AllByRecursion (StatesRequest P) (entries_of asked)
entries_have P [] has = tt
entries_have P (q ∷ qs) has = (entry_has P q has.0, entries_have P qs has.1)

entry_faultless : (q : CppcRequest) → (entry_of 0 q).fault ≡ 0
entry_faultless (Desired p v) = refl
entry_faultless (Minimum p v) = refl
entry_faultless (Maximum p v) = refl

entries_faultless : (asked : List CppcRequest) → Faultless (entries_of asked)
entries_faultless [] = tt
entries_faultless (q ∷ qs) = (entry_faultless q, entries_faultless qs)

asked_back : (q : CppcRequest) → request_of_entry (entry_of 0 q) ≡ q
asked_back (Desired p v) = refl
asked_back (Minimum p v) = refl
asked_back (Maximum p v) = refl

all_back : (asked : List CppcRequest) → requests (entries_of asked) ≡ asked
all_back [] = refl
all_back (q ∷ qs) = let first = asked_back q in let rest = all_back qs in cc

-- the history of requests that the plan has, in their order, is one that they allow
in_order_lawful : (P : CppcPlan) (asked : List CppcRequest) → AllByRecursion (Has P) asked → Lawful P asked None (entries_of asked)
in_order_lawful P asked has =
    let none = entries_faultless asked in
    let back = all_back asked in
    let serial : IsSerialRunOf P asked (entries_of asked) = record {
      legal = legal-faultless performance P (entries_of asked) (entries_have P asked has) none;
      rest = [];
      begins = sym (append-nil (requests (entries_of asked)) ∙ back);
      whole = λ faultless. back;
    } in
    serial-lawful P asked None (entries_of asked) serial

-- The text of a serial run is one of those of a run by workers.
pub serial_text_is_one : (files : FilesSeen) (script : List ℕ) (names : List (List ℕ)) (text : List ℕ) → files.told ≡ true
    → IsTextOn files script names text → IsTextBy files script names text
serial_text_is_one files script names text tells is =
    let asked = requests_of is.lines in
    record {
      plan = is.plan;
      lines = is.lines;
      given = is.given;
      entries = entries_of asked;
      lawful = in_order_lawful is.plan asked (lines_have (files.holds script) is.plan is.lines (is.given.scripted tells));
      faultless = entries_faultless asked;
      says = is.says;
    }
