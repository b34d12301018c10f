-- What a command did, whichever it is.
use Rattle.std.proofs.Common.{◌≡◌, ◌≢◌, ◌∷◌, ℕ, Bool, true, false, List, Option, inl, inr, ◌⊎◌, arith}
use Rattle.std.proofs.lemmas.Bool.{false≢true}
use Rattle.pw_base.specs.Seen.{FilesSeen}
use Rattle.pw_words.specs.Words.{AskFor, Asked}
use Rattle.pw_words.specs.Words.Asked.{on_blocks, drive, audit, cppc, generate}
use Rattle.pw_words.proofs.Asking.{few_counted}
use Rattle.pw_load.specs.Seen.{Seen, NoneFailed}
use Rattle.pw_load.specs.Ends.{Does}
use Rattle.pw_load.specs.Ends.Stops.{refused, read_fault, without_memory}
use Rattle.pw_load.specs.Ends.Prints.{whole, write_fault, cut}
use Rattle.pw_load.specs.Ends.Does.{stopped, printed}
use Rattle.pw_load.proofs.Completeness.{IsJudged, IsOne, judged_of}
use Rattle.pw_tasks.proofs.One.{never_read_fault, refusal_is_1, task_is_one}
use Rattle.pw_turns.specs.declared.close.Sealed.{Sealed}
use Rattle.pw_runs.proofs.One.{drive_is_one, refusal_is_1_or_7, working_apart, working_refuses_once}
use Rattle.pw_runs.proofs.One.{never_read_fault as never_unread_drive}
use Rattle.pw_runs.proofs.TrialOne.{trying_is_one}
use Rattle.pw_runs.proofs.TrialOne.{does_or_failed as tries_or_failed}
use Rattle.pw_runs.proofs.AuditOne.{refusal_is_1_7_or_8, reviewing_is_one}
use Rattle.pw_runs.proofs.AuditOne.{never_read_fault as never_unread_audit}
use Rattle.pw_runs.proofs.CppcAuditOne.{refusal_is_1_7_or_8 as cppc_refusal_is_1_7_or_8, reviewing_is_one as reviewing_cppc_is_one}
use Rattle.pw_runs.proofs.CppcAuditOne.{never_read_fault as never_unread_cppc_audit}
use Rattle.pw_runs.proofs.CppcEnding.{Failed as LostBy, works_or_failed}
use Rattle.pw_runs.proofs.CppcEnding.{does_or_failed as steers_or_failed}
use Rattle.pw_runs.proofs.CppcOne.{steer_is_one, together_is_judged}
use Rattle.pw_runs.proofs.CppcOne.{never_read_fault as never_unread_cppc, refusal_is_1_or_7 as cppc_refusal}
use Rattle.pw_audit.specs.declared.form.Form.{Form}
use Rattle.pw_cli.specs.Runs.{DrivesBy, IsSettled, IsWithin, Obeys, RegistersHeld, SteersBy, driving_by, form_of, names_in, reviewing_by, steering_by, work_of}
use Rattle.pw_cli.proofs.Driving.{does_or_failed}
use Rattle.pw_cli.proofs.Working.{does_or_failed as worked_or_failed}

-- # One command

-- what words ask for is within its bounds
pub within_of : (words : List (List ℕ)) (asked : Asked) → AskFor words asked → IsWithin asked
within_of words (on_blocks task names) is = tt
within_of words (drive way script names) is = tt
within_of words (audit review script history names) is = tt
within_of words (cppc serial script names) is = tt
within_of words (generate n) is = (few_counted words n is).1

judged_by : (serial step : Bool) (script : List ℕ) (names : List (List ℕ)) (before after : FilesSeen) → before.told ≡ true
    → IsJudged (driving_by serial step script names before after)
judged_by true step script names before after tells = judged_of _ (drive_is_one step script names before after tells)
judged_by false step script names before after tells =
    record { refusals = working_refuses_once step script names before tells; apart = working_apart step script names before tells }

judged_steering : (serial : Bool) (script : List ℕ) (names : List (List ℕ)) (before after : FilesSeen) → before.told ≡ true
    → IsJudged (steering_by serial script names before after)
judged_steering true script names before after tells = judged_of _ (steer_is_one script names before after tells)
judged_steering false script names before after tells = together_is_judged script names before after tells

review_is_one : (cppc : Bool) (form : Form) (step : Bool) (script history : List ℕ) (names : List (List ℕ)) (before after : FilesSeen) → before.told ≡ true
    → IsOne (reviewing_by cppc form step script history names before after)
review_is_one true form step script history names before after tells = reviewing_cppc_is_one form script history names before after tells
review_is_one false form step script history names before after tells = reviewing_is_one form step script history names before after tells

-- a command is refused in one way, and only where it has no text
pub command_is_judged : (asked : Asked) (before after : FilesSeen) → before.told ≡ true → IsJudged (work_of asked before after)
command_is_judged (on_blocks task names) before after tells = judged_of _ (task_is_one task names before after tells)
command_is_judged (drive way script names) before after tells = judged_by way.serial way.step script names before after tells
command_is_judged (audit review script history names) before after tells = judged_of _ (review_is_one review.cppc (form_of review) review.step script history names before after tells)
command_is_judged (cppc serial script names) before after tells = judged_steering serial script names before after tells
command_is_judged (generate n) before after tells = judged_of _ (trying_is_one n)

one_by : (serial step : Bool) (script : List ℕ) (names : List (List ℕ)) (before after : FilesSeen) → before.told ≡ true → serial ≡ true
    → (a b : List ℕ) → (driving_by serial step script names before after).text a → (driving_by serial step script names before after).text b → a ≡ b
one_by true step script names before after tells is = (drive_is_one step script names before after tells).texts
one_by false step script names before after tells is = absurd (false≢true is)

one_steering : (serial : Bool) (script : List ℕ) (names : List (List ℕ)) (before after : FilesSeen) → before.told ≡ true → serial ≡ true
    → (a b : List ℕ) → (steering_by serial script names before after).text a → (steering_by serial script names before after).text b → a ≡ b
one_steering true script names before after tells is = (steer_is_one script names before after tells).texts
one_steering false script names before after tells is = absurd (false≢true is)

-- and it has one text, unless workers make it
pub settled_is_one : (asked : Asked) (before after : FilesSeen) → before.told ≡ true → IsSettled asked
    → (a b : List ℕ) → (work_of asked before after).text a → (work_of asked before after).text b → a ≡ b
settled_is_one (on_blocks task names) before after tells is = (task_is_one task names before after tells).texts
settled_is_one (drive way script names) before after tells is = one_by way.serial way.step script names before after tells is
settled_is_one (audit review script history names) before after tells is = (review_is_one review.cppc (form_of review) review.step script history names before after tells).texts
settled_is_one (cppc serial script names) before after tells is = one_steering serial script names before after tells is
settled_is_one (generate n) before after tells is = (trying_is_one n).texts

unread_by : (serial step : Bool) (script : List ℕ) (names : List (List ℕ)) (before after : FilesSeen) → NoneFailed (script ∷ names) before after
    → (driving_by serial step script names before after).read_fault → ⊥
unread_by true step script names before after none u = never_unread_drive step script names before after none u
unread_by false step script names before after none u = never_unread_drive step script names before after none u

unread_steering : (serial : Bool) (script : List ℕ) (names : List (List ℕ)) (before after : FilesSeen) → NoneFailed (script ∷ names) before after
    → (steering_by serial script names before after).read_fault → ⊥
unread_steering true script names before after none u = never_unread_cppc script names before after none u
unread_steering false script names before after none u = never_unread_cppc script names before after none u

unread_review : (cppc : Bool) (form : Form) (step : Bool) (script history : List ℕ) (names : List (List ℕ)) (before after : FilesSeen)
    → NoneFailed (script ∷ history ∷ names) before after → (reviewing_by cppc form step script history names before after).read_fault → ⊥
unread_review true form step script history names before after none u = never_unread_cppc_audit form script history names before after none u
unread_review false form step script history names before after none u = never_unread_audit form step script history names before after none u

pub none_unread : (asked : Asked) (before after : FilesSeen) → NoneFailed (names_in asked) before after → (work_of asked before after).read_fault → ⊥
none_unread (on_blocks task names) before after none u = never_read_fault names before after none u
none_unread (drive way script names) before after none u = unread_by way.serial way.step script names before after none u
none_unread (audit review script history names) before after none u = unread_review review.cppc (form_of review) review.step script history names before after none u
none_unread (cppc serial script names) before after none u = unread_steering serial script names before after none u
none_unread (generate n) before after none u = u

-- a register of a command failed, and without that there is a text, where the files tell
pub record Lost (asked : Asked) (before after : Seen) (status : ℕ) : Type 0 where
  pub five : status ≡ 5
  pub unheld : RegistersHeld asked before after → ⊥
  pub made : before.files.told ≡ true → (text : List ℕ) × (work_of asked before.files after.files).text text

drove_or_lost : (serial step : Bool) (script : List ℕ) (names : List (List ℕ)) (sealed : Option Sealed) (before after : Seen) (status : ℕ) (text line : List ℕ)
    → DrivesBy serial step script names sealed before after status text line
    → Does (driving_by serial step script names before.files after.files) before.outputs after.outputs status text line
    ⊎ LostBy (driving_by serial step script names before.files after.files) before after status
drove_or_lost true step script names sealed before after status text line o = elim (does_or_failed step script names before after status text line o.0) [
  | inl did ↦ inl did
  | inr f ↦ inr (record { five = f.five; rose = f.rose; made = λ tells. (f.text, f.made) })
]
drove_or_lost false step script names sealed before after status text line o = elim (worked_or_failed step script names sealed before after status text line o) [
  | inl did ↦ inl did
  | inr f ↦ inr (record { five = f.five; rose = f.rose; made = f.made })
]

steered_or_lost : (serial : Bool) (script : List ℕ) (names : List (List ℕ)) (before after : Seen) (status : ℕ) (text line : List ℕ)
    → SteersBy serial script names before after status text line
    → Does (steering_by serial script names before.files after.files) before.outputs after.outputs status text line
    ⊎ LostBy (steering_by serial script names before.files after.files) before after status
steered_or_lost true script names before after status text line o = steers_or_failed script names before after status text line o
steered_or_lost false script names before after status text line o = works_or_failed script names before after status text line o

-- it did its work, or a register failed
pub did_or_lost : (asked : Asked) → IsWithin asked → (sealed : Option Sealed) (before after : Seen) (status : ℕ) (text line : List ℕ) → Obeys asked sealed before after status text line
    → Does (work_of asked before.files after.files) before.outputs after.outputs status text line ⊎ Lost asked before after status
did_or_lost (on_blocks task names) within sealed before after status text line o = inl o.0
did_or_lost (drive way script names) within sealed before after status text line o =
    elim (drove_or_lost way.serial way.step script names sealed before after status text line o) [
      | inl did ↦ inl did
      | inr f ↦ inr (record { five = f.five; unheld = λ held. held f.rose; made = f.made })
    ]
did_or_lost (audit review script history names) within sealed before after status text line o = inl o.0
did_or_lost (cppc serial script names) within sealed before after status text line o =
    elim (steered_or_lost serial script names before after status text line o.0) [
      | inl did ↦ inl did
      | inr f ↦ inr (record { five = f.five; unheld = λ held. held f.rose; made = f.made })
    ]
did_or_lost (generate n) within sealed before after status text line o =
    elim (tries_or_failed n sealed before.outputs after.outputs before.regs after.regs status text line o) [
      | inl did ↦ inl did
      | inr f ↦ inr (record { five = f.five; unheld = λ held. held f.rose; made = λ tells. (f.text, f.made) })
    ]

-- # The status

-- the status of a refusal is 1, 7 or 8
status_by : (serial step : Bool) (script : List ℕ) (names : List (List ℕ)) (before after : FilesSeen) (status : ℕ) (line : List ℕ)
    → (driving_by serial step script names before after).refusal status line → (status ≡ 1) ⊎ (status ≡ 7)
status_by true step script names before after status line refusal = refusal_is_1_or_7 step script names before status line refusal
status_by false step script names before after status line refusal = refusal_is_1_or_7 step script names before status line refusal

status_steering : (serial : Bool) (script : List ℕ) (names : List (List ℕ)) (before after : FilesSeen) (status : ℕ) (line : List ℕ)
    → (steering_by serial script names before after).refusal status line → (status ≡ 1) ⊎ (status ≡ 7)
status_steering true script names before after status line refusal = cppc_refusal script names before status line refusal
status_steering false script names before after status line refusal = cppc_refusal script names before status line refusal

status_review : (cppc : Bool) (form : Form) (step : Bool) (script history : List ℕ) (names : List (List ℕ)) (before after : FilesSeen) (status : ℕ) (line : List ℕ)
    → (reviewing_by cppc form step script history names before after).refusal status line → (status ≡ 1) ⊎ (status ≡ 7) ⊎ (status ≡ 8)
status_review true form step script history names before after status line refusal = cppc_refusal_is_1_7_or_8 form script history names before status line refusal
status_review false form step script history names before after status line refusal = refusal_is_1_7_or_8 form step script history names before status line refusal

pub refusal_status : (asked : Asked) (before after : FilesSeen) (status : ℕ) (line : List ℕ) → (work_of asked before after).refusal status line
    → (status ≡ 1) ⊎ (status ≡ 7) ⊎ (status ≡ 8)
refusal_status (on_blocks task names) before after status line refusal = inl (refusal_is_1 task names before status line refusal)
refusal_status (drive way script names) before after status line refusal = elim (status_by way.serial way.step script names before after status line refusal) [
  | inl one ↦ inl one
  | inr seven ↦ inr (inl seven)
]
refusal_status (audit review script history names) before after status line refusal =
    status_review review.cppc (form_of review) review.step script history names before after status line refusal
refusal_status (cppc serial script names) before after status line refusal = elim (status_steering serial script names before after status line refusal) [
  | inl one ↦ inl one
  | inr seven ↦ inr (inl seven)
]
refusal_status (generate n) before after status line refusal = absurd refusal

neither : (s k : ℕ) → (s ≡ 1) ⊎ (s ≡ 7) ⊎ (s ≡ 8) → (k ≡ 2) ⊎ (k ≡ 5) → s ≡ k → ⊥
neither s k (inl one) (inl two) e = absurd (omega (arith, one, two, e))
neither s k (inl one) (inr five) e = absurd (omega (arith, one, five, e))
neither s k (inr (inl seven)) (inl two) e = absurd (omega (arith, seven, two, e))
neither s k (inr (inl seven)) (inr five) e = absurd (omega (arith, seven, five, e))
neither s k (inr (inr eight)) (inl two) e = absurd (omega (arith, eight, two, e))
neither s k (inr (inr eight)) (inr five) e = absurd (omega (arith, eight, five, e))

apart : (s k : ℕ) → (s ≢ 2) → (s ≢ 5) → (k ≡ 2) ⊎ (k ≡ 5) → s ≡ k → ⊥
apart s k ne nf (inl two) e = let z : s ≡ 2 = omega (arith, two, e) in ne z
apart s k ne nf (inr five) e = let z : s ≡ 5 = omega (arith, five, e) in nf z

-- a command whose registers held ends with neither status 2 nor status 5
pub does_not : (k : ℕ) → (k ≡ 2) ⊎ (k ≡ 5) → (asked : Asked) (before after : Seen) (status : ℕ) (text line : List ℕ)
    → Does (work_of asked before.files after.files) before.outputs after.outputs status text line → status ≡ k → ⊥
does_not k is asked before after status text line (stopped (refused r)) e = neither status k (refusal_status asked before.files after.files status line r) is e
does_not k is asked before after status text line (stopped (read_fault u)) e = apart 3 k (λ z. absurd (omega (arith, z))) (λ z. absurd (omega (arith, z))) is e
does_not k is asked before after status text line (stopped without_memory) e = apart 6 k (λ z. absurd (omega (arith, z))) (λ z. absurd (omega (arith, z))) is e
does_not k is asked before after status text line (printed made whole) e = apart 0 k (λ z. absurd (omega (arith, z))) (λ z. absurd (omega (arith, z))) is e
does_not k is asked before after status text line (printed made (write_fault n rose)) e = apart 4 k (λ z. absurd (omega (arith, z))) (λ z. absurd (omega (arith, z))) is e
does_not k is asked before after status text line (printed made (cut n pieces)) e = apart 6 k (λ z. absurd (omega (arith, z))) (λ z. absurd (omega (arith, z))) is e
