-- A serial run has one text of what files hold, or is refused in one way; one by workers is refused just so.
use Rattle.std.proofs.Common.{◌≡◌, ℕ, false, true, List, ◌∷◌, map, Option, Some, None, inl, inr, ◌⊎◌, refl, sym, ap, subst, ◌∙◌, arith}
use Rattle.pw_base.specs.Seen.{FilesSeen}
use Rattle.aml_block.specs.declared.block.Block.{Block}
use Rattle.acpi_space.specs.Namespace.{entries_in}
use Rattle.aml_block.proofs.OneReading.{same_blocks}
use Rattle.pw_text.specs.declared.script.ScriptFault.{ScriptFault}
use Rattle.pw_plan.specs.declared.parts.CpuParts.{CpuParts}
use Rattle.pw_plan.specs.declared.plan.Plan.{Plan}
use Rattle.pw_load.specs.Seen.{NoneFailed}
use Rattle.pw_load.proofs.Completeness.{IsJudged, IsOne}
use Rattle.pw_load.specs.Steps.{AreHeldBy, IsNoPlanOf, IsUnspelled}
use Rattle.pw_runs.specs.Runs.{IsRefusalOn as DriveRefuses}
use Rattle.pw_runs.specs.Runs.IsRefusalOn.{unspelled as blocks_unspelled, unplanned as blocks_unplanned}
use Rattle.pw_runs.specs.Scripts.{script_line}
use Rattle.pw_runs.proofs.One.{drive_is_one, never_read_fault as drive_never_unread, one_planned, planned_not_unspelled, planned_not_without, refusal_is_1_or_7 as drive_status}
use Rattle.pw_cppc.specs.declared.plan.CppcPlan.{CppcPlan}
use Rattle.pw_cppc.specs.Machine.{AreCppcParts}
use Rattle.pw_cppc_drive.specs.declared.script.CppcLine.{CppcLine}
use Rattle.pw_cppc_drive.specs.HistoryText.{history_text}
use Rattle.pw_cppc_drive.specs.Reading.{IsNoScript, IsScript, operations, requests_of}
use Rattle.pw_cppc_drive.specs.Reading.IsNoScript.{bad, too_much}
use Rattle.pw_runs.specs.CppcScripts.{HoldsNoScript, HoldsScript}
use Rattle.pw_runs.specs.CppcRuns.{AreGiven, AreSteered, IsRefusalOn, IsTextOn, IsUnscripted, entries_of, steering}
use Rattle.pw_runs.specs.CppcRuns.IsRefusalOn.{unspelled, unplanned, unscripted}
use Rattle.pw_runs.specs.CppcWorkers.{IsTextBy, steering_together}
use Rattle.pw_runs.proofs.CppcOnePlan.{one_plan}

-- # Scripts

module _ (P : CppcPlan) (bytes : List ℕ) where
  one_lines : (ls ms : List CppcLine) → IsScript P bytes ls → IsScript P bytes ms → ls ≡ ms
  one_lines ls ms p q = p.lines_are ∙ sym q.lines_are

  one_fault : (f g : ScriptFault) → IsNoScript P bytes f → IsNoScript P bytes g → f ≡ g
  one_fault f g (bad d) (bad e) = let same : Some f ≡ Some g = sym d ∙ e in cc
  one_fault f g (bad d) (too_much e more) = absurd (cc)
  one_fault f g (too_much d more) (bad e) = absurd (cc)
  one_fault f g (too_much d more) (too_much e more_too) = refl

  script_not_fault : (ls : List CppcLine) (f : ScriptFault) → IsScript P bytes ls → IsNoScript P bytes f → ⊥
  script_not_fault ls f s (bad e) = let good = s.good in absurd (cc)
  script_not_fault ls f s (too_much e more) =
      let few = s.few in
      let same = ap (operations P) s.lines_are in
      omega (arith, few, more, same)

held_same : {held : Option (List ℕ)} {a b : List ℕ} → held ≡ Some a → held ≡ Some b → a ≡ b
held_same d e = cc

module _ (held : Option (List ℕ)) (P : CppcPlan) where
  one_held : (ls ms : List CppcLine) → HoldsScript held P ls → HoldsScript held P ms → ls ≡ ms
  one_held ls ms p q = one_lines P q.bytes ls ms (subst (λ (b : List ℕ). IsScript P b ls) (held_same p.is q.is) p.reads) q.reads

  one_held_fault : (f g : ScriptFault) → HoldsNoScript held P f → HoldsNoScript held P g → f ≡ g
  one_held_fault f g p q = one_fault P q.bytes f g (subst (λ (b : List ℕ). IsNoScript P b f) (held_same p.is q.is) p.fails) q.fails

  held_not_fault : (ls : List CppcLine) (f : ScriptFault) → HoldsScript held P ls → HoldsNoScript held P f → ⊥
  held_not_fault ls f p q = script_not_fault P q.bytes ls f (subst (λ (b : List ℕ). IsScript P b ls) (held_same p.is q.is) p.reads) q.fails

-- # Files that tell

module _ (script : List ℕ) (names : List (List ℕ)) (files : FilesSeen) (tells : files.told ≡ true) where
  -- the blocks make one plan
  one_steered : (P Q : CppcPlan) → AreSteered files names P → AreSteered files names Q → P ≡ Q
  one_steered P Q p q =
      let blocks = same_blocks files.holds 0 names p.planned.blocks q.planned.blocks (p.planned.held tells) (q.planned.held tells) in
      let machines = one_planned false script names files tells p.machine q.machine p.planned q.planned in
      let paths : P.paths ≡ Q.paths = p.paths ∙ ap (λ (M : Plan). map (λ (c : CpuParts). c.path) M.cpus) machines ∙ sym q.paths in
      let read = subst (λ (l : List Block). AreCppcParts (entries_in l) p.machine P.cpus) blocks p.parts in
      let parts = subst (λ (M : Plan). AreCppcParts (entries_in q.planned.blocks) M P.cpus) machines read in
      one_plan (entries_in q.planned.blocks) q.machine P Q q.planned.distinct paths parts q.parts

  -- and the script has one list of lines
  pub one_given : (P Q : CppcPlan) (ls ms : List CppcLine) → AreGiven files script names P ls → AreGiven files script names Q ms → (P ≡ Q) × (ls ≡ ms)
  one_given P Q ls ms p q =
      let same = one_steered P Q p.steered q.steered in
      let held = subst (λ (R : CppcPlan). HoldsScript (files.holds script) R ls) same (p.scripted tells) in
      (same, one_held (files.holds script) Q ls ms held (q.scripted tells))

  one_text : (a b : List ℕ) → IsTextOn files script names a → IsTextOn files script names b → a ≡ b
  one_text a b p q =
      let same = one_given p.plan q.plan p.lines q.lines p.given q.given in
      p.says ∙ ap (λ (P : CppcPlan). history_text P None (entries_of (requests_of p.lines))) same.0
      ∙ ap (λ (ls : List CppcLine). history_text q.plan None (entries_of (requests_of ls))) same.1 ∙ sym q.says

  steered_not_unspelled : (P : CppcPlan) → AreSteered files names P → {s : ℕ} {a : List ℕ} → IsUnspelled files names s a → ⊥
  steered_not_unspelled P p u = planned_not_unspelled false script names files tells p.machine p.planned u

  steered_not_without : (P : CppcPlan) → AreSteered files names P → (blocks : List Block) → AreHeldBy files names blocks → {s : ℕ} {a : List ℕ}
      → IsNoPlanOf blocks s a → ⊥
  steered_not_without P p blocks held without = planned_not_without false script names files tells p.machine p.planned blocks held without

  one_unscripted : (s t : ℕ) (a b : List ℕ) → IsUnscripted files script names s a → IsUnscripted files script names t b → (s ≡ t) × (a ≡ b)
  one_unscripted s t a b p q =
      let same = one_steered p.plan q.plan p.steered q.steered in
      let held = subst (λ (R : CppcPlan). HoldsNoScript (files.holds script) R p.fault) same (p.held tells) in
      let faults = one_held_fault (files.holds script) q.plan p.fault q.fault held (q.held tells) in
      (p.is ∙ sym q.is, p.says ∙ ap script_line faults ∙ sym q.says)

  -- blocks are refused in one way, as wherever a plan is made of them
  blocks_refused : (s t : ℕ) (a b : List ℕ) → DriveRefuses files false script names s a → DriveRefuses files false script names t b → (s ≡ t) × (a ≡ b)
  blocks_refused s t a b p q = (drive_is_one false script names files files tells).refusals s t a b p q

  one_refusal : (s t : ℕ) (a b : List ℕ) → IsRefusalOn files script names s a → IsRefusalOn files script names t b → (s ≡ t) × (a ≡ b)
  one_refusal s t a b (unspelled p) (unspelled q) = blocks_refused s t a b (blocks_unspelled p) (blocks_unspelled q)
  one_refusal s t a b (unspelled p) (unplanned blocks held q) = blocks_refused s t a b (blocks_unspelled p) (blocks_unplanned blocks held q)
  one_refusal s t a b (unspelled p) (unscripted q) = absurd (steered_not_unspelled q.plan q.steered p)
  one_refusal s t a b (unplanned blocks held p) (unspelled q) = blocks_refused s t a b (blocks_unplanned blocks held p) (blocks_unspelled q)
  one_refusal s t a b (unplanned us held p) (unplanned vs holding q) = blocks_refused s t a b (blocks_unplanned us held p) (blocks_unplanned vs holding q)
  one_refusal s t a b (unplanned blocks held p) (unscripted q) = absurd (steered_not_without q.plan q.steered blocks held p)
  one_refusal s t a b (unscripted p) (unspelled q) = absurd (steered_not_unspelled p.plan p.steered q)
  one_refusal s t a b (unscripted p) (unplanned blocks held q) = absurd (steered_not_without p.plan p.steered blocks held q)
  one_refusal s t a b (unscripted p) (unscripted q) = one_unscripted s t a b p q

  -- what is given isn't refused
  given_apart : (P : CppcPlan) (ls : List CppcLine) (status : ℕ) (line : List ℕ) → AreGiven files script names P ls → IsRefusalOn files script names status line → ⊥
  given_apart P ls status line given (unspelled q) = steered_not_unspelled P given.steered q
  given_apart P ls status line given (unplanned blocks held q) = steered_not_without P given.steered blocks held q
  given_apart P ls status line given (unscripted q) =
      let same = one_steered P q.plan given.steered q.steered in
      let held = subst (λ (R : CppcPlan). HoldsScript (files.holds script) R ls) same (given.scripted tells) in
      held_not_fault (files.holds script) q.plan ls q.fault held (q.held tells)

  apart : (status : ℕ) (text line : List ℕ) → IsTextOn files script names text → IsRefusalOn files script names status line → ⊥
  apart status text line made r = given_apart made.plan made.lines status line made.given r

  apart_by : (status : ℕ) (text line : List ℕ) → IsTextBy files script names text → IsRefusalOn files script names status line → ⊥
  apart_by status text line made r = given_apart made.plan made.lines status line made.given r

-- A serial run of what files hold has one text, or is refused in one way, and never both.
pub steer_is_one : (script : List ℕ) (names : List (List ℕ)) (before after : FilesSeen) → before.told ≡ true → IsOne (steering script names before after)
steer_is_one script names before after tells = record {
  texts = one_text script names before tells;
  refusals = one_refusal script names before tells;
  apart = apart script names before tells;
}

-- One by workers is refused in one way, and never where it has a text.
pub together_is_judged : (script : List ℕ) (names : List (List ℕ)) (before after : FilesSeen) → before.told ≡ true
    → IsJudged (steering_together script names before after)
together_is_judged script names before after tells =
    record { refusals = one_refusal script names before tells; apart = apart_by script names before tells }

-- What is given isn't refused.
pub given_not_refused : (script : List ℕ) (names : List (List ℕ)) (files : FilesSeen) → files.told ≡ true → (P : CppcPlan) (lines : List CppcLine)
    → AreGiven files script names P lines → (status : ℕ) (text : List ℕ) → IsRefusalOn files script names status text → ⊥
given_not_refused script names files tells P lines given status text r = given_apart script names files tells P lines status text given r

-- # Files of which no read failed

-- No file is unread where no read of the script or of a block failed, whoever makes the lines.
pub never_read_fault : (script : List ℕ) (names : List (List ℕ)) (before after : FilesSeen) → NoneFailed (script ∷ names) before after
    → (steering script names before after).read_fault → ⊥
never_read_fault script names before after none (inl u) = drive_never_unread false script names before after none (inl u)
never_read_fault script names before after none (inr u) = none script (0, omega arith, refl) u.rose

-- # The status of what is refused

-- A refusal has status 1 where the blocks are refused, and 7 where the script is.
pub refusal_is_1_or_7 : (script : List ℕ) (names : List (List ℕ)) (files : FilesSeen) (status : ℕ) (line : List ℕ)
    → IsRefusalOn files script names status line → (status ≡ 1) ⊎ (status ≡ 7)
refusal_is_1_or_7 script names files status line (unspelled p) = drive_status false script names files status line (blocks_unspelled p)
refusal_is_1_or_7 script names files status line (unplanned blocks held p) = drive_status false script names files status line (blocks_unplanned blocks held p)
refusal_is_1_or_7 script names files status line (unscripted p) = inr p.is
