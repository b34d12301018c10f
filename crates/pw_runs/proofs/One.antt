-- A serial drive has one text of what files hold, or is refused in one way; one by workers is refused just so.
use Rattle.std.proofs.Common.{◌≡◌, ℕ, ◌-◌, Bool, true, List, [], ◌∷◌, length, Option, Some, None, inl, inr, ◌⊎◌, refl, sym, ap, subst, ◌∙◌, arith}
use Rattle.std.specs.Prelude.{Contains, suc}
use Rattle.std.proofs.lemmas.List.Elements.{Contains-get_or}
use Rattle.pw_base.specs.Seen.{FilesSeen}
use Rattle.aml_block.specs.declared.block.Block.{Block}
use Rattle.acpi_space.specs.Distinct.{IsDistinct}
use Rattle.acpi_space.specs.Namespace.{entries_in, places_of}
use Rattle.pw_text.specs.declared.script.ScriptFault.{ScriptFault}
use Rattle.pw_text.specs.Fields.{lines_of}
use Rattle.acpi_build.proofs.Planned.{same_plan}
use Rattle.acpi_build.specs.Planning.{IsPlanFrom}
use Rattle.acpi_build.specs.declared.note.Note.{Note}
use Rattle.pw_plan.specs.declared.plan.Plan.{Plan}
use Rattle.aml_block.specs.Held.{name_at}
use Rattle.aml_block.proofs.OneReading.{same_blocks, same_first_fault, blocks_not_fault}
use Rattle.pw_governor.specs.Choices.{choice}
use Rattle.pw_notice.specs.Limits.{answer_by}
use Rattle.pw_script.specs.declared.script.Line.{Line as line}
use Rattle.pw_script.specs.HistoryText.{history_text}
use Rattle.pw_script.specs.Reading.{operations, requests_of}
use Rattle.pw_script.proofs.Existing.{lines_told}
use Rattle.pw_load.specs.Seen.{NoneFailed}
use Rattle.pw_load.proofs.Completeness.{IsOne}
use Rattle.pw_load.specs.Lines.{blocks_line}
use Rattle.pw_load.specs.Steps.{AreHeldBy, IsNoPlanOf, IsUnspelled}
use Rattle.pw_runs.specs.Scripts.{AreLinesIn, HoldsNoScript, HoldsScript, IsNoScript, IsScript, limit_by, script_line}
use Rattle.pw_runs.specs.Scripts.IsNoScript.{bad, too_much}
use Rattle.pw_runs.specs.Runs.{AreGiven, ArePlanned, IsRefusalOn, IsTextOn, IsUnscripted, driving, entries_of}
use Rattle.pw_runs.specs.Workers.{IsTextBy}
use Rattle.pw_runs.specs.Runs.IsRefusalOn.{unspelled, unplanned, unscripted}
use Rattle.pw_runs.proofs.OnePlan.{same_plans}
use Rattle.pw_load.proofs.One.{one_twice, one_unplanned, twice_not_distinct}

-- # Blocks that make no plan

one_without : (blocks : List Block) (s t : ℕ) (a b : List ℕ) → IsNoPlanOf blocks s a → IsNoPlanOf blocks t b → (s ≡ t) × (a ≡ b)
one_without blocks s t a b (inl p) (inl q) = one_twice (entries_in blocks) s t a b p q
one_without blocks s t a b (inl p) (inr q) = absurd (twice_not_distinct blocks s a q.0 p)
one_without blocks s t a b (inr p) (inl q) = absurd (twice_not_distinct blocks t b p.0 q)
one_without blocks s t a b (inr p) (inr q) = one_unplanned (entries_in blocks) s t a b p.1 q.1

-- blocks that make a plan aren't among them
plan_not_without : (blocks : List Block) (P : Plan) (notes : List Note) (status : ℕ) (line : List ℕ) → IsDistinct (places_of (entries_in blocks))
    → IsPlanFrom (entries_in blocks) P notes → IsNoPlanOf blocks status line → ⊥
plan_not_without blocks P notes status line distinct made (inl twice) = twice_not_distinct blocks status line distinct twice
plan_not_without blocks P notes status line distinct made (inr without) =
    let parts = made.parts in
    let fault = without.1.first in
    absurd (cc)

-- # Scripts

module _ (P : Plan) (step : Bool) (bytes : List ℕ) where
  one_lines : (ls ms : List line) → AreLinesIn P step bytes ls → AreLinesIn P step bytes ms → ls ≡ ms
  one_lines ls ms p q = lines_told P choice (answer_by (limit_by step) (limit_by step)) [] 1 (lines_of bytes) ls ms p q

  one_fault : (f g : ScriptFault) → IsNoScript P step bytes f → IsNoScript P step bytes g → f ≡ g
  one_fault f g (bad d) (bad e) = let same : Some f ≡ Some g = sym d ∙ e in cc
  one_fault f g (bad d) (too_much ls e are more) = absurd (cc)
  one_fault f g (too_much ls d are more) (bad e) = absurd (cc)
  one_fault f g (too_much ls d are more) (too_much ms e are_too more_too) = refl

  script_not_fault : (ls : List line) (f : ScriptFault) → IsScript P step bytes ls → IsNoScript P step bytes f → ⊥
  script_not_fault ls f s (bad e) = let good = s.good in absurd (cc)
  script_not_fault ls f s (too_much ms e are more) =
      let few = s.few in
      let same : operations P ls ≡ operations P ms = ap (operations P) (one_lines ls ms s.lines_are are) in
      omega (arith, few, more, same)

held_same : {held : Option (List ℕ)} {a b : List ℕ} → held ≡ Some a → held ≡ Some b → a ≡ b
held_same d e = cc

module _ (held : Option (List ℕ)) (P : Plan) (step : Bool) where
  one_held : (ls ms : List line) → HoldsScript held P step ls → HoldsScript held P step ms → ls ≡ ms
  one_held ls ms p q =
      let same = held_same p.is q.is in
      one_lines P step q.bytes ls ms (subst (λ (b : List ℕ). AreLinesIn P step b ls) same p.reads.lines_are) q.reads.lines_are

  one_held_fault : (f g : ScriptFault) → HoldsNoScript held P step f → HoldsNoScript held P step g → f ≡ g
  one_held_fault f g p q =
      one_fault P step q.bytes f g (subst (λ (b : List ℕ). IsNoScript P step b f) (held_same p.is q.is) p.fails) q.fails

  held_not_fault : (ls : List line) (f : ScriptFault) → HoldsScript held P step ls → HoldsNoScript held P step f → ⊥
  held_not_fault ls f p q =
      script_not_fault P step q.bytes ls f (subst (λ (b : List ℕ). IsScript P step b ls) (held_same p.is q.is) p.reads) q.fails

-- # Files that tell

module _ (step : Bool) (script : List ℕ) (names : List (List ℕ)) (files : FilesSeen) (tells : files.told ≡ true) where
  -- the blocks make one plan
  pub one_planned : (P Q : Plan) → ArePlanned files names P → ArePlanned files names Q → P ≡ Q
  one_planned P Q p q =
      let same = same_blocks files.holds 0 names p.blocks q.blocks (p.held tells) (q.held tells) in
      let made = subst (λ (l : List Block). IsPlanFrom (entries_in l) P p.notes) same p.made in
      same_plans P Q (same_plan (entries_in q.blocks) P Q p.notes q.notes made q.made).0

  -- and the script has one list of lines
  pub one_given : (P Q : Plan) (ls ms : List line) → AreGiven files step script names P ls → AreGiven files step script names Q ms → (P ≡ Q) × (ls ≡ ms)
  one_given P Q ls ms p q =
      let same = one_planned P Q p.planned q.planned in
      let held = subst (λ (R : Plan). HoldsScript (files.holds script) R step ls) same (p.scripted tells) in
      (same, one_held (files.holds script) Q step ls ms held (q.scripted tells))

  one_text : (a b : List ℕ) → IsTextOn files step script names a → IsTextOn files step script names b → a ≡ b
  one_text a b p q =
      let same = one_given p.plan q.plan p.lines q.lines p.given q.given in
      p.says ∙ ap (λ (P : Plan). history_text P None (entries_of (requests_of p.lines))) same.0
      ∙ ap (λ (ls : List line). history_text q.plan None (entries_of (requests_of ls))) same.1 ∙ sym q.says

  pub planned_not_unspelled : (P : Plan) → ArePlanned files names P → {s : ℕ} {a : List ℕ} → IsUnspelled files names s a → ⊥
  planned_not_unspelled P p u = blocks_not_fault files.holds 1 0 names p.blocks u.fault (p.held tells) (u.first tells)

  pub planned_not_without : (P : Plan) → ArePlanned files names P → (blocks : List Block) → AreHeldBy files names blocks → {s : ℕ} {a : List ℕ}
      → IsNoPlanOf blocks s a → ⊥
  planned_not_without P p blocks held {s = s} {a = a} without =
      let same = same_blocks files.holds 0 names blocks p.blocks (held tells) (p.held tells) in
      plan_not_without p.blocks P p.notes s a p.distinct p.made (subst (λ (l : List Block). IsNoPlanOf l s a) same without)

  one_unscripted : (s t : ℕ) (a b : List ℕ) → IsUnscripted files step script names s a → IsUnscripted files step script names t b → (s ≡ t) × (a ≡ b)
  one_unscripted s t a b p q =
      let same = one_planned p.plan q.plan p.planned q.planned in
      let held = subst (λ (R : Plan). HoldsNoScript (files.holds script) R step p.fault) same (p.held tells) in
      let faults = one_held_fault (files.holds script) q.plan step p.fault q.fault held (q.held tells) in
      (p.is ∙ sym q.is, p.says ∙ ap script_line faults ∙ sym q.says)

  one_refusal : (s t : ℕ) (a b : List ℕ) → IsRefusalOn files step script names s a → IsRefusalOn files step script names t b → (s ≡ t) × (a ≡ b)
  one_refusal s t a b (unspelled p) (unspelled q) =
      let same = same_first_fault files.holds 1 0 names p.fault q.fault (p.first tells) (q.first tells) in
      (p.is ∙ sym q.is, p.says ∙ ap (blocks_line (length names)) same ∙ sym q.says)
  one_refusal s t a b (unspelled p) (unplanned blocks held q) = absurd (blocks_not_fault files.holds 1 0 names blocks p.fault (held tells) (p.first tells))
  one_refusal s t a b (unspelled p) (unscripted q) = absurd (planned_not_unspelled q.plan q.planned p)
  one_refusal s t a b (unplanned blocks held p) (unspelled q) = absurd (blocks_not_fault files.holds 1 0 names blocks q.fault (held tells) (q.first tells))
  one_refusal s t a b (unplanned us held p) (unplanned vs holding q) =
      let same = same_blocks files.holds 0 names us vs (held tells) (holding tells) in
      one_without vs s t a b (subst (λ (l : List Block). IsNoPlanOf l s a) same p) q
  one_refusal s t a b (unplanned blocks held p) (unscripted q) = absurd (planned_not_without q.plan q.planned blocks held p)
  one_refusal s t a b (unscripted p) (unspelled q) = absurd (planned_not_unspelled p.plan p.planned q)
  one_refusal s t a b (unscripted p) (unplanned blocks held q) = absurd (planned_not_without p.plan p.planned blocks held q)
  one_refusal s t a b (unscripted p) (unscripted q) = one_unscripted s t a b p q

  -- what is given isn't refused
  given_apart : (P : Plan) (ls : List line) (status : ℕ) (line : List ℕ) → AreGiven files step script names P ls → IsRefusalOn files step script names status line → ⊥
  given_apart P ls status line given (unspelled q) = planned_not_unspelled P given.planned q
  given_apart P ls status line given (unplanned blocks held q) = planned_not_without P given.planned blocks held q
  given_apart P ls status line given (unscripted q) =
      let same = one_planned P q.plan given.planned q.planned in
      let held = subst (λ (R : Plan). HoldsScript (files.holds script) R step ls) same (given.scripted tells) in
      held_not_fault (files.holds script) q.plan step ls q.fault held (q.held tells)

  apart : (status : ℕ) (text line : List ℕ) → IsTextOn files step script names text → IsRefusalOn files step script names status line → ⊥
  apart status text line made r = given_apart made.plan made.lines status line made.given r

-- A serial drive of what files hold has one text, or is refused in one way, and never both.
pub drive_is_one : (step : Bool) (script : List ℕ) (names : List (List ℕ)) (before after : FilesSeen) → before.told ≡ true
    → IsOne (driving step script names before after)
drive_is_one step script names before after tells = record {
  texts = one_text step script names before tells;
  refusals = one_refusal step script names before tells;
  apart = apart step script names before tells;
}

-- The plan and the lines that are given are those of each text.
pub text_given : (step : Bool) (script : List ℕ) (names : List (List ℕ)) (files : FilesSeen) → files.told ≡ true → (P : Plan) (lines : List line)
    → AreGiven files step script names P lines → (text : List ℕ) → IsTextOn files step script names text
    → text ≡ history_text P None (entries_of (requests_of lines))
text_given step script names files tells P lines given text is =
    one_text step script names files tells text (history_text P None (entries_of (requests_of lines))) is
    (record { plan = P; lines = lines; given = given; says = refl })

-- What is given isn't refused.
pub given_not_refused : (step : Bool) (script : List ℕ) (names : List (List ℕ)) (files : FilesSeen) → files.told ≡ true → (P : Plan) (lines : List line)
    → AreGiven files step script names P lines → (status : ℕ) (text : List ℕ) → IsRefusalOn files step script names status text → ⊥
given_not_refused step script names files tells P lines given status text r = given_apart step script names files tells P lines status text given r

-- # A drive by workers

-- It is refused in one way.
pub working_refuses_once : (step : Bool) (script : List ℕ) (names : List (List ℕ)) (before : FilesSeen) → before.told ≡ true
    → (s t : ℕ) (a b : List ℕ) → IsRefusalOn before step script names s a → IsRefusalOn before step script names t b → (s ≡ t) × (a ≡ b)
working_refuses_once step script names before tells = one_refusal step script names before tells

-- And never where it has a text.
pub working_apart : (step : Bool) (script : List ℕ) (names : List (List ℕ)) (before : FilesSeen) → before.told ≡ true
    → (status : ℕ) (text line : List ℕ) → IsTextBy before step script names text → IsRefusalOn before step script names status line → ⊥
working_apart step script names before tells status text line made r = given_apart step script names before tells made.plan made.lines status line made.given r

-- # Files of which no read failed

-- an element stands behind another
Contains-behind : {X : Type 0} (y : X) (xs : List X) (x : X) → Contains xs x → Contains (y ∷ xs) x
Contains-behind y xs x (k, lt, is) = (suc k, omega (arith, lt), is)

-- No file is unread where no read of the script or of a block failed, whoever makes the lines.
pub never_read_fault : (step : Bool) (script : List ℕ) (names : List (List ℕ)) (before after : FilesSeen) → NoneFailed (script ∷ names) before after
    → (driving step script names before after).read_fault → ⊥
never_read_fault step script names before after none (inl u) =
    let some = u.failed.some in
    let within = u.failed.within in
    let at = Contains-get_or names (u.number - 1) [] (omega (arith, some, within)) in
    none (name_at names u.number) (Contains-behind script names (name_at names u.number) at) u.failed.rose
never_read_fault step script names before after none (inr u) = none script (0, omega arith, refl) u.rose

-- # The status of what is refused

without_is_1 : (blocks : List Block) (status : ℕ) (line : List ℕ) → IsNoPlanOf blocks status line → status ≡ 1
without_is_1 blocks status line (inl twice) = twice.is
without_is_1 blocks status line (inr without) = without.1.is

-- A refusal has status 1 where the blocks are refused, and 7 where the script is.
pub refusal_is_1_or_7 : (step : Bool) (script : List ℕ) (names : List (List ℕ)) (files : FilesSeen) (status : ℕ) (line : List ℕ)
    → IsRefusalOn files step script names status line → (status ≡ 1) ⊎ (status ≡ 7)
refusal_is_1_or_7 step script names files status line (unspelled p) = inl p.is
refusal_is_1_or_7 step script names files status line (unplanned blocks held without) = inl (without_is_1 blocks status line without)
refusal_is_1_or_7 step script names files status line (unscripted p) = inr p.is
