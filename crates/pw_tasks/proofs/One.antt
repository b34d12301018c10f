-- A task has one text of what files hold, or refuses it in one way.
use Rattle.std.proofs.Common.{◌≡◌, ℕ, ◌-◌, true, List, [], length, Result, Err, inl, inr, refl, sym, ap, subst, ◌∙◌, arith}
use Rattle.std.proofs.lemmas.List.Elements.{Contains-get_or}
use Rattle.pw_base.specs.Seen.{FilesSeen}
use Rattle.aml_block.specs.declared.block.Block.{Block}
use Rattle.acpi_space.specs.Distinct.{IsDistinct}
use Rattle.acpi_space.specs.Namespace.{Entry, entries_in, places_of}
use Rattle.acpi_space.specs.Passed.{passed_in}
use Rattle.acpi_space.specs.declared.passed.PassedOver.{PassedOver}
use Rattle.acpi_space.proofs.Seen.{first_repeat_repeats}
use Rattle.acpi_build.specs.declared.note.Note.{Note}
use Rattle.acpi_build.specs.Planning.{AreSame}
use Rattle.pw_plan.specs.declared.plan.Plan.{Plan}
use Rattle.acpi_build.proofs.Planned.{same_plan}
use Rattle.pw_check.specs.CheckText.{check_text}
use Rattle.pw_check.specs.Refusals.{refusal_line}
use Rattle.pw_lint.proofs.Refused.{one_findings}
use Rattle.pw_findings.specs.Words.{findings_text}
use Rattle.aml_block.specs.Held.{name_at}
use Rattle.aml_block.proofs.OneReading.{same_blocks, same_first_fault, blocks_not_fault}
use Rattle.pw_words.specs.declared.command.Task.{Task}
use Rattle.pw_words.specs.declared.command.Task.TheVariants.{Show, ShowAsJson, Rewrite, Check, Lint}
use Rattle.pw_load.specs.Seen.{NoneFailed}
use Rattle.pw_load.proofs.Completeness.{IsOne}
use Rattle.pw_load.specs.Lines.{blocks_line, twice_line}
use Rattle.pw_load.specs.Steps.{IsGivenTwice, IsOneUnread, IsUnplanned}
use Rattle.pw_tasks.specs.Tasks.{IsCheckText, IsLintText, IsTextOf, IsRefusalOf, IsTextOn, IsRefusalOn, work_on}
use Rattle.pw_tasks.specs.Tasks.IsRefusalOn.{unspelled, unusable}
use Rattle.pw_load.proofs.Repeats.{one_first_repeat}
use Rattle.pw_base.proofs.Facts.{same_err}
use Rattle.pw_load.proofs.One.{one_twice, one_unplanned, twice_not_distinct}

-- # Objects

-- objects that make a plan aren't refused
plan_not_fault : (entries : List Entry) (status : ℕ) (text line : List ℕ) → IsCheckText entries text → IsUnplanned entries status line → ⊥
plan_not_fault entries status text line made unplanned =
    let parts = made.made.parts in
    let fault = unplanned.first in
    absurd (cc)

-- the text of a plan is that of its lists
same_text : (P Q : Plan) (first second : List Note) → AreSame P Q → first ≡ second → check_text P first ≡ check_text Q second
unfolding check_text
same_text P Q first second same notes = rw (same.containers, same.cpus, same.domains, same.groups, notes) refl

one_check_text : (entries : List Entry) (a b : List ℕ) → IsCheckText entries a → IsCheckText entries b → a ≡ b
one_check_text entries a b p q =
    let same = same_plan entries p.plan q.plan p.notes q.notes p.made q.made in
    p.says ∙ same_text p.plan q.plan p.notes q.notes same.0 same.1 ∙ sym q.says

one_lint_text : (entries : List Entry) (passed : List PassedOver) (a b : List ℕ) → IsLintText entries passed a → IsLintText entries passed b → a ≡ b
one_lint_text entries passed a b p q = p.says ∙ ap findings_text (one_findings entries passed p.found q.found p.made q.made) ∙ sym q.says

-- # Blocks

pub one_text_of : (task : Task) (blocks : List Block) (a b : List ℕ) → IsTextOf task blocks a → IsTextOf task blocks b → a ≡ b
one_text_of Show blocks a b p q = p.1 ∙ sym q.1
one_text_of ShowAsJson blocks a b p q = p.1 ∙ sym q.1
one_text_of Rewrite blocks a b p q = p ∙ sym q
one_text_of Check blocks a b p q = one_check_text (entries_in blocks) a b p.1 q.1
one_text_of Lint blocks a b p q = one_lint_text (entries_in blocks) (passed_in blocks) a b p.1 q.1

one_refusal_of : (task : Task) (blocks : List Block) (s t : ℕ) (a b : List ℕ) → IsRefusalOf task blocks s a → IsRefusalOf task blocks t b → (s ≡ t) × (a ≡ b)
one_refusal_of Show blocks s t a b p q = one_twice (entries_in blocks) s t a b p q
one_refusal_of ShowAsJson blocks s t a b p q = one_twice (entries_in blocks) s t a b p q
one_refusal_of Rewrite blocks s t a b p q = absurd p
one_refusal_of Check blocks s t a b (inl p) (inl q) = one_twice (entries_in blocks) s t a b p q
one_refusal_of Check blocks s t a b (inl p) (inr q) = absurd (twice_not_distinct blocks s a q.0 p)
one_refusal_of Check blocks s t a b (inr p) (inl q) = absurd (twice_not_distinct blocks t b p.0 q)
one_refusal_of Check blocks s t a b (inr p) (inr q) = one_unplanned (entries_in blocks) s t a b p.1 q.1
one_refusal_of Lint blocks s t a b p q = one_twice (entries_in blocks) s t a b p q

apart_of : (task : Task) (blocks : List Block) (status : ℕ) (text line : List ℕ) → IsTextOf task blocks text → IsRefusalOf task blocks status line → ⊥
apart_of Show blocks status text line made twice = twice_not_distinct blocks status line made.0 twice
apart_of ShowAsJson blocks status text line made twice = twice_not_distinct blocks status line made.0 twice
apart_of Rewrite blocks status text line made refusal = refusal
apart_of Check blocks status text line made (inl twice) = twice_not_distinct blocks status line made.0 twice
apart_of Check blocks status text line made (inr unplanned) = plan_not_fault (entries_in blocks) status text line made.1 unplanned.1
apart_of Lint blocks status text line made twice = twice_not_distinct blocks status line made.0 twice

-- # Files that tell

module _ (task : Task) (names : List (List ℕ)) (files : FilesSeen) (tells : files.told ≡ true) where
  one_text : (a b : List ℕ) → IsTextOn task names files a → IsTextOn task names files b → a ≡ b
  one_text a b p q =
      let same = same_blocks files.holds 0 names p.blocks q.blocks (p.held tells) (q.held tells) in
      one_text_of task q.blocks a b (subst (λ (l : List Block). IsTextOf task l a) same p.made) q.made

  one_refusal : (s t : ℕ) (a b : List ℕ) → IsRefusalOn task names files s a → IsRefusalOn task names files t b → (s ≡ t) × (a ≡ b)
  one_refusal s t a b (unspelled p) (unspelled q) =
      let same = same_first_fault files.holds 1 0 names p.fault q.fault (p.first tells) (q.first tells) in
      (p.is ∙ sym q.is, p.says ∙ ap (blocks_line (length names)) same ∙ sym q.says)
  one_refusal s t a b (unspelled p) (unusable blocks held refusal) =
      absurd (blocks_not_fault files.holds 1 0 names blocks p.fault (held tells) (p.first tells))
  one_refusal s t a b (unusable blocks held refusal) (unspelled q) =
      absurd (blocks_not_fault files.holds 1 0 names blocks q.fault (held tells) (q.first tells))
  one_refusal s t a b (unusable us held p) (unusable vs holding q) =
      let same = same_blocks files.holds 0 names us vs (held tells) (holding tells) in
      one_refusal_of task vs s t a b (subst (λ (l : List Block). IsRefusalOf task l s a) same p) q

  apart : (status : ℕ) (text line : List ℕ) → IsTextOn task names files text → IsRefusalOn task names files status line → ⊥
  apart status text line made (unspelled p) = blocks_not_fault files.holds 1 0 names made.blocks p.fault (made.held tells) (p.first tells)
  apart status text line made (unusable blocks held refusal) =
      let same = same_blocks files.holds 0 names made.blocks blocks (made.held tells) (held tells) in
      apart_of task blocks status text line (subst (λ (l : List Block). IsTextOf task l text) same made.made) refusal

pub task_is_one : (task : Task) (names : List (List ℕ)) (before after : FilesSeen) → before.told ≡ true → IsOne (work_on task names before after)
task_is_one task names before after tells = record {
  texts = one_text task names before tells;
  refusals = one_refusal task names before tells;
  apart = apart task names before tells;
}

-- a file couldn't be read only where a read of it failed
pub never_read_fault : (names : List (List ℕ)) (before after : FilesSeen) → NoneFailed names before after → IsOneUnread before after names → ⊥
never_read_fault names before after none u =
    let some = u.failed.some in
    let within = u.failed.within in
    none (name_at names u.number) (Contains-get_or names (u.number - 1) [] (omega (arith, some, within))) u.failed.rose

-- # The status of what is refused

refusal_of_is_1 : (task : Task) (blocks : List Block) (status : ℕ) (line : List ℕ) → IsRefusalOf task blocks status line → status ≡ 1
refusal_of_is_1 Show blocks status line twice = twice.is
refusal_of_is_1 ShowAsJson blocks status line twice = twice.is
refusal_of_is_1 Rewrite blocks status line never = absurd never
refusal_of_is_1 Check blocks status line (inl twice) = twice.is
refusal_of_is_1 Check blocks status line (inr unplanned) = unplanned.1.is
refusal_of_is_1 Lint blocks status line twice = twice.is

pub refusal_is_1 : (task : Task) (names : List (List ℕ)) (files : FilesSeen) (status : ℕ) (line : List ℕ) → IsRefusalOn task names files status line → status ≡ 1
refusal_is_1 task names files status line (unspelled p) = p.is
refusal_is_1 task names files status line (unusable blocks held refusal) = refusal_of_is_1 task blocks status line refusal
