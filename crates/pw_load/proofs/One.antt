-- What is refused of objects and of blocks is refused in one way.
use Rattle.std.proofs.Common.{◌≡◌, ℕ, List, sym, ap, ◌∙◌, ◌-◌}
use Rattle.acpi_space.specs.Namespace.{Entry, places_of, entries_in}
use Rattle.pw_load.specs.Lines.{twice_line}
use Rattle.pw_load.specs.Steps.{IsGivenTwice, IsUnplanned}
use Rattle.pw_load.proofs.Repeats.{one_first_repeat}
use Rattle.pw_check.specs.Refusals.{refusal_line}
use Rattle.pw_base.proofs.Facts.{same_err}
use Rattle.aml_block.specs.declared.block.Block.{Block}
use Rattle.acpi_space.specs.Distinct.{IsDistinct}
use Rattle.acpi_space.proofs.Seen.{first_repeat_repeats}

pub one_twice : (entries : List Entry) (s t : ℕ) (a b : List ℕ) → IsGivenTwice entries s a → IsGivenTwice entries t b → (s ≡ t) × (a ≡ b)
one_twice entries s t a b p q = (p.is ∙ sym q.is, p.says ∙ ap twice_line (one_first_repeat (places_of entries) p.at q.at p.first q.first) ∙ sym q.says)

pub one_unplanned : (entries : List Entry) (s t : ℕ) (a b : List ℕ) → IsUnplanned entries s a → IsUnplanned entries t b → (s ≡ t) × (a ≡ b)
one_unplanned entries s t a b p q = (p.is ∙ sym q.is, p.says ∙ ap refusal_line (same_err p.first q.first) ∙ sym q.says)

-- blocks that place a place twice aren't placed apart
pub twice_not_distinct : (blocks : List Block) (status : ℕ) (line : List ℕ) → IsDistinct (places_of (entries_in blocks))
    → IsGivenTwice (entries_in blocks) status line → ⊥
twice_not_distinct blocks status line distinct twice = first_repeat_repeats _ twice.at twice.first distinct
