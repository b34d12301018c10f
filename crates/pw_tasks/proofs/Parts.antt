-- What the parts of a task do is what the task does.
use Rattle.std.proofs.Common.{◌≡◌, ℕ, List, inr, ap, subst}
use Rattle.std.proofs.lemmas.Bool.{false≢true}
use Rattle.pw_base.specs.Seen.{FilesSeen}
use Rattle.aml_block.specs.declared.block.Block.{Block}
use Rattle.acpi_space.specs.Distinct.{IsDistinct}
use Rattle.acpi_space.specs.Namespace.{Entry, entries_in, places_of}
use Rattle.acpi_space.specs.Passed.{passed_in}
use Rattle.pw_show.specs.Show.{show_text}
use Rattle.pw_show.specs.Json.{json_text}
use Rattle.pw_words.specs.declared.command.Task.{Task}
use Rattle.pw_words.specs.declared.command.Task.TheVariants.{Show, ShowAsJson, Check, Lint}
use Rattle.pw_load.proofs.Outcomes.{IsWithin}
use Rattle.pw_load.specs.Steps.{AreHeldBy, IsGivenTwice, loading, placing, planning}
use Rattle.pw_tasks.specs.Tasks.{IsRefusalOf, IsTextOf, checking, linting, work_on, work_over}
use Rattle.pw_tasks.specs.Tasks.IsRefusalOn.{unspelled, unusable}

-- to load blocks is part of each task
pub loading_within : (task : Task) (names : List (List ℕ)) (before after : FilesSeen) → IsWithin (loading before after names) (work_on task names before after)
loading_within task names before after = record {
  texts = λ text never. absurd never;
  refusals = λ status line refusal. unspelled refusal;
  read_faults = λ u. u;
  pieces = λ e. absurd (false≢true e);
}

-- to place their objects is part of each that refuses those that are given twice
pub placing_within : (task : Task) (blocks : List Block) → ((status : ℕ) (line : List ℕ) → IsGivenTwice (entries_in blocks) status line → IsRefusalOf task blocks status line)
    → IsWithin (placing (entries_in blocks)) (work_over task blocks)
placing_within task blocks refuses = record {
  texts = λ text never. absurd never;
  refusals = refuses;
  read_faults = λ never. absurd never;
  pieces = λ e. absurd (false≢true e);
}

-- to make a plan is part of checking
pub planning_within : (entries : List Entry) → IsWithin (planning entries) (checking entries)
planning_within entries = record {
  texts = λ text never. absurd never;
  refusals = λ status line refusal. refusal;
  read_faults = λ never. absurd never;
  pieces = λ e. absurd (false≢true e);
}

-- to check objects is to check the blocks that place them
checking_blocks : (blocks : List Block) → IsDistinct (places_of (entries_in blocks)) → IsWithin (checking (entries_in blocks)) (work_over Check blocks)
checking_blocks blocks distinct = record {
  texts = λ text made. (distinct, made);
  refusals = λ status line refusal. inr (distinct, refusal);
  read_faults = λ never. absurd never;
  pieces = λ e. absurd (false≢true e);
}

pub checking_within : (entries : List Entry) (blocks : List Block) → entries ≡ entries_in blocks → IsDistinct (places_of entries)
    → IsWithin (checking entries) (work_over Check blocks)
checking_within entries blocks are distinct = rw are (checking_blocks blocks (rw are at distinct))

-- to lint objects is to lint the blocks that place them, beside the terms that these pass over
linting_blocks : (blocks : List Block) → IsDistinct (places_of (entries_in blocks)) → IsWithin (linting (entries_in blocks) (passed_in blocks)) (work_over Lint blocks)
linting_blocks blocks distinct = record {
  texts = λ text made. (distinct, made);
  refusals = λ status line never. absurd never;
  read_faults = λ never. absurd never;
  pieces = λ e. absurd (false≢true e);
}

pub linting_within : (entries : List Entry) (blocks : List Block) → entries ≡ entries_in blocks → IsDistinct (places_of entries)
    → IsWithin (linting entries (passed_in blocks)) (work_over Lint blocks)
linting_within entries blocks are distinct = rw are (linting_blocks blocks (rw are at distinct))

-- to do it over blocks that the files hold is to do it on the files
pub over_within : (task : Task) (names : List (List ℕ)) (before after : FilesSeen) (blocks : List Block) → AreHeldBy before names blocks
    → IsWithin (work_over task blocks) (work_on task names before after)
over_within task names before after blocks held = record {
  texts = λ text made. record { blocks = blocks; held = held; made = made };
  refusals = λ status line refusal. unusable blocks held refusal;
  read_faults = λ never. absurd never;
  pieces = λ e. e;
}

-- # Texts

-- the lines of what blocks place are the text of the blocks
pub shows : (entries : List Entry) (blocks : List Block) → entries ≡ entries_in blocks → IsDistinct (places_of entries) → IsTextOf Show blocks (show_text entries)
shows entries blocks are distinct = (subst (λ (l : List Entry). IsDistinct (places_of l)) are distinct, ap show_text are)

-- and their JSON
pub shows_as_json : (entries : List Entry) (blocks : List Block) → entries ≡ entries_in blocks → IsDistinct (places_of entries)
    → IsTextOf ShowAsJson blocks (json_text entries)
shows_as_json entries blocks are distinct = (subst (λ (l : List Entry). IsDistinct (places_of l)) are distinct, ap json_text are)
