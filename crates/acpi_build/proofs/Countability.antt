-- What blocks that can be written give is countable.
use Rattle.std.proofs.Common.{◌≡◌, ℕ, zero, suc, List, [], ◌∷◌, ◌++◌, length, map, Option, Some, None, refl, inl, inr}
use Rattle.std.specs.Prelude.{All, ◌==◌, cond, true, false, Bool}
use Rattle.std.specs.List.{AllByRecursion}
use Rattle.std.proofs.lemmas.Bool.{cases_lt}
use Rattle.std.proofs.lemmas.List.{get_or_past}
use Rattle.std.proofs.lemmas.List.Elements.{All-append, All-cons, All-nil, All-head, All-tail}
use Rattle.aml_data.specs.declared.data.Width.{Width}
use Rattle.aml_data.specs.declared.path.Path.{Path}
use Rattle.aml_data.specs.Countable.{is_itself}
use Rattle.aml_data.proofs.Counting.{writable_counts}
use Rattle.aml_block.specs.declared.opcode.TheConstants.{METHOD_OP}
use Rattle.aml_block.specs.declared.term.Term.{Term, Term-F, out-Term}
use Rattle.aml_block.specs.declared.term.Term.TheOpen as layer
use Rattle.aml_block.specs.WrittenTerms.{AreWritable, IsWritableLayer, IsWritableTerm}
use Rattle.aml_block.specs.declared.block.Block.{Block}
use Rattle.aml_block.specs.Written.{IsWritableBlock}
use Rattle.acpi_space.specs.Lookup.{no_entry}
use Rattle.acpi_space.specs.Namespace.{Entry, block_turn, entries_in, entries_of, width_among}
use Rattle.acpi_space.specs.Places.{Place}
use Rattle.acpi_space.specs.Steps.{Step, Sized, in_order, method_steps, never_runs, passes, steps_in, steps_of}
use Rattle.acpi_space.specs.inner.Naming.{named_by}
use Rattle.acpi_space.proofs.TermSteps.{steps-layer}
use Rattle.acpi_build.specs.Tables.{AreCountable, IsCountableThing}

abbrev IsCountableGift : Option Sized → Type 0
IsCountableGift None = Unit {0}
IsCountableGift (Some x) = IsCountableThing x.object

abbrev IsCountableStep : Step → Type 0
IsCountableStep s = IsCountableGift s.given

abbrev Counted : List Step → Type 0
Counted = All IsCountableStep

-- what is done inside one level more
abbrev Inside : Width → ℕ → Type 0
Inside width depth = (terms : List Term) → AreWritable depth terms → (scope : Place) (before : List Step) → Counted (steps_in width terms scope before)

method_counted : (width : Width) (scope : Place) (path : Option Path) → Counted (method_steps width scope path)
method_counted width scope None = All-nil IsCountableStep
method_counted width scope (Some path) = All-cons IsCountableStep _ [] tt (All-nil IsCountableStep)

unread_counted : (width : Width) (scope : Place) (is_method is_never_run : Bool) (opcode : ℕ) (path : Option Path)
    → Counted (cond is_method (method_steps width scope path) (cond is_never_run [] (passes scope opcode ∷ [])))
unread_counted width scope true never opcode path = method_counted width scope path
unread_counted width scope false true opcode path = All-nil IsCountableStep
unread_counted width scope false false opcode path = All-cons IsCountableStep _ [] tt (All-nil IsCountableStep)

layer_counted : (width : Width) (depth : ℕ) (t : Term) (l : Term-F Term) → out-Term t ≡ l → IsWritableLayer (AreWritable depth) l → Inside width depth → (scope : Place) (before : List Step)
    → Counted (steps_of width t scope before)
layer_counted width depth t (layer.Name path value) is w inside scope before =
    rw (steps-layer width t (layer.Name path value) is) (All-cons IsCountableStep _ [] (writable_counts value value w.2 is_itself) (All-nil IsCountableStep))
layer_counted width depth t (layer.Scope path inner) is w inside scope before =
    rw (steps-layer width t (layer.Scope path inner) is) (All-cons IsCountableStep _ _ tt (inside inner w.1 _ _))
layer_counted width depth t (layer.Device path inner) is w inside scope before =
    rw (steps-layer width t (layer.Device path inner) is) (All-cons IsCountableStep _ _ tt (inside inner w.2 _ _))
layer_counted width depth t (layer.Processor path id block len inner) is w inside scope before =
    rw (steps-layer width t (layer.Processor path id block len inner) is) (All-cons IsCountableStep _ _ tt (inside inner w.3 _ _))
layer_counted width depth t (layer.Unread opcode body) is w inside scope before =
    rw (steps-layer width t (layer.Unread opcode body) is) (unread_counted width scope (opcode == METHOD_OP) (never_runs opcode body) opcode (named_by body))
layer_counted width depth t (layer.Alias source alias) is w inside scope before =
    rw (steps-layer width t (layer.Alias source alias) is) (All-cons IsCountableStep _ [] tt (All-nil IsCountableStep))
layer_counted width depth t (layer.External path kind args) is w inside scope before = rw (steps-layer width t (layer.External path kind args) is) (All-nil IsCountableStep)
layer_counted width depth t (layer.Mutex path flags) is w inside scope before = rw (steps-layer width t (layer.Mutex path flags) is) (All-nil IsCountableStep)
layer_counted width depth t (layer.Event path) is w inside scope before = rw (steps-layer width t (layer.Event path) is) (All-nil IsCountableStep)
layer_counted width depth t (layer.Region path space offset len) is w inside scope before = rw (steps-layer width t (layer.Region path space offset len) is) (All-nil IsCountableStep)

terms_counted : (width : Width) (depth : ℕ) (terms : List Term) → AllByRecursion (IsWritableTerm depth) terms → Inside width depth → (scope : Place) (before : List Step)
    → Counted (steps_in width terms scope before)
terms_counted width depth [] w inside scope before = All-nil IsCountableStep
terms_counted width depth (t ∷ ts) w inside scope before =
    All-append IsCountableStep (steps_of width t scope before) _ (layer_counted width depth t (out-Term t) refl w.0 inside scope before)
    (terms_counted width depth ts w.1 inside scope (before ++ steps_of width t scope before))

pub inside_counted : (width : Width) (depth : ℕ) → Inside width depth
unfolding AreWritable
inside_counted width zero terms w scope before = absurd w
inside_counted width (suc depth) terms w scope before = terms_counted width depth terms w (inside_counted width depth) scope before

blocks_counted : (blocks bs : List Block) (scope : Place) (before : List Step) → All IsWritableBlock bs → Counted (in_order (map (block_turn blocks) bs) scope before)
blocks_counted blocks [] scope before w = All-nil IsCountableStep
blocks_counted blocks (b ∷ bs) scope before w =
    let first = terms_counted (width_among blocks b) _ b.terms (All-head IsWritableBlock b bs w).terms (inside_counted (width_among blocks b) _) [] before in
    All-append IsCountableStep (block_turn blocks b scope before) _ first (blocks_counted blocks bs scope (before ++ block_turn blocks b scope before) (All-tail IsWritableBlock b bs w))

one_counted : (place : Place) (o : Option Sized) (over : Option ℕ) (ss : List Step) → IsCountableGift o → All (λ (e : Entry). IsCountableThing e.object) (entries_of ss)
    → All (λ (e : Entry). IsCountableThing e.object) (entries_of (record { place = place; given = o; passed = over } ∷ ss))
one_counted place None over ss counted rest = rest
one_counted place (Some x) over ss counted rest = All-cons (λ (e : Entry). IsCountableThing e.object) _ (entries_of ss) counted rest

entries_counted : (steps : List Step) → Counted steps → All (λ (e : Entry). IsCountableThing e.object) (entries_of steps)
entries_counted [] all = All-nil (λ (e : Entry). IsCountableThing e.object)
entries_counted (s ∷ ss) all = one_counted s.place s.given s.passed ss (All-head IsCountableStep s ss all) (entries_counted ss (All-tail IsCountableStep s ss all))

pub blocks_countable : (blocks : List Block) → All IsWritableBlock blocks → AreCountable (entries_in blocks)
unfolding no_entry
blocks_countable blocks w k =
    let entries = entries_in blocks in
    elim (cases_lt k (length entries)) [
      | inl below ↦ entries_counted _ (blocks_counted blocks blocks [] [] w) k no_entry below
      | inr past ↦ rw (get_or_past entries k no_entry past) tt
    ]
