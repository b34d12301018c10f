-- What a term does, by its variant.
use Rattle.std.proofs.Common.{◌≡◌, ℕ, List, [], ◌∷◌, ◌++◌, ap, ◌∙◌, append_assoc}
use Rattle.aml_data.specs.declared.data.Data.{Data}
use Rattle.aml_data.specs.declared.data.Width.{Width}
use Rattle.aml_data.specs.declared.path.Path.{Path}
use Rattle.aml_block.specs.declared.term.Term.{Term, Term-F, map-Term, out-Term, fold_out-Term}
use Rattle.aml_block.specs.declared.term.Term.TheOpen as layer
use Rattle.aml_block.specs.declared.term.Term.TheVariants.{Name, Scope, Device, Processor, Unread, Alias, External, Mutex, Event, Region}
use Rattle.aml_block.specs.declared.term.Term.TheViews.{outs-Name, outs-Scope, outs-Device, outs-Processor, outs-Unread, outs-Alias, outs-External, outs-Mutex, outs-Event, outs-Region}
use Rattle.acpi_space.specs.Things.Thing.{data_object, device, processor, alias_of}
use Rattle.acpi_space.specs.Places.{Place, place_of, opened}
use Rattle.acpi_space.specs.Steps.{Step, Turn, opens, gives, touched, steps_layer, steps_of, steps_in, unread_steps}

pub steps-layer : (width : Width) (t : Term) (l : Term-F Term) → out-Term t ≡ l → steps_of width t ≡ steps_layer width (map-Term Term Turn (steps_of width) l)
unfolding steps_of
steps-layer width t l e = fold_out-Term Turn (steps_layer width) t ∙ ap (λ (x : Term-F Term). steps_layer width (map-Term Term Turn (steps_of width) x)) e

pub steps-Name : (width : Width) (path : Path) (value : Data) (scope : Place) (before : List Step)
    → steps_of width (Name path value) scope before ≡ gives width (place_of scope path) (data_object value) ∷ []
steps-Name width path value scope before = ap (λ (t : Turn). t scope before) (steps-layer width (Name path value) (layer.Name path value) (outs-Name path value))

pub steps-Scope : (width : Width) (path : Path) (terms : List Term) (scope : Place) (before : List Step) → steps_of width (Scope path terms) scope before
    ≡ opens (opened (touched before) scope path) ∷ steps_in width terms (opened (touched before) scope path) (before ++ opens (opened (touched before) scope path) ∷ [])
steps-Scope width path terms scope before = ap (λ (t : Turn). t scope before) (steps-layer width (Scope path terms) (layer.Scope path terms) (outs-Scope path terms))

pub steps-Device : (width : Width) (path : Path) (terms : List Term) (scope : Place) (before : List Step) → steps_of width (Device path terms) scope before
    ≡ gives width (place_of scope path) device ∷ steps_in width terms (place_of scope path) (before ++ gives width (place_of scope path) device ∷ [])
steps-Device width path terms scope before = ap (λ (t : Turn). t scope before) (steps-layer width (Device path terms) (layer.Device path terms) (outs-Device path terms))

pub steps-Processor : (width : Width) (path : Path) (id block len : ℕ) (terms : List Term) (scope : Place) (before : List Step) → steps_of width (Processor path id block len terms) scope before
    ≡ gives width (place_of scope path) processor ∷ steps_in width terms (place_of scope path) (before ++ gives width (place_of scope path) processor ∷ [])
steps-Processor width path id block len terms scope before =
    ap (λ (t : Turn). t scope before) (steps-layer width (Processor path id block len terms) (layer.Processor path id block len terms) (outs-Processor path id block len terms))

pub steps-Unread : (width : Width) (opcode : ℕ) (body : List ℕ) (scope : Place) (before : List Step) → steps_of width (Unread opcode body) scope before
    ≡ unread_steps width scope opcode body
steps-Unread width opcode body scope before = ap (λ (t : Turn). t scope before) (steps-layer width (Unread opcode body) (layer.Unread opcode body) (outs-Unread opcode body))

pub steps-Alias : (width : Width) (source alias : Path) (scope : Place) (before : List Step)
    → steps_of width (Alias source alias) scope before ≡ gives width (place_of scope alias) (alias_of source) ∷ []
steps-Alias width source alias scope before = ap (λ (t : Turn). t scope before) (steps-layer width (Alias source alias) (layer.Alias source alias) (outs-Alias source alias))

pub steps-External : (width : Width) (path : Path) (kind args : ℕ) (scope : Place) (before : List Step) → steps_of width (External path kind args) scope before ≡ []
steps-External width path kind args scope before = ap (λ (t : Turn). t scope before) (steps-layer width (External path kind args) (layer.External path kind args) (outs-External path kind args))

pub steps-Mutex : (width : Width) (path : Path) (flags : ℕ) (scope : Place) (before : List Step) → steps_of width (Mutex path flags) scope before ≡ []
steps-Mutex width path flags scope before = ap (λ (t : Turn). t scope before) (steps-layer width (Mutex path flags) (layer.Mutex path flags) (outs-Mutex path flags))

pub steps-Event : (width : Width) (path : Path) (scope : Place) (before : List Step) → steps_of width (Event path) scope before ≡ []
steps-Event width path scope before = ap (λ (t : Turn). t scope before) (steps-layer width (Event path) (layer.Event path) (outs-Event path))

pub steps-Region : (width : Width) (path : Path) (space offset len : ℕ) (scope : Place) (before : List Step) → steps_of width (Region path space offset len) scope before ≡ []
steps-Region width path space offset len scope before =
    ap (λ (t : Turn). t scope before) (steps-layer width (Region path space offset len) (layer.Region path space offset len) (outs-Region path space offset len))

-- a step, and what is done inside from its place on
pub inside_step : (width : Width) (step : Step) (terms ts : List Term) (place : Place) (before whole : List Step) → ts ≡ terms → place ≡ step.place
    → whole ≡ step ∷ steps_in width terms step.place (before ++ step ∷ [])
    → (before ++ step ∷ []) ++ steps_in width ts place (before ++ step ∷ []) ≡ before ++ whole
inside_step width step terms ts place before whole same at is =
    rw (is, same, at) (append_assoc before (step ∷ []) (steps_in width terms step.place (before ++ step ∷ [])))
