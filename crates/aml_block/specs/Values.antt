-- The objects that terms name.
use Rattle.std.specs.Prelude.{ℕ, List}
use Rattle.std.specs.List.{Contains}
use Rattle.aml_data.specs.declared.data.Data.{Data}
use Rattle.aml_data.specs.declared.path.Path.{Path}
use Rattle.aml_block.specs.declared.term.Term.{Term}
use Rattle.aml_block.specs.declared.term.Term.TheVariants.{Name, Scope, Device, Processor}

-- an object is the value of a Name among these terms, or among those that one of them holds
pub data HasValue (value : Data) : List Term → Type 0 where
  value_of_name : {terms : List Term} (path : Path) → Contains terms (Name path value) → HasValue value terms
  value_in_scope : {terms : List Term} (path : Path) (inner : List Term) → Contains terms (Scope path inner) → HasValue value inner
      → HasValue value terms
  value_in_device : {terms : List Term} (path : Path) (inner : List Term) → Contains terms (Device path inner) → HasValue value inner
      → HasValue value terms
  value_in_processor : {terms : List Term} (path : Path) (id block len : ℕ) (inner : List Term)
      → Contains terms (Processor path id block len inner)
      → HasValue value inner → HasValue value terms
