-- The name of a method: the one that its body begins with (ACPI 6.5, 20.2.5.2).
use Rattle.std.specs.Prelude.{◌≡◌, ◌<◌, ℕ, List, ◌++◌, length}
use Rattle.aml_data.specs.declared.path.Path.{Path}
use Rattle.aml_data.specs.Grammar.{NameOf}

-- The body begins with a spelling of this name, which has a segment.
pub record IsMethodName (body : List ℕ) (path : Path) : Type 0 where
  pub front : List ℕ
  pub rest : List ℕ
  pub parts : body ≡ front ++ rest
  pub spelled : NameOf path front
  pub some : 0 < length path.segs
