-- How deep packages nest in a data object.
use Rattle.std.specs.Prelude.{ℕ, suc, List, [], ◌∷◌, max}
use Rattle.aml_data.specs.declared.data.Data.{Data, Data-F, fold-Data}
use Rattle.aml_data.specs.declared.data.Data.TheOpen as layer

-- the greatest of these numbers, or 0
abbrev pub greatest : List ℕ → ℕ
greatest [] = 0
greatest (n ∷ ns) = max n (greatest ns)

-- one layer of an object, of whose elements the nesting is known: a package is one level above the deepest of its elements
abbrev pub layer_nesting : Data-F ℕ → ℕ
layer_nesting (layer.Int n) = 0
layer_nesting layer.Ones = 0
layer_nesting layer.Revision = 0
layer_nesting (layer.Text text) = 0
layer_nesting (layer.Buffer buffer) = 0
layer_nesting (layer.Package count elements) = suc (greatest elements)
layer_nesting (layer.VarPackage counted) = suc (greatest counted.elements)
layer_nesting (layer.Path path) = 0

-- how many packages at most stand in one another in an object, itself among them
unfoldable pub nesting : Data → ℕ
nesting = fold-Data ℕ layer_nesting
