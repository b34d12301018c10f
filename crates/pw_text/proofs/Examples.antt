-- Lines, fields and paths, read by computation alone.
use Rattle.std.proofs.Common.{◌≡◌, [], ◌∷◌, ◌++◌, refl, Some, None}
use Rattle.std.specs.Prelude.{codes}
use Rattle.pw_text.specs.Fields.{fields_of, lines_of}
use Rattle.pw_text.specs.Forms.{name_of}

endings : lines_of (codes "a" ++ 13 ∷ 10 ∷ 10 ∷ codes "b" ++ 13 ∷ []) ≡ codes "a" ∷ [] ∷ (codes "b" ++ 13 ∷ []) ∷ []
endings = refl

last_empty : lines_of (codes "a" ++ 10 ∷ []) ≡ codes "a" ∷ []
last_empty = refl

one_empty : lines_of (10 ∷ []) ≡ [] ∷ []
one_empty = refl

fields : fields_of (codes "  idle  3 60 ") ≡ codes "idle" ∷ codes "3" ∷ codes "60" ∷ []
fields = refl

path : name_of (92 ∷ codes "_SB.CPU0.A") ≡ Some (codes "_SB_CPU0A___")
path = refl

no_path : name_of (92 ∷ codes "_SB..A") ≡ None
no_path = refl
