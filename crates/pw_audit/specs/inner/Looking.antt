-- Looking processors up by their paths.
use Rattle.std.specs.Prelude.{◌≡◌, ◌<◌, ℕ, suc, List, [], ◌∷◌, Vec, bytes_eq, Option, Some, None, if◌then◌else◌}
use Rattle.std.specs.List.{AllByRecursion}
use Rattle.std.specs.declared.alloc.Global.{Global}
use Rattle.std.specs.HashMap.{HashMap, get_by}

-- the first of these paths, numbered from n on, that is this one
abbrev pub cpu_by : ℕ → List (List ℕ) → List ℕ → Option ℕ
cpu_by n [] name = None
cpu_by n (path ∷ paths) name = if bytes_eq path name then Some n else cpu_by (suc n) paths name

-- The map leads from these paths, numbered from n on, to their numbers.
abbrev pub LeadsTo : {S : Type 0} → ℕ → List (List ℕ) → HashMap (Vec ℕ Global) ℕ S → Type 0
LeadsTo n paths m = (q : Vec ℕ Global) → get_by (λ k. bytes_eq q.items k.items) m ≡ cpu_by n paths q.items

-- a word: no byte of it is a space, nor below
abbrev pub IsWord : List ℕ → Type 0
IsWord w = AllByRecursion (λ b. 32 < b) w
