-- Lists of findings.
use Rattle.std.specs.Prelude.{ℕ, zero, suc, ◌++◌, ◌∷◌, Bool, List, [], if◌then◌else◌}
use Rattle.aml_data.specs.declared.path.FullPath.{FullPath}
use Rattle.pw_findings.specs.declared.finding.Finding.{Finding}
use Rattle.pw_findings.specs.declared.finding.FindingKind.{FindingKind}

-- this of the object at a path
abbrev pub finding : FullPath → FindingKind → Finding
finding path kind = record { path = path; kind = kind }

-- it alone, where a test holds
abbrev pub when : Bool → Finding → List Finding
when holds found = if holds then found ∷ [] else []

-- what is found of each number below n
abbrev pub of_each : ℕ → (ℕ → List Finding) → List Finding
of_each zero found = []
of_each (suc n) found = of_each n found ++ found n
