-- The lines of the error output where objects make no plan.
use Rattle.std.specs.Prelude.{ℕ, ◌==◌, List, [], ◌∷◌, codes, decimal, if◌then◌else◌}
use Rattle.acpi_values.specs.declared.fault.Why.{Why}
use Rattle.acpi_values.specs.declared.fault.Why.TheVariants.{Kind, Count, Revision, Range, Register}
use Rattle.pw_text.specs.Lines.{line_of}
use Rattle.pw_text.specs.Text.{place_text}
use Rattle.acpi_build.specs.declared.fault.BuildFault.{BuildFault}
use Rattle.acpi_build.specs.declared.fault.BuildFault.TheVariants.{Object, Limit, Memory}
use Rattle.pw_check.specs.Numbers.{pair_text}

-- why an object means nothing
abbrev pub why_word : Why → List ℕ
why_word Kind = codes "kind"
why_word Count = codes "count"
why_word Revision = codes "revision"
why_word Range = codes "range"
why_word Register = codes "register"

-- what a limit of plans bounds, by its number
abbrev pub limit_word : ℕ → List ℕ
limit_word which =
    if which == 1 then codes "containers" else
    if which == 2 then codes "processors" else
    if which == 3 then codes "depth" else
    if which == 4 then codes "children" else
    codes "states"

-- The line of a fault: the object that means nothing, with the place in it (the element, and the element within that
-- one, both counted from 1, and 0 for the whole) and why; or the limit that is passed, and by which number.
abbrev pub refusal_line : BuildFault → List ℕ
refusal_line (Object path place why) = line_of (codes "object:" ∷ place_text path.segs ∷ codes "at"
    ∷ pair_text place.outer place.inner ∷ why_word why ∷ [])
refusal_line (Limit which number) = line_of (codes "limit:" ∷ limit_word which ∷ decimal number ∷ [])
refusal_line Memory = codes "no memory\n"
