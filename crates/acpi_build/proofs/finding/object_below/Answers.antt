use Rattle.std.proofs.Common.{◌++◌, ◌∷◌, [], MatchOption, subst}
use Rattle.std.specs.Prelude.{Contains}
use Rattle.acpi_space.specs.Lookup.{no_entry, path_in}
use Rattle.acpi_space.specs.Namespace.{places_of}
use Rattle.acpi_space.specs.Standing.{IsFound}
use Rattle.acpi_build.specs.Finding.{place_below}
use Rattle.acpi_build.proofs.Found.{found_number, found_object, found_width}
use Rattle.acpi_build.proofs.finding.object_below.Goals as goal

pub returns-clause-number : goal.returns-clause-number
returns-clause-number c =
    let space = c.args.space.now in
    found_number (λ p. p.now) space (place_below space c.args.index c.args.name) c.find_below.result c.placed-objects.ensures.distinct
    (subst (λ s. MatchOption c.find_below.result (Contains (places_of space) (path_in space c.args.index ++ s ∷ []) → ⊥) (λ p. IsFound space (path_in space c.args.index ++ s ∷ []) p.now))
    c.segment.ensures (c.find_below.ensures no_entry))

pub returns-clause-object : goal.returns-clause-object
returns-clause-object c =
    let space = c.args.space.now in
    found_object (λ p. p.now) space (path_in space c.args.index ++ c.segment.result ∷ []) c.find_below.result (c.find_below.ensures no_entry)

pub returns-clause-width : goal.returns-clause-width
returns-clause-width c =
    let space = c.args.space.now in
    found_width (λ p. p.now) space (path_in space c.args.index ++ c.segment.result ∷ []) c.find_below.result (c.find_below.ensures no_entry)
