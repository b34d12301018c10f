use Rattle.std.proofs.Common.{Contains, MatchOption, ap, ◌∙◌}
use Rattle.acpi_space.specs.Namespace.{places_of}
use Rattle.acpi_space.specs.Standing.{IsFound}
use Rattle.acpi_space.specs.inner.Standing.{entries_at}
use Rattle.acpi_space.proofs.Known.{unplaced}
use Rattle.pw_base.proofs.Facts.{subst2}
use Rattle.acpi_space.proofs.space.Space.find.Goals as goal

pub returns-in-Some : goal.returns-in-Some
returns-in-Some c =
    subst2 (λ es q. MatchOption c.object_at.result (Contains (places_of es) q → ⊥) (λ p. IsFound es q p.now))
    (ap (entries_at c.self.inside.tree) c.as_slice-in-Some.ensures.value ∙ c.self.view_is) (c.in-Some.ensures.1 ∙ c.as_slice.ensures) c.object_at.ensures

pub returns-in-None : goal.returns-in-None
returns-in-None c =
    subst2 (λ es q. Contains (places_of es) q → ⊥) c.self.view_is c.as_slice.ensures
    (unplaced c.self.inside.tree c.self.inside.placed.items c.self.inside.index.items c.as_slice.result.now c.self.invariant c.in-None.ensures)
