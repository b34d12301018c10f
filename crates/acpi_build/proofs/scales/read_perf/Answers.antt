use Rattle.std.proofs.Common.{◌≡◌, ◌∙◌, ℕ, Some, map, ap, sym, subst}
use Rattle.std.specs.Option.{option_map}
use Rattle.acpi_values.specs.declared.performance.PState.{PState}
use Rattle.acpi_build.specs.declared.names.Name.TheVariants as names
use Rattle.acpi_build.specs.inner.Answers.{Builds}
use Rattle.acpi_build.specs.Machine.{perf_of, scale_of}
use Rattle.acpi_build.specs.Tables.{pss_at}
use Rattle.acpi_build.proofs.Each.{builds_on}
use Rattle.acpi_build.proofs.scales.read_perf.Goals as goal
use Rattle.acpi_build.proofs.scales.read_perf.Goals.{in-Some+in_ok-perf_controls-in-Some, in-None}

pub returns-clause-value : goal.returns-clause-value
unfolding perf_of
returns-clause-value c =
    let space = c.args.space.now in
    let control : PState → ℕ = λ s. s.control in
    let states = option_map (λ v. v.items) c.in_ok-states.field-0 in
    let same : c.match-branch-2.controls ≡ option_map (map control) states = elim c.match-branch-2.branch [
      | in-Some+in_ok-perf_controls-in-Some w ↦ w.controls-is ∙ ap Some (w.in_ok-perf_controls-in-Some.ensures ∙ ap (map control) w.as_slice.ensures.value)
          ∙ sym (ap (λ o. option_map (map control) (option_map (λ v. v.items) o)) w.in-Some.is)
      | in-None w ↦ w.controls-is ∙ sym (ap (λ o. option_map (map control) (option_map (λ v. v.items) o)) w.in-None.is)
    ] in
    builds_on (λ o. o) c.scale.result c.args.said.now c.find_pss.new.said c.scale.new.said (pss_at space c.args.index)
    (λ found. scale_of space c.args.index names.Pct names.Ppc names.Psd (option_map (map control) found)) states c.in_ok-states.ensures.value
    (subst (λ l. Builds (λ o. o) c.scale.result c.find_pss.new.said c.scale.new.said (scale_of space c.args.index names.Pct names.Ppc names.Psd l)) same c.scale.ensures.value)
