-- The plan of the machine that is generated, whole.
use Rattle.std.proofs.Common.{◌≡◌, ◌<◌, ◌≤◌, ◌+◌, ◌*◌, ◌/◌, ◌%◌, ℕ, suc, zero, List, [], ◌∷◌, ◌++◌, map, Result, Ok, Err, refl, sym, subst, ap, ◌∙◌, arith}
use Rattle.std.specs.Prelude.{All}
use Rattle.std.specs.List.{range_with_len}
use Rattle.std.proofs.lemmas.List.Elements.{recursion_from_All}
use Rattle.acpi_space.specs.Distinct.{IsDistinct}
use Rattle.acpi_space.specs.Namespace.{Entry, entries_in, places_of}
use Rattle.acpi_build.specs.declared.fault.BuildFault.{BuildFault}
use Rattle.acpi_build.specs.declared.fault.BuildFault.TheVariants.{Limit, Memory, Object}
use Rattle.acpi_build.specs.declared.note.Note.{Note}
use Rattle.acpi_build.specs.Building.{Build, IsFault, Remarks, built, each, noting}
use Rattle.acpi_build.specs.Machine.{Parts, container_parts, cpu_parts, parts_of}
use Rattle.acpi_build.specs.Planning.{IsPlanFrom, parts_within, unfit_notes}
use Rattle.pw_plan.specs.declared.plan.Plan.{Plan}
use Rattle.pw_plan.specs.Domains.{IsDomain}
use Rattle.pw_generate.proofs.Fitness.{none_noted}
use Rattle.pw_generate.specs.Machines.{machine_block}
use Rattle.pw_generate.specs.Planned.{machine_container, machine_containers, machine_cpu, machine_cpus}
use Rattle.pw_generate.proofs.Entries.{machine_entries, machine_objects}
use Rattle.pw_generate.proofs.Limits.{none_passed}
use Rattle.pw_generate.proofs.Members.{machine_containers_are, machine_processors}
use Rattle.pw_generate.proofs.Numbered.{container_spot, machine_distinct, spot_of}
use Rattle.pw_generate.proofs.Parts.{container_made, cpu_made}

-- what stands in an answer
abbrev made_in : Parts × List Note → Result (Parts × List Note) BuildFault → Parts × List Note
made_in other (Ok made) = made
made_in other (Err fault) = other

-- all are made, and nothing is remarked
each_made : {A : Type 0} (f : ℕ → Build A) (spot : ℕ → ℕ) (made : ℕ → A) (a m : ℕ) (said : Remarks)
    → ((x : ℕ) → a ≤ x → x < a + m → f (spot x) said ≡ built (made x) said)
    → each f (map spot (range_with_len a m)) said ≡ built (map made (range_with_len a m)) said
each_made f spot made a zero said one = refl
each_made f spot made a (suc m) said one = rw (
  one a (omega arith) (omega arith),
  each_made f spot made (a + 1) m said
      (λ x l r. one x (omega arith) (omega arith)),
) refl

module _ (n : ℕ) (small : n ≤ 32) where
  abbrev entries : List Entry
  entries = machine_entries n

  all_containers : each (container_parts entries) (map container_spot (range_with_len 0 n)) (noting []) ≡ built (machine_containers n) (noting [])
  unfolding machine_containers
  all_containers = each_made (container_parts entries) container_spot machine_container 0 n (noting [])
      (λ c a b. container_made n small c (noting []) (omega arith))

  cpu_numbered : (p : ℕ) → p < 8 * n → cpu_parts entries (spot_of p) (noting []) ≡ built (machine_cpu p) (noting [])
  cpu_numbered p l =
      let whole : 8 * (p / 8) + p % 8 ≡ p = omega arith in
      cpu_made n small (p / 8) (p % 8) (noting []) (omega arith) (omega arith) ∙ ap (λ q. built (machine_cpu q) (noting [])) whole

  all_cpus : each (cpu_parts entries) (map spot_of (range_with_len 0 (8 * n))) (noting []) ≡ built (machine_cpus n) (noting [])
  unfolding machine_cpus
  all_cpus = each_made (cpu_parts entries) spot_of machine_cpu 0 (8 * n) (noting []) (λ p a b. cpu_numbered p (omega arith))

  machine_parts : parts_of entries (noting []) ≡ built (record { containers = machine_containers n; cpus = machine_cpus n }) (noting [])
  unfolding parts_of
  machine_parts = rw (machine_containers_are n small, all_containers, machine_processors n small, all_cpus) refl

  pub machine_planned : parts_within (entries_in (machine_block n ∷ [])) []
      ≡ Ok (record { containers = machine_containers n; cpus = machine_cpus n }, [])
  unfolding parts_within
  machine_planned = rw (machine_objects n, machine_parts, none_passed n small) refl

  -- no place is given twice
  pub machine_apart : IsDistinct (places_of (entries_in (machine_block n ∷ [])))
  machine_apart = subst (λ es. IsDistinct (places_of es)) (sym (machine_objects n)) (machine_distinct n small)

  -- what is found wrong is want of memory
  pub machine_faultless : (f : BuildFault) → IsFault f (parts_within (entries_in (machine_block n ∷ [])) []) → f ≡ Memory
  machine_faultless (Object path place why) is = absurd (let made = sym machine_planned ∙ is in cc)
  machine_faultless (Limit which number) is = absurd (let made = sym machine_planned ∙ is in cc)
  machine_faultless Memory is = refl

  -- each plan of it has its parts, and nothing is noted
  pub machine_plans : (P : Plan) (notes : List Note) → IsPlanFrom (entries_in (machine_block n ∷ [])) P notes
      → (P.containers ≡ machine_containers n) × (P.cpus ≡ machine_cpus n) × (notes ≡ [])
  machine_plans P notes is =
      let other : Parts × List Note = (record { containers = P.containers; cpus = P.cpus }, is.read) in
      let same = ap (made_in other) (sym is.parts ∙ machine_planned) in
      let cpus : P.cpus ≡ machine_cpus n = ap (λ (x : Parts × List Note). x.0.cpus) same in
      let domains = recursion_from_All (IsDomain (machine_cpus n)) P.domains
      (subst (λ ps. All (IsDomain ps) P.domains) cpus is.plan.domains_are.each) in (
        ap (λ (x : Parts × List Note). x.0.containers) same,
        cpus,
        is.notes_are ∙ ap (λ (x : Parts × List Note). x.1 ++ unfit_notes P.cpus 0 P.domains) same ∙ none_noted n P.cpus 0 P.domains domains,
      )
