-- What is read of each container and each processor.
use Rattle.std.proofs.Common.{◌≡◌, ◌<◌, ◌≤◌, ◌+◌, ◌*◌, ◌/◌, ℕ, false, List, [], ◌∷◌, ◌++◌, map, length, get_or, Option, Some, None, Ok, refl, ◌∙◌, arith, codes}
use Rattle.std.specs.Prelude.{◌==◌}
use Rattle.aml_data.specs.declared.data.Data.{Data}
use Rattle.aml_data.specs.declared.data.Width.TheVariants.{W64}
use Rattle.acpi_values.specs.declared.dependency.Dependency.{Dependency}
use Rattle.acpi_values.specs.declared.lpi.Lpi.{Lpi}
use Rattle.acpi_values.specs.declared.performance.ControlPair.{ControlPair}
use Rattle.acpi_values.specs.declared.performance.PState.{PState}
use Rattle.acpi_idle.specs.Lpis.{lpi_of}
use Rattle.acpi_idle.specs.Written.{lpi_object}
use Rattle.acpi_idle.proofs.Back.{lpi_back}
use Rattle.acpi_perf.specs.Objects.{control_of, domain_of}
use Rattle.acpi_perf.specs.Scales.{pss_of}
use Rattle.acpi_perf.specs.Written.{control_object, domain_object, pss_object}
use Rattle.acpi_perf.proofs.Back.{control_back, domain_back, pss_back}
use Rattle.acpi_space.specs.Lookup.{no_entry, path_in}
use Rattle.acpi_space.specs.Things.Thing.{data_object}
use Rattle.acpi_space.specs.Namespace.{Entry}
use Rattle.acpi_space.specs.Places.{Place}
use Rattle.acpi_build.specs.Building.{Remarks, built}
use Rattle.acpi_build.specs.Machine.{container_parts, cpu_parts, idle_of, idle_table, perf_of, scale_of, scale_with, throttle_of}
use Rattle.acpi_build.specs.Tables.{Given, control_at, cpc_at, csd_at, cst_at, dependency_at, limit_at, looked_at, lpi_at, pss_at, tss_at}
use Rattle.pw_generate.specs.Tables.{container_idle, cpu_control, cpu_domain, cpu_idle, cpu_perf}
use Rattle.pw_generate.proofs.TableRanges.{container_idle_is, cpu_domain_is, cpu_idle_is, cpu_perf_is}
use Rattle.pw_generate.specs.Planned.{machine_container, machine_cpu}
use Rattle.pw_generate.proofs.Entries.{container_place, cpu_entries, cpu_place, machine_entries, standing}
use Rattle.pw_generate.proofs.Numbered.{container_spot, cpu_spot}
use Rattle.pw_generate.proofs.Looking.{at_cpu, at_front, found_in_container, found_in_cpu, is_given, looks, looks_past}
use Rattle.pw_generate.proofs.Parents.{container_parent, container_path, cpu_parent, cpu_path}

-- # Tables

-- what is looked at below a place
abbrev Sees : List Entry → Place → List ℕ → Option Given → Type 0
Sees entries path seg o = (said : Remarks) → looked_at entries (path ++ seg ∷ []) said ≡ built o said

abbrev given : Data → Option Given
given object = Some (record { object = object; width = W64 })

lpi_read : (entries : List Entry) (k : ℕ) (path : Place) (object : Data) (lpi : Lpi) (said : Remarks) → path_in entries k ≡ path
    → Sees entries path (codes "_LPI") (given object)
    → lpi_of W64 object ≡ Ok lpi → (length lpi.states == 0) ≡ false → lpi_at entries k said ≡ built (Some lpi) said
unfolding lpi_at
lpi_read entries k path object lpi said at sees read some = rw (at, sees said, read, some) refl

idle_read : (entries : List Entry) (k : ℕ) (path : Place) (object : Data) (lpi : Lpi) (said : Remarks) → path_in entries k ≡ path
    → Sees entries path (codes "_LPI") (given object)
    → lpi_of W64 object ≡ Ok lpi → (length lpi.states == 0) ≡ false → Sees entries path (codes "_CST") None
    → Sees entries path (codes "_CSD") None
    → idle_of entries k said ≡ built ((idle_table (Some lpi) None, [])) said
unfolding idle_of cst_at csd_at
idle_read entries k path object lpi said at sees read some cst csd =
    rw (lpi_read entries k path object lpi said at sees read some, at, cst said, csd said) refl

perf_read : (entries : List Entry) (k : ℕ) (path : Place) (first second third : Data) (ps : List PState) (pair : ControlPair)
    (d : Dependency) (said : Remarks) → path_in entries k ≡ path
    → Sees entries path (codes "_PSS") (given first) → pss_of W64 first ≡ Ok ps → (length ps == 0) ≡ false
    → Sees entries path (codes "_PCT") (given second) → control_of second ≡ Ok pair
    → Sees entries path (codes "_PPC") None
    → Sees entries path (codes "_PSD") (given third) → domain_of W64 third ≡ Ok d
    → perf_of entries k said ≡ built (scale_with (Some (map (λ (s : PState). s.control) ps)) (Some pair) None (Some d)) said
unfolding perf_of scale_of pss_at control_at limit_at dependency_at
perf_read entries k path first second third ps pair d said at pss states some pct control ppc psd domain =
    rw (at, pss said, states, some, pct said, control, ppc said, psd said, domain) refl

throttle_read : (entries : List Entry) (k : ℕ) (path : Place) (said : Remarks) → path_in entries k ≡ path
    → Sees entries path (codes "_TSS") None → Sees entries path (codes "_PTC") None
    → Sees entries path (codes "_TPC") None → Sees entries path (codes "_TSD") None → throttle_of entries k said ≡ built None said
unfolding throttle_of scale_of tss_at control_at limit_at dependency_at
throttle_read entries k path said at tss ptc tpc tsd = rw (at, tss said, ptc said, tpc said, tsd said) refl

cpc_read : (entries : List Entry) (k : ℕ) (path : Place) (said : Remarks) → path_in entries k ≡ path
    → Sees entries path (codes "_CPC") None → cpc_at entries k said ≡ built None said
unfolding cpc_at
cpc_read entries k path said at cpc = rw (at, cpc said) refl

-- # What is written is read

container_lpi : (lpi_of W64 (lpi_object container_idle) ≡ Ok container_idle) × ((length container_idle.states == 0) ≡ false)
unfolding container_idle
container_lpi = (lpi_back W64 container_idle (omega arith) container_idle_is, refl)

cpu_lpi : (lpi_of W64 (lpi_object cpu_idle) ≡ Ok cpu_idle) × ((length cpu_idle.states == 0) ≡ false)
unfolding cpu_idle
cpu_lpi = (lpi_back W64 cpu_idle (omega arith) cpu_idle_is, refl)

cpu_pss : (pss_of W64 (pss_object cpu_perf) ≡ Ok cpu_perf) × ((length cpu_perf == 0) ≡ false)
unfolding cpu_perf
cpu_pss = (pss_back W64 cpu_perf cpu_perf_is, refl)

cpu_pct : control_of (control_object cpu_control) ≡ Ok cpu_control
unfolding cpu_control
cpu_pct = control_back cpu_control (omega arith) (omega arith)

cpu_psd : (c : ℕ) → c < 32 → domain_of W64 (domain_object (cpu_domain c)) ≡ Ok (cpu_domain c)
cpu_psd c l = domain_back W64 (cpu_domain c) (cpu_domain_is c (omega arith))

-- # The parts

module _ (n : ℕ) (small : n ≤ 32) where
  abbrev entries : List Entry
  entries = machine_entries n

  pub container_made : (c : ℕ) (said : Remarks) → c < n
      → container_parts entries (container_spot c) said ≡ built (machine_container c) said
  unfolding container_parts machine_container
  container_made c said l =
      let sees : Sees entries (container_place c) (codes "_LPI") (given (lpi_object container_idle)) =
      λ old. looks n (container_spot c + 2) _ (lpi_object container_idle) old (found_in_container n c 2 _ small l (omega arith) refl)
      (at_front n c 2 l (omega arith)) in
      let path = container_path n small c l in
      rw (
        lpi_read entries (container_spot c) (container_place c) (lpi_object container_idle) container_idle said path sees container_lpi.0
            container_lpi.1,
        path,
        container_parent n small c l,
      ) refl

  pub cpu_made : (c i : ℕ) (said : Remarks) → c < n → i < 8
      → cpu_parts entries (cpu_spot c i) said ≡ built (machine_cpu (8 * c + i)) said
  unfolding cpu_parts machine_cpu cpu_control
  cpu_made c i said l less =
      let p = 8 * c + i in
      let k = cpu_spot c i in
      let place = cpu_place c p in
      let own : p / 8 ≡ c = omega arith in
      let path = cpu_path n small c i l less in
      let sees : (j : ℕ) (seg : List ℕ) (object : Data) → j < 6
      → get_or (cpu_entries c p) j no_entry ≡ standing (place ++ seg ∷ []) (data_object object) → Sees entries place seg (given object) =
      λ j seg object few is old. looks n (k + j) (place ++ seg ∷ []) object old
      (found_in_cpu n c i j (standing (place ++ seg ∷ []) (data_object object)) small l less few is)
      (at_cpu n c i j l less few ∙ is) in
      let past : (seg : List ℕ) → is_given seg ≡ false → Sees entries place seg None =
      λ seg other old. looks_past n (place ++ seg ∷ []) old other in
      let idle = idle_read entries k place (lpi_object cpu_idle) cpu_idle said path
      (sees 2 (codes "_LPI") (lpi_object cpu_idle) (omega arith) refl) cpu_lpi.0 cpu_lpi.1
      (past (codes "_CST") refl) (past (codes "_CSD") refl) in
      let perf = perf_read entries k place (pss_object cpu_perf) (control_object cpu_control) (domain_object (cpu_domain c)) cpu_perf
      cpu_control (cpu_domain c) said path
      (sees 3 (codes "_PSS") (pss_object cpu_perf) (omega arith) refl) cpu_pss.0 cpu_pss.1
      (sees 4 (codes "_PCT") (control_object cpu_control) (omega arith) refl) cpu_pct
      (past (codes "_PPC") refl)
      (sees 5 (codes "_PSD") (domain_object (cpu_domain c)) (omega arith) refl) (cpu_psd c (omega arith)) in
      let throttle = throttle_read entries k place said path (past (codes "_TSS") refl) (past (codes "_PTC") refl)
      (past (codes "_TPC") refl) (past (codes "_TSD") refl) in
      let cpc = cpc_read entries k place said path (past (codes "_CPC") refl) in
      rw (idle, perf, throttle, cpc, path, cpu_parent n small c i l less, own) refl
