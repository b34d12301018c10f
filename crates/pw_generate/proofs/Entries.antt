-- What the block that is generated places: objects in front and then processors, container by container.
use Rattle.std.proofs.Common.{◌≡◌, ℕ, List, [], ◌∷◌, ◌++◌, map, refl, ap, sym, ◌∙◌, append_assoc, codes}
use Rattle.std.specs.List.{flat_map, range_with_len}
use Rattle.std.proofs.lemmas.List.{append-nil, map-append}
use Rattle.aml_data.specs.declared.data.Data.{Data}
use Rattle.aml_data.specs.declared.data.Data.TheVariants.{Text}
use Rattle.aml_data.specs.declared.data.Width.TheVariants.{W64}
use Rattle.aml_block.specs.declared.term.Term.{Term}
use Rattle.acpi_space.specs.Things.{Thing}
use Rattle.acpi_space.specs.Things.Thing.{data_object, device}
use Rattle.acpi_space.specs.Places.{Place, place_of}
use Rattle.acpi_space.specs.Steps.{Step, Turn, gives, in_order, opens, steps_of}
use Rattle.acpi_space.specs.Namespace.{Entry, entries_in, entries_of, steps_of_blocks}
use Rattle.acpi_space.proofs.TermSteps.{steps-Device, steps-Name, steps-Scope}
use Rattle.acpi_idle.specs.Written.{lpi_object}
use Rattle.acpi_perf.specs.Written.{control_object, domain_object, pss_object}
use Rattle.pw_generate.specs.Names.{container_name, cpu_name}
use Rattle.pw_generate.specs.Machines.{container_objects, container_term, cpu_objects, cpu_term, cpus_of, from_here, from_root, machine_block, named}
use Rattle.pw_generate.specs.Tables.{container_idle, cpu_control, cpu_domain, cpu_idle, cpu_perf, machine_header}
use Rattle.pw_generate.proofs.Ranges.{map_pieces}

-- # The objects

abbrev pub standing : Place → Thing → Entry
standing place object = record { path = place; object = object; width = W64 }

abbrev pub root : List ℕ
root = codes "_SB_"

abbrev pub container_place : ℕ → Place
container_place c = root ∷ container_name c ∷ []

abbrev pub cpu_place : ℕ → ℕ → Place
cpu_place c p = root ∷ container_name c ∷ cpu_name p ∷ []

-- an object right below a container
abbrev pub in_container : ℕ → List ℕ → Data → Entry
in_container c seg object = standing (root ∷ container_name c ∷ seg ∷ []) (data_object object)

-- an object right below a processor
abbrev pub in_cpu : ℕ → ℕ → List ℕ → Data → Entry
in_cpu c p seg object = standing (root ∷ container_name c ∷ cpu_name p ∷ seg ∷ []) (data_object object)

-- a container and its own objects
abbrev pub front_entries : ℕ → List Entry
front_entries c =
    standing (container_place c) device
    ∷ in_container c (codes "_HID") (Text (codes "ACPI0010"))
    ∷ in_container c (codes "_LPI") (lpi_object container_idle)
    ∷ []

-- a processor and its objects
abbrev pub cpu_entries : ℕ → ℕ → List Entry
cpu_entries c p =
    standing (cpu_place c p) device
    ∷ in_cpu c p (codes "_HID") (Text (codes "ACPI0007"))
    ∷ in_cpu c p (codes "_LPI") (lpi_object cpu_idle)
    ∷ in_cpu c p (codes "_PSS") (pss_object cpu_perf)
    ∷ in_cpu c p (codes "_PCT") (control_object cpu_control)
    ∷ in_cpu c p (codes "_PSD") (domain_object (cpu_domain c))
    ∷ []

abbrev pub container_entries : ℕ → List Entry
container_entries c = front_entries c ++ flat_map (cpu_entries c) (cpus_of c)

unfoldable pub machine_entries : ℕ → List Entry
machine_entries n = flat_map container_entries (range_with_len 0 n)

-- # Terms whose steps don't look at what was done before

in_order_same : {X : Type 0} (term : X → Term) (h : X → List Step) (scope : Place)
    → ((x : X) (before : List Step) → steps_of W64 (term x) scope before ≡ h x) → (xs : List X) (before : List Step)
    → in_order (map (steps_of W64) (map term xs)) scope before ≡ flat_map h xs
in_order_same term h scope each [] before = refl
in_order_same term h scope each (x ∷ xs) before = rw (each x before, in_order_same term h scope each xs (before ++ h x)) refl

in_order_append : (ts us : List Turn) (scope : Place) (before : List Step)
    → in_order (ts ++ us) scope before ≡ in_order ts scope before ++ in_order us scope (before ++ in_order ts scope before)
in_order_append [] us scope before = rw append-nil refl
in_order_append (t ∷ ts) us scope before = simp (in_order_append ts us scope (before ++ t scope before), append_assoc)

-- # Steps

-- the step of an object
abbrev step_of : Entry → Step
step_of e = gives e.width e.path e.object

entries_of_steps : (es : List Entry) → entries_of (map step_of es) ≡ es
entries_of_steps [] = refl
entries_of_steps (e ∷ es) = ap (λ rest. e ∷ rest) (entries_of_steps es)

named_step : (scope : Place) (seg : List ℕ) (value : Data) (before : List Step)
    → steps_of W64 (named seg value) scope before ≡ gives W64 (place_of scope (from_here seg)) (data_object value) ∷ []
named_step scope seg value before = steps-Name W64 (from_here seg) value scope before

cpu_steps : (c p : ℕ) (before : List Step) → steps_of W64 (cpu_term c p) (container_place c) before ≡ map step_of (cpu_entries c p)
unfolding cpu_term
cpu_steps c p before = steps-Device W64 (from_here (cpu_name p)) (cpu_objects c) (container_place c) before ∙ simp named_step

container_steps : (c : ℕ) (before : List Step) → steps_of W64 (container_term c) (root ∷ []) before ≡ map step_of (container_entries c)
unfolding container_term
container_steps c before =
    let now = before ++ gives W64 (container_place c) device ∷ [] in
    let own = map (steps_of W64) container_objects in
    let later = now ++ in_order own (container_place c) now in
    let front : gives W64 (container_place c) device ∷ in_order own (container_place c) now ≡ map step_of (front_entries c) =
    simp named_step in
    let behind : in_order (map (steps_of W64) (map (cpu_term c) (cpus_of c))) (container_place c) later
    ≡ flat_map (λ p. map step_of (cpu_entries c p)) (cpus_of c) =
    in_order_same (cpu_term c) (λ p. map step_of (cpu_entries c p)) (container_place c) (cpu_steps c) (cpus_of c) later in
    steps-Device W64 (from_here (container_name c)) (container_objects ++ map (cpu_term c) (cpus_of c)) (root ∷ []) before
    ∙ ap (λ ts. gives W64 (container_place c) device ∷ in_order ts (container_place c) now)
    (map-append (steps_of W64) container_objects (map (cpu_term c) (cpus_of c)))
    ∙ ap (λ ss. gives W64 (container_place c) device ∷ ss)
    (in_order_append own (map (steps_of W64) (map (cpu_term c) (cpus_of c))) (container_place c) now)
    ∙ ap (λ ss. ss ++ in_order (map (steps_of W64) (map (cpu_term c) (cpus_of c))) (container_place c) later) front
    ∙ ap (λ ss. map step_of (front_entries c) ++ ss) (behind ∙ sym (map_pieces step_of (cpu_entries c) (cpus_of c)))
    ∙ sym (map-append step_of (front_entries c) (flat_map (cpu_entries c) (cpus_of c)))

machine_steps : (n : ℕ) → steps_of_blocks (machine_block n ∷ []) ≡ opens (root ∷ []) ∷ map step_of (machine_entries n)
unfolding machine_block machine_header machine_entries
machine_steps n =
    let terms = map container_term (range_with_len 0 n) in
    let now = opens (root ∷ []) ∷ [] in
    append-nil _ ∙ append-nil _ ∙ steps-Scope W64 (from_root root) terms [] []
    ∙ ap (λ ss. opens (root ∷ []) ∷ ss) (in_order_same container_term (λ c. map step_of (container_entries c)) (root ∷ []) container_steps
    (range_with_len 0 n) now
    ∙ sym (map_pieces step_of container_entries (range_with_len 0 n)))

-- what the block places
pub machine_objects : (n : ℕ) → entries_in (machine_block n ∷ []) ≡ machine_entries n
machine_objects n = ap entries_of (machine_steps n) ∙ entries_of_steps (machine_entries n)
