-- What stands at the places that are looked for.
use Rattle.std.proofs.Common.{◌≡◌, ◌<◌, ◌≤◌, ◌+◌, ◌-◌, ◌*◌, ℕ, Bool, true, false, List, [], ◌∷◌, length, get_or, Some, None, refl, ap, sym, ◌∙◌, arith, length-append, codes}
use Rattle.std.specs.Prelude.{◌||◌, nat_eq, not}
use Rattle.std.specs.Cmp.Lexicographic.{pointwise}
use Rattle.std.specs.List.{AllByRecursion, flat_map, list_any}
use Rattle.std.proofs.lemmas.List.{get_or_append_left, get_or-append_right}
use Rattle.std.proofs.lemmas.List.Elements.{All-from_recursion}
use Rattle.aml_data.specs.declared.data.Data.{Data}
use Rattle.aml_data.specs.declared.data.Width.TheVariants.{W64}
use Rattle.acpi_space.specs.Lookup.{entry_in, no_entry, number_at, path_in}
use Rattle.acpi_space.specs.Namespace.{Entry}
use Rattle.acpi_space.specs.Places.{Place}
use Rattle.acpi_space.specs.Things.Thing.{data_object}
use Rattle.acpi_space.proofs.Lookups.{count_places, numbered, path_at, unnumbered}
use Rattle.acpi_build.specs.Tables.{looked_at}
use Rattle.acpi_build.specs.Building.{Remarks, built}
use Rattle.pw_plan.proofs.Lists.{each_append, each_flat_map}
use Rattle.pw_generate.specs.Machines.{cpus_of}
use Rattle.pw_generate.proofs.Ranges.{get_piece, length_pieces}
use Rattle.pw_generate.proofs.Entries.{container_entries, cpu_entries, front_entries, machine_entries, standing}
use Rattle.pw_generate.proofs.Numbered.{container_spot, cpu_spot, machine_distinct}

-- # Objects by their numbers

container_size : (c : ℕ) → length (container_entries c) ≡ 51
container_size c =
    let a = length-append (front_entries c) (flat_map (cpu_entries c) (cpus_of c)) in
    let b = length_pieces (cpu_entries c) 6 (λ p. refl) (8 * c) 8 in
    a ∙ ap (λ m. 3 + m) b

pub machine_size : (n : ℕ) → length (machine_entries n) ≡ 51 * n
unfolding machine_entries
machine_size n = length_pieces container_entries 51 container_size 0 n

at_container : (n c j : ℕ) → c < n → j < 51 → entry_in (machine_entries n) (container_spot c + j) ≡ get_or (container_entries c) j no_entry
unfolding machine_entries
at_container n c j l less = get_piece container_entries 51 container_size 0 n c j no_entry l less
    ∙ (let e : 0 + c ≡ c = omega arith in ap (λ x. get_or (container_entries x) j no_entry) e)

pub at_front : (n c j : ℕ) → c < n → j < 3 → entry_in (machine_entries n) (container_spot c + j) ≡ get_or (front_entries c) j no_entry
at_front n c j l less = at_container n c j l (omega arith)
    ∙ get_or_append_left (front_entries c) (flat_map (cpu_entries c) (cpus_of c)) no_entry j less

pub at_cpu : (n c i j : ℕ) → c < n → i < 8 → j < 6
    → entry_in (machine_entries n) (cpu_spot c i + j) ≡ get_or (cpu_entries c (8 * c + i)) j no_entry
at_cpu n c i j l less few =
    let cpus = flat_map (cpu_entries c) (cpus_of c) in
    let spot : cpu_spot c i + j ≡ container_spot c + (3 + (6 * i + j)) = omega arith in
    let back : 3 + (6 * i + j) - 3 ≡ 6 * i + j = omega arith in
    ap (entry_in (machine_entries n)) spot
    ∙ at_container n c (3 + (6 * i + j)) l (omega arith)
    ∙ get_or-append_right (front_entries c) cpus 3 (3 + (6 * i + j)) no_entry refl (omega arith)
    ∙ ap (λ k. get_or cpus k no_entry) back
    ∙ get_piece (cpu_entries c) 6 (λ p. refl) (8 * c) 8 i j no_entry less few

-- # Numbers by places

-- the number of an object's place
found_at : (n k : ℕ) (e : Entry) → n ≤ 32 → k < 51 * n → entry_in (machine_entries n) k ≡ e → number_at (machine_entries n) e.path ≡ Some k
found_at n k e small l is =
    let size = machine_size n in
    numbered (machine_entries n) k e.path (machine_distinct n small) (omega arith) (ap (λ (x : Entry). x.path) is)

pub found_in_container : (n c j : ℕ) (e : Entry) → n ≤ 32 → c < n → j < 3 → get_or (front_entries c) j no_entry ≡ e
    → number_at (machine_entries n) e.path ≡ Some (container_spot c + j)
found_in_container n c j e small l less is = found_at n (container_spot c + j) e small (omega arith) (at_front n c j l less ∙ is)

pub found_in_cpu : (n c i j : ℕ) (e : Entry) → n ≤ 32 → c < n → i < 8 → j < 6 → get_or (cpu_entries c (8 * c + i)) j no_entry ≡ e
    → number_at (machine_entries n) e.path ≡ Some (cpu_spot c i + j)
found_in_cpu n c i j e small l less few is = found_at n (cpu_spot c i + j) e small (omega arith) (at_cpu n c i j l less few ∙ is)

-- # Names that are given to nothing

abbrev last_of : Place → List ℕ
last_of [] = []
last_of (x ∷ []) = x
last_of (x ∷ y ∷ ys) = last_of (y ∷ ys)

-- whether some object has this name: it begins with no underscore, or is one of five
abbrev pub is_given : List ℕ → Bool
is_given seg = not (nat_eq (get_or seg 0 0) 95) || list_any (λ name. pointwise nat_eq name seg)
    (codes "_HID" ∷ codes "_LPI" ∷ codes "_PSS" ∷ codes "_PCT" ∷ codes "_PSD" ∷ [])

abbrev IsGiven : Entry → Type 0
IsGiven e = is_given (last_of e.path) ≡ true

all_given : (n : ℕ) → AllByRecursion IsGiven (machine_entries n)
unfolding machine_entries
all_given n = each_flat_map IsGiven container_entries 0 n
    (λ c l r. each_append IsGiven (front_entries c) (flat_map (cpu_entries c) (cpus_of c)) (refl, (refl, (refl, tt)))
    (each_flat_map IsGiven (cpu_entries c) (8 * c) 8 (λ p m s. (refl, (refl, (refl, (refl, (refl, (refl, tt)))))))))

pub not_found : (n : ℕ) (place : Place) → is_given (last_of place) ≡ false → number_at (machine_entries n) place ≡ None
not_found n place other = unnumbered (machine_entries n) place (λ among.
    let k = among.0 in
    let l : k < length (machine_entries n) = (let size = count_places (machine_entries n) in let a = among.1 in omega (arith, a, size)) in
    let given : is_given (last_of (path_in (machine_entries n) k)) ≡ true =
    All-from_recursion IsGiven (machine_entries n) (all_given n) k no_entry l in
    let same : path_in (machine_entries n) k ≡ place = sym (path_at (machine_entries n) k place l) ∙ among.2 in
    let yes = ap (λ q. is_given (last_of q)) same in
    cc)

-- # What is looked at

pub looks : (n k : ℕ) (place : Place) (object : Data) (said : Remarks) → number_at (machine_entries n) place ≡ Some k
    → entry_in (machine_entries n) k ≡ standing place (data_object object)
    → looked_at (machine_entries n) place said ≡ built (Some (record { object = object; width = W64 })) said
unfolding looked_at
looks n k place object said number is = rw (number, is) refl

pub looks_past : (n : ℕ) (place : Place) (said : Remarks) → is_given (last_of place) ≡ false
    → looked_at (machine_entries n) place said ≡ built None said
unfolding looked_at
looks_past n place said other = rw (not_found n place other) refl
