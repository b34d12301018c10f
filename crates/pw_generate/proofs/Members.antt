-- Which objects are containers and processors, and in which order.
use Rattle.std.proofs.Common.{◌≡◌, ◌<◌, ◌≤◌, ◌+◌, ◌*◌, ℕ, suc, zero, Bool, true, false, List, [], ◌∷◌, ◌++◌, map, length, get_or, Some, refl, ap, sym, ◌∙◌, arith, codes}
use Rattle.std.specs.Prelude.{◌==◌, filter, nat_eq, nat_lt}
use Rattle.std.proofs.lemmas.Bool.Decides.{nat_tests}
use Rattle.std.specs.Cmp.Lexicographic.{pointwise}
use Rattle.std.specs.List.{AllByRecursion, flat_map, fold, range_with_len}
use Rattle.std.proofs.lemmas.List.{append-nil}
use Rattle.std.proofs.lemmas.List.Concat.{flat_map_single}
use Rattle.std.proofs.lemmas.List.Elements.{filter-append}
use Rattle.aml_data.specs.declared.data.Data.TheVariants.{Text}
use Rattle.aml_data.specs.declared.data.Data.TheViews.{outs-Text}
use Rattle.acpi_space.specs.Lookup.{entry_in, no_entry, number_at, path_in}
use Rattle.acpi_space.specs.Namespace.{Entry}
use Rattle.acpi_space.specs.Places.{Place}
use Rattle.acpi_space.specs.Things.{Thing}
use Rattle.acpi_space.specs.Things.Thing.{data_object, device, processor, method, alias_of}
use Rattle.acpi_build.specs.Finding.{by_depth, container_id, containers_of, depth_in, greater, has_id, is_container, is_declared, is_device, is_processor, layer_is_text, most_segments, numbers_of, processor_id, processors_of}
use Rattle.pw_plan.proofs.Ordered.{each_weaker}
use Rattle.pw_generate.proofs.Ranges.{filter_every, filter_first, filter_no, filter_none, filter_pieces, map_from, map_pieces, range_append, range_pieces, same_map, same_pieces}
use Rattle.pw_generate.proofs.Entries.{container_place, cpu_entries, cpu_place, front_entries, machine_entries, standing}
use Rattle.pw_generate.proofs.Numbered.{container_spot, cpu_spot, spot_is, spot_of}
use Rattle.pw_generate.proofs.Looking.{at_cpu, at_front, found_in_container, found_in_cpu, machine_size}
use Rattle.acpi_build.proofs.Parents.{of_depth}

-- # The order by depth

depth_stays : (entries : List Entry) (d : ℕ) (ks : List ℕ) → AllByRecursion (λ k. depth_in entries k ≡ d) ks
    → fold (λ m k. greater m (depth_in entries k)) d ks ≡ d
depth_stays entries d [] all = refl
depth_stays entries d (k ∷ ks) all =
    let same : nat_lt d d ≡ false = grind (arith, nat_tests) in
    rw (all.0, same) (depth_stays entries d ks all.1)

two_kept : (entries : List Entry) (ks : List ℕ) → AllByRecursion (λ k. depth_in entries k ≡ 2) ks
    → flat_map (of_depth entries ks) (range_with_len 0 3) ≡ ks
two_kept entries ks all =
    let first : of_depth entries ks 0 ≡ [] = filter_no (λ k. depth_in entries k == 0) ks
    (each_weaker _ _ ks (λ k e. ap (λ d. d == 0) e) all) in
    let second : of_depth entries ks 1 ≡ [] = filter_no (λ k. depth_in entries k == 1) ks
    (each_weaker _ _ ks (λ k e. ap (λ d. d == 1) e) all) in
    let third : of_depth entries ks 2 ≡ ks = filter_every (λ k. depth_in entries k == 2) ks
    (each_weaker _ _ ks (λ k e. ap (λ d. d == 2) e) all) in
    rw (first, second, third) (append-nil ks)

-- where all stand at one depth, they keep their order
by_depth_same : (entries : List Entry) (ks : List ℕ) → AllByRecursion (λ k. depth_in entries k ≡ 2) ks → by_depth entries ks ≡ ks
by_depth_same entries [] all = refl
by_depth_same entries (k ∷ ks) all =
    let most : most_segments entries (k ∷ ks) ≡ 2 =
    ap (λ d. fold (λ m j. greater m (depth_in entries j)) (greater 0 d) ks) all.0 ∙ depth_stays entries 2 ks all.1 in
    ap (λ m. flat_map (of_depth entries (k ∷ ks)) (range_with_len 0 (m + 1))) most ∙ two_kept entries (k ∷ ks) all

-- # One object

abbrev is_data : Thing → Bool
is_data (data_object d) = true
is_data device = false
is_data processor = false
is_data method = false
is_data (alias_of name) = false

data_declares : (x : Thing) → is_data x ≡ true → (is_device x ≡ false) × (is_declared x ≡ false)
data_declares (data_object d) e = (refl, refl)
data_declares device e = cc
data_declares processor e = cc
data_declares method e = cc
data_declares (alias_of name) e = cc

front_data : (c j : ℕ) → j < 2 → is_data (get_or (front_entries c) (suc j) no_entry).object ≡ true
front_data c zero l = refl
front_data c (suc zero) l = refl
front_data c (suc (suc j)) l = absurd (omega arith)

cpu_data : (c p j : ℕ) → j < 5 → is_data (get_or (cpu_entries c p) (suc j) no_entry).object ≡ true
cpu_data c p zero l = refl
cpu_data c p (suc zero) l = refl
cpu_data c p (suc (suc zero)) l = refl
cpu_data c p (suc (suc (suc zero))) l = refl
cpu_data c p (suc (suc (suc (suc zero)))) l = refl
cpu_data c p (suc (suc (suc (suc (suc j))))) l = absurd (omega arith)

-- the identifier of an object
id_is : (n k m : ℕ) (place : Place) (id text : List ℕ) → path_in (machine_entries n) k ≡ place
    → number_at (machine_entries n) (place ++ codes "_HID" ∷ []) ≡ Some m
    → (entry_in (machine_entries n) m).object ≡ data_object (Text id) → has_id (machine_entries n) text k ≡ pointwise nat_eq id text
id_is n k m place id text path number is = rw (path, number, is) (ap (layer_is_text text) (outs-Text id))

-- an object that holds data is neither
record Holds (entries : List Entry) (k : ℕ) : Type 0 where
  pub container : is_container entries k ≡ false
  pub processor : is_processor entries k ≡ false

data_is_none : (entries : List Entry) (k : ℕ) → is_data (entry_in entries k).object ≡ true → Holds entries k
data_is_none entries k is =
    let d = data_declares (entry_in entries k).object is in
    record { container = rw d.0 refl; processor = rw (d.0, d.1) refl }

module _ (n : ℕ) (small : n ≤ 32) where
  abbrev entries : List Entry
  entries = machine_entries n

  pub at_first : (c : ℕ) → c < n → entry_in entries (container_spot c) ≡ standing (container_place c) device
  at_first c l = let e : container_spot c ≡ container_spot c + 0 = omega arith in ap (entry_in entries) e ∙ at_front n c 0 l (omega arith)

  pub at_cpu_first : (c i : ℕ) → c < n → i < 8 → entry_in entries (cpu_spot c i) ≡ standing (cpu_place c (8 * c + i)) device
  at_cpu_first c i l less = let e : cpu_spot c i ≡ cpu_spot c i + 0 = omega arith in
      ap (entry_in entries) e ∙ at_cpu n c i 0 l less (omega arith)

  container_text : (c : ℕ) (text : List ℕ) → c < n → has_id entries text (container_spot c) ≡ pointwise nat_eq container_id text
  container_text c text l = id_is n (container_spot c) (container_spot c + 1) (container_place c) container_id text
      (ap (λ (e : Entry). e.path) (at_first c l))
      (found_in_container n c 1 _ small l (omega arith) refl) (ap (λ (e : Entry). e.object) (at_front n c 1 l (omega arith)))

  cpu_text : (c i : ℕ) (text : List ℕ) → c < n → i < 8 → has_id entries text (cpu_spot c i) ≡ pointwise nat_eq processor_id text
  cpu_text c i text l less = id_is n (cpu_spot c i) (cpu_spot c i + 1) (cpu_place c (8 * c + i)) processor_id text
      (ap (λ (e : Entry). e.path) (at_cpu_first c i l less))
      (found_in_cpu n c i 1 _ small l less (omega arith) refl) (ap (λ (e : Entry). e.object) (at_cpu n c i 1 l less (omega arith)))

  container_is : (c : ℕ) → c < n → (is_container entries (container_spot c) ≡ true) × (is_processor entries (container_spot c) ≡ false)
  container_is c l = let at = at_first c l in (rw (at, container_text c container_id l) refl, rw (at, container_text c processor_id l) refl)

  cpu_is : (c i : ℕ) → c < n → i < 8 → (is_container entries (cpu_spot c i) ≡ false) × (is_processor entries (cpu_spot c i) ≡ true)
  cpu_is c i l less = let at = at_cpu_first c i l less in
      (rw (at, cpu_text c i container_id l less) refl, rw (at, cpu_text c i processor_id l less) refl)

  front_none : (c j : ℕ) → c < n → j < 2 → Holds entries (container_spot c + suc j)
  front_none c j l less = data_is_none entries (container_spot c + suc j)
      (ap (λ (e : Entry). is_data e.object) (at_front n c (suc j) l (omega arith)) ∙ front_data c j less)

  cpu_none : (c i j : ℕ) → c < n → i < 8 → j < 5 → Holds entries (cpu_spot c i + suc j)
  cpu_none c i j l less few = data_is_none entries (cpu_spot c i + suc j)
      (ap (λ (e : Entry). is_data e.object) (at_cpu n c i (suc j) l less (omega arith)) ∙ cpu_data c (8 * c + i) j few)

  -- # Their numbers

  -- the numbers of one container's objects
  pieces : (t : ℕ → Bool) (c : ℕ) → filter t (range_with_len (container_spot c) 51)
      ≡ filter t (range_with_len (container_spot c) 3) ++ flat_map (λ i. filter t (range_with_len (cpu_spot c i) 6)) (range_with_len 0 8)
  pieces t c =
      let start : cpu_spot c 0 ≡ container_spot c + 3 = omega arith in
      ap (filter t) (range_append (container_spot c) 3 48)
      ∙ filter-append t (range_with_len (container_spot c) 3) (range_with_len (container_spot c + 3) 48)
      ∙ ap (λ ks. filter t (range_with_len (container_spot c) 3) ++ filter t ks) (ap (λ x. range_with_len x 48) (sym start)
      ∙ sym (range_pieces 6 (cpu_spot c) (λ i. (omega arith)) 0 8))
      ∙ ap (λ ks. filter t (range_with_len (container_spot c) 3) ++ ks)
      (filter_pieces t (λ i. range_with_len (cpu_spot c i) 6) (range_with_len 0 8))

  whole : (t : ℕ → Bool) → filter t (numbers_of entries)
      ≡ flat_map (λ c. filter t (range_with_len (container_spot c) 51)) (range_with_len 0 n)
  whole t =
      ap (λ m. filter t (range_with_len 0 m)) (machine_size n)
      ∙ ap (filter t) (sym (range_pieces 51 container_spot (λ c. (omega arith)) 0 n))
      ∙ filter_pieces t (λ c. range_with_len (container_spot c) 51) (range_with_len 0 n)

  containers_in : (c : ℕ) → c < n → filter (is_container entries) (range_with_len (container_spot c) 51) ≡ container_spot c ∷ []
  containers_in c l =
      let t = is_container entries in
      let front : filter t (range_with_len (container_spot c) 3) ≡ container_spot c ∷ [] =
      filter_first t (container_spot c) 2 (container_is c l).0 (λ j less. (front_none c j l less).container) in
      let behind : flat_map (λ i. filter t (range_with_len (cpu_spot c i) 6)) (range_with_len 0 8) ≡ [] =
      same_pieces (λ i. filter t (range_with_len (cpu_spot c i) 6)) (λ i. []) 0 8
      (λ i a b. filter_none t (cpu_spot c i) 6 (λ j less. no_container c i j l (omega arith) less)) in
      pieces t c ∙ ap (λ ks. ks ++ flat_map (λ i. filter t (range_with_len (cpu_spot c i) 6)) (range_with_len 0 8)) front
      ∙ ap (λ ks. container_spot c ∷ ks) behind
    where
      no_container : (c i j : ℕ) → c < n → i < 8 → j < 6 → is_container entries (cpu_spot c i + j) ≡ false
      no_container c i zero l less few = let e : cpu_spot c i + 0 ≡ cpu_spot c i = omega arith in
          ap (is_container entries) e ∙ (cpu_is c i l less).0
      no_container c i (suc j) l less few = (cpu_none c i j l less (omega arith)).container

  processors_in : (c : ℕ) → c < n → filter (is_processor entries) (range_with_len (container_spot c) 51)
      ≡ map (cpu_spot c) (range_with_len 0 8)
  processors_in c l =
      let t = is_processor entries in
      let front : filter t (range_with_len (container_spot c) 3) ≡ [] =
      filter_none t (container_spot c) 3 (λ j less. no_processor c j l less) in
      let behind : flat_map (λ i. filter t (range_with_len (cpu_spot c i) 6)) (range_with_len 0 8)
      ≡ flat_map (λ i. cpu_spot c i ∷ []) (range_with_len 0 8) =
      same_pieces (λ i. filter t (range_with_len (cpu_spot c i) 6)) (λ i. cpu_spot c i ∷ []) 0 8
      (λ i a b. filter_first t (cpu_spot c i) 5 (cpu_is c i l (omega arith)).1 (λ j less. (cpu_none c i j l (omega arith) less).processor))
      in
      pieces t c ∙ ap (λ ks. ks ++ flat_map (λ i. filter t (range_with_len (cpu_spot c i) 6)) (range_with_len 0 8)) front ∙ behind
      ∙ flat_map_single (cpu_spot c) (range_with_len 0 8)
    where
      no_processor : (c j : ℕ) → c < n → j < 3 → is_processor entries (container_spot c + j) ≡ false
      no_processor c zero l less = let e : container_spot c + 0 ≡ container_spot c = omega arith in
          ap (is_processor entries) e ∙ (container_is c l).1
      no_processor c (suc j) l less = (front_none c j l (omega arith)).processor

  -- the containers among the objects
  unsorted : filter (is_container entries) (numbers_of entries) ≡ map container_spot (range_with_len 0 n)
  unsorted =
      whole (is_container entries)
      ∙ same_pieces (λ c. filter (is_container entries) (range_with_len (container_spot c) 51)) (λ c. container_spot c ∷ []) 0 n
      (λ c a b. containers_in c (omega arith))
      ∙ flat_map_single container_spot (range_with_len 0 n)

  pub machine_processors : processors_of entries ≡ map spot_of (range_with_len 0 (8 * n))
  unfolding processors_of
  machine_processors =
      whole (is_processor entries)
      ∙ same_pieces (λ c. filter (is_processor entries) (range_with_len (container_spot c) 51))
      (λ c. map spot_of (range_with_len (8 * c) 8)) 0 n
      (λ c a b. processors_in c (omega arith) ∙ sym (map_from spot_of (8 * c) 8
      ∙ same_map (λ i. spot_of (8 * c + i)) (cpu_spot c) 0 8 (λ i d e. spot_is c i (omega arith))))
      ∙ sym (ap (map spot_of) (sym (range_pieces 8 (λ c. 8 * c) (λ c. (omega arith)) 0 n))
      ∙ map_pieces spot_of (λ c. range_with_len (8 * c) 8) (range_with_len 0 n))

  -- each stands at depth 2
  two_deep : AllByRecursion (λ k. depth_in entries k ≡ 2) (map container_spot (range_with_len 0 n))
  two_deep = each_in_range 0 n (λ c a b. ap (λ (e : Entry). length e.path) (at_first c (omega arith)))
    where
      each_in_range : (a m : ℕ) → ((c : ℕ) → a ≤ c → c < a + m → depth_in entries (container_spot c) ≡ 2)
          → AllByRecursion (λ k. depth_in entries k ≡ 2) (map container_spot (range_with_len a m))
      each_in_range a zero each = tt
      each_in_range a (suc m) each = (
        each a (omega arith) (omega arith),
        each_in_range (a + 1) m
            (λ c l r. each c (omega arith) (omega arith)),
      )

  pub machine_containers_are : containers_of entries ≡ map container_spot (range_with_len 0 n)
  unfolding containers_of
  machine_containers_are = ap (by_depth entries) unsorted ∙ by_depth_same entries (map container_spot (range_with_len 0 n)) two_deep
