-- Who is a processor and who a container.
use Rattle.std.proofs.Common.{◌≡◌, ℕ, zero, suc, ◌+◌, ◌<◌, ◌≤◌, Bool, true, false, List, [], ◌∷◌, length, Option, Some, None, refl, sym, ap, subst, ◌∙◌, arith}
use Rattle.std.specs.Prelude.{All, Contains, filter, fold, cond, ◌&&◌, ◌||◌, ◌==◌}
use Rattle.std.specs.List.{flat_map, range_with_len}
use Rattle.std.proofs.lemmas.Bool.{false≢true}
use Rattle.std.proofs.lemmas.Bool.Decides.{nat_tests}
use Rattle.std.proofs.lemmas.List.{get_or_default}
use Rattle.std.proofs.lemmas.List.Elements.{All-contains, All-filter, Contains-append_left, Contains-append_right, filter_passes}
use Rattle.std.proofs.lemmas.List.FromFn.{get_or-range_with_len, length-range_with_len}
use Rattle.aml_data.specs.declared.data.Data.{Data, Data-F, out-Data, roll-Data, roll-out-Data}
use Rattle.aml_data.specs.declared.data.Data.TheOpen as layer
use Rattle.aml_data.specs.declared.data.Data.TheViews.{outs-Text, rolls-Text}
use Rattle.aml_data.specs.declared.data.Data.TheVariants.{Text}
use Rattle.acpi_space.specs.Distinct.{IsDistinct}
use Rattle.acpi_space.specs.Lookup.{entry_in, no_entry, number_at}
use Rattle.acpi_space.specs.Namespace.{Entry, places_of}
use Rattle.acpi_space.specs.Things.{Thing}
use Rattle.acpi_space.specs.Things.Thing.{data_object, device, processor, method, alias_of}
use Rattle.acpi_space.proofs.Known.{seg_decides}
use Rattle.acpi_space.proofs.Lookups.{numbered}
use Rattle.acpi_build.specs.declared.names.Name.TheVariants.{Hid}
use Rattle.acpi_build.specs.Finding.{container_id, containers_of, depth_in, greater, has_id, is_container, is_declared, is_device, is_processor, is_text, is_text_at, layer_is_text}
use Rattle.acpi_build.specs.Finding.{most_segments, numbers_of, place_below, processor_id, processors_of}
use Rattle.acpi_build.specs.Meaning.{HasHid, IsContainer, IsProcessor, is_declared_one, is_device as is_device_one}
use Rattle.acpi_build.proofs.Parents.{all_flat, both, containers_within, number_told, of_depth, processors_within}

-- # Texts

layer_text : (text : List ℕ) (d : Data) (l : Data-F Data) → d ≡ roll-Data l → layer_is_text text l ≡ true → d ≡ Text text
layer_text text d (layer.Text t) is e = is ∙ rolls-Text t ∙ ap Text ((seg_decides t text).0 e)
layer_text text d (layer.Int n) is e = absurd (false≢true e)
layer_text text d layer.Ones is e = absurd (false≢true e)
layer_text text d layer.Revision is e = absurd (false≢true e)
layer_text text d (layer.Buffer b) is e = absurd (false≢true e)
layer_text text d (layer.Package count elements) is e = absurd (false≢true e)
layer_text text d (layer.VarPackage c) is e = absurd (false≢true e)
layer_text text d (layer.Path path) is e = absurd (false≢true e)

text_thing : (text : List ℕ) (o : Thing) → is_text text o ≡ true → o ≡ data_object (Text text)
text_thing text (data_object d) e = ap data_object (layer_text text d (out-Data d) (sym (roll-out-Data d)) e)
text_thing text device e = absurd (false≢true e)
text_thing text processor e = absurd (false≢true e)
text_thing text method e = absurd (false≢true e)
text_thing text (alias_of name) e = absurd (false≢true e)

thing_text : (text : List ℕ) (o : Thing) → o ≡ data_object (Text text) → is_text text o ≡ true
thing_text text o is = rw (is, outs-Text text) ((seg_decides text text).1 refl)

-- # `_HID`

hid_told : (entries : List Entry) (k : ℕ) (text : List ℕ) (o : Option ℕ) → number_at entries (place_below entries k Hid) ≡ o → is_text_at entries text o ≡ true → HasHid entries k text
hid_told entries k text None at e = absurd (false≢true e)
hid_told entries k text (Some j) at e =
    let told = number_told entries (place_below entries k Hid) j at in
    (j, entry_in entries j, told.0, get_or_default entries j (entry_in entries j) no_entry told.0, (told.1, text_thing text (entry_in entries j).object e))

pub hid_to : (entries : List Entry) (k : ℕ) (text : List ℕ) → has_id entries text k ≡ true → HasHid entries k text
hid_to entries k text e = hid_told entries k text (number_at entries (place_below entries k Hid)) refl e

pub hid_from : (entries : List Entry) (k : ℕ) (text : List ℕ) → IsDistinct (places_of entries) → HasHid entries k text → has_id entries text k ≡ true
hid_from entries k text distinct (j, x, l, is, (path, object)) =
    let same : entry_in entries j ≡ x = get_or_default entries j no_entry x l ∙ is in
    let at = numbered entries j (place_below entries k Hid) distinct l (ap (λ (e : Entry). e.path) same ∙ path) in
    rw at (thing_text text (entry_in entries j).object (ap (λ (e : Entry). e.object) same ∙ object))

-- # Kinds of objects

device_is : (o : Thing) → is_device o ≡ true → o ≡ device
device_is (data_object d) e = absurd (false≢true e)
device_is device e = refl
device_is processor e = absurd (false≢true e)
device_is method e = absurd (false≢true e)
device_is (alias_of name) e = absurd (false≢true e)

declared_is : (o : Thing) → is_declared o ≡ true → o ≡ processor
declared_is (data_object d) e = absurd (false≢true e)
declared_is device e = absurd (false≢true e)
declared_is processor e = refl
declared_is method e = absurd (false≢true e)
declared_is (alias_of name) e = absurd (false≢true e)

container_to : (entries : List Entry) (k : ℕ) → k < length entries → is_container entries k ≡ true → IsContainer entries k
container_to entries k l e =
    let parts = both (is_device (entry_in entries k).object) (has_id entries container_id k) e in
    record { among = l; device = device_is (entry_in entries k).object parts.0; hid = hid_to entries k container_id parts.1 }

container_from : (entries : List Entry) (k : ℕ) → IsDistinct (places_of entries) → IsContainer entries k → is_container entries k ≡ true
container_from entries k distinct c = rw (c.device, hid_from entries k container_id distinct c.hid) refl

processor_by : (entries : List Entry) (k : ℕ) (a : Bool) → is_declared (entry_in entries k).object ≡ a → k < length entries
    → (a || (is_device (entry_in entries k).object && has_id entries processor_id k)) ≡ true → IsProcessor entries k
processor_by entries k true is l e = is_declared_one l (declared_is (entry_in entries k).object is)
processor_by entries k false is l e =
    let parts = both (is_device (entry_in entries k).object) (has_id entries processor_id k) e in
    is_device_one l (device_is (entry_in entries k).object parts.0) (hid_to entries k processor_id parts.1)

processor_to : (entries : List Entry) (k : ℕ) → k < length entries → is_processor entries k ≡ true → IsProcessor entries k
processor_to entries k l e = processor_by entries k (is_declared (entry_in entries k).object) refl l e

processor_from : (entries : List Entry) (k : ℕ) → IsDistinct (places_of entries) → IsProcessor entries k → (k < length entries) × (is_processor entries k ≡ true)
processor_from entries k distinct (is_device_one l is hid) = (l, rw (is, hid_from entries k processor_id distinct hid) refl)
processor_from entries k distinct (is_declared_one l is) = (l, rw is refl)

-- # Members

pub contains_filter : {X : Type 0} (p : X → Bool) (xs : List X) (x : X) → Contains xs x → p x ≡ true → Contains (filter p xs) x
contains_filter p [] x (k, l, e) t = absurd (let impossible = l in omega arith)
contains_filter p (y ∷ ys) x (zero, l, e) t = rw (subst (λ z. p z ≡ true) (sym e) t) (0, omega arith, e)
contains_filter p (y ∷ ys) x (suc k, l, e) t = by (p y) (contains_filter p ys x (k, (omega (arith, l)), e) t)
  where
    by : (b : Bool) → Contains (filter p ys) x → Contains (cond b (y ∷ filter p ys) (filter p ys)) x
    by true (j, m, f) = (suc j, omega (arith, m), f)
    by false c = c

contains_flat : (f : ℕ → List ℕ) (ns : List ℕ) (n x : ℕ) → Contains ns n → Contains (f n) x → Contains (flat_map f ns) x
contains_flat f [] n x (k, l, e) c = absurd (let impossible = l in omega arith)
contains_flat f (m ∷ ms) n x (zero, l, e) c = Contains-append_left (f m) (flat_map f ms) x (subst (λ k. Contains (f k) x) (sym e) c)
contains_flat f (m ∷ ms) n x (suc k, l, e) c = Contains-append_right (f m) (flat_map f ms) x (contains_flat f ms n x (k, (omega (arith, l)), e) c)

contains_range : (n k : ℕ) → k < n → Contains (range_with_len 0 n) k
contains_range n k l =
    let size = length-range_with_len 0 n in
    let is = get_or-range_with_len 0 n k k l in (k, omega (arith, l, size), is ∙ (omega arith))

greatest : (entries : List Entry) (ks : List ℕ) (m : ℕ) → m ≤ fold (λ m k. greater m (depth_in entries k)) m ks
greatest entries [] m = omega arith
greatest entries (k ∷ ks) m = let rest = greatest entries ks (greater m (depth_in entries k)) in let first : m ≤ greater m (depth_in entries k) = grind (arith, nat_tests) in omega (arith, first, rest)

pub deep_enough : (entries : List Entry) (ks : List ℕ) (m k : ℕ) → Contains ks k → depth_in entries k ≤ fold (λ m k. greater m (depth_in entries k)) m ks
deep_enough entries [] m k (j, l, e) = absurd (let impossible = l in omega arith)
deep_enough entries (x ∷ xs) m k (zero, l, e) =
    let rest = greatest entries xs (greater m (depth_in entries x)) in
    let first : depth_in entries x ≤ greater m (depth_in entries x) = grind (arith, nat_tests) in
    subst (λ q. depth_in entries q ≤ fold (λ m k. greater m (depth_in entries k)) (greater m (depth_in entries x)) xs) e (omega (arith, first, rest))
deep_enough entries (x ∷ xs) m k (suc j, l, e) = deep_enough entries xs (greater m (depth_in entries x)) k (j, (omega (arith, l)), e)

-- # Both ways

pub processors_are : (entries : List Entry) (k : ℕ) → IsDistinct (places_of entries) → (Contains (processors_of entries) k → IsProcessor entries k)
    × (IsProcessor entries k → Contains (processors_of entries) k)
unfolding processors_of
processors_are entries k distinct = (
  λ there. processor_to entries k (All-contains (λ q. q < length entries) (processors_of entries) k (processors_within entries) there)
      (All-contains (λ q. is_processor entries q ≡ true) (processors_of entries) k (filter_passes (is_processor entries) (numbers_of entries)) there),
  λ is. let from = processor_from entries k distinct is in contains_filter (is_processor entries) (numbers_of entries) k (contains_range (length entries) k from.0) from.1,
)

containers_pass : (entries : List Entry) → All (λ q. is_container entries q ≡ true) (containers_of entries)
unfolding containers_of
containers_pass entries =
    let ks = filter (is_container entries) (numbers_of entries) in
    all_flat (λ q. is_container entries q ≡ true) (of_depth entries ks) (range_with_len 0 (most_segments entries ks + 1))
    (λ n. All-filter (λ k. depth_in entries k == n) (λ q. is_container entries q ≡ true) ks (filter_passes (is_container entries) (numbers_of entries)))

container_there : (entries : List Entry) (k : ℕ) → k < length entries → is_container entries k ≡ true → Contains (containers_of entries) k
unfolding containers_of
container_there entries k l e =
    let ks = filter (is_container entries) (numbers_of entries) in
    let among : Contains ks k = contains_filter (is_container entries) (numbers_of entries) k (contains_range (length entries) k l) e in
    let deep : depth_in entries k ≤ most_segments entries ks = deep_enough entries ks 0 k among in
    let same : (depth_in entries k == depth_in entries k) ≡ true = grind (arith, nat_tests) in
    contains_flat (of_depth entries ks) (range_with_len 0 (most_segments entries ks + 1)) (depth_in entries k) k
    (contains_range (most_segments entries ks + 1) (depth_in entries k) (omega (arith, deep)))
    (contains_filter (λ q. depth_in entries q == depth_in entries k) ks k among same)

pub containers_are : (entries : List Entry) (k : ℕ) → IsDistinct (places_of entries) → (Contains (containers_of entries) k → IsContainer entries k)
    × (IsContainer entries k → Contains (containers_of entries) k)
containers_are entries k distinct = (
  λ there. container_to entries k (All-contains (λ q. q < length entries) (containers_of entries) k (containers_within entries) there)
      (All-contains (λ q. is_container entries q ≡ true) (containers_of entries) k (containers_pass entries) there),
  λ is. container_there entries k is.among (container_from entries k distinct is),
)

-- # Never both

texts_differ : (o : Thing) → is_text container_id o ≡ true → is_text processor_id o ≡ true → ⊥
texts_differ o first second =
    let same : is_text processor_id (data_object (Text container_id)) ≡ true = subst (λ t. is_text processor_id t ≡ true) (text_thing container_id o first) second in
    false≢true (rw (outs-Text container_id) at same)

ids_differ : (entries : List Entry) (o : Option ℕ) → is_text_at entries container_id o ≡ true → is_text_at entries processor_id o ≡ true → ⊥
ids_differ entries None first second = false≢true first
ids_differ entries (Some j) first second = texts_differ (entry_in entries j).object first second

no_processor : (entries : List Entry) (k : ℕ) → IsDistinct (places_of entries) → IsContainer entries k → IsProcessor entries k → ⊥
no_processor entries k distinct c (is_device_one l is hid) =
    ids_differ entries (number_at entries (place_below entries k Hid)) (hid_from entries k container_id distinct c.hid) (hid_from entries k processor_id distinct hid)
no_processor entries k distinct c (is_declared_one l is) = let e : device ≡ processor = sym c.device ∙ is in cc

-- no object is a container and a processor
pub never_both : (entries : List Entry) (k : ℕ) → IsDistinct (places_of entries) → Contains (containers_of entries) k → Contains (processors_of entries) k → ⊥
never_both entries k distinct outer inner = no_processor entries k distinct ((containers_are entries k distinct).0 outer) ((processors_are entries k distinct).0 inner)
