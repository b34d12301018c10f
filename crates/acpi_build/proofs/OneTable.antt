-- At most one table stands at a place.
use Rattle.std.proofs.Common.{◌≡◌, ℕ, List, Option, Some, None, Ok, refl, sym, ap, ◌∙◌, arith}
use Rattle.std.proofs.lemmas.List.{get_or_default}
use Rattle.aml_data.specs.declared.data.Data.{Data}
use Rattle.aml_data.specs.declared.data.Width.{Width}
use Rattle.acpi_fields.specs.Reading.{Read}
use Rattle.acpi_space.specs.Distinct.{IsDistinct}
use Rattle.acpi_space.specs.Lookup.{entry_in, no_entry, number_at}
use Rattle.acpi_space.specs.Namespace.{Entry, places_of}
use Rattle.acpi_space.specs.Places.{Place}
use Rattle.acpi_space.specs.Things.{Thing}
use Rattle.acpi_space.specs.Things.Thing.{data_object}
use Rattle.acpi_space.proofs.Lookups.{numbered}
use Rattle.acpi_space.proofs.Trees.{same_some}
use Rattle.acpi_build.specs.Meaning.{StandsAt}
use Rattle.acpi_build.specs.Sources.{AreStates, are_absent, are_given, are_none, GivenAt, IsTable, is_absent, is_given}
use Rattle.acpi_build.proofs.Parents.{none_some}
use Rattle.pw_base.proofs.Facts.{same_ok}

-- what stands at a place has the number that is found there
pub stands : (entries : List Entry) (place : Place) (o : Thing) → IsDistinct (places_of entries) → StandsAt entries place o
    → (j : ℕ) × (number_at entries place ≡ Some j) × ((entry_in entries j).object ≡ o)
stands entries place o distinct (j, x, l, is, (path, object)) =
    let same : entry_in entries j ≡ x = get_or_default entries j no_entry x l ∙ is in
    (j, numbered entries j place distinct l (ap (λ (e : Entry). e.path) same ∙ path), ap (λ (e : Entry). e.object) same ∙ object)

-- so does a data object, with its width
pub given_there : (entries : List Entry) (place : Place) (d : Data) (width : Width) → IsDistinct (places_of entries) → GivenAt entries place d width
    → (j : ℕ) × (number_at entries place ≡ Some j) × ((entry_in entries j).object ≡ data_object d) × ((entry_in entries j).width ≡ width)
given_there entries place d width distinct (j, x, l, is, (path, object, sized)) =
    let same : entry_in entries j ≡ x = get_or_default entries j no_entry x l ∙ is in
    (j, numbered entries j place distinct l (ap (λ (e : Entry). e.path) same ∙ path), ap (λ (e : Entry). e.object) same ∙ object, ap (λ (e : Entry). e.width) same ∙ sized)

pub same_data : {d e : Data} → data_object d ≡ data_object e → d ≡ e
same_data is = cc

pub one_data : (entries : List Entry) (place : Place) (d e : Data) (w v : Width) → IsDistinct (places_of entries) → GivenAt entries place d w → GivenAt entries place e v → (d ≡ e) × (w ≡ v)
one_data entries place d e w v distinct first second =
    let (i, here, object, width) = given_there entries place d w distinct first in
    let (j, there, other, wide) = given_there entries place e v distinct second in
    let one : i ≡ j = same_some (sym here ∙ there) in
    (same_data (sym object ∙ ap (λ n. (entry_in entries n).object) one ∙ other), sym width ∙ ap (λ n. (entry_in entries n).width) one ∙ wide)

-- where what an object means is what is read of it, it means one table
pub one_table : {A : Type 0} (Means : Width → Data → A → Type 0) (reads : Width → Data → Read A) (entries : List Entry) (place : Place) (o p : Option A) → IsDistinct (places_of entries)
    → ((width : Width) (d : Data) (x : A) → Means width d x → reads width d ≡ Ok x) → IsTable Means entries place o → IsTable Means entries place p → o ≡ p
one_table Means reads entries place (Some a) (Some b) distinct back (is_given d w x given means) (is_given e v y giving meaning) =
    let same = one_data entries place d e w v distinct given giving in
    let moved : reads w d ≡ reads v e = ap (λ (u : Width). reads u d) same.1 ∙ ap (reads v) same.0 in
    ap Some (same_ok (reads v e) (sym moved ∙ back w d x means) (back v e y meaning))
one_table Means reads entries place (Some a) None distinct back (is_given d w x given means) (is_absent none) = absurd (none d w given)
one_table Means reads entries place None (Some b) distinct back (is_absent none) (is_given e v y giving meaning) = absurd (none e v giving)
one_table Means reads entries place None None distinct back first second = refl

-- and one table of states
pub one_states : {A : Type 0} (Means : Width → Data → A → Type 0) (reads : Width → Data → Read A) (count : A → ℕ) (entries : List Entry) (place : Place) (o p : Option A)
    → IsDistinct (places_of entries)
    → ((width : Width) (d : Data) (x : A) → Means width d x → reads width d ≡ Ok x) → AreStates Means count entries place o → AreStates Means count entries place p → o ≡ p
one_states Means reads count entries place (Some a) (Some b) distinct back (are_given x t some) (are_given y u more) = one_table Means reads entries place (Some x) (Some y) distinct back t u
one_states Means reads count entries place (Some a) None distinct back (are_given x t some) (are_absent u) =
    absurd (none_some (sym (one_table Means reads entries place (Some x) None distinct back t u)))
one_states Means reads count entries place (Some a) None distinct back (are_given x t some) (are_none y u none) =
    absurd (let same : x ≡ y = same_some (one_table Means reads entries place (Some x) (Some y) distinct back t u) in let e = ap count same in omega (arith, some, none, e))
one_states Means reads count entries place None (Some b) distinct back (are_absent u) (are_given x t some) = absurd (none_some (one_table Means reads entries place None (Some x) distinct back u t))
one_states Means reads count entries place None (Some b) distinct back (are_none y u none) (are_given x t some) =
    absurd (let same : x ≡ y = same_some (one_table Means reads entries place (Some x) (Some y) distinct back t u) in let e = ap count same in omega (arith, some, none, e))
one_states Means reads count entries place None None distinct back first second = refl
