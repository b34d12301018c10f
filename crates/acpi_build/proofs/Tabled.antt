-- The tables of objects are those that stand at their names, and the causes of notes that are found there have their notes.
use Rattle.std.proofs.Common.{◌≡◌, ◌⊎◌, ℕ, ◌+◌, ◌*◌, ◌<◌, Bool, true, false, List, [], length, Option, Some, None, Ok, Err, refl, sym, ap, subst, ◌∙◌, inl, inr, arith}
use Rattle.std.specs.Prelude.{cond, ◌==◌}
use Rattle.std.proofs.lemmas.Bool.Decides.{nat_tests}
use Rattle.std.proofs.lemmas.List.{get_or_default}
use Rattle.aml_data.specs.declared.data.Data.{Data}
use Rattle.aml_data.specs.declared.data.Width.{Width}
use Rattle.aml_data.specs.declared.path.Path.{Path}
use Rattle.acpi_values.specs.declared.lpi.Lpi.{Lpi}
use Rattle.acpi_fields.specs.Reading.{Read, place}
use Rattle.acpi_fields.proofs.Inversion.{means_32}
use Rattle.acpi_idle.specs.CStates.{cst_of, csd_of}
use Rattle.acpi_idle.specs.Lpis.{lpi_of}
use Rattle.acpi_idle.specs.Meaning.{CsdMeans, CstMeans, LpiMeans}
use Rattle.acpi_idle.proofs.MeantCStates.{csd_means, cst_means, cst_read}
use Rattle.acpi_idle.proofs.MeantLpis.{lpi_means, lpi_read}
use Rattle.acpi_perf.specs.Meaning.{ControlMeans, DomainMeans, LimitMeans, PssMeans, TssMeans}
use Rattle.acpi_perf.specs.Objects.{control_of, limit_of, domain_of}
use Rattle.acpi_perf.specs.Scales.{pss_of, tss_of}
use Rattle.acpi_perf.proofs.Meant.{control_means, domain_means, pss_means, pss_read, tss_means, tss_read}
use Rattle.acpi_cpc.specs.Cpcs.{cpc_of}
use Rattle.acpi_cpc.specs.Meaning.{CpcMeans}
use Rattle.acpi_cpc.proofs.Meant.{cpc_means}
use Rattle.acpi_space.specs.Distinct.{IsDistinct}
use Rattle.acpi_space.specs.Lookup.{entry_in, no_entry, number_at}
use Rattle.acpi_space.specs.Namespace.{Entry, places_of}
use Rattle.acpi_space.specs.Places.{Place}
use Rattle.acpi_space.specs.Things.{Thing}
use Rattle.acpi_space.specs.Things.Thing.{data_object, device, processor, method, alias_of}
use Rattle.acpi_space.proofs.Trees.{same_some}
use Rattle.pw_plan.specs.declared.plan.Plan.{Plan}
use Rattle.acpi_build.specs.declared.names.Name.{Name}
use Rattle.acpi_build.specs.declared.names.Name.TheVariants as names
use Rattle.acpi_build.specs.declared.note.NoteKind.TheVariants.{ByMethod, ByAlias, Empty}
use Rattle.acpi_build.specs.Building.{Build, done, noted}
use Rattle.acpi_build.specs.Finding.{place_below}
use Rattle.acpi_build.specs.Meaning.{StandsAt}
use Rattle.acpi_build.specs.Tables.{control_at, cpc_at, csd_at, cst_at, dependency_at, limit_at, looked_at, lpi_at, meant, pss_at, seen, seen_at, states, table, told, tss_at, unless_empty, Given}
use Rattle.acpi_build.specs.Sources.{AreCst, AreLpi, AreStates, are_absent, are_given, are_none, GivenAt, IsCsd, IsTable}
use Rattle.acpi_build.specs.Sources.{is_absent, is_given}
use Rattle.acpi_build.specs.Causes.{Cause, by_method, by_alias, of_no_states, HasNoStates, IsCause, IsReadOf, note_of}
use Rattle.acpi_build.proofs.OneTable.{given_there, one_table, stands}
use Rattle.acpi_build.proofs.Parents.{none_some, number_told}
use Rattle.acpi_build.proofs.Ranks.{first_there, In, Makes, makes_done, makes_then, makes_up_to, second_there, slot, third_free}
use Rattle.acpi_build.proofs.Steady.{steady_meant, steady_unless_empty}
use Rattle.acpi_build.proofs.Yielding.{yields_done, yields_noted, yields_refused}
use Rattle.pw_base.proofs.Facts.{empty}

-- # What stands at a place

abbrev Looked : List Entry → Place → Option Given → Type 0
Looked entries place None = (d : Data) (width : Width) → GivenAt entries place d width → ⊥
Looked entries place (Some given) = GivenAt entries place given.object given.width

module _ (entries : List Entry) (plan : Plan) (distinct : IsDistinct (places_of entries)) where
  -- no data object stands where another object does
  no_data : (place : Place) (j : ℕ) (o : Thing) → number_at entries place ≡ Some j → (entry_in entries j).object ≡ o → ((d : Data) → o ≡ data_object d → ⊥)
      → (d : Data) (width : Width) → GivenAt entries place d width → ⊥
  no_data place j o at is other d width given =
      let (i, found, object, _) = given_there entries place d width distinct given in
      let same : i ≡ j = same_some (sym found ∙ at) in
      other d (sym is ∙ ap (λ n. (entry_in entries n).object) (sym same) ∙ object)

  -- what stands at a place is what is found there
  same_object : (place : Place) (j : ℕ) (o p : Thing) → number_at entries place ≡ Some j → (entry_in entries j).object ≡ o → StandsAt entries place p → o ≡ p
  same_object place j o p at is there =
      let (i, found, object) = stands entries place p distinct there in
      let same : i ≡ j = same_some (sym found ∙ at) in
      sym is ∙ ap (λ n. (entry_in entries n).object) (sym same) ∙ object

  -- neither a method nor an alias is there
  none_seen : (k a : ℕ) (name : Name) (P : Thing → Type 0) → 3 * slot name ≡ a → ((o : Thing) → StandsAt entries (place_below entries k name) o → P o) → (P method → ⊥)
      → ((source : Path) → P (alias_of source) → ⊥)
      → (c : Cause) → In entries plan k a (a + 1) c → ⊥
  none_seen k a name P at of no_method no_alias c s = elim (first_there entries plan k a name at c s) [
    | inl is ↦ let (_, there) = subst (IsCause entries plan) is s.given in no_method (of method there)
    | inr is ↦ let (_, (source, there)) = subst (IsCause entries plan) is s.given in no_alias source (of (alias_of source) there)
  ]

  seen_yields : (k a : ℕ) (name : Name) (j : ℕ) (o : Thing) → IsReadOf entries k name → 3 * slot name ≡ a → number_at entries (place_below entries k name) ≡ Some j → (entry_in entries j).object ≡ o
      → Makes entries plan k a (a + 1) (Looked entries (place_below entries k name)) (seen (place_below entries k name) (entry_in entries j).width o)
  seen_yields k a name j (data_object d) read at found is =
      let there = number_told entries (place_below entries k name) j found in
      yields_done (note_of entries plan) (In entries plan k a (a + 1)) (Looked entries (place_below entries k name)) (Some (record { object = d; width = (entry_in entries j).width }))
      (none_seen k a name (λ p. data_object d ≡ p) at (λ p. same_object (place_below entries k name) j (data_object d) p found is) (λ e. cc) (λ source e. cc))
      (j, entry_in entries j, there.0, get_or_default entries j (entry_in entries j) no_entry there.0, (there.1, is, refl))
  seen_yields k a name j device read at found is =
      yields_done (note_of entries plan) (In entries plan k a (a + 1)) (Looked entries (place_below entries k name)) None
      (none_seen k a name (λ p. device ≡ p) at (λ p. same_object (place_below entries k name) j device p found is) (λ e. cc) (λ source e. cc))
      (no_data (place_below entries k name) j device found is (λ d e. cc))
  seen_yields k a name j processor read at found is =
      yields_done (note_of entries plan) (In entries plan k a (a + 1)) (Looked entries (place_below entries k name)) None
      (none_seen k a name (λ p. processor ≡ p) at (λ p. same_object (place_below entries k name) j processor p found is) (λ e. cc) (λ source e. cc))
      (no_data (place_below entries k name) j processor found is (λ d e. cc))
  seen_yields k a name j method read at found is =
      let there = number_told entries (place_below entries k name) j found in
      yields_noted (note_of entries plan) (In entries plan k a (a + 1)) (Looked entries (place_below entries k name)) (place_below entries k name) ByMethod None (by_method k name) refl
      (record { own = refl; low = omega arith; high = omega arith; given = (read, (j, entry_in entries j, there.0, get_or_default entries j (entry_in entries j) no_entry there.0, (there.1, is))) })
      (λ c s. elim (first_there entries plan k a name at c s) [
        | inl same ↦ same
        | inr same ↦ let (_, (source, other)) = subst (IsCause entries plan) same s.given in
            absurd (let e = same_object (place_below entries k name) j method (alias_of source) found is other in cc)
      ])
      (no_data (place_below entries k name) j method found is (λ d e. cc))
  seen_yields k a name j (alias_of source) read at found is =
      let there = number_told entries (place_below entries k name) j found in
      yields_noted (note_of entries plan) (In entries plan k a (a + 1)) (Looked entries (place_below entries k name)) (place_below entries k name) ByAlias None (by_alias k name) refl
      (record {
        own = refl;
        low = omega arith;
        high = omega arith;
        given = (read, (source, (j, entry_in entries j, there.0, get_or_default entries j (entry_in entries j) no_entry there.0, (there.1, is))));
      })
      (λ c s. elim (first_there entries plan k a name at c s) [
        | inl same ↦ let (_, other) = subst (IsCause entries plan) same s.given in
            absurd (let e = same_object (place_below entries k name) j (alias_of source) method found is other in cc)
        | inr same ↦ same
      ])
      (no_data (place_below entries k name) j (alias_of source) found is (λ d e. cc))

  at_yields : (k a : ℕ) (name : Name) (o : Option ℕ) → IsReadOf entries k name → 3 * slot name ≡ a → number_at entries (place_below entries k name) ≡ o
      → Makes entries plan k a (a + 1) (Looked entries (place_below entries k name)) (seen_at entries (place_below entries k name) o)
  at_yields k a name None read at found =
      yields_done (note_of entries plan) (In entries plan k a (a + 1)) (Looked entries (place_below entries k name)) None
      (none_seen k a name (λ p. ⊥) at (λ p there. let (i, other, _) = stands entries (place_below entries k name) p distinct there in none_some (sym found ∙ other)) (λ e. e) (λ source e. e))
      (λ d width given. let (i, other, _, _) = given_there entries (place_below entries k name) d width distinct given in none_some (sym found ∙ other))
  at_yields k a name (Some j) read at found = seen_yields k a name j (entry_in entries j).object read at found refl

  looked_yields : (k a : ℕ) (name : Name) → IsReadOf entries k name → 3 * slot name ≡ a
      → Makes entries plan k a (a + 1) (Looked entries (place_below entries k name)) (looked_at entries (place_below entries k name))
  unfolding looked_at
  looked_yields k a name read at = at_yields k a name (number_at entries (place_below entries k name)) read at refl

  -- # Tables

  told_yields : {A : Type 0} (k a : ℕ) (Means : Width → Data → A → Type 0) (place : Place) (given : Given) (r : Read A)
      → ((x : A) → r ≡ Ok x → Means given.width given.object x) → GivenAt entries place given.object given.width → Makes entries plan k a a (IsTable Means entries place) (told place r)
  told_yields k a Means place given (Ok x) means there = makes_done entries plan k a (IsTable Means entries place) (Some x) (is_given given.object given.width x there (means x refl))
  told_yields k a Means place given (Err shape) means there = yields_refused (note_of entries plan) (In entries plan k a a) (IsTable Means entries place) place shape.place shape.why None

  meant_yields : {A : Type 0} (k a : ℕ) (Means : Width → Data → A → Type 0) (reads : Width → Data → Read A) (place : Place)
      → ((width : Width) (d : Data) (x : A) → reads width d ≡ Ok x → Means width d x) → (o : Option Given) → Looked entries place o
      → Makes entries plan k a a (IsTable Means entries place) (meant reads place o)
  meant_yields k a Means reads place means None looked = makes_done entries plan k a (IsTable Means entries place) None (is_absent looked)
  meant_yields k a Means reads place means (Some given) looked = told_yields k a Means place given (reads given.width given.object) (means given.width given.object) looked

  table_yields : {A : Type 0} (k a : ℕ) (Means : Width → Data → A → Type 0) (reads : Width → Data → Read A) (name : Name) → IsReadOf entries k name → 3 * slot name ≡ a
      → ((width : Width) (d : Data) (x : A) → reads width d ≡ Ok x → Means width d x) → Makes entries plan k a (a + 1) (IsTable Means entries (place_below entries k name)) (table reads entries k name)
  table_yields k a Means reads name read at means =
      let place = place_below entries k name in
      makes_then entries plan k a (a + 1) (a + 1) (Looked entries place) (IsTable Means entries place) (looked_at entries place) (meant reads place) (omega arith) (omega arith)
      (steady_meant reads place)
      (looked_yields k a name read at)
      (meant_yields k (a + 1) Means reads place means)

  -- a table that isn't one of states
  bare_yields : {A : Type 0} (k a : ℕ) (Means : Width → Data → A → Type 0) (reads : Width → Data → Read A) (name : Name) → IsReadOf entries k name → 3 * slot name ≡ a
      → ((width : Width) (d : Data) (x : A) → reads width d ≡ Ok x → Means width d x) → (HasNoStates entries k name → ⊥)
      → Makes entries plan k a (a + 2) (IsTable Means entries (place_below entries k name)) (table reads entries k name)
  bare_yields k a Means reads name read at means bare =
      makes_up_to entries plan k a (a + 1) (a + 2) (IsTable Means entries (place_below entries k name)) (table reads entries k name) (omega arith) (omega arith)
      (λ c s. bare (subst (IsCause entries plan) (second_there entries plan k a name at c s) s.given).1) (table_yields k a Means reads name read at means)

  -- up to the next name
  whole_yields : {A : Type 0} (k a : ℕ) (P : Option A → Type 0) (name : Name) (m : Build (Option A)) → 3 * slot name ≡ a → (a < 3) ⊎ (6 < a) → Makes entries plan k a (a + 2) P m
      → Makes entries plan k a (a + 3) P m
  whole_yields k a P name m at apart made = makes_up_to entries plan k a (a + 2) (a + 3) P m (omega arith) (omega arith) (third_free entries plan k a name at apart) made

  -- # Tables of states

  empty_yields : {A : Type 0} (k a : ℕ) (Means : Width → Data → A → Type 0) (reads : Width → Data → Read A) (count : A → ℕ) (name : Name) → IsReadOf entries k name → 3 * slot name ≡ a
      → ((width : Width) (d : Data) (x : A) → Means width d x → reads width d ≡ Ok x)
      → ((x : A) → IsTable Means entries (place_below entries k name) (Some x) → count x ≡ 0 → HasNoStates entries k name)
      → (HasNoStates entries k name → (x : A) × IsTable Means entries (place_below entries k name) (Some x) × (count x ≡ 0))
      → (o : Option A) → IsTable Means entries (place_below entries k name) o
      → Makes entries plan k (a + 1) (a + 2) (AreStates Means count entries (place_below entries k name)) (unless_empty count (place_below entries k name) o)
  empty_yields k a Means reads count name read at back none some None t =
      let place = place_below entries k name in
      yields_done (note_of entries plan) (In entries plan k (a + 1) (a + 2)) (AreStates Means count entries place) None (λ c s.
      let (x, there, empty) = some (subst (IsCause entries plan) (second_there entries plan k a name at c s) s.given).1 in
      none_some (one_table Means reads entries place None (Some x) distinct back t there))
      (are_absent t)
  empty_yields {A} k a Means reads count name read at back none some (Some x) t = by (count x == 0) refl
    where
      by : (b : Bool) → (count x == 0) ≡ b → Makes entries plan k (a + 1) (a + 2) (AreStates Means count entries (place_below entries k name))
          (cond b (noted (place_below entries k name) Empty None) (done (Some x)))
      by true e =
          let empty : count x ≡ 0 = grind (arith, nat_tests) in
          yields_noted (note_of entries plan) (In entries plan k (a + 1) (a + 2)) (AreStates Means count entries (place_below entries k name)) (place_below entries k name) Empty None
          (of_no_states k name) refl
          (record { own = refl; low = omega arith; high = omega arith; given = (read, none x t empty) }) (λ c s. second_there entries plan k a name at c s) (are_none x t empty)
      by false e =
          let more : 0 < count x = grind (arith, nat_tests) in
          yields_done (note_of entries plan) (In entries plan k (a + 1) (a + 2)) (AreStates Means count entries (place_below entries k name)) (Some x) (λ c s.
          let (y, there, empty) = some (subst (IsCause entries plan) (second_there entries plan k a name at c s) s.given).1 in
          let same : x ≡ y = same_some (one_table Means reads entries (place_below entries k name) (Some x) (Some y) distinct back t there) in
          let counts = ap count same in omega (arith, more, empty, counts))
          (are_given x t more)

  states_yields : {A : Type 0} (k a : ℕ) (Means : Width → Data → A → Type 0) (reads : Width → Data → Read A) (count : A → ℕ) (name : Name) → IsReadOf entries k name → 3 * slot name ≡ a
      → ((width : Width) (d : Data) (x : A) → reads width d ≡ Ok x → Means width d x) → ((width : Width) (d : Data) (x : A) → Means width d x → reads width d ≡ Ok x)
      → ((x : A) → IsTable Means entries (place_below entries k name) (Some x) → count x ≡ 0 → HasNoStates entries k name)
      → (HasNoStates entries k name → (x : A) × IsTable Means entries (place_below entries k name) (Some x) × (count x ≡ 0))
      → Makes entries plan k a (a + 2) (AreStates Means count entries (place_below entries k name)) (states count reads entries k name)
  states_yields k a Means reads count name read at means back none some =
      let place = place_below entries k name in
      makes_then entries plan k a (a + 1) (a + 2) (IsTable Means entries place) (AreStates Means count entries place) (table reads entries k name) (unless_empty count place) (omega arith)
      (omega arith) (steady_unless_empty count place)
      (table_yields k a Means reads name read at means) (empty_yields k a Means reads count name read at back none some)

  pub lpi_yields : (k : ℕ) → IsReadOf entries k names.Lpi → Makes entries plan k 0 3 (AreLpi entries k) (lpi_at entries k)
  unfolding lpi_at
  lpi_yields k read = whole_yields k 0 (AreLpi entries k) names.Lpi (lpi_at entries k) refl (inl (omega arith))
      (states_yields k 0 LpiMeans lpi_of (λ (l : Lpi). length l.states) names.Lpi read refl lpi_means lpi_read (λ x t e. (x, t, e)) (λ has. has))

  pub cst_yields : (k : ℕ) → IsReadOf entries k names.Cst → Makes entries plan k 3 5 (AreCst entries k) (cst_at entries k)
  unfolding cst_at
  cst_yields k read = states_yields k 3 CstMeans cst_of length names.Cst read refl cst_means cst_read
      (λ x t e. subst (λ xs. IsTable CstMeans entries (place_below entries k names.Cst) (Some xs)) (empty x e) t) (λ has. ([], has, refl))

  pub csd_yields : (k : ℕ) → IsReadOf entries k names.Csd → Makes entries plan k 6 8 (IsCsd entries k) (csd_at entries k)
  unfolding csd_at
  csd_yields k read = bare_yields k 6 CsdMeans csd_of names.Csd read refl csd_means (λ e. e)

  pub pss_yields : (k : ℕ) → IsReadOf entries k names.Pss → Makes entries plan k 9 12 (AreStates PssMeans length entries (place_below entries k names.Pss)) (pss_at entries k)
  unfolding pss_at
  pss_yields k read = whole_yields k 9 (AreStates PssMeans length entries (place_below entries k names.Pss)) names.Pss (pss_at entries k) refl (inr (omega arith))
      (states_yields k 9 PssMeans pss_of length names.Pss read refl pss_means pss_read
      (λ x t e. subst (λ xs. IsTable PssMeans entries (place_below entries k names.Pss) (Some xs)) (empty x e) t) (λ has. ([], has, refl)))

  pub tss_yields : (k : ℕ) → IsReadOf entries k names.Tss → Makes entries plan k 21 24 (AreStates TssMeans length entries (place_below entries k names.Tss)) (tss_at entries k)
  unfolding tss_at
  tss_yields k read = whole_yields k 21 (AreStates TssMeans length entries (place_below entries k names.Tss)) names.Tss (tss_at entries k) refl (inr (omega arith))
      (states_yields k 21 TssMeans tss_of length names.Tss read refl tss_means tss_read
      (λ x t e. subst (λ xs. IsTable TssMeans entries (place_below entries k names.Tss) (Some xs)) (empty x e) t) (λ has. ([], has, refl)))

  -- # Other tables

  pub control_yields : (k a : ℕ) (name : Name) → IsReadOf entries k name → 3 * slot name ≡ a → 6 < a → (HasNoStates entries k name → ⊥)
      → Makes entries plan k a (a + 3) (IsTable (λ width. ControlMeans) entries (place_below entries k name)) (control_at entries k name)
  unfolding control_at
  control_yields k a name read at past bare = whole_yields k a (IsTable (λ width. ControlMeans) entries (place_below entries k name)) name (control_at entries k name) at (inr past)
      (bare_yields k a (λ width. ControlMeans) (λ width. control_of) name read at (λ width. control_means) bare)

  pub limit_yields : (k a : ℕ) (name : Name) → IsReadOf entries k name → 3 * slot name ≡ a → 6 < a → (HasNoStates entries k name → ⊥)
      → Makes entries plan k a (a + 3) (IsTable LimitMeans entries (place_below entries k name)) (limit_at entries k name)
  unfolding limit_at
  limit_yields k a name read at past bare = whole_yields k a (IsTable LimitMeans entries (place_below entries k name)) name (limit_at entries k name) at (inr past)
      (bare_yields k a LimitMeans limit_of name read at (λ width d n. means_32 width (place 0 0) d n) bare)

  pub dependency_yields : (k a : ℕ) (name : Name) → IsReadOf entries k name → 3 * slot name ≡ a → 6 < a → (HasNoStates entries k name → ⊥)
      → Makes entries plan k a (a + 3) (IsTable DomainMeans entries (place_below entries k name)) (dependency_at entries k name)
  unfolding dependency_at
  dependency_yields k a name read at past bare = whole_yields k a (IsTable DomainMeans entries (place_below entries k name)) name (dependency_at entries k name) at (inr past)
      (bare_yields k a DomainMeans domain_of name read at domain_means bare)

  pub cpc_yields : (k : ℕ) → IsReadOf entries k names.Cpc → Makes entries plan k 33 36 (IsTable CpcMeans entries (place_below entries k names.Cpc)) (cpc_at entries k)
  unfolding cpc_at
  cpc_yields k read = whole_yields k 33 (IsTable CpcMeans entries (place_below entries k names.Cpc)) names.Cpc (cpc_at entries k) refl (inr (omega arith))
      (bare_yields k 33 CpcMeans cpc_of names.Cpc read refl cpc_means (λ e. e))
