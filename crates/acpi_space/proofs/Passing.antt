-- What is passed over, after one more step.
use Rattle.std.proofs.Common.{◌≡◌, ◌+◌, ◌<◌, ℕ, suc, List, [], ◌∷◌, ◌++◌, length, get_or, refl, sym, ap, ◌∙◌, arith, inl, inr, length-append}
use Rattle.std.proofs.lemmas.Bool.{cases_lt}
use Rattle.std.proofs.lemmas.List.{append-nil, length_push, get_or_append_left, get_or_push, map-append}
use Rattle.std.proofs.lemmas.List.Elements.{filter_map-append}
use Rattle.acpi_space.specs.declared.object.Placed.{Placed}
use Rattle.std.specs.Prelude.{Option}
use Rattle.acpi_space.specs.declared.passed.Passed.{Passed}
use Rattle.acpi_space.specs.declared.passed.PassedOver.{PassedOver}
use Rattle.acpi_space.specs.Namespace.{entries_of}
use Rattle.acpi_space.specs.Passed.{passed_at, passed_of}
use Rattle.acpi_space.specs.Places.{Place}
use Rattle.acpi_space.specs.Steps.{Step, opens, passes, touched}
use Rattle.acpi_space.specs.inner.Standing.{ArePassed, Stands, over_at, over_in}
use Rattle.acpi_space.specs.inner.Trees.{IsClosed, IsGrown}
use Rattle.acpi_space.proofs.Known.{after_opening, entries_of-append, touched-append}
use Rattle.acpi_space.proofs.Trees.{reached_there}

passed_of-append : (xs ys : List Step) → passed_of (xs ++ ys) ≡ passed_of xs ++ passed_of ys
passed_of-append xs ys = filter_map-append (λ (s : Step). passed_at s.place s.passed) xs ys

-- more places change nothing of it
same_over : (old more : List Place) (passed : List Passed) → ((i : ℕ) (d : Passed) → i < length passed → (get_or passed i d).name < length old)
    → over_at (old ++ more) passed ≡ over_at old passed
same_over old more [] within = refl
same_over old more (p ∷ ps) within =
    let first : over_in (old ++ more) p ≡ over_in old p = rw (get_or_append_left old more [] p.name (within 0 p (omega arith))) refl in
    rw (first, same_over old more ps (λ i d l. within (suc i) d (omega (arith, l)))) refl

-- a step that passes nothing over, in more places
pub nothing_passed : (old new : List Place) (passed : List Passed) (steps : List Step) (step : Step) → ArePassed old passed steps → IsGrown old new
    → passed_of (step ∷ []) ≡ [] → ArePassed new passed (steps ++ step ∷ [])
nothing_passed old new passed steps step are (more, grown) none =
    let bigger : length new ≡ length old + length more = ap length grown ∙ length-append old more in
    let stay : passed_of (steps ++ step ∷ []) ≡ passed_of steps =
    passed_of-append steps (step ∷ []) ∙ ap (λ os. passed_of steps ++ os) none ∙ append-nil (passed_of steps) in
    record {
      within = λ i d l. (let inside = are.within i d l in omega arith);
      told = rw (grown, same_over old more passed are.within, stay) are.told;
    }

-- a term is passed over in a place
pub one_passed : (places : List Place) (passed : List Passed) (steps : List Step) (k opcode : ℕ) → ArePassed places passed steps → k < length places
    → ArePassed places (passed ++ record { name = k; opcode = opcode } ∷ []) (steps ++ passes (get_or places k []) opcode ∷ [])
one_passed places passed steps k opcode are inside =
    let p : Passed = record { name = k; opcode = opcode } in
    let step : Step = passes (get_or places k []) opcode in
    let more = length_push passed p in
    record {
      within = λ i d l. elim (cases_lt i (length passed)) [
        | inl was ↦ rw (get_or_append_left passed (p ∷ []) d i was) (are.within i d was)
        | inr end ↦ let e : length passed ≡ i = omega arith in rw (get_or_push passed p d i e) inside
      ];
      told = map-append (over_in places) passed (p ∷ []) ∙ ap (λ (os : List PassedOver). os ++ over_in places p ∷ []) are.told ∙ sym (passed_of-append steps (step ∷ []));
    }

-- and all else stands as it stood
pub after_passing : (places : List Place) (placed : List Placed) (index : List (Option ℕ)) (steps : List Step) (k opcode : ℕ) → Stands places placed index steps
    → k < length places → IsClosed places → Stands places placed index (steps ++ passes (get_or places k []) opcode ∷ [])
after_passing places placed index steps k opcode stands inside closed =
    let place = get_or places k [] in
    let step : Step = passes place opcode in
    let open_first = after_opening places places placed index steps k place stands (reached_there places k place (inside, refl)) closed in
    let touch : touched (steps ++ step ∷ []) ≡ touched (steps ++ opens place ∷ []) = touched-append steps (step ∷ []) ∙ sym (touched-append steps (opens place ∷ [])) in
    let stay : entries_of (steps ++ step ∷ []) ≡ entries_of (steps ++ opens place ∷ []) = entries_of-append steps (step ∷ []) ∙ sym (entries_of-append steps (opens place ∷ [])) in
    record {
      known = rw touch open_first.known;
      entries = rw stay open_first.entries;
      indexed = open_first.indexed;
      distinct = rw stay open_first.distinct;
    }
