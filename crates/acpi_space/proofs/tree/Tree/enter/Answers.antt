use Rattle.std.proofs.Common.{◌≡◌, ◌≤◌, ◌-◌, ◌∷◌, ◌++◌, ℕ, [], List, length, take, get_or, sym, ap, subst, ◌∙◌, arith, Some, None}
use Rattle.std.specs.Prelude.{Contains}
use Rattle.std.specs.BTreeMap.{Updates}
use Rattle.std.specs.Vec.{vec_len}
use Rattle.std.proofs.lemmas.List.{take_at}
use Rattle.acpi_space.specs.declared.tree.Name.{Name}
use Rattle.acpi_space.specs.inner.Trees.{IsNext, IsTold, Reaches, below, key, key_cmp, places_in}
use Rattle.acpi_space.proofs.Trees.{added_tree, added_view, ap2, child_answer, length_in, reached_added, reached_there, same_answers, same_map}
use Rattle.acpi_space.proofs.Rising.{short}
use Rattle.pw_base.proofs.Facts.{subst2}
use Rattle.acpi_space.proofs.tree.Tree.enter.Goals as goal

-- the names as they were, when the last is taken off again
popped : (ns all left : List Name) (n : Name) (count : ℕ) → count ≡ length ns → all ≡ ns ++ n ∷ [] → left ≡ take count all → left ≡ ns
popped ns all left n count size put off = off ∙ ap (λ items. take count items) put ∙ take_at ns (n ∷ []) count (sym size)

pub invariant_of-self-in-Ok-None : goal.invariant_of-self-in-Ok-None
invariant_of-self-in-Ok-None c =
    let ns = c.self.inside.names.items in
    let n : Name = c.next_name-name.result in
    let count = c.self.inside.names.ok.0 in
    let pushed = c.in_ok-push.ensures.len in
    let number = c.len-number.ensures in
    let above = c.next_name-name.ensures.above in
    let seg = c.next_name-name.ensures.seg in
    let told = subst (IsTold c.self.inside.numbers c.tell.new.map (key c.args.seg c.args.at) c.len-number.result) c.in-Ok-None.field-0-is c.in-Ok-None.ensures.told in
    let inside = c.requires in
    added_tree ns c.push.new.self.items c.self.inside.numbers c.tell.new.map n c.args.self.now c.len-number.result c.self.invariant c.self.view_is (omega (arith, above, inside))
    (subst (λ names. IsNext names n) c.as_slice.ensures.value c.next_name-name.ensures.next)
    (subst2 (λ a s. Contains c.args.self.now (below c.args.self.now a s) → ⊥) (sym above) (sym seg)
    (child_answer ns c.self.inside.numbers c.args.at c.args.seg c.args.self.now c.self.invariant c.self.view_is inside None (sym told.0)))
    c.in_ok-push.ensures.items (omega (arith, count, pushed, number))
    (subst2 (λ s a. Updates key_cmp c.self.inside.numbers c.tell.new.map (key s a) (Some c.len-number.result)) (sym seg) (sym above) told.1)

pub invariant_of-self-in-Ok-Some : goal.invariant_of-self-in-Ok-Some
invariant_of-self-in-Ok-Some c =
    let ns = c.self.inside.names.items in
    let count = c.self.inside.names.ok.0 in
    let pushed = c.in_ok-push.ensures.len in
    same_answers ns c.pop.new.self.items c.self.inside.numbers c.tell.new.map c.self.invariant
    (popped ns c.push.new.self.items c.pop.new.self.items c.next_name-name.result (vec_len c.push.new.self - 1) (omega (arith, count, pushed)) c.in_ok-push.ensures.items c.pop.ensures.rest)
    (subst (IsTold c.self.inside.numbers c.tell.new.map (key c.args.seg c.args.at) c.len-number.result) c.in-Ok-Some.field-0-is c.in-Ok-Some.ensures.told).1

pub invariant_of-self-in-Err : goal.invariant_of-self-in-Err
invariant_of-self-in-Err c =
    let ns = c.self.inside.names.items in
    let count = c.self.inside.names.ok.0 in
    let pushed = c.in_ok-push.ensures.len in
    same_map ns c.pop-in-Err.new.self.items c.self.inside.numbers c.tell.new.map c.self.invariant
    (popped ns c.push.new.self.items c.pop-in-Err.new.self.items c.next_name-name.result (vec_len c.push.new.self - 1) (omega (arith, count, pushed)) c.in_ok-push.ensures.items
    c.pop-in-Err.ensures.rest)
    c.in-Err.ensures.err

pub returns-in-Ok-None : goal.returns-in-Ok-None
returns-in-Ok-None c =
    let ns = c.self.inside.names.items in
    let now = c.args.self.now in
    let size = length_in ns in
    let same = ap length c.self.view_is in
    let count = c.self.inside.names.ok.0 in
    let pushed = c.in_ok-push.ensures.len in
    let number = c.len-number.ensures in
    reached_added now (places_in c.push.new.self.items) c.len-number.result (below now c.args.at c.args.seg) (
      omega (arith, size, same, count, pushed, number),
      added_view ns c.push.new.self.items c.next_name-name.result now c.self.view_is c.in_ok-push.ensures.items
          ∙ ap2 (λ a s. now ++ below now a s ∷ []) c.next_name-name.ensures.above c.next_name-name.ensures.seg,
    )

pub returns-in-Ok-Some : goal.returns-in-Ok-Some
returns-in-Ok-Some c =
    let ns = c.self.inside.names.items in
    let now = c.args.self.now in
    let place = below now c.args.at c.args.seg in
    let count = c.self.inside.names.ok.0 in
    let pushed = c.in_ok-push.ensures.len in
    let left = popped ns c.push.new.self.items c.pop.new.self.items c.next_name-name.result (vec_len c.push.new.self - 1) (omega (arith, count, pushed)) c.in_ok-push.ensures.items c.pop.ensures.rest
    in
    subst (λ places. Reaches now places c.in-Ok-Some.known place) (sym (ap places_in left ∙ c.self.view_is))
    (reached_there now c.in-Ok-Some.known place (child_answer ns c.self.inside.numbers c.args.at c.args.seg now c.self.invariant c.self.view_is c.requires (Some c.in-Ok-Some.known)
    (sym (subst (IsTold c.self.inside.numbers c.tell.new.map (key c.args.seg c.args.at) c.len-number.result) c.in-Ok-Some.field-0-is c.in-Ok-Some.ensures.told).0)))

pub next_name-name-requires-clause-within : goal.next_name-name-requires-clause-within
next_name-name-requires-clause-within c =
    let size = length_in c.self.inside.names.items in
    let same = ap length c.self.view_is in
    let count = ap length c.as_slice.ensures.value in
    let inside = c.requires in
    omega (arith, size, same, count, inside)

pub next_name-name-requires-clause-small : goal.next_name-name-requires-clause-small
next_name-name-requires-clause-small c =
    subst (λ names. length (get_or (places_in names) c.args.at []) ≤ c.args.at) (sym c.as_slice.ensures.value)
    (subst (λ t. length (get_or t c.args.at []) ≤ c.args.at) (sym c.self.view_is) (short c.self.inside.names.items c.self.inside.numbers c.args.self.now c.args.at c.self.invariant c.self.view_is
    c.requires))
