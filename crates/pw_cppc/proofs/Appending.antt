-- Lists put together, one for each element of another.
use Rattle.std.proofs.Common.{◌≡◌, ◌<◌, ◌≤◌, ◌+◌, ℕ, suc, zero, List, [], ◌∷◌, ◌++◌, length, get_or, drop, refl, ap, ◌∙◌, arith, append_assoc, length-append}
use Rattle.std.specs.List.{flat_map}
use Rattle.acpi_values.specs.declared.operation.Op.{Op}
use Rattle.pw_base.specs.Room.{Bounded}
use Rattle.pw_regs.specs.Rooms.{HasRoom}

one_on : {X A : Type 0} (f : X → List A) (xs : List X) (i : ℕ) (d : X) → i < length xs → f (get_or xs i d) ++ flat_map f (drop (suc i) xs) ≡ flat_map f (drop i xs)
one_on f [] i d lt = absurd (omega arith)
one_on f (x ∷ xs) zero d lt = refl
one_on f (x ∷ xs) (suc i) d lt = one_on f xs i d (omega arith)

-- one more is appended, and what is left goes on to the same whole
pub appended : {X A : Type 0} (f : X → List A) (xs : List X) (i : ℕ) (d : X) (now whole : List A) → i < length xs
    → now ++ flat_map f (drop i xs) ≡ whole → (now ++ f (get_or xs i d)) ++ flat_map f (drop (i + 1) xs) ≡ whole
appended f xs i d now whole lt e =
    let next : i + 1 ≡ suc i = omega arith in
    rw next (append_assoc now (f (get_or xs i d)) (flat_map f (drop (suc i) xs)) ∙ ap (λ ys. now ++ ys) (one_on f xs i d lt) ∙ e)

-- what is appended after one another is appended together
pub twice : (ops mid new : Bounded Op) (A B C : List Op) → mid ≡ record ops { elements = ops.elements ++ A } → new ≡ record mid { elements = mid.elements ++ B } → A ++ B ≡ C
    → new ≡ record ops { elements = ops.elements ++ C }
twice ops mid new A B C first second whole =
    second
    ∙ ap (λ (o : Bounded Op). record o { elements = o.elements ++ B }) first
    ∙ ap (λ (xs : List Op). record ops { elements = xs }) (append_assoc ops.elements A B ∙ ap (λ xs. ops.elements ++ xs) whole)

-- room is left for what is still to come
pub left_room : (ops mid : Bounded Op) (A : List Op) (used more : ℕ) → mid ≡ record ops { elements = ops.elements ++ A } → length A ≤ used → HasRoom ops (used + more) → HasRoom mid more
left_room ops mid A used more e le room =
    let n = length-append ops.elements A in
    rw e (omega (arith, n, le, room))

pub in_turn : (ops mid new : Bounded Op) (A B C : List Op) → mid ≡ record ops { elements = ops.elements ++ A } → new ≡ record mid { elements = mid.elements ++ B } → B ≡ C
    → new ≡ record ops { elements = (ops.elements ++ A) ++ C }
in_turn ops mid new A B C first second same =
    second
    ∙ ap (λ (o : Bounded Op). record o { elements = o.elements ++ B }) first
    ∙ ap (λ (xs : List Op). record ops { elements = (ops.elements ++ A) ++ xs }) same
