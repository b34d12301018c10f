-- A list has at most one first repeat.
use Rattle.std.proofs.Common.{◌≡◌, List, [], ◌∷◌, ◌++◌, sym, ap, ◌∙◌}
use Rattle.acpi_space.specs.Distinct.{IsFirstRepeat}
use Rattle.acpi_space.proofs.Seen.{first_repeat_repeats}

-- where two lists with an element behind each begin one list: the lists and elements are the same, or one list goes on with
-- the other's element
data Meeting {X : Type 0} (x y : X) (f g : List X) : Type 0 where
  together : x ≡ y → Meeting x y f g
  first_in_second : (more : List X) → g ≡ f ++ x ∷ more → Meeting x y f g
  second_in_first : (more : List X) → f ≡ g ++ y ∷ more → Meeting x y f g

meeting : {X : Type 0} (x y : X) (f g b c : List X) → f ++ x ∷ b ≡ g ++ y ∷ c → Meeting x y f g
meeting x y [] [] b c e = together (cc)
meeting {X} x y [] (z ∷ g) b c e = let same : x ≡ z = cc in first_in_second g (ap (λ (w : X). w ∷ g) (sym same))
meeting {X} x y (z ∷ f) [] b c e = let same : z ≡ y = cc in second_in_first f (ap (λ (w : X). w ∷ f) same)
meeting {X} x y (u ∷ f) (v ∷ g) b c e =
    let head : u ≡ v = cc in
    let tail : f ++ x ∷ b ≡ g ++ y ∷ c = cc in
    elim (meeting x y f g b c tail) [
      | together same ↦ together same
      | first_in_second more is ↦ first_in_second more (ap (λ (w : X). w ∷ g) (sym head) ∙ ap (λ (l : List X). u ∷ l) is)
      | second_in_first more is ↦ second_in_first more (ap (λ (w : X). w ∷ f) head ∙ ap (λ (l : List X). v ∷ l) is)
    ]

pub one_first_repeat : {X : Type 0} (xs : List X) (x y : X) → IsFirstRepeat xs x → IsFirstRepeat xs y → x ≡ y
one_first_repeat xs x y p q =
    elim (meeting x y p.front q.front p.back q.back (sym p.parts ∙ q.parts)) [
      | together same ↦ same
      | first_in_second more is ↦
          absurd (first_repeat_repeats q.front x (record { front = p.front; back = more; parts = is; distinct = p.distinct; among = p.among }) q.distinct)
      | second_in_first more is ↦
          absurd (first_repeat_repeats p.front y (record { front = q.front; back = more; parts = is; distinct = q.distinct; among = q.among }) p.distinct)
    ]
