-- Texts that are put one for each element of a list.
use Rattle.std.proofs.Common.{◌≡◌, ◌+◌, ◌<◌, ℕ, true, false, List, ◌∷◌, ◌++◌, map, ap, ◌∙◌, Result, IsErr, is_ok, take, drop, get_or, length, add-one, append_assoc, sym}
use Rattle.std.specs.List.{flat_map}
use Rattle.std.proofs.lemmas.Grind.{flat_map-append}
use Rattle.std.proofs.lemmas.List.{take-append-drop}
use Rattle.std.proofs.lemmas.List.Folds.{flat_map-map}
use Rattle.pw_base.specs.declared.sink.Sink.{Ghosts as Sink}
use Rattle.pw_text.specs.Puts.{PutsText}
use Rattle.pw_show.specs.Values.{behind, separated}
use Rattle.pw_text.proofs.Joined.{flat_map-in_parts, flat_map-take-suc}
use Rattle.pw_text.proofs.Putting.{PutsText-as, PutsText-stop, PutsText-then}

module _ {S : Type 0} {K : Sink S} where
  -- one more element was put behind those before it
  pub each_more : {X : Type 0} {a b c : S} {waited left waits : List ℕ} (f : X → List ℕ) (xs : List X) (i : ℕ) (x : X) → i < length xs
      → x ≡ get_or xs i x → PutsText K a b waited left (flat_map f (take i xs)) true
      → PutsText K b c left waits (f x) true → PutsText K a c waited waits (flat_map f (take (i + 1) xs)) true
  each_more f xs i x within is before now = rw (add-one, flat_map-take-suc f i xs x within is) (PutsText-then before now)

  -- one element behind those before it failed to be put
  pub each_stop : {X A E : Type 0} {a b c : S} {waited left waits : List ℕ} (f : X → List ℕ) (xs : List X) (i : ℕ) (x : X) (r : Result A E)
      → i < length xs → x ≡ get_or xs i x → IsErr r → PutsText K a b waited left (flat_map f (take i xs)) true
      → PutsText K b c left waits (f x) false → PutsText K a c waited waits (flat_map f xs) (is_ok r)
  each_stop f xs i x r within is failed before now =
      PutsText-as (flat_map f xs) (flat_map-in_parts f i xs x within is) (PutsText-stop (flat_map f (drop (i + 1) xs)) r failed (PutsText-then before now))

-- shown elements with a separator between them: the first, and each other behind the separator
pub separated-first : {X : Type 0} (separator : List ℕ) (h : X → List ℕ) (xs : List X) (x : X) (rest : List X) → xs ≡ x ∷ rest
    → separated separator (map h xs) ≡ h x ++ flat_map (λ y. behind separator (h y)) rest
separated-first separator h xs x rest e = ap (λ all. separated separator (map h all)) e ∙ ap (λ others. h x ++ others) (flat_map-map (behind separator) h rest)

-- what bytes in two parts give
pub of_parts : (f : ℕ → List ℕ) (bytes done more : List ℕ) → bytes ≡ done ++ more → flat_map f done ++ flat_map f more ≡ flat_map f bytes
of_parts f bytes done more e = sym (flat_map-append f done more) ∙ ap (λ (l : List ℕ). flat_map f l) (sym e)

-- one more piece is done
pub more_done : (bytes done rest piece others : List ℕ) (n : ℕ) → bytes ≡ done ++ rest → piece ≡ take n rest → others ≡ drop n rest → bytes ≡ (done ++ piece) ++ others
more_done bytes done rest piece others n e front back =
    rw (front, back) (e ∙ ap (λ (l : List ℕ). done ++ l) (sym (take-append-drop n rest)) ∙ sym (append_assoc done (take n rest) (drop n rest)))
