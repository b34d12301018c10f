-- Compact texts that are put piece by piece.
use Rattle.std.proofs.Common.{◌≡◌, ℕ, true, List, [], ◌∷◌, ◌++◌, map, codes, decimal, refl, sym, ◌∙◌, ap, append_assoc}
use Rattle.std.specs.List.{flat_map, join_with_byte}
use Rattle.json.specs.Print.{escape_byte}
use Rattle.aml_data.specs.declared.data.Data.{Data}
use Rattle.acpi_space.specs.Places.{Place}
use Rattle.serde_json.specs.Data.{Data as Json, number, unsigned, string, array}
use Rattle.serde_json.specs.View.{items_of}
use Rattle.serde_json.specs.Written.{compact_text, items_text}
use Rattle.pw_base.proofs.Facts.{map_map}
use Rattle.pw_text.specs.Text.{place_text}
use Rattle.pw_show.specs.Json.{Told, told, buffer_json, element_json, package_json, with_value, without_value}
use Rattle.pw_show.specs.inner.Pieces.{element_text, head_text, kind_text}
use Rattle.pw_show.proofs.Joining.{behind_comma, joined, joined-cons}

-- # Arrays

module _ {X : Type 0} (f : X → Json) where
  abbrev text : X → List ℕ
  text x = compact_text (f x)

  -- the items behind the first, and the bracket
  behind_first : (xs : List X) → items_text true (items_of (map f xs)) ≡ flat_map (behind_comma text) xs ++ codes "]"
  behind_first [] = refl
  behind_first (x ∷ xs) =
      ap (λ l. 44 ∷ (text x ++ l)) (behind_first xs)
      ∙ ap (λ l. 44 ∷ l) (sym (append_assoc (text x) (flat_map (behind_comma text) xs) (codes "]")))

  -- The compact text of an array is that of its elements between commas.
  pub array_text : (xs : List X) → compact_text (array (items_of (map f xs))) ≡ codes "[" ++ (joined text xs ++ codes "]")
  array_text [] = refl
  array_text (x ∷ xs) =
      ap (λ l. 91 ∷ (text x ++ l)) (behind_first xs)
      ∙ ap (λ l. 91 ∷ l) (sym (append_assoc (text x) (flat_map (behind_comma text) xs) (codes "]")))
      ∙ ap (λ l. 91 ∷ (l ++ codes "]")) (sym (joined-cons text x xs))

  -- the same with what stands behind it
  pub array_then : (xs : List X) (more : List ℕ) → codes "[" ++ (joined text xs ++ (codes "]" ++ more)) ≡ compact_text (array (items_of (map f xs))) ++ more
  array_then xs more = ap (λ l. 91 ∷ l) (sym (append_assoc (joined text xs) (codes "]") more)) ∙ ap (λ l. l ++ more) (sym (array_text xs))

-- # Objects

-- The compact text of an object is that of its members between commas: the key, a colon, and the value.

pub buffer_in_pieces : (size : ℕ) (bytes : List ℕ)
    → codes "{\"bytes\":[" ++ (join_with_byte 44 (map decimal bytes) ++ (codes "],\"size\":" ++ (decimal size ++ codes "}"))) ≡ compact_text (buffer_json size bytes)
unfolding escape_byte
buffer_in_pieces size bytes =
    ap (λ l. codes "{\"bytes\":" ++ l) (array_then (λ (n : ℕ). number (unsigned n)) bytes (codes ",\"size\":" ++ (decimal size ++ codes "}")))

-- an element of a package
abbrev pub element_of : Data → Json
element_of v = element_json (told v)

pub package_in_pieces : (count : ℕ) (elements : List Data)
    → (codes "{\"count\":" ++ (decimal count ++ codes ",\"elements\":[")) ++ (joined (λ v. element_text (told v)) elements ++ codes "]}")
    ≡ compact_text (package_json count (map element_json (map told elements)))
unfolding escape_byte
package_in_pieces count elements =
    let list = joined (λ (v : Data). element_text (told v)) elements in
    ap (λ l. codes "{\"count\":" ++ l) (append_assoc (decimal count) (codes ",\"elements\":[") (list ++ codes "]}"))
    ∙ ap (λ l. codes "{\"count\":" ++ (decimal count ++ (codes ",\"elements\":" ++ l))) (array_then element_of elements (codes "}"))
    ∙ ap (λ (es : List Json). compact_text (package_json count es)) (sym (map_map told element_json elements))

pub element_in_pieces : (before : List ℕ) (x : Told)
    → (before ++ (kind_text x.kind ++ codes ",\"value\":")) ++ (compact_text x.value ++ codes "}") ≡ before ++ element_text x
unfolding escape_byte
element_in_pieces before x =
    append_assoc before (kind_text x.kind ++ codes ",\"value\":") (compact_text x.value ++ codes "}")
    ∙ ap (λ l. before ++ l) (append_assoc (kind_text x.kind) (codes ",\"value\":") (compact_text x.value ++ codes "}"))

pub plain_in_pieces : (kind : List ℕ) (path : Place) → head_text (kind_text kind) path (codes "}") ≡ compact_text (without_value kind path)
unfolding escape_byte
plain_in_pieces kind path = append_assoc (kind_text kind) (codes ",\"path\":") (compact_text (string (place_text path)) ++ codes "}")

pub valued_in_pieces : (before kind : List ℕ) (path : Place) (value : Json)
    → (before ++ head_text (kind_text kind) path (codes ",\"value\":")) ++ (compact_text value ++ codes "}")
    ≡ before ++ compact_text (with_value kind path value)
unfolding escape_byte
valued_in_pieces before kind path value =
    let place = compact_text (string (place_text path)) in
    let end = compact_text value ++ codes "}" in
    append_assoc before (head_text (kind_text kind) path (codes ",\"value\":")) end
    ∙ ap (λ l. before ++ l) (append_assoc (kind_text kind ++ codes ",\"path\":") (place ++ codes ",\"value\":") end
    ∙ append_assoc (kind_text kind) (codes ",\"path\":") ((place ++ codes ",\"value\":") ++ end)
    ∙ ap (λ l. kind_text kind ++ (codes ",\"path\":" ++ l)) (append_assoc place (codes ",\"value\":") end))
