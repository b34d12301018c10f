-- Paths and strings as JSON has them, with its escapes.
use Rattle.std.proofs.Common.{◌≡◌, ◌⊎◌, inl, inr, ◌+◌, ◌-◌, ◌<◌, ◌≤◌, ℕ, suc, zero, true, false, IsTrue, List, [], ◌∷◌, ◌++◌, take, drop, get_or, length, refl, sym, ◌∙◌, ap, append_assoc, replicate, codes, encode_utf8, encode_utf8_all, arith, length-append}
use Rattle.std.proofs.lemmas.List.{append-nil, replicate-append-replicate}
use Rattle.std.proofs.lemmas.Bool.Decides.{nat_tests}
use Rattle.std.proofs.lemmas.Grind.{flat_map-append}
use Rattle.std.proofs.lemmas.Str.{encode_ascii, encodes-append}
use Rattle.std.proofs.Math.Seq.{take-append_seam, take-suc}
use Rattle.std.specs.List.{flat_map}
use Rattle.json.specs.Print.{escape, escape_byte, quoted}
use Rattle.json.proofs.Printed.Strings.{escape_byte_plain}
use Rattle.aml_data.specs.Segment.{is_letter, is_word, IsSegment}
use Rattle.aml_data.specs.declared.path.Path.{Path}
use Rattle.serde_json.specs.Data.{string}
use Rattle.serde_json.specs.Written.{compact_text}
use Rattle.pw_text.specs.Text.{path_prefix, segments_text}
use Rattle.pw_text.proofs.Joined.{join-flat_map}
use Rattle.pw_show.specs.Json.{characters}
use Rattle.pw_show.specs.inner.Pieces.{character_text, is_printable}

-- # Segments

-- no character of a segment is escaped

escape_word : (b : ℕ) → IsTrue (is_word b) → escape_byte b ≡ b ∷ []
escape_word b h = escape_byte_plain b (λ e. grind (arith, nat_tests)) (λ e. grind (arith, nat_tests)) (grind (arith, nat_tests))

escape_letter : (b : ℕ) → IsTrue (is_letter b) → escape_byte b ≡ b ∷ []
escape_letter b h = escape_byte_plain b (λ e. grind (arith, nat_tests)) (λ e. grind (arith, nat_tests)) (grind (arith, nat_tests))

pub escape_segment : (seg : List ℕ) → IsSegment seg → escape seg ≡ seg
escape_segment [] h = absurd h
escape_segment (a ∷ []) h = absurd h
escape_segment (a ∷ b ∷ []) h = absurd h
escape_segment (a ∷ b ∷ c ∷ []) h = absurd h
escape_segment (a ∷ b ∷ c ∷ d ∷ []) h = rw (escape_letter a h.0, escape_word b h.1, escape_word c h.2, escape_word d h.3) refl
escape_segment (a ∷ b ∷ c ∷ d ∷ e ∷ s) h = absurd h

-- the four bytes of a segment behind a dot
pub dot_before : (bytes seg : List ℕ) → bytes ≡ seg → IsSegment seg
    → 46 ∷ get_or bytes 0 0 ∷ get_or bytes 1 0 ∷ get_or bytes 2 0 ∷ get_or bytes 3 0 ∷ [] ≡ 46 ∷ escape seg
dot_before bytes [] is h = absurd h
dot_before bytes (a ∷ []) is h = absurd h
dot_before bytes (a ∷ b ∷ []) is h = absurd h
dot_before bytes (a ∷ b ∷ c ∷ []) is h = absurd h
dot_before bytes (a ∷ b ∷ c ∷ d ∷ []) is h = rw is (ap (λ l. 46 ∷ l) (sym (escape_segment (a ∷ b ∷ c ∷ d ∷ []) h)))
dot_before bytes (a ∷ b ∷ c ∷ d ∷ e ∷ s) is h = absurd h

-- a segment behind its dot
abbrev pub dotted : List ℕ → List ℕ
dotted seg = 46 ∷ escape seg

dots_escaped : (segs : List (List ℕ)) → escape (flat_map (λ (seg : List ℕ). 46 ∷ seg) segs) ≡ flat_map dotted segs
unfolding escape_byte
dots_escaped [] = refl
dots_escaped (seg ∷ segs) =
    ap (λ l. 46 ∷ l) (flat_map-append escape_byte seg (flat_map (λ (s : List ℕ). 46 ∷ s) segs) ∙ ap (λ l. escape seg ++ l) (dots_escaped segs))

pub segments_escaped : (segs rest : List (List ℕ)) (first : List ℕ) → segs ≡ first ∷ rest → escape first ++ flat_map dotted rest ≡ escape (segments_text segs)
segments_escaped segs rest first e =
    ap (λ l. escape first ++ l) (sym (dots_escaped rest)) ∙ sym (flat_map-append escape_byte first (flat_map (λ (seg : List ℕ). 46 ∷ seg) rest))
    ∙ ap escape (sym (join-flat_map 46 first rest)) ∙ ap (λ (l : List (List ℕ)). escape (segments_text l)) (sym e)

-- # Paths

steps_escaped : (n : ℕ) → escape (replicate n 94) ≡ replicate n 94
unfolding escape_byte
steps_escaped zero = refl
steps_escaped (suc n) = ap (λ l. 94 ∷ l) (steps_escaped n)

-- the quote and what stands before the segments

pub root_prefix : (path : Path) → path.root ≡ true → codes "\"\\\\" ≡ 34 ∷ escape (path_prefix path)
unfolding escape_byte
root_prefix path is = rw is refl

pub steps_prefix : (path : Path) → path.root ≡ false → codes "\"" ++ replicate path.ups 94 ≡ 34 ∷ escape (path_prefix path)
steps_prefix path is = rw is (ap (λ l. 34 ∷ l) (sym (steps_escaped path.ups)))

-- so many steps up
abbrev pub steps : ℕ → List ℕ
steps n = replicate n 94

-- the steps so far, one more, and those that are left are all steps
pub steps_in_parts : (at ups : ℕ) → at < ups → (steps at ++ steps 1) ++ steps (ups - (at + 1)) ≡ steps ups
steps_in_parts at ups h =
    ap (λ l. l ++ steps (ups - (at + 1))) (replicate-append-replicate at 1 94) ∙ replicate-append-replicate (at + 1) (ups - (at + 1)) 94
    ∙ ap (λ n. steps n) {x = at + 1 + (ups - (at + 1))} {y = ups} (omega arith)

pub place_in_pieces : (segs : List (List ℕ)) → codes "\"\\\\" ++ (escape (segments_text segs) ++ codes "\"") ≡ compact_text (string (92 ∷ segments_text segs))
unfolding escape_byte
place_in_pieces segs = refl

pub path_in_pieces : (prefix segs : List ℕ) → (34 ∷ escape prefix) ++ (escape segs ++ codes "\"") ≡ compact_text (string (prefix ++ segs))
path_in_pieces prefix segs =
    ap (λ l. 34 ∷ l) (sym (append_assoc (escape prefix) (escape segs) (codes "\"")))
    ∙ ap (λ l. 34 ∷ (l ++ codes "\"")) (sym (flat_map-append escape_byte prefix segs))

-- # Strings

pub characters_escaped : (bytes : List ℕ) → flat_map character_text bytes ≡ escape (encode_utf8_all bytes)
characters_escaped [] = refl
characters_escaped (b ∷ bs) =
    ap (λ l. character_text b ++ l) (characters_escaped bs) ∙ sym (flat_map-append escape_byte (encode_utf8 b) (encode_utf8_all bs))

pub string_in_pieces : (bytes : List ℕ) → codes "\"" ++ (flat_map character_text bytes ++ codes "\"") ≡ compact_text (characters bytes)
string_in_pieces bytes = ap (λ l. 34 ∷ (l ++ codes "\"")) (characters_escaped bytes)

-- what stands between the quotes
pub within_quotes : (bytes text : List ℕ) → text ≡ compact_text (characters bytes) → (2 ≤ length text) × (take (length text - 2) (drop 1 text) ≡ flat_map character_text bytes)
within_quotes bytes text is =
    let inside = escape (encode_utf8_all bytes) in
    let long : length (inside ++ codes "\"") ≡ length inside + 1 = length-append inside (codes "\"") in
    let n : length (quoted (encode_utf8_all bytes)) - 2 ≡ length inside = omega (arith, long) in
    rw is (omega (arith, long), rw n (take-append_seam inside (codes "\"") ∙ sym (characters_escaped bytes)))

-- the characters of one more byte stand behind those before it
pub encodes-take-suc : (bytes : List ℕ) (i : ℕ) → i < length bytes
    → encode_utf8_all (take (suc i) bytes) ≡ encode_utf8_all (take i bytes) ++ encode_utf8 (get_or bytes i 0)
encodes-take-suc bytes i h =
    ap encode_utf8_all (take-suc bytes i 0 h) ∙ encodes-append (take i bytes) (get_or bytes i 0 ∷ [])
    ∙ ap (λ l. encode_utf8_all (take i bytes) ++ l) (append-nil (encode_utf8 (get_or bytes i 0)))

-- # Printable characters

-- one stands as it is
pub printable_stands : (code : ℕ) → is_printable code ≡ true → (code ≡ 34 → ⊥) → (code ≡ 92 → ⊥) → code ∷ [] ≡ character_text code
printable_stands code h quote slash =
    sym (ap escape (encode_ascii code (grind (arith, nat_tests))) ∙ append-nil (escape_byte code)
    ∙ escape_byte_plain code quote slash (grind (arith, nat_tests)))

-- or behind a backslash
pub quote_behind : (code : ℕ) → (code ≡ 34) ⊎ (code ≡ 92) → 92 ∷ code ∷ [] ≡ character_text code
unfolding escape_byte
quote_behind code (inl h) = rw h (sym (ap escape (encode_ascii 34 (omega arith))))
quote_behind code (inr h) = rw h (sym (ap escape (encode_ascii 92 (omega arith))))
