-- The written form of a block has the header that it is to have.
use Rattle.std.proofs.Common.{◌≡◌, ◌<◌, ◌≤◌, ◌+◌, ◌%◌, ◌^◌, ℕ, List, [], ◌∷◌, ◌++◌, length, take, drop, sum, refl, sym, ap, subst, ◌∙◌, arith, append_assoc, length-append}
use Rattle.std.specs.Int.{w32, to_le_bytes}
use Rattle.std.proofs.Math.Seq.{take-append_seam, drop-append-add}
use Rattle.std.proofs.lemmas.List.Sums.{sum_by-cons}
use Rattle.std.proofs.lemmas.Nat.{from_le_bytes-to_le_bytes_4}
use Rattle.aml_block.specs.declared.block.Header.{Header}
use Rattle.aml_block.specs.declared.block.Signature.{Signature}
use Rattle.aml_block.specs.declared.block.Signature.TheVariants.{Dsdt, Ssdt}
use Rattle.aml_block.specs.declared.header.TheConstants.{LARGEST, HEADER_SIZE}
use Rattle.aml_block.specs.Header.{signature_text, number_field, IsHeader, HasSize, HasLength, HasSum}
use Rattle.aml_block.specs.Written.{checksum_for, written_behind, written_header, IsInRange}

front : (xs ys : List ℕ) (n : ℕ) → length xs ≡ n → take n (xs ++ ys) ≡ xs
front xs ys n e = subst (λ (k : ℕ). take k (xs ++ ys) ≡ xs) e (take-append_seam xs ys)

past : (xs ys : List ℕ) (n k : ℕ) → length xs ≡ n → drop (n + k) (xs ++ ys) ≡ drop k ys
past xs ys n k e = subst (λ (m : ℕ). drop (m + k) (xs ++ ys) ≡ drop k ys) e (drop-append-add xs ys k)

-- a number in place of 0 adds itself to a sum
sum_with : (before : List ℕ) (n : ℕ) (later : List ℕ) → sum (before ++ n ∷ later) ≡ sum (before ++ 0 ∷ later) + n
sum_with [] n later =
    let a = sum_by-cons (λ (x : ℕ). x) n later in
    let z = sum_by-cons (λ (x : ℕ). x) 0 later in
    omega (arith, a, z)
sum_with (b ∷ before) n later =
    let e = sum_with before n later in
    let a = sum_by-cons (λ (x : ℕ). x) b (before ++ n ∷ later) in
    let z = sum_by-cons (λ (x : ℕ). x) b (before ++ 0 ∷ later) in
    omega (arith, e, a, z)

module _ (h : Header) (r : IsInRange h) (body : List ℕ) where
  -- what follows the checksum, and what follows each field
  behind_creator : List ℕ
  behind_creator = to_le_bytes w32 h.creator_revision ++ body

  behind_revision : List ℕ
  behind_revision = h.creator_id ++ behind_creator

  behind_table : List ℕ
  behind_table = to_le_bytes w32 h.oem_revision ++ behind_revision

  behind_id : List ℕ
  behind_id = h.oem_table_id ++ behind_table

  behind_checksum : List ℕ
  behind_checksum = h.oem_id ++ behind_id

  abbrev text_of : Signature → ℕ → ℕ → List ℕ
  text_of s whole checksum = signature_text s ++ to_le_bytes w32 whole ++ h.revision ∷ checksum ∷ behind_checksum

  as_text : (s : Signature) (whole checksum : ℕ) → written_header (record h { signature = s }) whole checksum ++ body ≡ text_of s whole checksum
  unfolding behind_checksum behind_id behind_table behind_revision behind_creator
  as_text Dsdt whole checksum = simp append_assoc refl
  as_text Ssdt whole checksum = simp append_assoc refl

  drop_16 : drop 6 behind_checksum ≡ behind_id
  unfolding behind_checksum
  drop_16 = past h.oem_id behind_id 6 0 r.oem_id

  drop_24 : drop 14 behind_checksum ≡ behind_table
  unfolding behind_checksum behind_id
  drop_24 = past h.oem_id behind_id 6 8 r.oem_id ∙ past h.oem_table_id behind_table 8 0 r.oem_table_id

  drop_28 : drop 18 behind_checksum ≡ behind_revision
  unfolding behind_checksum behind_id behind_table
  drop_28 = past h.oem_id behind_id 6 12 r.oem_id ∙ past h.oem_table_id behind_table 8 4 r.oem_table_id

  drop_32 : drop 22 behind_checksum ≡ behind_creator
  unfolding behind_checksum behind_id behind_table behind_revision
  drop_32 = past h.oem_id behind_id 6 16 r.oem_id ∙ past h.oem_table_id behind_table 8 8 r.oem_table_id ∙ past h.creator_id behind_creator 4 0 r.creator_id

  drop_36 : drop 26 behind_checksum ≡ body
  unfolding behind_checksum behind_id behind_table behind_revision behind_creator
  drop_36 = past h.oem_id behind_id 6 20 r.oem_id ∙ past h.oem_table_id behind_table 8 12 r.oem_table_id ∙ past h.creator_id behind_creator 4 4 r.creator_id

  is_header : (s : Signature) (whole checksum : ℕ) → h.signature ≡ s → IsHeader h (text_of s whole checksum)
  unfolding behind_checksum behind_id behind_table behind_revision behind_creator
  is_header Dsdt whole checksum e = record {
    signature = sym (ap signature_text e);
    revision = refl;
    oem_id = front h.oem_id behind_id 6 r.oem_id;
    oem_table_id = rw drop_16 (front h.oem_table_id behind_table 8 r.oem_table_id);
    oem_revision = rw drop_24 (from_le_bytes-to_le_bytes_4 h.oem_revision r.oem_revision);
    creator_id = rw drop_28 (front h.creator_id behind_creator 4 r.creator_id);
    creator_revision = rw drop_32 (from_le_bytes-to_le_bytes_4 h.creator_revision r.creator_revision);
  }
  is_header Ssdt whole checksum e = record {
    signature = sym (ap signature_text e);
    revision = refl;
    oem_id = front h.oem_id behind_id 6 r.oem_id;
    oem_table_id = rw drop_16 (front h.oem_table_id behind_table 8 r.oem_table_id);
    oem_revision = rw drop_24 (from_le_bytes-to_le_bytes_4 h.oem_revision r.oem_revision);
    creator_id = rw drop_28 (front h.creator_id behind_creator 4 r.creator_id);
    creator_revision = rw drop_32 (from_le_bytes-to_le_bytes_4 h.creator_revision r.creator_revision);
  }

  has_length : (s : Signature) (whole checksum : ℕ) → whole < 2 ^ 32 → number_field 4 (text_of s whole checksum) ≡ whole
  has_length Dsdt whole checksum lt = from_le_bytes-to_le_bytes_4 whole lt
  has_length Ssdt whole checksum lt = from_le_bytes-to_le_bytes_4 whole lt

  rest_is : (s : Signature) (whole checksum : ℕ) → drop 36 (text_of s whole checksum) ≡ body
  rest_is Dsdt whole checksum = drop_36
  rest_is Ssdt whole checksum = drop_36

  size_behind : length behind_checksum ≡ 26 + length body
  unfolding behind_checksum behind_id behind_table behind_revision behind_creator
  size_behind =
      let a = length-append h.oem_id behind_id in
      let b = length-append h.oem_table_id behind_table in
      let c = length-append h.creator_id behind_creator in
      omega (arith, a, b, c, r.oem_id, r.oem_table_id, r.creator_id)

  size_is : (s : Signature) (whole checksum : ℕ) → length (text_of s whole checksum) ≡ 36 + length body
  size_is Dsdt whole checksum = omega (arith, size_behind)
  size_is Ssdt whole checksum = omega (arith, size_behind)

  sum_is : (s : Signature) (whole checksum : ℕ) → sum (text_of s whole checksum) ≡ sum (text_of s whole 0) + checksum
  sum_is Dsdt whole checksum = sum_with (signature_text Dsdt ++ to_le_bytes w32 whole ++ h.revision ∷ []) checksum behind_checksum
  sum_is Ssdt whole checksum = sum_with (signature_text Ssdt ++ to_le_bytes w32 whole ++ h.revision ∷ []) checksum behind_checksum

-- the byte that is chosen brings the sum to 0 modulo 256
pub chosen_sum : (s : ℕ) → (s + checksum_for s) % 256 ≡ 0
chosen_sum s = omega arith

-- the written form has the header that it is to have
pub header_written : (h : Header) (body : List ℕ) → IsInRange h → HEADER_SIZE + length body ≤ LARGEST
    → HasSize (written_behind h body) × IsHeader h (written_behind h body) × HasLength (written_behind h body) × HasSum (written_behind h body)
    × (drop 36 (written_behind h body) ≡ body)
header_written h body r small =
    let whole = 36 + length body in
    let chosen = checksum_for (sum (written_header h whole 0 ++ body)) in
    let text : written_behind h body ≡ text_of h r body h.signature whole chosen = as_text h r body h.signature whole chosen in
    let size = size_is h r body h.signature whole chosen in
    let blank : sum (written_header h whole 0 ++ body) ≡ sum (text_of h r body h.signature whole 0) = ap sum (as_text h r body h.signature whole 0) in
    let total = sum_is h r body h.signature whole chosen in
    let fits = chosen_sum (sum (written_header h whole 0 ++ body)) in
    rw text (
      (omega (arith, size), omega (arith, size)),
      is_header h r body h.signature whole chosen refl,
      has_length h r body h.signature whole chosen (omega arith) ∙ sym size,
      rw (total, ← blank) fits,
      rest_is h r body h.signature whole chosen,
    )

signature_size : (s : Signature) → length (signature_text s) ≡ 4
signature_size Dsdt = refl
signature_size Ssdt = refl

-- a header has 36 bytes, whatever its length and checksum say
header_size : (h : Header) (s : Signature) (whole checksum : ℕ) → length h.oem_id ≡ 6 → length h.oem_table_id ≡ 8 → length h.creator_id ≡ 4
    → length (written_header (record h { signature = s }) whole checksum) ≡ 36
header_size h s whole checksum id table creator =
    let front = signature_text s ++ to_le_bytes w32 whole in
    let named = front ++ h.revision ∷ checksum ∷ h.oem_id in
    let tabled = named ++ h.oem_table_id in
    let revised = tabled ++ to_le_bytes w32 h.oem_revision in
    let created = revised ++ h.creator_id in
    let a = length-append (signature_text s) (to_le_bytes w32 whole) in
    let b = length-append front (h.revision ∷ checksum ∷ h.oem_id) in
    let c = length-append named h.oem_table_id in
    let d = length-append tabled (to_le_bytes w32 h.oem_revision) in
    let e = length-append revised h.creator_id in
    let f = length-append created (to_le_bytes w32 h.creator_revision) in
    omega (arith, a, b, c, d, e, f, id, table, creator, signature_size s)

-- what is written of a block has 36 bytes more than its terms
pub size_written : (h : Header) (body : List ℕ) → length h.oem_id ≡ 6 → length h.oem_table_id ≡ 8 → length h.creator_id ≡ 4 → length (written_behind h body) ≡ 36 + length body
size_written h body id table creator =
    let whole = 36 + length body in
    let chosen = checksum_for (sum (written_header h whole 0 ++ body)) in
    let size = header_size h h.signature whole chosen id table creator in
    omega (arith, size, length-append (written_header h whole chosen) body)
