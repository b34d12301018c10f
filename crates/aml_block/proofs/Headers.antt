-- The laws of the header.
use Rattle.std.proofs.Common.{◌≡◌, ◌≢◌, ◌%◌, ℕ, Bool, true, false, cond, nat_lt, eqb, List, length, sum, Result, Ok, Err, refl, sym, ap, subst, ◌∙◌, inl, inr, arith}
use Rattle.std.specs.Str.{bytes_eq}
use Rattle.std.proofs.lemmas.Slice.Eq.{bytes_eq-Decides}
use Rattle.std.proofs.lemmas.Bool.{eqb-true, eq-eqb, ltb-true, lt-ltb, ltb-false}
use Rattle.std.proofs.lemmas.Bool.Decides.{nat_tests}
use Rattle.aml_block.specs.declared.block.Signature.{Signature}
use Rattle.aml_block.specs.declared.block.Signature.TheVariants.{Dsdt, Ssdt}
use Rattle.aml_block.specs.declared.block.Header.{Header}
use Rattle.aml_block.specs.declared.fault.HeaderFault.{HeaderFault}
use Rattle.aml_block.specs.declared.fault.HeaderFault.TheVariants.{Large, Short, Signature as no_signature, Length, Sum}
use Rattle.aml_block.specs.declared.header.TheConstants.{LARGEST, HEADER_SIZE}
use Rattle.aml_block.specs.Header.{signature_text, field, number_field, IsHeader, HasSize, HasSignature, HasLength, HasSum}
use Rattle.aml_block.specs.Faults.{HeaderFails}
use Rattle.aml_block.specs.inner.Reading.{signature_at, fields_at, signed_at, header_at}
use Rattle.pw_base.proofs.Facts.{is_false, by_test}

differs : (text other : List ℕ) → bytes_eq text other ≡ false → text ≢ other
differs text other e p = let q = (bytes_eq-Decides text other).1 p in cc

abbrev SignatureTold : List ℕ → Result Signature HeaderFault → Type 0
SignatureTold text (Ok s) = text ≡ signature_text s
SignatureTold text (Err why) = (why ≡ no_signature) × (text ≢ signature_text Dsdt) × (text ≢ signature_text Ssdt)

signature_told : (text : List ℕ) → SignatureTold text (signature_at text)
unfolding signature_at
signature_told text =
    by_test (SignatureTold text) (bytes_eq text (signature_text Dsdt)) _ _ (λ t. (bytes_eq-Decides text (signature_text Dsdt)).0 t)
    (λ n. by_test (SignatureTold text) (bytes_eq text (signature_text Ssdt)) _ _ (λ t. (bytes_eq-Decides text (signature_text Ssdt)).0 t)
    (λ m. (refl, differs text (signature_text Dsdt) n, differs text (signature_text Ssdt) m)))

signature_again : (s : Signature) → signature_at (signature_text s) ≡ Ok s
unfolding signature_at
signature_again Dsdt = refl
signature_again Ssdt = refl

signature_refused : (text : List ℕ) → (text ≢ signature_text Dsdt) → (text ≢ signature_text Ssdt) → signature_at text ≡ Err no_signature
unfolding signature_at
signature_refused text d s =
    let e1 : bytes_eq text (signature_text Dsdt) ≡ false = is_false _ (λ t. d ((bytes_eq-Decides text (signature_text Dsdt)).0 t)) in
    let e2 : bytes_eq text (signature_text Ssdt) ≡ false = is_false _ (λ t. s ((bytes_eq-Decides text (signature_text Ssdt)).0 t)) in
    rw (e1, e2) refl

has_signature : (bytes : List ℕ) (s : Signature) → field 0 4 bytes ≡ signature_text s → HasSignature bytes
has_signature bytes Dsdt e = inl e
has_signature bytes Ssdt e = inr e

-- what the answer on a header tells
abbrev pub HeaderTold : List ℕ → Result Header HeaderFault → Type 0
HeaderTold bytes (Ok h) = HasSize bytes × HasSignature bytes × HasLength bytes × HasSum bytes × IsHeader h bytes
HeaderTold bytes (Err why) = HeaderFails bytes why

are_fields : (bytes : List ℕ) (s : Signature) → field 0 4 bytes ≡ signature_text s → IsHeader (fields_at s bytes) bytes
unfolding fields_at
are_fields bytes s e = record { signature = e; revision = refl; oem_id = refl; oem_table_id = refl; oem_revision = refl; creator_id = refl; creator_revision = refl }

signed_told : (bytes : List ℕ) (r : Result Signature HeaderFault) → HasSize bytes → SignatureTold (field 0 4 bytes) r → HeaderTold bytes (signed_at bytes r)
signed_told bytes (Err why) size told =
    subst (λ w. HeaderFails bytes w) (sym told.0) (size, λ h. elim h [ inl d ↦ told.1 d | inr s ↦ told.2 s ])
signed_told bytes (Ok s) size told =
    let signed = has_signature bytes s told in
    by_test (HeaderTold bytes) (eqb (number_field 4 bytes) (length bytes)) _ _
    (λ t. let long = eqb-true (number_field 4 bytes) (length bytes) t in
    by_test (HeaderTold bytes) (eqb (sum bytes % 256) 0) _ _
    (λ u. (size, signed, long, eqb-true (sum bytes % 256) 0 u, are_fields bytes s told))
    (λ u. (size, signed, long, λ z. (let y = eq-eqb (sum bytes % 256) 0 z in cc))))
    (λ t. (size, signed, λ z. (let y = eq-eqb (number_field 4 bytes) (length bytes) z in cc)))

pub header_told : (bytes : List ℕ) → HeaderTold bytes (header_at bytes)
unfolding header_at
header_told bytes =
    by_test (HeaderTold bytes) (nat_lt LARGEST (length bytes)) _ _ (λ t. ltb-true LARGEST (length bytes) t)
    (λ n. by_test (HeaderTold bytes) (nat_lt (length bytes) HEADER_SIZE) _ _ (λ t. ltb-true (length bytes) HEADER_SIZE t)
    (λ m. signed_told bytes (signature_at (field 0 4 bytes)) (ltb-false (length bytes) HEADER_SIZE m, ltb-false LARGEST (length bytes) n) (signature_told (field 0 4 bytes))))

sized : (bytes : List ℕ) → HasSize bytes → header_at bytes ≡ signed_at bytes (signature_at (field 0 4 bytes))
unfolding header_at
sized bytes size =
    let e1 : nat_lt LARGEST (length bytes) ≡ false = grind (arith, nat_tests) in
    let e2 : nat_lt (length bytes) HEADER_SIZE ≡ false = grind (arith, nat_tests) in
    rw (e1, e2) refl

signed : (bytes : List ℕ) → HasSize bytes → (s : Signature) → field 0 4 bytes ≡ signature_text s → header_at bytes ≡ signed_at bytes (Ok s)
signed bytes size s e = sized bytes size ∙ ap (λ t. signed_at bytes (signature_at t)) e ∙ ap (signed_at bytes) (signature_again s)

made : (h : Header) (bytes : List ℕ) → IsHeader h bytes → fields_at h.signature bytes ≡ h
unfolding fields_at
made h bytes i = rw (i.revision, i.oem_id, i.oem_table_id, i.oem_revision, i.creator_id, i.creator_revision) refl

all_right : (bytes : List ℕ) (s : Signature) → HasLength bytes → HasSum bytes → signed_at bytes (Ok s) ≡ Ok (fields_at s bytes)
all_right bytes s long sums =
    let e1 : eqb (number_field 4 bytes) (length bytes) ≡ true = eq-eqb _ _ long in
    let e2 : eqb (sum bytes % 256) 0 ≡ true = eq-eqb _ _ sums in
    rw (e1, e2) refl

pub header_again : (h : Header) (bytes : List ℕ) → HasSize bytes → IsHeader h bytes → HasLength bytes → HasSum bytes → header_at bytes ≡ Ok h
header_again h bytes size i long sums =
    signed bytes size h.signature i.signature ∙ all_right bytes h.signature long sums ∙ ap (λ x. Ok x) (made h bytes i)

wrong_length : (bytes : List ℕ) (s : Signature) → (HasLength bytes → ⊥) → signed_at bytes (Ok s) ≡ Err Length
wrong_length bytes s n =
    let e1 : eqb (number_field 4 bytes) (length bytes) ≡ false = is_false _ (λ t. n (eqb-true _ _ t)) in
    rw e1 refl

wrong_sum : (bytes : List ℕ) (s : Signature) → HasLength bytes → (HasSum bytes → ⊥) → signed_at bytes (Ok s) ≡ Err Sum
wrong_sum bytes s long n =
    let e1 : eqb (number_field 4 bytes) (length bytes) ≡ true = eq-eqb _ _ long in
    let e2 : eqb (sum bytes % 256) 0 ≡ false = is_false _ (λ t. n (eqb-true _ _ t)) in
    rw (e1, e2) refl

pub header_refused : (bytes : List ℕ) (why : HeaderFault) → HeaderFails bytes why → header_at bytes ≡ Err why
unfolding header_at
header_refused bytes Large f = let e : nat_lt LARGEST (length bytes) ≡ true = lt-ltb _ _ f in rw e refl
header_refused bytes Short f =
    let e1 : nat_lt LARGEST (length bytes) ≡ false = grind (arith, nat_tests) in
    let e2 : nat_lt (length bytes) HEADER_SIZE ≡ true = lt-ltb _ _ f in
    rw (e1, e2) refl
header_refused bytes no_signature f = sized bytes f.0 ∙ ap (signed_at bytes) (signature_refused (field 0 4 bytes) (λ d. f.1 (inl d)) (λ s. f.1 (inr s)))
header_refused bytes Length f =
    elim f.1 [ inl d ↦ signed bytes f.0 Dsdt d ∙ wrong_length bytes Dsdt f.2 | inr s ↦ signed bytes f.0 Ssdt s ∙ wrong_length bytes Ssdt f.2 ]
header_refused bytes Sum f =
    elim f.1 [ inl d ↦ signed bytes f.0 Dsdt d ∙ wrong_sum bytes Dsdt f.2 f.3 | inr s ↦ signed bytes f.0 Ssdt s ∙ wrong_sum bytes Ssdt f.2 f.3 ]
