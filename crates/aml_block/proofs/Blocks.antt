-- The laws of blocks, and what they say of an answer.
use Rattle.std.proofs.Common.{◌≡◌, ◌≢◌, ℕ, List, length, drop, Result, Ok, Err, refl, sym, ap, subst, ◌∙◌, ◌⊎◌, inl, inr, arith}
use Rattle.std.specs.Prelude.{IfOk, IfErr}
use Rattle.pw_base.specs.Answers.{◌>>=◌, IsUnless, FailsUnless}
use Rattle.aml_data.specs.declared.fault.DataFault.TheVariants.{Memory as no_data_memory}
use Rattle.aml_data.specs.Decoded.{AreBytes}
use Rattle.aml_data.proofs.Steps.{IsBytes, IsBytes-drop}
use Rattle.aml_data.proofs.Places.{all_bytes}
use Rattle.aml_block.specs.declared.term_fault.TermFault.{TermFault}
use Rattle.aml_block.specs.declared.term_fault.TermFault.TheVariants.{Data as in_part, BadTerm as bad_term}
use Rattle.aml_block.specs.inner.TermReading.{terms_at}
use Rattle.aml_data.proofs.Causes.{IsCause}
use Rattle.aml_block.proofs.Causes.{IsTermCause, block_terms_cause}
use Rattle.aml_block.proofs.TermLists.{terms_take, terms_again, terms_fail, terms_refused}
use Rattle.aml_block.specs.declared.block.Header.{Header}
use Rattle.aml_block.specs.declared.block.Block.{Block}
use Rattle.aml_block.specs.declared.fault.HeaderFault.{HeaderFault}
use Rattle.aml_block.specs.declared.fault.HeaderFault.TheVariants.{Large, Short, Signature as no_signature, Length, Sum}
use Rattle.aml_block.specs.declared.fault.BlockFault.{BlockFault}
use Rattle.aml_block.specs.declared.fault.BlockFault.TheVariants.{Header as in_header, Data as in_data, BadTerm, ReadFault, Memory}
use Rattle.aml_block.specs.Causes.{term_cause}
use Rattle.aml_block.specs.Header.{IsHeader, HasSize, HasSignature, HasLength, HasSum}
use Rattle.aml_block.specs.Spelling.{BlockSpells}
use Rattle.aml_block.specs.Faults.{HeaderFails, BlockFails, fails_in_header, fails_in_terms}
use Rattle.aml_block.specs.inner.Reading.{Gives, header_part, header_at, terms_part, block_at}
use Rattle.aml_block.proofs.Chains.{bind_ok, bind_err, done, ok_is, err_is}
use Rattle.aml_block.proofs.Steps.{terms_ok, terms_err}
use Rattle.aml_block.proofs.Headers.{HeaderTold, header_told, header_again, header_refused}

-- what follows the header
abbrev after_header : List ℕ → Header → Result Block BlockFault
after_header bytes header = terms_part (terms_at (length bytes) (drop 36 bytes)) >>= λ terms. Ok (record { header = header; terms = terms })

part_ok : (r : Result Header HeaderFault) (h : Header) → header_part r ≡ Ok h → r ≡ Ok h
part_ok (Ok x) h e = let q : x ≡ h = cc in ap (λ z. Ok z) q
part_ok (Err why) h e = absurd cc

part_err : (r : Result Header HeaderFault) (f : BlockFault) → header_part r ≡ Err f → (why : HeaderFault) × (r ≡ Err why) × (in_header why ≡ f)
part_err (Ok x) f e = absurd cc
part_err (Err why) f e = (why, refl, cc)

told_ok : (bytes : List ℕ) (h : Header) → header_at bytes ≡ Ok h → HasSize bytes × HasSignature bytes × HasLength bytes × HasSum bytes × IsHeader h bytes
told_ok bytes h e = subst (HeaderTold bytes) e (header_told bytes)

told_err : (bytes : List ℕ) (why : HeaderFault) → header_at bytes ≡ Err why → HeaderFails bytes why
told_err bytes why e = subst (HeaderTold bytes) e (header_told bytes)

pub block_takes : (bytes : List ℕ) (b : Block) → IsBytes bytes → block_at bytes ≡ Ok b → BlockSpells b bytes
unfolding block_at
block_takes bytes b fits e =
    let h = bind_ok (header_part (header_at bytes)) (after_header bytes) b e in
    let t = bind_ok (terms_part (terms_at (length bytes) (drop 36 bytes))) (λ terms. Ok (record { header = h.0; terms = terms })) b h.2 in
    let told = told_ok bytes h.0 (part_ok (header_at bytes) h.0 h.1) in
    let made : Block = record { header = h.0; terms = t.0 } in
    subst (λ (x : Block). BlockSpells x bytes) (ok_is made b t.2) (record {
      size = told.0;
      header = told.4;
      length_field = told.2;
      checksum = told.3;
      terms = terms_take (length bytes) (drop 36 bytes) t.0 (IsBytes-drop 36 bytes fits) (terms_ok (terms_at (length bytes) (drop 36 bytes)) t.0 t.1);
    })

pub block_again : (bytes : List ℕ) (b : Block) → BlockSpells b bytes → block_at bytes ≡ Ok b
unfolding block_at
block_again bytes b s =
    let h = header_again b.header bytes s.size s.header s.length_field s.checksum in
    let t = terms_again (length bytes) b.terms (drop 36 bytes) s.terms in
    rw (h, t) refl

pub block_fails : (bytes : List ℕ) (f : BlockFault) → IsBytes bytes → block_at bytes ≡ Err f → BlockFails bytes f
unfolding block_at
block_fails bytes f fits e =
    elim (bind_err (header_part (header_at bytes)) (after_header bytes) f e) [
      | inl h ↦
          let w = part_err (header_at bytes) f h in
          subst (λ (g : BlockFault). BlockFails bytes g) w.2 (fails_in_header (told_err bytes w.0 w.1))
      | inr a ↦
          let told = told_ok bytes a.0 (part_ok (header_at bytes) a.0 a.1) in
          elim (bind_err (terms_part (terms_at (length bytes) (drop 36 bytes))) (λ terms. Ok (record { header = a.0; terms = terms })) f a.2) [
            | inl t ↦
                let d = terms_err (terms_at (length bytes) (drop 36 bytes)) f t in
                subst (λ (g : BlockFault). BlockFails bytes g) d.2
                (fails_in_terms d.0 told.0 told.1 told.2 told.3 (terms_fail (length bytes) (drop 36 bytes) d.0 (IsBytes-drop 36 bytes fits) d.1))
            | inr t ↦ absurd (let impossible = t.2 in cc)
          ]
    ]

-- what is right in a header has no fault
right_or : (bytes : List ℕ) (r : Result Header HeaderFault) → HeaderTold bytes r → HasSize bytes → HasSignature bytes → HasLength bytes → HasSum bytes → (h : Header) × (r ≡ Ok h)
right_or bytes (Ok h) told size signed long sums = (h, refl)
right_or bytes (Err Large) told size signed long sums = absurd (omega (arith, size.1, told))
right_or bytes (Err Short) told size signed long sums = absurd (omega (arith, size.0, told))
right_or bytes (Err no_signature) told size signed long sums = absurd (told.1 signed)
right_or bytes (Err Length) told size signed long sums = absurd (told.2 long)
right_or bytes (Err Sum) told size signed long sums = absurd (told.3 sums)

-- a right header is read, whatever its terms are
header_right : (bytes : List ℕ) → HasSize bytes → HasSignature bytes → HasLength bytes → HasSum bytes → (h : Header) × (header_at bytes ≡ Ok h)
header_right bytes size signed long sums = right_or bytes (header_at bytes) (header_told bytes) size signed long sums

pub block_refused : (bytes : List ℕ) (f : BlockFault) → BlockFails bytes f → block_at bytes ≡ Err f
unfolding block_at
block_refused bytes _ (fails_in_header {why = why} h) = rw (header_refused bytes why h) refl
block_refused bytes _ (fails_in_terms f size signed long sums t) =
    let h = (header_right bytes size signed long sums).1 in
    let e = terms_refused (length bytes) (drop 36 bytes) f t in
    rw (h, e) refl

-- a first fault is no failure of the outside
abbrev pub IsPlain : BlockFault → Type 0
IsPlain (in_data d) = IsCause d
IsPlain ReadFault = ⊥
IsPlain Memory = ⊥
IsPlain other = Unit {0}

term_plain : (f : TermFault) → IsTermCause f → IsPlain (term_cause f)
term_plain (in_part no_data_memory) c = absurd c
term_plain (in_part other) c = c
term_plain (bad_term at opcode) c = tt

pub block_plain : (bytes : List ℕ) (f : BlockFault) → BlockFails bytes f → IsPlain f
block_plain bytes _ (fails_in_header h) = tt
block_plain bytes _ (fails_in_terms f a b c d t) = term_plain f (block_terms_cause (length bytes) (drop 36 bytes) f t)

-- What an answer that gives the reading says.
pub is_found : (bytes : List ℕ) (r : Result Block BlockFault) → IsBytes bytes → Gives (λ x. x) r (block_at bytes) → IfOk r (λ b. BlockSpells b bytes)
is_found bytes (Ok b) fits given = block_takes bytes b fits given
is_found bytes (Err e) fits given = tt

pub is_fault : (bytes : List ℕ) (r : Result Block BlockFault) → IsBytes bytes → Gives (λ x. x) r (block_at bytes) → IfErr r (λ f. f ≢ Memory → BlockFails bytes f)
is_fault bytes (Ok b) fits given = tt
is_fault bytes (Err e) fits given = λ ne. block_fails bytes e fits (given ne)

-- an error that can't be another is want of memory
pub is_memory : (e : BlockFault) → (e ≢ Memory → ⊥) → e ≡ Memory
is_memory Memory n = refl
is_memory (in_data d) n = absurd (n (λ p. cc))
is_memory (in_header w) n = absurd (n (λ p. cc))
is_memory (BadTerm at opcode) n = absurd (n (λ p. cc))
is_memory ReadFault n = absurd (n (λ p. cc))

pub is_only : (bytes : List ℕ) (r : Result Block BlockFault) → Gives (λ x. x) r (block_at bytes) → (b : Block) → BlockSpells b bytes → IsUnless Memory r b
is_only bytes (Ok x) given b s = let q : done {E = BlockFault} x ≡ done b = sym given ∙ block_again bytes b s in ok_is x b q
is_only bytes (Err e) given b s = is_memory e (λ ne. (let q = sym (given ne) ∙ block_again bytes b s in cc))

pub is_refused : (bytes : List ℕ) (r : Result Block BlockFault) → Gives (λ x. x) r (block_at bytes) → (f : BlockFault) → BlockFails bytes f → FailsUnless Memory r f
is_refused bytes (Ok x) given f s = let q = sym given ∙ block_refused bytes f s in cc
is_refused bytes (Err e) given f s = λ ne. err_is {A = Block} e f (sym (given ne) ∙ block_refused bytes f s)

pub no_file : (bytes : List ℕ) (r : Result Block BlockFault) → IfErr r (λ f. f ≢ Memory → BlockFails bytes f) → IfErr r (λ f. f ≢ ReadFault)
no_file bytes (Ok x) fault = tt
no_file bytes (Err e) fault = λ p. (let q = block_plain bytes e (fault (λ m. (let z = sym p ∙ m in cc))) in subst IsPlain p q)

pub one_memory : (bytes : List ℕ) (r : Result Block BlockFault) → IfErr r (λ f. f ≢ Memory → BlockFails bytes f) → IfErr r (λ f. f ≢ in_data no_data_memory)
one_memory bytes (Ok x) fault = tt
one_memory bytes (Err e) fault = λ p. (let q = block_plain bytes e (fault (λ m. (let z = sym p ∙ m in cc))) in subst IsPlain p q)

pub same_block : (a b : Block) (bytes : List ℕ) → BlockSpells a bytes → BlockSpells b bytes → a ≡ b
same_block a b bytes s t = ok_is a b (sym (block_again bytes a s) ∙ block_again bytes b t)

pub same_fault : (bytes : List ℕ) (f g : BlockFault) → BlockFails bytes f → BlockFails bytes g → f ≡ g
same_fault bytes f g s t = err_is {A = Block} f g (sym (block_refused bytes f s) ∙ block_refused bytes g t)

pub no_fault : (b : Block) (bytes : List ℕ) (f : BlockFault) → BlockSpells b bytes → BlockFails bytes f → ⊥
no_fault b bytes f s t = let q = sym (block_again bytes b s) ∙ block_refused bytes f t in cc

-- ---- a block, or a fault

told : (bytes : List ℕ) (r : Result Block BlockFault) → IsBytes bytes → block_at bytes ≡ r → ((b : Block) × BlockSpells b bytes) ⊎ ((f : BlockFault) × BlockFails bytes f)
told bytes (Ok b) fits e = inl (b, block_takes bytes b fits e)
told bytes (Err f) fits e = inr (f, block_fails bytes f fits e)

pub spelled_or_fault : (bytes : List ℕ) → AreBytes bytes → ((b : Block) × BlockSpells b bytes) ⊎ ((f : BlockFault) × BlockFails bytes f)
spelled_or_fault bytes all = told bytes (block_at bytes) (all_bytes bytes all) refl
