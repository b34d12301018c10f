-- How many bytes the written forms of terms have.
use Rattle.std.proofs.Common.{◌≡◌, ◌<◌, ◌≤◌, ◌+◌, ◌^◌, ℕ, List, [], ◌∷◌, ◌++◌, min, take, get_or, length, refl, ap, ◌∙◌, arith, length-append, inl, inr}
use Rattle.std.proofs.lemmas.Bool.{cases_lt}
use Rattle.aml_data.specs.declared.data.Data.{Data}
use Rattle.aml_data.specs.declared.path.Path.{Path}
use Rattle.aml_data.specs.Written.{written, written_constant, written_name, written_length, sized}
use Rattle.aml_data.proofs.Appending.{joined_map-take-suc}
use Rattle.aml_data.proofs.WrittenLengths.{joined_map-take-le}
use Rattle.aml_block.specs.declared.term.Term.{Term}
use Rattle.aml_block.specs.declared.term.Term.TheVariants.{Name, Scope, Device, Processor, Unread, Alias, External, Mutex, Event, Region}
use Rattle.aml_block.specs.Opcodes.{opcode_bytes}
use Rattle.aml_block.specs.WrittenTerms.{written_registers, written_term, written_terms}
use Rattle.aml_block.proofs.WrittenTerms.{written-Name, written-Scope, written-Device, written-Processor, written-Unread, written-Alias, written-External, written-Mutex, written-Event, written-Region}

-- a term that is cut off at the bound is too long whole
pub capped_sized : (o a x : ℕ) → min (2 ^ 28) (o + length (written_length (a + min (2 ^ 28) x)) + (a + min (2 ^ 28) x)) ≡ min (2 ^ 28) (o + length (written_length (a + x)) + (a + x))
capped_sized o a x =
    elim (cases_lt x (2 ^ 28)) [
      | inl lt ↦ let same : min (2 ^ 28) x ≡ x = omega arith in rw same refl
      | inr le ↦ omega arith
    ]

length-sized : (content : List ℕ) (n : ℕ) → length content ≡ n → length (sized content) ≡ length (written_length n) + n
length-sized content n e = length-append (written_length (length content)) content ∙ ap (λ (k : ℕ). length (written_length k) + k) e

pub length-Name : (path : Path) (value : Data) → length (written_term (Name path value)) ≡ 1 + length (written_name path) + length (written value)
length-Name path value = rw (written-Name path value) (omega (arith, length-append (written_name path) (written value)))

pub length-Scope : (path : Path) (terms : List Term)
    → let n = length (written_name path) + length (written_terms terms) in length (written_term (Scope path terms)) ≡ 1 + length (written_length n) + n
length-Scope path terms =
    let n = length (written_name path) + length (written_terms terms) in
    let s = length-sized (written_name path ++ written_terms terms) n (length-append (written_name path) (written_terms terms)) in
    rw (written-Scope path terms) (omega arith)

pub length-Device : (path : Path) (terms : List Term)
    → let n = length (written_name path) + length (written_terms terms) in length (written_term (Device path terms)) ≡ 2 + length (written_length n) + n
length-Device path terms =
    let n = length (written_name path) + length (written_terms terms) in
    let s = length-sized (written_name path ++ written_terms terms) n (length-append (written_name path) (written_terms terms)) in
    rw (written-Device path terms) (omega arith)

pub length-Processor : (path : Path) (id block len : ℕ) (terms : List Term)
    → let n = length (written_name path) + 6 + length (written_terms terms) in length (written_term (Processor path id block len terms)) ≡ 2 + length (written_length n) + n
length-Processor path id block len terms =
    let n = length (written_name path) + 6 + length (written_terms terms) in
    let head = written_name path ++ written_registers id block len in
    let h : length head ≡ length (written_name path) + 6 = length-append (written_name path) (written_registers id block len) in
    let all : length (head ++ written_terms terms) ≡ n = length-append head (written_terms terms) ∙ ap (λ (k : ℕ). k + length (written_terms terms)) h in
    let s = length-sized (head ++ written_terms terms) n all in
    rw (written-Processor path id block len terms) (omega arith)

pub length-Unread : (opcode : ℕ) (body : List ℕ) → length (written_term (Unread opcode body)) ≡ length (opcode_bytes opcode) + length (written_length (length body)) + length body
length-Unread opcode body =
    let s = length-sized body (length body) refl in
    rw (written-Unread opcode body) (omega (arith, length-append (opcode_bytes opcode) (sized body)))

pub length-Alias : (source alias : Path) → length (written_term (Alias source alias)) ≡ 1 + length (written_name source) + length (written_name alias)
length-Alias source alias = rw (written-Alias source alias) (omega (arith, length-append (written_name source) (written_name alias)))

pub length-External : (path : Path) (kind args : ℕ) → length (written_term (External path kind args)) ≡ 3 + length (written_name path)
length-External path kind args = rw (written-External path kind args) (omega (arith, length-append (written_name path) (kind ∷ args ∷ [])))

pub length-Mutex : (path : Path) (flags : ℕ) → length (written_term (Mutex path flags)) ≡ 3 + length (written_name path)
length-Mutex path flags = rw (written-Mutex path flags) (omega (arith, length-append (written_name path) (flags ∷ [])))

pub length-Event : (path : Path) → length (written_term (Event path)) ≡ 2 + length (written_name path)
length-Event path = rw (written-Event path) (omega arith)

pub length-Region : (path : Path) (space offset len : ℕ)
    → length (written_term (Region path space offset len)) ≡ 3 + length (written_name path) + length (written_constant offset) + length (written_constant len)
length-Region path space offset len =
    let c = length-append (written_constant offset) (written_constant len) in
    let n = length-append (written_name path) (space ∷ (written_constant offset ++ written_constant len)) in
    rw (written-Region path space offset len) (omega (arith, c, n))

pub ruleset lengths = (length-Name, length-Scope, length-Device, length-Processor, length-Unread, length-Alias, length-External, length-Mutex, length-Event, length-Region, capped_sized)

-- ---- one term after another

pub counted_on : (ts : List Term) (k total more : ℕ) (t : Term) → k < length ts → t ≡ get_or ts k t → total ≡ length (written_terms (take k ts)) → total < 2 ^ 28
    → more ≡ min (2 ^ 28) (length (written_term t)) → total + more < 2 ^ 28 → total + more ≡ length (written_terms (take (k + 1) ts))
counted_on ts k total more t inside is so_far short one few =
    let step = joined_map-take-suc written_term k ts t inside is in
    rw step (omega (arith, length-append (written_terms (take k ts)) (written_term t)))

pub counted_out : (ts : List Term) (k total more : ℕ) (t : Term) → k < length ts → t ≡ get_or ts k t → total ≡ length (written_terms (take k ts)) → total < 2 ^ 28
    → more ≡ min (2 ^ 28) (length (written_term t)) → 2 ^ 28 ≤ total + more → 2 ^ 28 ≡ min (2 ^ 28) (length (written_terms ts))
counted_out ts k total more t inside is so_far short one many =
    let step = ap (λ (l : List ℕ). length l) (joined_map-take-suc written_term k ts t inside is) in
    let all = joined_map-take-le written_term (k + 1) ts in
    omega (arith, length-append (written_terms (take k ts)) (written_term t))
