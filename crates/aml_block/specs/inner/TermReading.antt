-- Reading terms from left to right, with the first fault that is met. `end` is the place where the bytes end: in a term
-- that holds terms that is the end of its own bytes.
use Rattle.std.specs.Prelude.{ℕ, zero, suc, ◌-◌, ◌==◌, List, [], ◌∷◌, length, Option, Some, None, Result, Ok, Err, if◌then◌else◌}
use Rattle.pw_base.specs.Answers as answers
use Rattle.pw_base.specs.Answers.{◌>>=◌}
use Rattle.aml_data.specs.declared.fault.DataFault.{DataFault}
use Rattle.aml_data.specs.declared.fault.DataFault.TheVariants.{Short, TooDeep, Memory}
use Rattle.aml_data.specs.inner.Reading.{Read as ReadPart, byte_at, constant_at, window_at, name_at}
use Rattle.aml_data.specs.inner.ReadingObjects.{object_at}
use Rattle.aml_block.specs.declared.term.Term.{Term}
use Rattle.aml_block.specs.declared.term.Term.TheVariants.{Name, Unread, Alias, External, Mutex, Event, Region}
use Rattle.aml_block.specs.declared.term_fault.TermFault.{TermFault}
use Rattle.aml_block.specs.declared.term_fault.TermFault.TheVariants.{Data as in_data, BadTerm}
use Rattle.aml_block.specs.declared.term.TheConstants.{DEEPEST}
use Rattle.aml_block.specs.declared.opcode.TheConstants.{NAME_OP, ALIAS_OP, EXTERNAL_OP, MUTEX_OP, EVENT_OP, OP_REGION_OP}
use Rattle.aml_block.specs.Opcodes.{is_holder, is_unread}
use Rattle.aml_block.specs.inner.ReadingParts.{both_at, named_at, opcode_at}
use Rattle.aml_block.specs.inner.Fronts.{head_at}

-- What a function returned, seen by view, is what reading gives, unless memory ran out.
abbrev pub Gives : {X Y : Type 0} → (X → Y) → Result X TermFault → Result Y TermFault → Type 0
Gives view answer read = answers.Gives (in_data Memory) view answer read

-- A term that is read is a value, and the bytes after it.
abbrev pub Read : Type 0 → Type 0
Read A = Result (A × List ℕ) TermFault

-- what a part gives, as a part of a term
abbrev pub part : {A : Type 0} → Result A DataFault → Result A TermFault
part (Ok x) = Ok x
part (Err d) = Err (in_data d)

-- the term that a layout makes
abbrev pub term_of : {A : Type 0} → (A → Term) → ReadPart A → Read Term
term_of make (Ok x) = Ok (make x.0, x.1)
term_of make (Err d) = Err (in_data d)

-- the terms without terms in them, each behind its opcode
unfoldable pub name_term_at : ℕ → List ℕ → Read Term
name_term_at end bytes = term_of (λ v. Name v.0 v.1) (both_at named_at object_at end bytes)

unfoldable pub alias_at : ℕ → List ℕ → Read Term
alias_at end bytes = term_of (λ v. Alias v.0 v.1) (both_at name_at named_at end bytes)

unfoldable pub external_at : ℕ → List ℕ → Read Term
external_at end bytes = term_of (λ v. External v.0 v.1.0 v.1.1) (both_at name_at (both_at byte_at byte_at) end bytes)

unfoldable pub mutex_at : ℕ → List ℕ → Read Term
mutex_at end bytes = term_of (λ v. Mutex v.0 v.1) (both_at name_at byte_at end bytes)

unfoldable pub event_at : ℕ → List ℕ → Read Term
event_at end bytes = term_of (λ path. Event path) (name_at end bytes)

-- the space, the offset and the length of a region
abbrev pub extent_at : ℕ → List ℕ → ReadPart (ℕ × (ℕ × ℕ))
extent_at end bytes = both_at byte_at (both_at constant_at constant_at) end bytes

unfoldable pub region_at : ℕ → List ℕ → Read Term
region_at end bytes = term_of (λ v. Region v.0 v.1.0 v.1.1.0 v.1.1.1) (both_at name_at extent_at end bytes)

unfoldable pub unread_at : ℕ → ℕ → List ℕ → Read Term
unread_at opcode end bytes = term_of (λ body. Unread opcode body) (window_at end bytes)

-- at most so many terms to the end of the bytes, each read by `read`; the number is never used up, since a term has a byte
abbrev pub terms_by : (ℕ → List ℕ → Read Term) → ℕ → ℕ → List ℕ → Result (List Term) TermFault
terms_by read n end [] = Ok []
terms_by read zero end (b ∷ bytes) = Err (in_data (Short end))
terms_by read (suc n) end (b ∷ bytes) = read end (b ∷ bytes) >>= λ first. terms_by read n end first.1 >>= λ others. Ok (first.0 ∷ others)

-- terms to the end of the bytes: no more than there are bytes
abbrev pub all_by : (ℕ → List ℕ → Read Term) → ℕ → List ℕ → Result (List Term) TermFault
all_by read end bytes = terms_by read (length bytes) end bytes

-- A term of this opcode, which holds terms and stands at a place, behind its opcode: how the terms in it are read, or nothing
-- where the nesting is used up.
unfoldable pub holder_at : Option (ℕ → List ℕ → Read Term) → ℕ → ℕ → ℕ → List ℕ → Read Term
holder_at None opcode at end bytes = Err (in_data (TooDeep at))
holder_at (Some read) opcode at end bytes =
    part (window_at end bytes) >>= λ inside.
    part (head_at opcode (end - length inside.1) inside.0) >>= λ head.
    all_by read (end - length inside.1) head.1 >>= λ terms.
    Ok (head.0 terms, inside.1)

-- a term of this opcode, which stands at a place, behind its opcode
unfoldable pub behind_opcode : Option (ℕ → List ℕ → Read Term) → ℕ → ℕ → ℕ → List ℕ → Read Term
behind_opcode inner opcode at end bytes =
    if opcode == NAME_OP then name_term_at end bytes
    else (if opcode == ALIAS_OP then alias_at end bytes
    else (if opcode == EXTERNAL_OP then external_at end bytes
    else (if opcode == MUTEX_OP then mutex_at end bytes
    else (if opcode == EVENT_OP then event_at end bytes
    else (if opcode == OP_REGION_OP then region_at end bytes
    else (if is_holder opcode then holder_at inner opcode at end bytes
    else (if is_unread opcode then unread_at opcode end bytes
    else Err (BadTerm at opcode))))))))

-- a term, the terms in which are read so
unfoldable pub term_by : Option (ℕ → List ℕ → Read Term) → ℕ → List ℕ → Read Term
term_by inner end bytes = part (opcode_at end bytes) >>= λ opcode. behind_opcode inner opcode.0 (end - length bytes) end opcode.1

-- how the terms in a term are read where so many levels may be opened
unfoldable pub within : ℕ → Option (ℕ → List ℕ → Read Term)
within zero = None
within (suc depth) = Some (term_by (within depth))

-- a term that nests at most so deep
abbrev pub term_within : ℕ → ℕ → List ℕ → Read Term
term_within depth = term_by (within depth)

-- terms that nest at most so deep
abbrev pub terms_within : ℕ → ℕ → List ℕ → Result (List Term) TermFault
terms_within depth end bytes = all_by (term_within depth) end bytes

-- the terms of a block: a limit of this project's profile
unfoldable pub terms_at : ℕ → List ℕ → Result (List Term) TermFault
terms_at end bytes = terms_within DEEPEST end bytes
