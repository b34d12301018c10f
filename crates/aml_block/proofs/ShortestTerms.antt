-- Terms: what is written spells the term, no spelling is shorter, and what is spelled can be written.
use Rattle.std.proofs.Common.{◌≡◌, ◌<◌, ◌≤◌, ◌+◌, ◌^◌, ℕ, zero, suc, true, List, [], ◌∷◌, ◌++◌, length, refl, ap, sym, subst, ◌∙◌, arith, length-append}
use Rattle.std.specs.List.{AllByRecursion}
use Rattle.std.specs.Int.{w32, to_le_bytes}
use Rattle.aml_data.specs.declared.data.Data.{Data}
use Rattle.aml_data.specs.declared.path.Path.{Path}
use Rattle.aml_data.specs.Grammar.{Len, NameOf}
use Rattle.aml_data.specs.Written.{written, written_constant, written_name, written_length, sized}
use Rattle.aml_data.proofs.WrittenLengths.{content_fits}
use Rattle.aml_data.proofs.ShortestParts.{constant_spelled, constant_least, constant_fits, length_spelled, length_least, length_grows}
use Rattle.aml_data.proofs.ShortestNames.{name_spelled, name_least, name_writable}
use Rattle.aml_data.proofs.ShortestObjects.{object_spelled, object_least, short_writable}
use Rattle.aml_block.specs.declared.term.Term.{Term, Term-F, out-Term, roll-Term, roll-out-Term}
use Rattle.aml_block.specs.declared.term.Term.TheOpen as layer
use Rattle.aml_block.specs.declared.term.Term.TheVariants.{Name, Scope, Device, Processor, Unread, Alias, External, Mutex, Event, Region}
use Rattle.aml_block.specs.declared.term.Term.TheViews.{outs-Name, outs-Scope, outs-Device, outs-Processor, outs-Unread, outs-Alias, outs-External, outs-Mutex, outs-Event, outs-Region}
use Rattle.aml_block.specs.declared.term.Term.TheViews.{rolls-Name, rolls-Scope, rolls-Device, rolls-Processor, rolls-Unread, rolls-Alias, rolls-External, rolls-Mutex, rolls-Event, rolls-Region}
use Rattle.aml_block.specs.declared.opcode.TheConstants.{SCOPE_OP, DEVICE_OP, PROCESSOR_OP}
use Rattle.aml_block.specs.Opcodes.{opcode_bytes, is_unread}
use Rattle.aml_data.specs.Layouts.{Both, holds}
use Rattle.aml_block.specs.Layouts.{HasSegment, ProcessorLayout, scope_head, device_head, processor_head}
use Rattle.aml_block.specs.Grammar.{TermSpellsWithin, spells_name_term, spells_alias, spells_external, spells_mutex, spells_event, spells_region, spells_unread, spells_holder}
use Rattle.aml_block.specs.Grammar.{TermsSpellWithin, spells_no_term, spells_more_terms}
use Rattle.aml_block.specs.WrittenTerms.{written_registers, written_term, written_terms, AreWritable, IsWritableTerm}
use Rattle.aml_block.proofs.OpcodeCases.{unread_cases}
use Rattle.aml_block.proofs.WrittenTerms.{written-Name, written-Scope, written-Device, written-Processor, written-Unread, written-Alias, written-External, written-Mutex, written-Event, written-Region}
use Rattle.aml_block.proofs.TermLengths.{length-Name, length-Scope, length-Device, length-Processor, length-Unread, length-Alias, length-External, length-Mutex, length-Event, length-Region}

-- ---- what is spelled can be written

-- two parts, and how long they are
parts_length : {A B : Type 0} (S : A → List ℕ → Type 0) (T : B → List ℕ → Type 0) (v : A × B) (b : List ℕ) (s : Both S T v b) → length b ≡ length s.front + length s.back
parts_length S T v b s = ap (λ (l : List ℕ). length l) s.parts ∙ length-append s.front s.back

are_suc : (depth : ℕ) (terms : List Term) → AllByRecursion (IsWritableTerm depth) terms → AreWritable (suc depth) terms
unfolding AreWritable
are_suc depth terms all = all

mutual
  pub term_writable : (depth : ℕ) (t : Term) (b : List ℕ) → TermSpellsWithin depth t b → length b < 2 ^ 28 → IsWritableTerm depth t
  term_writable depth t b (spells_name_term {path = path} {value = value} {b = c} s) lt =
      let n = parts_length _ _ _ c s in
      rw (outs-Name path value) (name_writable path s.front s.one.name, s.one.some, short_writable value s.back s.other (omega arith))
  term_writable depth t b (spells_alias {source = source} {alias = alias} s) lt =
      rw (outs-Alias source alias) (name_writable source s.front s.one, name_writable alias s.back s.other.name, s.other.some)
  term_writable depth t b (spells_external {kind = kind} {args = args} {path = path} s) lt = rw (outs-External path kind args) (name_writable path s.front s.one)
  term_writable depth t b (spells_mutex {flags = flags} {path = path} s) lt = rw (outs-Mutex path flags) (name_writable path s.front s.one)
  term_writable depth t b (spells_event {path = path} {b = c} s) lt = rw (outs-Event path) (name_writable path c s)
  term_writable depth t b (spells_region {space = space} {offset = offset} {len = len} {path = path} s) lt =
      rw (outs-Region path space offset len)
      (name_writable path s.front s.one, constant_fits offset s.other.other.front s.other.other.one, constant_fits len s.other.other.back s.other.other.other)
  term_writable depth t b (spells_unread {opcode = opcode} {body = body} is held) lt = rw (outs-Unread opcode body) is
  term_writable (suc depth) t b (spells_holder {terms = terms} h body (holds p _ len) (scope_head {path = path} s) ts) lt =
      let n = length-append p (h ++ body) in
      let m = length-append h body in
      rw (outs-Scope path terms) (name_writable path h s, are_suc depth terms (terms_writable depth terms body ts (omega arith)))
  term_writable (suc depth) t b (spells_holder {terms = terms} h body (holds p _ len) (device_head {path = path} s) ts) lt =
      let n = length-append p (h ++ body) in
      let m = length-append h body in
      rw (outs-Device path terms) (name_writable path h s.name, s.some, are_suc depth terms (terms_writable depth terms body ts (omega arith)))
  term_writable (suc depth) t b (spells_holder {terms = terms} h body (holds p _ len) (processor_head {path = path} {id = id} {block = block} {len = size} s) ts) lt =
      let n = length-append p (h ++ body) in
      let m = length-append h body in
      rw (outs-Processor path id block size terms)
      (name_writable path s.front s.one.name, s.one.some, s.other.other.one.fits, are_suc depth terms (terms_writable depth terms body ts (omega arith)))

  pub terms_writable : (depth : ℕ) (terms : List Term) (b : List ℕ) → TermsSpellWithin depth terms b → length b < 2 ^ 28 → AllByRecursion (IsWritableTerm depth) terms
  terms_writable depth terms b spells_no_term lt = tt
  terms_writable depth terms b (spells_more_terms {term = t} {terms = ts} {b = c} {bs = cs} one others) lt =
      let n = length-append c cs in
      (term_writable depth t c one (omega arith), terms_writable depth ts cs others (omega arith))

-- ---- no spelling is shorter

-- a content that is no longer, behind its shortest length
sized_least : (n m : ℕ) (p : List ℕ) → n ≤ m → Len (length p + m) p → length (written_length n) + n ≤ length p + m
sized_least n m p le len =
    let grows = length_grows n m le in
    let least = length_least m p len in
    omega arith

double_length : (n : ℕ) (b : List ℕ) → b ≡ to_le_bytes w32 n → length b ≡ 4
double_length n b e = ap (λ (l : List ℕ). length l) e

byte_length : (n : ℕ) (b : List ℕ) → b ≡ n ∷ [] → length b ≡ 1
byte_length n b e = ap (λ (l : List ℕ). length l) e

mutual
  pub term_least : (depth : ℕ) (t : Term) (b : List ℕ) → TermSpellsWithin depth t b → length (written_term t) ≤ length b
  term_least depth t b (spells_name_term {path = path} {value = value} {b = c} s) =
      let n = parts_length _ _ _ c s in
      let x = name_least path s.front s.one.name in
      let y = object_least 32 value s.back s.other in
      rw (length-Name path value) (omega arith)
  term_least depth t b (spells_alias {source = source} {alias = alias} {b = c} s) =
      let n = parts_length _ _ _ c s in
      let x = name_least source s.front s.one in
      let y = name_least alias s.back s.other.name in
      rw (length-Alias source alias) (omega arith)
  term_least depth t b (spells_external {kind = kind} {args = args} {path = path} {b = c} s) =
      let n = parts_length _ _ _ c s in
      let m = parts_length _ _ _ s.back s.other in
      let x = name_least path s.front s.one in
      let y = byte_length kind s.other.front s.other.one in
      let z = byte_length args s.other.back s.other.other in
      rw (length-External path kind args) (omega arith)
  term_least depth t b (spells_mutex {flags = flags} {path = path} {b = c} s) =
      let n = parts_length _ _ _ c s in
      let x = name_least path s.front s.one in
      let y = byte_length flags s.back s.other in
      rw (length-Mutex path flags) (omega arith)
  term_least depth t b (spells_event {path = path} {b = c} s) = let x = name_least path c s in rw (length-Event path) (omega arith)
  term_least depth t b (spells_region {space = space} {offset = offset} {len = len} {path = path} {b = c} s) =
      let n = parts_length _ _ _ c s in
      let m = parts_length _ _ _ s.back s.other in
      let k = parts_length _ _ _ s.other.back s.other.other in
      let x = name_least path s.front s.one in
      let y = byte_length space s.other.front s.other.one in
      let z = constant_least offset s.other.other.front s.other.other.one in
      let w = constant_least len s.other.other.back s.other.other.other in
      rw (length-Region path space offset len) (omega arith)
  term_least depth t b (spells_unread {opcode = opcode} {body = body} is (holds p _ len)) =
      let least = sized_least (length body) (length body) p (omega arith) len in
      let n = length-append (opcode_bytes opcode) (p ++ body) in
      let m = length-append p body in
      rw (length-Unread opcode body) (omega arith)
  term_least (suc depth) t b (spells_holder {terms = terms} h body (holds p _ len) (scope_head {path = path} s) ts) =
      let x = name_least path h s in
      let y = terms_least depth terms body ts in
      let n = length-append p (h ++ body) in
      let m = length-append h body in
      let least = sized_least (length (written_name path) + length (written_terms terms)) (length (h ++ body)) p (omega arith) len in
      rw (length-Scope path terms) (omega arith)
  term_least (suc depth) t b (spells_holder {terms = terms} h body (holds p _ len) (device_head {path = path} s) ts) =
      let x = name_least path h s.name in
      let y = terms_least depth terms body ts in
      let n = length-append p (h ++ body) in
      let m = length-append h body in
      let least = sized_least (length (written_name path) + length (written_terms terms)) (length (h ++ body)) p (omega arith) len in
      rw (length-Device path terms) (omega arith)
  term_least (suc depth) t b (spells_holder {terms = terms} h body (holds p _ len) (processor_head {path = path} {id = id} {block = block} {len = size} s) ts) =
      let x = name_least path s.front s.one.name in
      let y = terms_least depth terms body ts in
      let n = length-append p (h ++ body) in
      let m = length-append h body in
      let a = parts_length _ _ _ h s in
      let e = parts_length _ _ _ s.back s.other in
      let f = parts_length _ _ _ s.other.back s.other.other in
      let i = byte_length id s.other.front s.other.one in
      let j = double_length block s.other.other.front s.other.other.one.is in
      let k = byte_length size s.other.other.back s.other.other.other in
      let least = sized_least (length (written_name path) + 6 + length (written_terms terms)) (length (h ++ body)) p (omega arith) len in
      rw (length-Processor path id block size terms) (omega arith)

  pub terms_least : (depth : ℕ) (terms : List Term) (b : List ℕ) → TermsSpellWithin depth terms b → length (written_terms terms) ≤ length b
  terms_least depth terms b spells_no_term = omega arith
  terms_least depth terms b (spells_more_terms {term = t} {terms = ts} {b = c} {bs = cs} one others) =
      let x = term_least depth t c one in
      let y = terms_least depth ts cs others in
      omega (arith, length-append c cs, length-append (written_term t) (written_terms ts))

-- ---- what is written spells the term

abbrev IsSpelled : ℕ → Term → Type 0
IsSpelled depth t = IsWritableTerm depth t → length (written_term t) < 2 ^ 28 → TermSpellsWithin depth t (written_term t)

-- what is written of the terms in a term that is one of so many levels
abbrev Below : ℕ → List Term → Type 0
Below zero terms = ⊥
Below (suc depth) terms = TermsSpellWithin depth terms (written_terms terms)

abbrev AllBelow : ℕ → Type 0
AllBelow depth = (terms : List Term) → AreWritable depth terms → length (written_terms terms) < 2 ^ 28 → Below depth terms

-- a PkgLength in front of its content
sized_spelled : (k : ℕ) (content : List ℕ) → 0 < k → k + length (sized content) < 2 ^ 28 → Len (length (written_length (length content)) + length content) (written_length (length content))
sized_spelled k content some short =
    let n = length-append (written_length (length content)) content in
    length_spelled (length content) (content_fits (length content) (omega arith))

-- what is written, by its layer
as_written : (depth : ℕ) (t : Term) (b : List ℕ) → written_term t ≡ b → TermSpellsWithin depth t b → TermSpellsWithin depth t (written_term t)
as_written depth t b e h = subst (λ (c : List ℕ). TermSpellsWithin depth t c) (sym e) h

name_term_spelled : (depth : ℕ) (path : Path) (value : Data) → IsSpelled depth (Name path value)
name_term_spelled depth path value w short =
    let h = rw (outs-Name path value) at w in
    as_written depth (Name path value) _ (written-Name path value) (spells_name_term (record {
      front = written_name path;
      back = written value;
      parts = refl;
      one = record { name = name_spelled path h.0; some = h.1 };
      other = object_spelled 32 value h.2.within h.2.short;
    }))

alias_spelled : (depth : ℕ) (source alias : Path) → IsSpelled depth (Alias source alias)
alias_spelled depth source alias w short =
    let h = rw (outs-Alias source alias) at w in
    as_written depth (Alias source alias) _ (written-Alias source alias) (spells_alias (record {
      front = written_name source;
      back = written_name alias;
      parts = refl;
      one = name_spelled source h.0;
      other = record { name = name_spelled alias h.1; some = h.2 };
    }))

external_spelled : (depth : ℕ) (path : Path) (kind args : ℕ) → IsSpelled depth (External path kind args)
external_spelled depth path kind args w short =
    let h = rw (outs-External path kind args) at w in
    as_written depth (External path kind args) _ (written-External path kind args) (spells_external (record {
      front = written_name path;
      back = kind ∷ args ∷ [];
      parts = refl;
      one = name_spelled path h;
      other = record { front = kind ∷ []; back = args ∷ []; parts = refl; one = refl; other = refl };
    }))

mutex_spelled : (depth : ℕ) (path : Path) (flags : ℕ) → IsSpelled depth (Mutex path flags)
mutex_spelled depth path flags w short =
    let h = rw (outs-Mutex path flags) at w in
    as_written depth (Mutex path flags) _ (written-Mutex path flags)
    (spells_mutex (record { front = written_name path; back = flags ∷ []; parts = refl; one = name_spelled path h; other = refl }))

event_spelled : (depth : ℕ) (path : Path) → IsSpelled depth (Event path)
event_spelled depth path w short =
    let h = rw (outs-Event path) at w in
    as_written depth (Event path) _ (written-Event path) (spells_event (name_spelled path h))

region_spelled : (depth : ℕ) (path : Path) (space offset len : ℕ) → IsSpelled depth (Region path space offset len)
region_spelled depth path space offset len w short =
    let h = rw (outs-Region path space offset len) at w in
    as_written depth (Region path space offset len) _ (written-Region path space offset len) (spells_region (record {
      front = written_name path;
      back = space ∷ (written_constant offset ++ written_constant len);
      parts = refl;
      one = name_spelled path h.0;
      other = record {
        front = space ∷ [];
        back = written_constant offset ++ written_constant len;
        parts = refl;
        one = refl;
        other = record { front = written_constant offset; back = written_constant len; parts = refl; one = constant_spelled offset h.1; other = constant_spelled len h.2 };
      };
    }))

opcode_some : (opcode : ℕ) → is_unread opcode ≡ true → 0 < length (opcode_bytes opcode)
opcode_some opcode is =
    unread_cases (λ (n : ℕ). 0 < length (opcode_bytes n)) (omega arith) (omega arith) (omega arith) (omega arith) (omega arith) (omega arith) (omega arith) (omega arith) (omega arith) opcode is

unread_spelled : (depth opcode : ℕ) (body : List ℕ) → IsSpelled depth (Unread opcode body)
unread_spelled depth opcode body w short =
    let h = rw (outs-Unread opcode body) at w in
    let n = length-append (opcode_bytes opcode) (sized body) in
    let s : length (opcode_bytes opcode ++ sized body) < 2 ^ 28 = rw (written-Unread opcode body) at short in
    as_written depth (Unread opcode body) _ (written-Unread opcode body)
    (spells_unread h (holds (written_length (length body)) body (sized_spelled (length (opcode_bytes opcode)) body (opcode_some opcode h) (omega arith))))

scope_spelled : (depth : ℕ) → AllBelow depth → (path : Path) (terms : List Term) → IsSpelled depth (Scope path terms)
scope_spelled zero inner path terms w short =
    let h = rw (outs-Scope path terms) at w in
    let n = length-Scope path terms in
    absurd (inner terms h.1 (omega arith))
scope_spelled (suc depth) inner path terms w short =
    let h = rw (outs-Scope path terms) at w in
    let n = length-Scope path terms in
    let content = written_name path ++ written_terms terms in
    let raw : length (opcode_bytes SCOPE_OP ++ sized content) < 2 ^ 28 = rw (written-Scope path terms) at short in
    let s : 1 + length (sized content) < 2 ^ 28 = omega arith in
    as_written (suc depth) (Scope path terms) _ (written-Scope path terms)
    (spells_holder (written_name path) (written_terms terms) (holds (written_length (length content)) content (sized_spelled 1 content (omega arith) s)) (scope_head (name_spelled path h.0))
    (inner terms h.1 (omega arith)))

device_spelled : (depth : ℕ) → AllBelow depth → (path : Path) (terms : List Term) → IsSpelled depth (Device path terms)
device_spelled zero inner path terms w short =
    let h = rw (outs-Device path terms) at w in
    let n = length-Device path terms in
    absurd (inner terms h.2 (omega arith))
device_spelled (suc depth) inner path terms w short =
    let h = rw (outs-Device path terms) at w in
    let n = length-Device path terms in
    let content = written_name path ++ written_terms terms in
    let raw : length (opcode_bytes DEVICE_OP ++ sized content) < 2 ^ 28 = rw (written-Device path terms) at short in
    let s : 2 + length (sized content) < 2 ^ 28 = omega arith in
    as_written (suc depth) (Device path terms) _ (written-Device path terms)
    (spells_holder (written_name path) (written_terms terms) (holds (written_length (length content)) content (sized_spelled 2 content (omega arith) s))
    (device_head (record { name = name_spelled path h.0; some = h.1 })) (inner terms h.2 (omega arith)))

registers_spelled : (path : Path) (id block len : ℕ) → NameOf path (written_name path) → HasSegment path → block < 2 ^ 32
    → ProcessorLayout (path, (id, (block, len))) (written_name path ++ written_registers id block len)
registers_spelled path id block len name some fits = record {
  front = written_name path;
  back = written_registers id block len;
  parts = refl;
  one = record { name = name; some = some };
  other = record {
    front = id ∷ [];
    back = to_le_bytes w32 block ++ (len ∷ []);
    parts = refl;
    one = refl;
    other = record { front = to_le_bytes w32 block; back = len ∷ []; parts = refl; one = record { is = refl; fits = fits }; other = refl };
  };
}

processor_spelled : (depth : ℕ) → AllBelow depth → (path : Path) (id block len : ℕ) (terms : List Term) → IsSpelled depth (Processor path id block len terms)
processor_spelled zero inner path id block len terms w short =
    let h = rw (outs-Processor path id block len terms) at w in
    let n = length-Processor path id block len terms in
    absurd (inner terms h.3 (omega arith))
processor_spelled (suc depth) inner path id block len terms w short =
    let h = rw (outs-Processor path id block len terms) at w in
    let n = length-Processor path id block len terms in
    let head = written_name path ++ written_registers id block len in
    let content = head ++ written_terms terms in
    let raw : length (opcode_bytes PROCESSOR_OP ++ sized content) < 2 ^ 28 = rw (written-Processor path id block len terms) at short in
    let s : 2 + length (sized content) < 2 ^ 28 = omega arith in
    as_written (suc depth) (Processor path id block len terms) _ (written-Processor path id block len terms)
    (spells_holder head (written_terms terms) (holds (written_length (length content)) content (sized_spelled 2 content (omega arith) s))
    (processor_head (registers_spelled path id block len (name_spelled path h.0) h.1 h.2)) (inner terms h.3 (omega arith)))

-- what is spelled of a term is spelled of its layer
at_roll : (depth : ℕ) (l : Term-F Term) (t : Term) → roll-Term l ≡ t → IsSpelled depth t → IsSpelled depth (roll-Term l)
at_roll depth l t e h = subst (λ (u : Term). IsSpelled depth u) (sym e) h

layer_spelled : (depth : ℕ) → AllBelow depth → (l : Term-F Term) → IsSpelled depth (roll-Term l)
layer_spelled depth inner (layer.Name path value) = at_roll depth (layer.Name path value) (Name path value) (rolls-Name path value) (name_term_spelled depth path value)
layer_spelled depth inner (layer.Scope path terms) = at_roll depth (layer.Scope path terms) (Scope path terms) (rolls-Scope path terms) (scope_spelled depth inner path terms)
layer_spelled depth inner (layer.Device path terms) = at_roll depth (layer.Device path terms) (Device path terms) (rolls-Device path terms) (device_spelled depth inner path terms)
layer_spelled depth inner (layer.Processor path id block len terms) =
    at_roll depth (layer.Processor path id block len terms) (Processor path id block len terms) (rolls-Processor path id block len terms) (processor_spelled depth inner path id block len terms)
layer_spelled depth inner (layer.Unread opcode body) = at_roll depth (layer.Unread opcode body) (Unread opcode body) (rolls-Unread opcode body) (unread_spelled depth opcode body)
layer_spelled depth inner (layer.Alias source alias) = at_roll depth (layer.Alias source alias) (Alias source alias) (rolls-Alias source alias) (alias_spelled depth source alias)
layer_spelled depth inner (layer.External path kind args) =
    at_roll depth (layer.External path kind args) (External path kind args) (rolls-External path kind args) (external_spelled depth path kind args)
layer_spelled depth inner (layer.Mutex path flags) = at_roll depth (layer.Mutex path flags) (Mutex path flags) (rolls-Mutex path flags) (mutex_spelled depth path flags)
layer_spelled depth inner (layer.Event path) = at_roll depth (layer.Event path) (Event path) (rolls-Event path) (event_spelled depth path)
layer_spelled depth inner (layer.Region path space offset len) =
    at_roll depth (layer.Region path space offset len) (Region path space offset len) (rolls-Region path space offset len) (region_spelled depth path space offset len)

by_layer : (depth : ℕ) → AllBelow depth → (t : Term) → IsSpelled depth t
by_layer depth inner t = subst (λ (u : Term). IsSpelled depth u) (roll-out-Term t) (layer_spelled depth inner (out-Term t))

terms_spelled : (depth : ℕ) → ((t : Term) → IsSpelled depth t) → (terms : List Term) → AllByRecursion (IsWritableTerm depth) terms → length (written_terms terms) < 2 ^ 28
    → TermsSpellWithin depth terms (written_terms terms)
terms_spelled depth each [] all short = spells_no_term
terms_spelled depth each (t ∷ ts) all short =
    let n = length-append (written_term t) (written_terms ts) in
    spells_more_terms (each t all.0 (omega arith)) (terms_spelled depth each ts all.1 (omega arith))

all_below : (depth : ℕ) → AllBelow depth
unfolding AreWritable
all_below zero terms w short = w
all_below (suc depth) terms w short = terms_spelled depth (by_layer depth (all_below depth)) terms w short

pub are_spelled : (depth : ℕ) (terms : List Term) → AllByRecursion (IsWritableTerm depth) terms → length (written_terms terms) < 2 ^ 28 → TermsSpellWithin depth terms (written_terms terms)
are_spelled depth terms w short = terms_spelled depth (by_layer depth (all_below depth)) terms w short
