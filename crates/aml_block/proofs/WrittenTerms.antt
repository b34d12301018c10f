-- The written form of a term, and whether it can be written, by its variant.
use Rattle.std.proofs.Common.{◌≡◌, ◌<◌, ◌≤◌, ◌-◌, ◌^◌, ℕ, zero, suc, List, [], ◌∷◌, ◌++◌, length, sym, ap, subst, ◌∙◌, inl, inr, ltb, arith, length-append, ◌+◌, drop}
use Rattle.std.specs.List.{AllByRecursion}
use Rattle.std.proofs.lemmas.List.{append-nil, drop_at}
use Rattle.aml_data.proofs.WrittenLengths.{content_fits}
use Rattle.aml_data.specs.declared.data.Data.{Data}
use Rattle.aml_data.specs.declared.path.Path.{Path}
use Rattle.aml_data.specs.Written.{written, written_constant, written_name, written_length, sized, IsWritablePath}
use Rattle.aml_block.specs.declared.term.Term.{Term, Term-F, map-Term, out-Term, fold_out-Term}
use Rattle.aml_block.specs.declared.term.Term.TheOpen as layer
use Rattle.aml_block.specs.declared.term.Term.TheVariants.{Name, Scope, Device, Processor, Unread, Alias, External, Mutex, Event, Region}
use Rattle.aml_block.specs.declared.term.Term.TheViews.{outs-Name, outs-Scope, outs-Device, outs-Processor, outs-Unread, outs-Alias, outs-External, outs-Mutex, outs-Event, outs-Region}
use Rattle.aml_block.specs.declared.opcode.TheConstants.{ALIAS_OP, NAME_OP, SCOPE_OP, EXTERNAL_OP, MUTEX_OP, EVENT_OP, OP_REGION_OP, DEVICE_OP, PROCESSOR_OP}
use Rattle.aml_block.specs.Opcodes.{opcode_bytes}
use Rattle.aml_block.specs.Layouts.{HasSegment}
use Rattle.aml_block.specs.WrittenTerms.{written_layer, written_registers, written_term, written_terms, AreWritable, IsWritableTerm}
use Rattle.pw_base.proofs.Facts.{choice}

-- ---- the written form

pub written-layer : (t : Term) (l : Term-F Term) → out-Term t ≡ l → written_term t ≡ written_layer (map-Term Term (List ℕ) written_term l)
unfolding written_term
written-layer t l e = fold_out-Term (List ℕ) written_layer t ∙ ap (λ (x : Term-F Term). written_layer (map-Term Term (List ℕ) written_term x)) e

pub written-Name : (path : Path) (value : Data) → written_term (Name path value) ≡ opcode_bytes NAME_OP ++ (written_name path ++ written value)
written-Name path value = written-layer (Name path value) (layer.Name path value) (outs-Name path value)

pub written-Scope : (path : Path) (terms : List Term) → written_term (Scope path terms) ≡ opcode_bytes SCOPE_OP ++ sized (written_name path ++ written_terms terms)
written-Scope path terms = written-layer (Scope path terms) (layer.Scope path terms) (outs-Scope path terms)

pub written-Device : (path : Path) (terms : List Term) → written_term (Device path terms) ≡ opcode_bytes DEVICE_OP ++ sized (written_name path ++ written_terms terms)
written-Device path terms = written-layer (Device path terms) (layer.Device path terms) (outs-Device path terms)

pub written-Processor : (path : Path) (id block len : ℕ) (terms : List Term)
    → written_term (Processor path id block len terms) ≡ opcode_bytes PROCESSOR_OP ++ sized ((written_name path ++ written_registers id block len) ++ written_terms terms)
written-Processor path id block len terms = written-layer (Processor path id block len terms) (layer.Processor path id block len terms) (outs-Processor path id block len terms)

pub written-Unread : (opcode : ℕ) (body : List ℕ) → written_term (Unread opcode body) ≡ opcode_bytes opcode ++ sized body
written-Unread opcode body = written-layer (Unread opcode body) (layer.Unread opcode body) (outs-Unread opcode body)

pub written-Alias : (source alias : Path) → written_term (Alias source alias) ≡ opcode_bytes ALIAS_OP ++ (written_name source ++ written_name alias)
written-Alias source alias = written-layer (Alias source alias) (layer.Alias source alias) (outs-Alias source alias)

pub written-External : (path : Path) (kind args : ℕ) → written_term (External path kind args) ≡ opcode_bytes EXTERNAL_OP ++ (written_name path ++ (kind ∷ args ∷ []))
written-External path kind args = written-layer (External path kind args) (layer.External path kind args) (outs-External path kind args)

pub written-Mutex : (path : Path) (flags : ℕ) → written_term (Mutex path flags) ≡ opcode_bytes MUTEX_OP ++ (written_name path ++ (flags ∷ []))
written-Mutex path flags = written-layer (Mutex path flags) (layer.Mutex path flags) (outs-Mutex path flags)

pub written-Event : (path : Path) → written_term (Event path) ≡ opcode_bytes EVENT_OP ++ written_name path
written-Event path = written-layer (Event path) (layer.Event path) (outs-Event path)

pub written-Region : (path : Path) (space offset len : ℕ)
    → written_term (Region path space offset len) ≡ opcode_bytes OP_REGION_OP ++ (written_name path ++ (space ∷ (written_constant offset ++ written_constant len)))
written-Region path space offset len = written-layer (Region path space offset len) (layer.Region path space offset len) (outs-Region path space offset len)

-- the same with nothing between the name and the terms
pub written-Scope-bare : (path : Path) (terms : List Term) → written_term (Scope path terms) ≡ opcode_bytes SCOPE_OP ++ sized ((written_name path ++ []) ++ written_terms terms)
written-Scope-bare path terms = written-Scope path terms ∙ ap (λ (l : List ℕ). opcode_bytes SCOPE_OP ++ sized (l ++ written_terms terms)) (sym (append-nil (written_name path)))

pub written-Device-bare : (path : Path) (terms : List Term) → written_term (Device path terms) ≡ opcode_bytes DEVICE_OP ++ sized ((written_name path ++ []) ++ written_terms terms)
written-Device-bare path terms = written-Device path terms ∙ ap (λ (l : List ℕ). opcode_bytes DEVICE_OP ++ sized (l ++ written_terms terms)) (sym (append-nil (written_name path)))

pub ruleset layers = (written-Name, written-Scope-bare, written-Device-bare, written-Processor, written-Unread, written-Alias, written-External, written-Mutex, written-Event, written-Region)

-- ---- what can be written

pub none_writable : (depth : ℕ) (terms : List Term) → depth ≡ 0 → AreWritable depth terms → ⊥
unfolding AreWritable
none_writable zero terms e w = w
none_writable (suc depth) terms e w = absurd (omega arith)

pub some_writable : (depth : ℕ) (terms : List Term) → AreWritable depth terms → 0 < depth
unfolding AreWritable
some_writable zero terms w = absurd w
some_writable (suc depth) terms w = omega arith

pub are_each : (depth : ℕ) (terms : List Term) → AreWritable depth terms → AllByRecursion (IsWritableTerm (depth - 1)) terms
unfolding AreWritable
are_each zero terms w = absurd w
are_each (suc depth) terms w = let k : suc depth - 1 ≡ depth = omega arith in subst (λ (d : ℕ). AllByRecursion (IsWritableTerm d) terms) (sym k) w

pub each_are : (depth : ℕ) (terms : List Term) → 0 < depth → AllByRecursion (IsWritableTerm (depth - 1)) terms → AreWritable depth terms
unfolding AreWritable
each_are zero terms lt w = absurd (omega arith)
each_are (suc depth) terms lt w = let k : suc depth - 1 ≡ depth = omega arith in subst (λ (d : ℕ). AllByRecursion (IsWritableTerm d) terms) k w

-- ---- the parts of what can be written

pub scope_parts : (depth : ℕ) (path : Path) (terms : List Term) (t : Term) → t ≡ Scope path terms → IsWritableTerm depth t → IsWritablePath path × AreWritable depth terms
scope_parts depth path terms t e w = rw (e, outs-Scope path terms) at w

pub device_parts : (depth : ℕ) (path : Path) (terms : List Term) (t : Term) → t ≡ Device path terms → IsWritableTerm depth t → IsWritablePath path × HasSegment path × AreWritable depth terms
device_parts depth path terms t e w = rw (e, outs-Device path terms) at w

pub processor_parts : (depth : ℕ) (path : Path) (id block len : ℕ) (terms : List Term) (t : Term) → t ≡ Processor path id block len terms → IsWritableTerm depth t
    → IsWritablePath path × HasSegment path × (block < 2 ^ 32) × AreWritable depth terms
processor_parts depth path id block len terms t e w = rw (e, outs-Processor path id block len terms) at w

-- ---- what a term in fewer than 2 ^ 28 bytes holds

some_opcode : (opcode : ℕ) → 0 < length (opcode_bytes opcode)
some_opcode opcode =
    elim (choice (ltb opcode 0x100)) [
      | inl h ↦ rw h (omega arith)
      | inr h ↦ rw h (omega arith)
    ]

-- a PkgLength counts its content
pub content_counts : (opcode : ℕ) (content : List ℕ) → length (opcode_bytes opcode ++ sized content) < 2 ^ 28 → length content ≤ 268435451
content_counts opcode content short =
    let some = some_opcode opcode in
    let n = length-append (opcode_bytes opcode) (sized content) in
    let m = length-append (written_length (length content)) content in
    content_fits (length content) (omega arith)

-- the terms in it are no longer
pub inner_short : (opcode : ℕ) (head terms : List ℕ) → length (opcode_bytes opcode ++ sized (head ++ terms)) < 2 ^ 28 → length terms < 2 ^ 28
inner_short opcode head terms short =
    let fits = content_counts opcode (head ++ terms) short in
    omega (arith, length-append head terms)

-- what is short of a term is short of its bytes
pub short_as : (t : Term) (b : List ℕ) → written_term t ≡ b → length (written_term t) < 2 ^ 28 → length b < 2 ^ 28
short_as t b e short = subst (λ (c : List ℕ). length c < 2 ^ 28) e short

-- what stands behind a place is counted by a PkgLength
pub held_counts : (opcode : ℕ) (b e content : List ℕ) (at : ℕ) → at ≡ length b → e ≡ b ++ content → length (opcode_bytes opcode ++ sized content) < 2 ^ 28
    → (at ≤ length e) × (length (drop at e) ≤ 268435451)
held_counts opcode b e content at is held short =
    let back : drop at e ≡ content = rw held (drop_at b content at (sym is)) in
    let long : length e ≡ length b + length content = rw held (length-append b content) in
    (omega arith, rw back (content_counts opcode content short))
