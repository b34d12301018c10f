use Rattle.std.proofs.Common.{◌-◌, ◌<◌, ◌++◌, ◌∙◌, ℕ, List, true, refl, ap, take, length, is_ok, arith}
use Rattle.aml_data.specs.Written.{sized, written_name}
use Rattle.aml_block.proofs.Appended.{Appends-then, Appends-held}
use Rattle.aml_data.proofs.Appending.{joined_map-take-suc}
use Rattle.aml_data.proofs.WrittenLengths.{all_at, one_le_all}
use Rattle.aml_block.specs.Opcodes.{opcode_bytes}
use Rattle.aml_block.specs.WrittenTerms.{written_term, written_terms, IsWritableTerm}
use Rattle.aml_block.proofs.WrittenTerms.{written-Unread, written-Scope-bare, written-Device-bare, written-Processor, some_writable, are_each, scope_parts, device_parts, processor_parts}
use Rattle.aml_block.proofs.WrittenTerms.{content_counts, inner_short, held_counts, short_as}
use Rattle.aml_block.proofs.OpcodeCases.{unread_is_term}
use Rattle.aml_block.specs.declared.term.Term.TheViews.{outs-Unread}
use Rattle.aml_block.proofs.term_writing.+terms.Goals as goal

-- ---- a term

pub put_term-put_holder-requires : goal.put_term-put_holder-requires
put_term-put_holder-requires t c =
    let parts = scope_parts c.args.depth c.in-Scope.path c.in-Scope.terms c.args.term.now c.in-Scope.is c.requires.writable in
    let short = short_as c.args.term.now _ (ap written_term c.in-Scope.is ∙ written-Scope-bare c.in-Scope.path c.in-Scope.terms) c.requires.short in
    (omega arith, (refl, (parts.0, (rw c.as_slice.ensures parts.1, rw c.as_slice.ensures short))))

pub put_term-put_holder-requires-in-Device : goal.put_term-put_holder-requires-in-Device
put_term-put_holder-requires-in-Device t c =
    let parts = device_parts c.args.depth c.in-Device.path c.in-Device.terms c.args.term.now c.in-Device.is c.requires.writable in
    let short = short_as c.args.term.now _ (ap written_term c.in-Device.is ∙ written-Device-bare c.in-Device.path c.in-Device.terms) c.requires.short in
    (omega arith, (refl, (parts.0, (rw c.as_slice-in-Device.ensures parts.2, rw c.as_slice-in-Device.ensures short))))

pub put_term-put_holder-requires-in-Processor : goal.put_term-put_holder-requires-in-Processor
put_term-put_holder-requires-in-Processor t c =
    let v = c.in-Processor in
    let parts = processor_parts c.args.depth v.path v.id v.block v.length v.terms c.args.term.now v.is c.requires.writable in
    let short = short_as c.args.term.now _ (ap written_term v.is ∙ written-Processor v.path v.id v.block v.length v.terms) c.requires.short in
    (omega arith, (refl, (parts.0, (rw c.as_slice-in-Processor.ensures parts.3, rw (c.registers_of-registers.ensures, c.as_slice-in-Processor.ensures) short))))

pub put_term-put_opcode-requires : goal.put_term-put_opcode-requires
put_term-put_opcode-requires t c = unread_is_term c.in-Unread.opcode (rw (c.in-Unread.is, outs-Unread c.in-Unread.opcode c.in-Unread.body) at c.requires.writable)

pub put_term-put_sized-requires : goal.put_term-put_sized-requires
put_term-put_sized-requires t c =
    let short = short_as c.args.term.now _ (ap written_term c.in-Unread.is ∙ written-Unread c.in-Unread.opcode c.in-Unread.body) c.requires.short in
    rw c.as_slice-in-Unread.ensures (content_counts c.in-Unread.opcode c.in-Unread.body short)

-- ---- a term that holds terms

pub put_held-returns : goal.put_held-returns
put_held-returns t c =
    let name = written_name c.args.path.now in
    Appends-then c.args.out.now.items c.put.new.out.items c.put_terms.new.out.items (name ++ c.args.registers.now) (written_terms c.args.terms.now) (is_ok c.put_terms.result)
    (Appends-then c.args.out.now.items c.put_name.new.out.items c.put.new.out.items name c.args.registers.now true c.in_ok-put_name.ensures c.in_ok-put.ensures) c.put_terms.ensures

pub put_holder-put_held-requires : goal.put_holder-put_held-requires
put_holder-put_held-requires t c =
    let head = written_name c.args.path.now ++ c.args.registers.now in
    (omega arith, (c.requires.path, (c.requires.writable, inner_short c.args.opcode head (written_terms c.args.terms.now) c.requires.short)))

pub put_holder-put_length_before-requires : goal.put_holder-put_length_before-requires
put_holder-put_length_before-requires t c =
    let content = (written_name c.args.path.now ++ c.args.registers.now) ++ written_terms c.args.terms.now in
    let at = ap (λ (l : List ℕ). length l) c.as_slice-at.ensures.value in
    let counts = held_counts c.args.opcode c.put_opcode.new.out.items c.put_held.new.out.items content (length c.as_slice-at.result.now) at c.in_ok-put_held.ensures c.requires.short in
    record { within = counts.0; counted = counts.1 }

pub put_holder-returns : goal.put_holder-returns
put_holder-returns t c =
    let content = (written_name c.args.path.now ++ c.args.registers.now) ++ written_terms c.args.terms.now in
    let at = ap (λ (l : List ℕ). length l) c.as_slice-at.ensures.value in
    Appends-held c.args.out.now.items c.put_opcode.new.out.items c.put_held.new.out.items c.put_length_before.new.out.items (opcode_bytes c.args.opcode) content (length c.as_slice-at.result.now)
    c.put_length_before.result at c.in_ok-put_opcode.ensures c.in_ok-put_held.ensures c.put_length_before.ensures.ok c.put_length_before.ensures.err

pub put_term-returns-in_ok-put_opcode-in-Unread : goal.put_term-returns-in_ok-put_opcode-in-Unread
put_term-returns-in_ok-put_opcode-in-Unread t c =
    rw (c.in-Unread.is, written-Unread c.in-Unread.opcode c.in-Unread.body, ← c.as_slice-in-Unread.ensures)
    (Appends-then c.args.out.now.items c.put_opcode.new.out.items c.put_sized.new.out.items (opcode_bytes c.in-Unread.opcode) (sized c.as_slice-in-Unread.result.now)
    (is_ok c.put_sized.result) c.in_ok-put_opcode-in-Unread.ensures c.put_sized.ensures)

-- ---- terms one after the other

pub put_terms-overflow_sub-depth : goal.put_terms-overflow_sub-depth
put_terms-overflow_sub-depth t c = let some = some_writable c.args.depth c.args.terms.now c.requires.writable in omega arith

pub put_terms-put_term-requires : goal.put_terms-put_term-requires
put_terms-put_term-requires t c =
    let terms = c.args.terms.now in
    let at = c.loop-term.term-index in
    let inside : at < length terms = omega arith in
    let some = some_writable c.args.depth terms c.requires.writable in
    let shorter = one_le_all written_term terms at c.term-item.result inside c.term-item.is in
    let short = c.requires.short in
    (omega arith, (all_at (IsWritableTerm (c.args.depth - 1)) terms at c.term-item.result inside c.term-item.is (are_each c.args.depth terms c.requires.writable), omega arith))

pub put_terms-loop-term-preserved : goal.put_terms-loop-term-preserved
put_terms-loop-term-preserved t c =
    let terms = c.args.terms.now in
    let at = c.loop-term.term-index in
    let inside : at < length terms = omega arith in
    rw (joined_map-take-suc written_term at terms c.term-item.result inside c.term-item.is)
    (Appends-then c.args.out.now.items c.loop-term.out.items c.put_term.new.out.items (written_terms (take at terms)) (written_term c.term-item.result) true
    c.loop-term.invariant c.in_ok-put_term.ensures)
