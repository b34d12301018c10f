-- The written form of a block spells it, and each block that is spelled can be written.
use Rattle.std.proofs.Common.{◌≡◌, ◌≤◌, ◌+◌, ℕ, List, length, drop, Result, Ok, Err, ap, arith, length-drop}
use Rattle.std.specs.Prelude.{IfOk}
use Rattle.std.proofs.lemmas.List.{length-take}
use Rattle.aml_data.specs.declared.data.Data.{Data}
use Rattle.aml_data.specs.Countable.{IsIn, IsCountable}
use Rattle.aml_block.specs.Values.{HasValue}
use Rattle.aml_block.proofs.TermValues.{values_countable}
use Rattle.aml_block.specs.WrittenTerms.{written_terms}
use Rattle.aml_block.proofs.TermLists.{terms_spelled, terms_least, terms_writable}
use Rattle.aml_block.specs.declared.block.Block.{Block}
use Rattle.aml_block.specs.declared.fault.BlockFault.{BlockFault}
use Rattle.aml_block.specs.Header.{field}
use Rattle.aml_block.specs.Spelling.{BlockSpells}
use Rattle.aml_block.specs.Written.{written_block, IsInRange, IsWritableBlock}
use Rattle.aml_block.proofs.WrittenHeaders.{header_written, size_written}

-- each block that is spelled can be written
pub block_writable : (block : Block) (bytes : List ℕ) → BlockSpells block bytes → IsWritableBlock block
block_writable block bytes s =
    let size = s.size in
    let rest = length-drop 36 bytes in
    record {
      terms = terms_writable block.terms (drop 36 bytes) s.terms (omega (arith, rest, size.0, size.1));
      short = let least = terms_least block.terms (drop 36 bytes) s.terms in omega (arith, rest, size.0, size.1, least);
    }

-- so each block that is read can be written
pub each_writable : (bytes : List ℕ) (r : Result Block BlockFault) → IfOk r (λ b. BlockSpells b bytes) → IfOk r IsWritableBlock
each_writable bytes (Ok b) spelled = block_writable b bytes spelled
each_writable bytes (Err f) spelled = spelled

field_length : (at n : ℕ) (bytes value : List ℕ) → at + n ≤ length bytes → field at n bytes ≡ value → length value ≡ n
field_length at n bytes value within e =
    let long = length-drop at bytes in
    let cut = length-take n (drop at bytes) in
    let same : length (field at n bytes) ≡ length value = ap (λ (l : List ℕ). length l) e in
    omega (arith, long, cut, same)

-- no spelling of a block is shorter than what is written
pub block_least : (block : Block) (bytes : List ℕ) → BlockSpells block bytes → length (written_block block) ≤ length bytes
unfolding written_block
block_least block bytes s =
    let size = s.size in
    let h = s.header in
    let least = terms_least block.terms (drop 36 bytes) s.terms in
    let whole = size_written block.header (written_terms block.terms)
    (field_length 10 6 bytes block.header.oem_id (omega (arith, size.0)) h.oem_id)
    (field_length 16 8 bytes block.header.oem_table_id (omega (arith, size.0)) h.oem_table_id)
    (field_length 28 4 bytes block.header.creator_id (omega (arith, size.0)) h.creator_id) in
    omega (arith, length-drop 36 bytes, size.0, least, whole)

-- the written form spells what it is of
pub block_spelled : (block : Block) → IsWritableBlock block → IsInRange block.header → BlockSpells block (written_block block)
unfolding written_block
block_spelled block w r =
    let body = written_terms block.terms in
    let h = header_written block.header body r w.short in
    record {
      size = h.0;
      header = h.1;
      length_field = h.2;
      checksum = h.3;
      terms = let short = w.short in rw h.4 (terms_spelled block.terms w.terms (omega arith));
    }

-- ---- what a block names can be counted

pub writable_countable : (block : Block) (value part : Data) → IsWritableBlock block → HasValue value block.terms → IsIn part value → IsCountable part
writable_countable block value part w held inside = values_countable block.terms value part w.terms held inside

pub spelled_countable : (block : Block) (bytes : List ℕ) (value part : Data) → BlockSpells block bytes → HasValue value block.terms → IsIn part value → IsCountable part
spelled_countable block bytes value part s held inside = writable_countable block value part (block_writable block bytes s) held inside
