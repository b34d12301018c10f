-- Reading from left to right, with the first fault that is met.
use Rattle.std.specs.Prelude.{ℕ, ◌%◌, ◌==◌, List, length, drop, slice_index, sum, Result, Ok, Err, nat_lt, if◌then◌else◌}
use Rattle.std.specs.Str.{bytes_eq}
use Rattle.pw_base.specs.Answers as answers
use Rattle.pw_base.specs.Answers.{◌>>=◌}
use Rattle.aml_block.specs.declared.term_fault.TermFault.{TermFault}
use Rattle.aml_block.specs.inner.TermReading.{terms_at}
use Rattle.aml_block.specs.declared.block.Signature.{Signature}
use Rattle.aml_block.specs.declared.block.Signature.TheVariants.{Dsdt, Ssdt}
use Rattle.aml_block.specs.declared.block.Header.{Header}
use Rattle.aml_block.specs.declared.block.Block.{Block}
use Rattle.aml_block.specs.declared.fault.HeaderFault.{HeaderFault}
use Rattle.aml_block.specs.declared.fault.HeaderFault.TheVariants as header_faults
use Rattle.aml_block.specs.declared.fault.BlockFault.{BlockFault}
use Rattle.aml_block.specs.declared.fault.BlockFault.TheVariants.{Header as in_header, Memory}
use Rattle.aml_block.specs.declared.header.TheConstants.{LARGEST, HEADER_SIZE}
use Rattle.aml_block.specs.Causes.{term_cause}
use Rattle.aml_block.specs.Header.{signature_text, field, number_field}

-- What a function returned, seen by view, is what reading gives, unless memory ran out.
abbrev pub Gives : {X Y : Type 0} → (X → Y) → Result X BlockFault → Result Y BlockFault → Type 0
Gives view answer read = answers.Gives Memory view answer read

-- what the terms give, as a part of the block
abbrev pub terms_part : {A : Type 0} → Result A TermFault → Result A BlockFault
terms_part (Ok x) = Ok x
terms_part (Err fault) = Err (term_cause fault)

-- the signature, where it is that of a definition block
unfoldable pub signature_at : List ℕ → Result Signature HeaderFault
signature_at text =
    if bytes_eq text (signature_text Dsdt) then Ok Dsdt
    else (if bytes_eq text (signature_text Ssdt) then Ok Ssdt
    else Err header_faults.Signature)

-- the fields of a header of this signature
unfoldable pub fields_at : Signature → List ℕ → Header
fields_at signature bytes = record {
  signature = signature;
  revision = slice_index bytes 8;
  oem_id = field 10 6 bytes;
  oem_table_id = field 16 8 bytes;
  oem_revision = number_field 24 bytes;
  creator_id = field 28 4 bytes;
  creator_revision = number_field 32 bytes;
}

-- what follows the signature, where there is one
abbrev pub signed_at : List ℕ → Result Signature HeaderFault → Result Header HeaderFault
signed_at bytes (Err why) = Err why
signed_at bytes (Ok signature) =
    if number_field 4 bytes == length bytes
    then (if sum bytes % 256 == 0 then Ok (fields_at signature bytes) else Err header_faults.Sum)
    else Err header_faults.Length

-- the header of a block of these bytes
unfoldable pub header_at : List ℕ → Result Header HeaderFault
header_at bytes =
    if nat_lt LARGEST (length bytes) then Err header_faults.Large
    else (if nat_lt (length bytes) HEADER_SIZE then Err header_faults.Short
    else signed_at bytes (signature_at (field 0 4 bytes)))

-- the header, as a part of the block
abbrev pub header_part : Result Header HeaderFault → Result Header BlockFault
header_part (Ok header) = Ok header
header_part (Err why) = Err (in_header why)

-- a block
unfoldable pub block_at : List ℕ → Result Block BlockFault
block_at bytes =
    header_part (header_at bytes) >>= λ header.
    terms_part (terms_at (length bytes) (drop HEADER_SIZE bytes)) >>= λ terms.
    Ok (record { header = header; terms = terms })
