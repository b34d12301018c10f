-- What can be written of terms can be of each object that they name.
use Rattle.std.proofs.Common.{◌-◌, ℕ, List, sym}
use Rattle.std.specs.List.{AllByRecursion, Contains}
use Rattle.aml_data.specs.declared.data.Data.{Data}
use Rattle.aml_data.specs.Countable.{IsIn, IsCountable}
use Rattle.aml_data.specs.Written.{IsWritable}
use Rattle.aml_data.proofs.WrittenLengths.{all_at}
use Rattle.aml_data.proofs.Counting.{writable_counts}
use Rattle.aml_block.specs.declared.term.Term.{Term}
use Rattle.aml_block.specs.declared.term.Term.TheVariants.{Name, Scope, Device, Processor}
use Rattle.aml_block.specs.declared.term.Term.TheViews.{outs-Name, outs-Scope, outs-Device, outs-Processor}
use Rattle.aml_block.specs.WrittenTerms.{AreWritableTerms, IsWritableTerm}
use Rattle.aml_block.specs.Values.{HasValue, value_of_name, value_in_scope, value_in_device, value_in_processor}
use Rattle.aml_block.proofs.WrittenTerms.{are_each}
use Rattle.aml_block.specs.declared.term.TheConstants.{DEEPEST}

-- what holds of all terms holds of one among them
one_of : (P : Term → Type 0) (terms : List Term) (term : Term) → AllByRecursion P terms → Contains terms term → P term
one_of P terms term all among = all_at P terms among.0 term among.1 (sym among.2) all

pub value_writable : (value : Data) (depth : ℕ) (terms : List Term) → AllByRecursion (IsWritableTerm depth) terms → HasValue value terms → IsWritable value
value_writable value depth terms all (value_of_name path among) =
    let one = rw (outs-Name path value) at (one_of (IsWritableTerm depth) terms (Name path value) all among) in one.2
value_writable value depth terms all (value_in_scope path inner among held) =
    let one = rw (outs-Scope path inner) at (one_of (IsWritableTerm depth) terms (Scope path inner) all among) in
    value_writable value (depth - 1) inner (are_each depth inner one.1) held
value_writable value depth terms all (value_in_device path inner among held) =
    let one = rw (outs-Device path inner) at (one_of (IsWritableTerm depth) terms (Device path inner) all among) in
    value_writable value (depth - 1) inner (are_each depth inner one.2) held
value_writable value depth terms all (value_in_processor path id block len inner among held) =
    let one = rw (outs-Processor path id block len inner) at (one_of (IsWritableTerm depth) terms (Processor path id block len inner) all among) in
    value_writable value (depth - 1) inner (are_each depth inner one.3) held

pub values_countable : (terms : List Term) (value part : Data) → AreWritableTerms terms → HasValue value terms → IsIn part value → IsCountable part
values_countable terms value part all held inside = writable_counts value part (value_writable value DEEPEST terms all held) inside
