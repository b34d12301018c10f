use Rattle.std.proofs.Common.{codes, map, sym}
use Rattle.std.specs.List.{flat_map}
use Rattle.pw_text.proofs.Putting.{PutsText-as, PutsText-stop, PutsText-then}
use Rattle.pw_show.specs.Values.{byte_digits, separated}
use Rattle.pw_show.specs.inner.Pieces.{spaced_byte}
use Rattle.pw_show.proofs.Chains.{separated-first}
use Rattle.pw_show.proofs.buffers.put_bytes.Goals as goal

pub returns-in_err-put : goal.returns-in_err-put
returns-in_err-put g c =
    let first = c.in-Some.first.now in
    let rest = c.in-Some.rest.now in
    let others = flat_map spaced_byte rest in
    PutsText-as (separated (codes " ") (map byte_digits c.args.bytes.now)) (sym (separated-first (codes " ") byte_digits c.args.bytes.now first rest c.in-Some.ensures.cases.0))
    (PutsText-stop others c.from_residual.result c.from_residual.ensures.0 (rw c.hex_pair.ensures at c.in_err-put.ensures))

pub returns : goal.returns
returns g c =
    let first = c.in-Some.first.now in
    let rest = c.in-Some.rest.now in
    PutsText-as (separated (codes " ") (map byte_digits c.args.bytes.now)) (sym (separated-first (codes " ") byte_digits c.args.bytes.now first rest c.in-Some.ensures.cases.0))
    (PutsText-then (rw c.hex_pair.ensures at c.in_ok-put.ensures) c.put_other_bytes.ensures)
