use Rattle.std.proofs.Common.{codes, map}
use Rattle.pw_text.proofs.Putting.{PutsText-stop, PutsText-then, stop_at_first}
use Rattle.pw_show.specs.Values.{byte_digits, separated}
use Rattle.pw_show.proofs.buffers.put_buffer.Goals as goal

pub returns-in_err-put_head : goal.returns-in_err-put_head
returns-in_err-put_head g c =
    stop_at_first (separated (codes " ") (map byte_digits c.args.bytes.now)) (codes "}") c.from_residual.result c.from_residual.ensures.0 c.in_err-put_head.ensures

pub returns-in_err-put_bytes : goal.returns-in_err-put_bytes
returns-in_err-put_bytes g c =
    PutsText-stop (codes "}") c.from_residual-in_err-put_bytes.result c.from_residual-in_err-put_bytes.ensures.0 (PutsText-then c.in_ok-put_head.ensures c.in_err-put_bytes.ensures)

pub returns : goal.returns
returns g c = PutsText-then (PutsText-then c.in_ok-put_head.ensures c.in_ok-put_bytes.ensures) c.put.ensures
