use Rattle.std.proofs.Common.{◌++◌, codes, decimal, map}
use Rattle.std.specs.List.{join_with_byte}
use Rattle.pw_text.proofs.Putting.{PutsText-as, PutsText-stop, PutsText-then}
use Rattle.pw_show.proofs.Compact.{buffer_in_pieces}
use Rattle.pw_show.proofs.json_buffers.put_json_buffer.Goals as goal

pub returns-in_err-put : goal.returns-in_err-put
returns-in_err-put g c =
    let bytes = c.args.bytes.now in
    PutsText-as _ (buffer_in_pieces c.args.size bytes)
    (PutsText-stop (join_with_byte 44 (map decimal bytes) ++ (codes "],\"size\":" ++ (decimal c.args.size ++ codes "}")))
    c.from_residual.result c.from_residual.ensures.0 c.in_err-put.ensures)

pub returns-in_err-put_list : goal.returns-in_err-put_list
returns-in_err-put_list g c =
    PutsText-as _ (buffer_in_pieces c.args.size c.args.bytes.now)
    (PutsText-then c.in_ok-put.ensures
    (PutsText-stop (codes "],\"size\":" ++ (decimal c.args.size ++ codes "}")) c.from_residual-in_err-put_list.result
    c.from_residual-in_err-put_list.ensures.0 c.in_err-put_list.ensures))

pub returns : goal.returns
returns g c =
    PutsText-as _ (buffer_in_pieces c.args.size c.args.bytes.now)
    (PutsText-then c.in_ok-put.ensures (PutsText-then c.in_ok-put_list.ensures c.put_size.ensures))
