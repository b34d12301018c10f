use Rattle.std.proofs.Common.{◌≡◌, sym, ◌∙◌}
use Rattle.aml_data.proofs.SegOrder.{segments_order}
use Rattle.aml_data.proofs.seg.SegOrd.cmp.Goals as goal

pub returns : goal.returns
returns c =
    let s = rw c.self.view_is at c.self.invariant in
    let t = rw c.other.view_is at c.other.invariant in
    rw (c.cmp.ensures, c.from_be_bytes.ensures, c.from_be_bytes-2.ensures, c.self.view_is, c.other.view_is) (segments_order c.args.self.now c.args.other.now s t)
