use Rattle.std.proofs.Common.{[], refl}
use Rattle.pw_text.proofs.Putting.{PutsText-sent}
use Rattle.pw_text.proofs.page.Page.put_on_empty.Goals as goal

pub returns-then-bytes-gt-PAGE_SIZE : goal.returns-then-bytes-gt-PAGE_SIZE
returns-then-bytes-gt-PAGE_SIZE g c =
    let sent = c.put_all.ensures in
    rw c.requires (PutsText-sent [] c.args.bytes.now c.args.bytes.now c.put_all.result refl sent.keeps sent.ok sent.failed sent.part)
