use Rattle.std.proofs.Common.{◌∙◌, sym, []}
use Rattle.std.proofs.lemmas.List.{append-nil}
use Rattle.pw_text.proofs.Putting.{PutsText-sent}
use Rattle.pw_text.proofs.page.Page.flush.Goals as goal

pub returns-clause-puts : goal.returns-clause-puts
returns-clause-puts g c =
    let sent = c.put_all-outcome.ensures in
    let waited = c.as_slice.ensures ∙ c.self.view_is ∙ sym (append-nil c.args.self.now) in
    rw c.clear.ensures (PutsText-sent c.args.self.now [] c.as_slice.result.now c.put_all-outcome.result waited sent.keeps sent.ok sent.failed sent.part)
