use Rattle.std.proofs.Common.{sym, ◌∙◌}
use Rattle.pw_embed.specs.Shared.{Asked}
use Rattle.pw_embed.proofs.sharing.Sharing.ask.Goals as goal

pub returns : goal.returns
returns c =
    Asked.asked c.in-Some.request c.step-told.result (sym c.request.ensures ∙ c.in-Some.is) c.step-told.ensures c.put_reply.ensures
    c.status_of.ensures
