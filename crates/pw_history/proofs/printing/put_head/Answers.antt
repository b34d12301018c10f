use Rattle.std.proofs.Common.{◌∷◌, ◌++◌, append_assoc, codes, decimal}
use Rattle.pw_text.proofs.Putting.{PutsText-as, PutsText-stop, PutsText-then}
use Rattle.pw_text.specs.Behind.{behind}
use Rattle.pw_history.proofs.printing.put_head.Goals as goal

pub returns-in_err-put_asker : goal.returns-in_err-put_asker
returns-in_err-put_asker g c =
    let W = g.T.Kind.words in
    let path = W.path c.args.named.now.plan.now (W.cpu c.args.request) in
    PutsText-as _ (append_assoc (decimal c.args.number) (32 ∷ path) (behind (W.request_words c.args.request) ++ codes " ->"))
    (PutsText-stop _ c.from_residual.result c.from_residual.ensures.0 (rw (c.path.ensures, c.cpu.ensures, c.args.named.now.named (W.cpu c.args.request)) at c.in_err-put_asker.ensures))

pub returns-in_err-put_request : goal.returns-in_err-put_request
returns-in_err-put_request g c =
    let W = g.T.Kind.words in
    let path = W.path c.args.named.now.plan.now (W.cpu c.args.request) in
    PutsText-as _ (append_assoc (decimal c.args.number) (32 ∷ path) (behind (W.request_words c.args.request) ++ codes " ->"))
    (PutsText-then (rw (c.path.ensures, c.cpu.ensures, c.args.named.now.named (W.cpu c.args.request)) at c.in_ok-put_asker.ensures)
    (PutsText-stop _ c.from_residual-in_err-put_request.result c.from_residual-in_err-put_request.ensures.0 c.in_err-put_request.ensures))

pub returns : goal.returns
returns g c =
    let W = g.T.Kind.words in
    let path = W.path c.args.named.now.plan.now (W.cpu c.args.request) in
    PutsText-as _ (append_assoc (decimal c.args.number) (32 ∷ path) (behind (W.request_words c.args.request) ++ codes " ->"))
    (PutsText-then (rw (c.path.ensures, c.cpu.ensures, c.args.named.now.named (W.cpu c.args.request)) at c.in_ok-put_asker.ensures) (PutsText-then c.in_ok-put_request.ensures c.put.ensures))
