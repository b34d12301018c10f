use Rattle.std.proofs.Common.{◌≡◌, ◌∙◌, sym, true, is_ok}
use Rattle.std.proofs.lemmas.List.{append-nil}
use Rattle.pw_text.proofs.Putting.{PutsText-as, PutsText-then}
use Rattle.pw_load.proofs.Sent.{sent_line}
use Rattle.pw_load.proofs.saying.say_twice.Goals as goal

pub returns-then-is_ok-clause-line : goal.returns-then-is_ok-clause-line
returns-then-is_ok-clause-line g c =
    let ok : is_ok c.put_twice_line.result ≡ true = sym c.is_ok.ensures.value ∙ c.if-is_ok.true in
    let put = rw ok at c.put_twice_line.ensures in
    sent_line c.flush.result c.requires c.flush.ensures.empty (PutsText-as _ (append-nil _) (PutsText-then put c.flush.ensures.puts))
