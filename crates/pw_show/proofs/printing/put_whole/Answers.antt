use Rattle.std.proofs.lemmas.List.{append-nil}
use Rattle.pw_show.specs.Show.{show_text}
use Rattle.pw_text.proofs.Putting.{PutsText-as, PutsText-stop, PutsText-then}
use Rattle.pw_show.proofs.printing.put_whole.Goals as goal

pub returns-in_err-put_space-clause-text : goal.returns-in_err-put_space-clause-text
returns-in_err-put_space-clause-text g c = PutsText-as _ (append-nil (show_text c.args.space.now)) (PutsText-stop _ c.from_residual.result c.from_residual.ensures.0 c.in_err-put_space.ensures)

pub returns-clause-text : goal.returns-clause-text
returns-clause-text g c = PutsText-as _ (append-nil (show_text c.args.space.now)) (PutsText-then c.in_ok-put_space.ensures c.flush.ensures.puts)
