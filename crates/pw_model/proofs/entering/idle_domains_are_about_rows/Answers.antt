use Rattle.pw_model.proofs.Rows.{about_row}
use Rattle.pw_model.proofs.entering.idle_domains_are_about_rows.Goals as goal

pub returns : goal.returns
returns c = λ P d p lt idle member. about_row P d p lt idle member
