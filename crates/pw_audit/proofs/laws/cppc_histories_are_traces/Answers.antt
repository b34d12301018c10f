use Rattle.pw_cppc_drive.specs.HistoryText.{performance_words}
use Rattle.pw_audit.specs.declared.form.Form.TheVariants.{Trace}
use Rattle.pw_audit.proofs.Histories.{begins_as, is_whole, whole_as}
use Rattle.pw_audit.proofs.laws.cppc_histories_are_traces.Goals as goal

pub returns : goal.returns
returns c = record {
  whole = λ P asked text w. whole_as performance_words P asked Trace text w;
  begins = λ P asked lines b. begins_as performance_words P asked Trace lines b;
  history = λ P asked text. is_whole performance_words P asked text;
}
