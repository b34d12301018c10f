use Rattle.pw_words.proofs.Asking.{few_counted}
use Rattle.pw_words.proofs.laws.few_clusters.Goals as goal

pub returns : goal.returns
returns c = few_counted
