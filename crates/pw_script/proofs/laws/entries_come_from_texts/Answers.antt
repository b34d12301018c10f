use Rattle.pw_script.proofs.Sourced.{entry_from}
use Rattle.pw_script.proofs.laws.entries_come_from_texts.Goals as goal

pub returns-clause-read : goal.returns-clause-read
returns-clause-read g c = λ M n texts lines H G e are run. entry_from M _ _ n texts lines H G e are run

pub returns-clause-told : goal.returns-clause-told
returns-clause-told g c = λ M choose answer n texts lines H G e are run. entry_from M _ _ n texts lines H G e are run
