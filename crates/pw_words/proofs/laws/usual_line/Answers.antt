use Rattle.pw_words.proofs.Usual.{audit_asks, cppc_asks, drive_asks, flag_asks, flags_ask, generate_asks, reviews_ask, serial_asks, usual_asks}
use Rattle.pw_words.proofs.laws.usual_line.Goals as goal

pub returns-clause-line : goal.returns-clause-line
returns-clause-line c = usual_asks

pub returns-clause-flag : goal.returns-clause-flag
returns-clause-flag c = flag_asks

pub returns-clause-drive : goal.returns-clause-drive
returns-clause-drive c = λ way script blocks bare are. drive_asks way script blocks are bare

pub returns-clause-flags : goal.returns-clause-flags
returns-clause-flags c = λ way script blocks rest are. flags_ask way script blocks are rest

pub returns-clause-audit : goal.returns-clause-audit
returns-clause-audit c = λ review script history blocks first second are. audit_asks review script history blocks are first second

pub returns-clause-reviews : goal.returns-clause-reviews
returns-clause-reviews c = λ review script history blocks rest are. reviews_ask review script history blocks are rest

pub returns-clause-cppc : goal.returns-clause-cppc
returns-clause-cppc c = λ serial script blocks bare are. cppc_asks serial script blocks are bare

pub returns-clause-serial : goal.returns-clause-serial
returns-clause-serial c = λ serial script blocks rest are. serial_asks serial script blocks are rest

pub returns-clause-generate : goal.returns-clause-generate
returns-clause-generate c = generate_asks
