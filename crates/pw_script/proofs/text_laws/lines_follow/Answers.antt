use Rattle.std.proofs.Common.{add-one}
use Rattle.pw_history.proofs.Ends.{each-feed, fault-ends, first-line, opening-ends, opening-op}
use Rattle.pw_history.proofs.Nexts.{next-line, next-op}
use Rattle.pw_script.proofs.Told.{power_laws}
use Rattle.pw_script.proofs.text_laws.lines_follow.Goals as goal

pub returns-clause-feeds : goal.returns-clause-feeds
returns-clause-feeds c = λ P L lines tell b. each-feed (power_laws P tell).words L lines b

pub returns-clause-first : goal.returns-clause-first
returns-clause-first c = λ P L l tell are b. first-line (power_laws P tell) L are l b

pub returns-clause-opening : goal.returns-clause-opening
returns-clause-opening c = λ P L fault j l tell are narrow lt b. rw add-one (opening-op (power_laws P tell) L are fault j l narrow (rw add-one at lt) (rw add-one at b))

pub returns-clause-opening_fault : goal.returns-clause-opening_fault
returns-clause-opening_fault c = λ P L k l tell are narrow b. opening-ends (power_laws P tell) L are k l narrow b

pub returns-clause-fault : goal.returns-clause-fault
returns-clause-fault c = λ P L H l tell are start b. fault-ends (power_laws P tell) L are H start l b

pub returns-clause-entry : goal.returns-clause-entry
returns-clause-entry c = λ P L H l tell are start b. next-line (power_laws P tell) L are H start l b

pub returns-clause-operation : goal.returns-clause-operation
returns-clause-operation c = λ P L H e j l tell are start lt b. next-op (power_laws P tell) L are H e start j l lt b
