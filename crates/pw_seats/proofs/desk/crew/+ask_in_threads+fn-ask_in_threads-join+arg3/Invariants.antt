use Rattle.pw_seats.proofs.desk.crew.+ask_in_threads+fn-ask_in_threads-join+arg3.Given as goal

abbrev pub decreases-ask_in_threads : goal.decreases-ask_in_threads
decreases-ask_in_threads g l = l.members

abbrev pub decreases-join+arg3 : goal.decreases-join+arg3
decreases-join+arg3 g l = l.left
