use Rattle.pw_books.proofs.Gathering.{all_ended, apart_more, counted_once, down_more, has_all, has_last, has_more, up_more}
use Rattle.pw_books.proofs.interleaving.workers_are_gathered.Goals as goal

pub returns-clause-apart : goal.returns-clause-apart
returns-clause-apart g c = λ ws w apart other. apart_more ws w apart other

pub returns-clause-has : goal.returns-clause-has
returns-clause-has g c = λ ws w p has. has_more ws w p has

pub returns-clause-has_last : goal.returns-clause-has_last
returns-clause-has_last g c = λ ws w. has_last ws w

pub returns-clause-all : goal.returns-clause-all
returns-clause-all g c = λ count asked ws has all p some. has_all g.H.Tells.telling count asked ws has all p some

pub returns-clause-up : goal.returns-clause-up
returns-clause-up g c = λ book ws w. up_more book ws w

pub returns-clause-down : goal.returns-clause-down
returns-clause-down g c = λ book ws w. down_more book ws w

pub returns-clause-ended : goal.returns-clause-ended
returns-clause-ended g c = λ asked ws worked. all_ended g.H.Tells.telling asked ws worked

pub returns-clause-numbers : goal.returns-clause-numbers
returns-clause-numbers g c = λ book es once. counted_once g.H.Tells.telling book es once
