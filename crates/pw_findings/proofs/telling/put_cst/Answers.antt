use Rattle.pw_findings.proofs.telling.put_cst.Goals as goal

pub returns-in-NoC1 : goal.returns-in-NoC1
returns-in-NoC1 g c = rw c.in-NoC1.is c.put_words.ensures

pub returns-in-TypeFalls : goal.returns-in-TypeFalls
returns-in-TypeFalls g c = rw c.in-TypeFalls.is c.put_words-in-TypeFalls.ensures

pub returns-in-PowerRises : goal.returns-in-PowerRises
returns-in-PowerRises g c = rw c.in-PowerRises.is c.put_costlier.ensures
