use Rattle.std.proofs.Common.{◌∙◌, ap, arith, length, refl, subst, sym}
use Rattle.pw_cppc.specs.Standings.{AreStandings}
use Rattle.pw_cppc.specs.inner.Stood.{standing_with}
use Rattle.pw_cppc.proofs.Followed.{noted, placed, refused, stays_noted, written_length}
use Rattle.pw_cppc.proofs.following.CppcStandings.follow.Goals as goal

pub returns-in_default : goal.returns-in_default
returns-in_default c = record {
  after = λ S are told. subst (λ R. AreStandings c.args.plan.now R c.args.self.now) (sym (refused c.args.plan.now S c.args.request c.args.reply told c.in_default.not-Stands).1) are;
  size = refl;
}

pub returns-then-number-value-clause-after : goal.returns-then-number-value-clause-after
returns-then-number-value-clause-after c =
    let noted = rw (c.as_slice.ensures, c.self.view_is, c.cpu-cpu.ensures) at c.number.ensures in
    λ S are told. stays_noted c.args.plan.now S c.args.request c.args.self.now are c.in-Stands.value (told ∙ c.in-Stands.is) (sym noted ∙ c.if-number-value.true)

pub returns-in-Some-clause-after : goal.returns-in-Some-clause-after
returns-in-Some-clause-after c = λ S are told.
    rw (c.note.ensures, c.self.view_is, c.domain.ensures, ← c.in-Some.ensures.0, c.cpu-cpu.ensures)
    (noted c.args.plan.now S c.args.request c.args.self.now are c.in-Stands.value (told ∙ c.in-Stands.is))

pub returns-in-Some-clause-size : goal.returns-in-Some-clause-size
returns-in-Some-clause-size c = ap length c.note.ensures ∙ written_length c.self.inside.stood (standing_with c.domain.result.now c.cpu-cpu.result) c.in-Stands.value ∙ ap length c.self.view_is

pub returns-in_default-domain_of-clause-after : goal.returns-in_default-domain_of-clause-after
returns-in_default-domain_of-clause-after c = λ S are told.
    let there = placed c.args.plan.now S c.args.request c.args.self.now are c.in-Stands.value (told ∙ c.in-Stands.is) in
    let none = rw c.cpu-cpu.ensures at c.in_default-domain_of.ensures in
    absurd (omega (arith, there, none))
