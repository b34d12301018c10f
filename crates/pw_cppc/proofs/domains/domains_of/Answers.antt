use Rattle.std.proofs.Common.{◌≡◌, ◌-◌, length, sym, refl, ◌∙◌, arith}
use Rattle.pw_plan.proofs.Ranges.{pushed_filter, passed_filter}
use Rattle.pw_cppc.specs.Domains.{domain_led_by, domains_of, leads}
use Rattle.pw_cppc.proofs.domains.domains_of.Goals as goal
use Rattle.pw_cppc.proofs.domains.domains_of.Goals.{then-leads+in_ok-domain_led_by+in_ok-push, else-leads}

pub loop-cpu-init : goal.loop-cpu-init
unfolding domains_of
loop-cpu-init c =
    let all : length c.args.cpus.now - 0 ≡ length c.args.cpus.now = omega arith in
    rw (c.new-domains.ensures.items, all) refl

pub loop-cpu-preserved : goal.loop-cpu-preserved
loop-cpu-preserved c =
    let ps = c.args.cpus.now in
    elim c.if-leads.branch [
      | then-leads+in_ok-domain_led_by+in_ok-push w ↦
          rw (w.domains-is, w.in_ok-push.ensures.items) (pushed_filter c.loop-cpu.domains.items (domains_of ps) c.loop-cpu.cpu (length ps) c.loop-cpu-test.true
          (domain_led_by ps) (leads ps) w.in_ok-domain_led_by.field-0 w.in_ok-domain_led_by.ensures (sym c.leads.ensures ∙ w.if-leads.true) c.loop-cpu.invariant)
      | else-leads w ↦
          rw w.domains-is (passed_filter c.loop-cpu.domains.items (domains_of ps) c.loop-cpu.cpu (length ps) c.loop-cpu-test.true
          (domain_led_by ps) (leads ps) (sym c.leads.ensures ∙ w.if-leads.false) c.loop-cpu.invariant)
    ]
