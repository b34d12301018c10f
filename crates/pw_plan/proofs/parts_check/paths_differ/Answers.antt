use Rattle.std.proofs.Common.{◌≡◌, ap, inl, inr, arith, sym, ◌∙◌, true, false}
use Rattle.std.proofs.lemmas.List.{get_or_default}
use Rattle.pw_plan.specs.Parts.{cpu_in, no_cpu}
use Rattle.pw_plan.specs.inner.Paths.{is_path_before}
use Rattle.pw_plan.proofs.Csd.{last_of}
use Rattle.pw_plan.proofs.Paths.{path_itself, path_new, path_tops}
use Rattle.pw_plan.proofs.parts_check.paths_differ.Goals as goal
use Rattle.pw_plan.proofs.parts_check.paths_differ.Goals.{then-is_path_before, else-is_path_before+else-not-is_path_new}

pub loop-number-preserved : goal.loop-number-preserved
loop-number-preserved c =
    let n = c.loop-number.number in
    let cpus = c.args.cpus.now in
    let g = c.loop-number.greatest.now in
    let cpu = c.index-cpus-number.is ∙ get_or_default cpus n c.index-cpus-number.result no_cpu c.loop-number-test.true in
    let segs = c.as_slice-path.ensures ∙ ap (λ p. p.path.segs) cpu in
    let tells = rw segs at c.is_path_before.ensures in
    elim c.if-is_path_before.branch [
      | then-is_path_before w ↦
          let after : is_path_before g (cpu_in cpus n).path.segs ≡ true = sym tells ∙ w.if-is_path_before.true in
          record {
            differ = λ p q lt in_list. elim (last_of q n in_list) [
              | inl b ↦ c.loop-number.invariant.differ p q lt b
              | inr i ↦ rw i (path_new g (cpu_in cpus n).path (cpu_in cpus p).path after (c.loop-number.invariant.greatest p (omega (arith, i, lt))))
            ];
            greatest = λ p in_list. rw (w.greatest-is, segs) (elim (last_of p n in_list) [
              | inl b ↦ path_tops g (cpu_in cpus n).path.segs (cpu_in cpus p).path.segs after (c.loop-number.invariant.greatest p b)
              | inr i ↦ rw i (path_itself (cpu_in cpus n).path.segs)
            ]);
          }
      | else-is_path_before+else-not-is_path_new w ↦
          let no : is_path_before g (cpu_in cpus n).path.segs ≡ false = sym tells ∙ w.if-is_path_before.false in
          record {
            differ = λ p q lt in_list. elim (last_of q n in_list) [
              | inl b ↦ c.loop-number.invariant.differ p q lt b
              | inr i ↦ rw i (w.is_path_new.ensures.0 w.if-not-is_path_new.false p (omega (arith, i, lt)))
            ];
            greatest = λ p in_list. rw w.greatest-is (elim (last_of p n in_list) [
              | inl b ↦ c.loop-number.invariant.greatest p b
              | inr i ↦ rw i no
            ]);
          }
    ]
