use Rattle.std.proofs.Common.{◌∙◌, ap, sym, arith, rules}
use Rattle.std.proofs.lemmas.List.{set-get_or}
use Rattle.pw_base.proofs.Counting.{is_counted, goes_on, own}
use Rattle.pw_base.proofs.memory_files.count_fault.Goals as goal

pub returns-then-eq-clause-counted : goal.returns-then-eq-clause-counted
returns-then-eq-clause-counted c =
    let so = c.loop-file.invariant in
    is_counted c.args.name.now c.loop-file.file-items c.args.files.now c.loop-file.file-index c.file-item.result _ (omega arith) so.0 c.file-item.is (search rules) (search rules) so.1

pub returns-then-eq-clause-found : goal.returns-then-eq-clause-found
returns-then-eq-clause-found c =
    let so = c.loop-file.invariant in
    sym (own c.args.name.now c.loop-file.file-items c.args.files.now c.loop-file.file-index c.file-item.result (omega arith) so.0 c.file-item.is (search rules) so.1).1

pub returns-then-eq-clause-bound : goal.returns-then-eq-clause-bound
returns-then-eq-clause-bound c =
    let so = c.loop-file.invariant in
    let e = (own c.args.name.now c.loop-file.file-items c.args.files.now c.loop-file.file-index c.file-item.result (omega arith) so.0 c.file-item.is (search rules) so.1).0 in
    λ is. (let fits = c.file.invariant in let v = ap (λ f. f.faults) (c.file-item.is ∙ sym c.file.view_is) in omega (arith, e, fits, v))

pub loop-file-preserved : goal.loop-file-preserved
loop-file-preserved c =
    let so = c.loop-file.invariant in (
      set-get_or c.loop-file.file-items c.loop-file.file-index c.file-item.result ∙ so.0,
      goes_on c.args.name.now c.loop-file.file-items c.args.files.now c.loop-file.file-index c.file-item.result (omega arith) so.0 c.file-item.is (search rules) so.1,
    )
