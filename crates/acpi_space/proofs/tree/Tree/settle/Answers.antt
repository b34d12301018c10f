use Rattle.std.proofs.Common.{◌≡◌, ◌++◌, ◌∷◌, [], ap, ◌∙◌, sym, append_assoc, get_or}
use Rattle.std.proofs.lemmas.Result.{IfOk-weaker}
use Rattle.acpi_space.specs.inner.Trees.{Reaches, below}
use Rattle.acpi_space.proofs.Trees.{reached_on}
use Rattle.acpi_space.proofs.tree.Tree.settle.Goals as goal

pub returns-in_ok-above-in-Some : goal.returns-in_ok-above-in-Some
returns-in_ok-above-in-Some c =
    let base = get_or c.args.self.now c.args.at [] in
    let above = c.in_ok-above-in-Some.above in
    let last = c.in-Some.last.now in
    let before = c.in-Some.before.now in
    let whole : base ++ c.args.segs.now ≡ (base ++ before) ++ last ∷ [] = ap (λ segs. base ++ segs) c.in-Some.ensures.cases.0 ∙ sym (append_assoc base before (last ∷ [])) in
    IfOk-weaker c.enter.result (λ k. Reaches c.reach.new.self c.enter.new.self k (below c.reach.new.self above last)) (λ k. Reaches c.args.self.now c.enter.new.self k (base ++ c.args.segs.now))
    (λ k r. reached_on c.args.self.now c.reach.new.self c.enter.new.self above k (base ++ before) (base ++ c.args.segs.now) last c.in_ok-above-in-Some.ensures r whole) c.enter.ensures
