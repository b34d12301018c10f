use Rattle.std.proofs.Common.{◌∙◌, ◌++◌, List, ap, sym, append-nil}
use Rattle.acpi_values.specs.declared.operation.Op.{Op}
use Rattle.pw_script.proofs.Replied.{nothing_operated}
use Rattle.pw_script.proofs.known.operate.Goals as goal

pub returns-in_default : goal.returns-in_default
returns-in_default c =
    let none = nothing_operated c.args.plan.now c.args.state.now c.args.request c.args.reply c.requires.told c.in_default.not-Entered c.in_default.not-Stands in
    ap (λ (ops : List Op). record { elements = ops; capacity = c.args.ops.now.capacity }) (sym (append-nil c.args.ops.now.elements)
    ∙ ap (λ (ops : List Op). c.args.ops.now.elements ++ ops) (sym none))
