use Rattle.std.proofs.Common.{sym, ◌∙◌}
use Rattle.std.specs.Cmp.Lexicographic.{bytes_decides}
use Rattle.std.proofs.lemmas.Bool.{false≢true}
use Rattle.acpi_space.proofs.Ranges.{last_told, none_left, none_told}
use Rattle.acpi_space.proofs.tree.Tree.last.Goals as goal

pub returns-in-Some : goal.returns-in-Some
returns-in-Some c =
    last_told c.self.inside.names.items c.self.inside.numbers c.args.self.now c.args.seg c.args.most c.range-known.result c.self.invariant c.self.view_is c.requires (c.range-known.ensures.in_range tt)
    _ _ c.in-Some.ensures.steps ((bytes_decides c.in-Some.key.now.0.0 c.args.seg).0 (sym c.eq.ensures ∙ c.if-eq.true))

pub returns-in-Some-2 : goal.returns-in-Some-2
returns-in-Some-2 c =
    none_told c.self.inside.names.items c.self.inside.numbers c.args.self.now c.args.seg c.args.most c.range-known.result c.self.invariant c.self.view_is c.requires (c.range-known.ensures.in_range tt)
    _ _ c.in-Some.ensures.steps (λ e. false≢true (sym (sym c.eq.ensures ∙ c.if-eq.false) ∙ (bytes_decides c.in-Some.key.now.0.0 c.args.seg).1 e))

pub returns-in-None : goal.returns-in-None
returns-in-None c =
    none_left c.self.inside.names.items c.self.inside.numbers c.args.self.now c.args.seg c.args.most c.range-known.result c.self.invariant c.self.view_is c.requires (c.range-known.ensures.in_range tt)
    c.in-None.ensures.steps.0
