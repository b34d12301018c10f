use Rattle.std.proofs.Common.{◌≡◌, ◌<◌, ◌++◌, [], List, length, take, map, get_or, refl, sym, ap, subst, ◌∙◌, arith}
use Rattle.std.specs.Option.{unwrap_or}
use Rattle.std.proofs.lemmas.Result.{err_from_is_err_and}
use Rattle.aml_data.specs.declared.data.Width.{Width}
use Rattle.aml_block.specs.declared.term.Term.{Term}
use Rattle.aml_block.specs.declared.block.Block.{Block}
use Rattle.acpi_space.specs.Places.{Place}
use Rattle.acpi_space.specs.Steps.{Step, in_order, steps_in}
use Rattle.acpi_space.specs.Namespace.{dsdt_width, width_among, block_turn}
use Rattle.acpi_space.specs.Standing.{IsFaultOf}
use Rattle.acpi_space.specs.inner.Standing.{StandsIn}
use Rattle.acpi_space.proofs.Known.{more_turns, turn_fault}
use Rattle.acpi_space.proofs.blocks.place_blocks.Goals as goal

-- what was done is the turn of the block
block_done : (blocks : List Block) (block : Block) (width : Width) (terms : List Term) (scope : Place) (before : List Step) → width ≡ width_among blocks block → terms ≡ block.terms → scope ≡ []
    → steps_in width terms scope before ≡ block_turn blocks block [] before
block_done blocks block width terms scope before w t s = rw (w, t, s) refl

pub loop-block-preserved : goal.loop-block-preserved
loop-block-preserved c =
    let blocks = c.args.blocks.now in
    let i = c.loop-block.block-index in
    let inside : i < length blocks = omega arith in
    let w = c.unwrap_or-width.ensures ∙ ap (λ d. unwrap_or d c.own_width.result) c.dsdt_width-dsdt.ensures ∙ ap (unwrap_or (dsdt_width blocks)) c.own_width.ensures in
    let done = in_order (map (block_turn blocks) (take i blocks)) [] [] in
    let turn = block_done blocks c.block-item.result c.unwrap_or-width.result c.as_slice.result.now (get_or c.loop-block.building.tree 0 []) done w c.as_slice.ensures c.facts.ensures.root.1 in
    subst (StandsIn c.place_terms.new.building) (ap (λ s. done ++ s) turn ∙ sym (more_turns (block_turn blocks) blocks i c.block-item.result [] [] inside c.block-item.is))
    (c.in_ok-place_terms.ensures.done done c.loop-block.invariant)

pub returns-in_err-place_terms-clause-fault : goal.returns-in_err-place_terms-clause-fault
returns-in_err-place_terms-clause-fault c =
    let blocks = c.args.blocks.now in
    let i = c.loop-block.block-index in
    let inside : i < length blocks = omega arith in
    let w = c.unwrap_or-width.ensures ∙ ap (λ d. unwrap_or d c.own_width.result) c.dsdt_width-dsdt.ensures ∙ ap (unwrap_or (dsdt_width blocks)) c.own_width.ensures in
    let done = in_order (map (block_turn blocks) (take i blocks)) [] [] in
    let turn = block_done blocks c.block-item.result c.unwrap_or-width.result c.as_slice.result.now (get_or c.loop-block.building.tree 0 []) done w c.as_slice.ensures c.facts.ensures.root.1 in
    let f = c.in_err-place_terms.field-0.0 in
    let fault = c.in_err-place_terms.ensures.done done c.loop-block.invariant in
    let p = err_from_is_err_and c.from_residual.result c.from_residual.ensures.1 in
    rw (p.1, p.2) (turn_fault (block_turn blocks) blocks i c.block-item.result [] [] f inside c.block-item.is (subst (λ s. IsFaultOf f (done ++ s)) turn fault))
