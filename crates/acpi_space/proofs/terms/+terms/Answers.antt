use Rattle.std.proofs.Common.{◌<◌, ◌++◌, ◌∷◌, [], length, take, get_or, sym, ap, subst, ◌∙◌, arith}
use Rattle.std.proofs.lemmas.Result.{err_from_is_err_and}
use Rattle.std.proofs.lemmas.List.{append-nil}
use Rattle.std.specs.Result.{MatchResult}
use Rattle.acpi_space.specs.Things.Thing.{device, processor}
use Rattle.acpi_space.specs.Places.{place_of, opened}
use Rattle.acpi_space.specs.Steps.{Step, opens, gives, touched, steps_of, steps_in}
use Rattle.acpi_space.specs.Standing.{IsFaultOf}
use Rattle.acpi_space.specs.inner.Standing.{StandsIn}
use Rattle.acpi_space.proofs.Known.{more_turns, turn_fault, first_fault, grown_at, grown_on}
use Rattle.acpi_space.proofs.TermSteps.{steps-Name, steps-Scope, steps-Device, steps-Processor, steps-Alias, steps-External, steps-Mutex, steps-Event, steps-Region}
use Rattle.acpi_space.proofs.TermSteps.{steps-Unread, inside_step}
use Rattle.acpi_space.proofs.terms.+terms.Goals as goal

pub place_term-returns-in_ok-put-in-Name-clause-done : goal.place_term-returns-in_ok-put-in-Name-clause-done
place_term-returns-in_ok-put-in-Name-clause-done t c before stands =
    let scope = get_or c.args.building.now.tree c.args.scope [] in
    rw (c.in-Name.is, steps-Name c.args.width c.in-Name.path c.in-Name.value scope before) (c.in_ok-put-in-Name.ensures.done before stands)

pub place_term-returns-in_err-put-in-Name-clause-done : goal.place_term-returns-in_err-put-in-Name-clause-done
place_term-returns-in_err-put-in-Name-clause-done t c before stands =
    let scope = get_or c.args.building.now.tree c.args.scope [] in
    let p = err_from_is_err_and c.from_residual.result c.from_residual.ensures.1 in
    rw (p.1, p.2, c.in-Name.is, steps-Name c.args.width c.in-Name.path c.in-Name.value scope before) (c.in_err-put-in-Name.ensures.done before stands)

pub place_term-returns-in_ok-put-in-Alias-clause-done : goal.place_term-returns-in_ok-put-in-Alias-clause-done
place_term-returns-in_ok-put-in-Alias-clause-done t c before stands =
    let scope = get_or c.args.building.now.tree c.args.scope [] in
    rw (c.in-Alias.is, steps-Alias c.args.width c.in-Alias.source c.in-Alias.alias scope before) (c.in_ok-put-in-Alias.ensures.done before stands)

pub place_term-returns-in_err-put-in-Alias-clause-done : goal.place_term-returns-in_err-put-in-Alias-clause-done
place_term-returns-in_err-put-in-Alias-clause-done t c before stands =
    let scope = get_or c.args.building.now.tree c.args.scope [] in
    let p = err_from_is_err_and c.from_residual-in_err-put-in-Alias.result c.from_residual-in_err-put-in-Alias.ensures.1 in
    rw (p.1, p.2, c.in-Alias.is, steps-Alias c.args.width c.in-Alias.source c.in-Alias.alias scope before) (c.in_err-put-in-Alias.ensures.done before stands)

pub place_term-returns-in_ok-at-in-Device-clause-done : goal.place_term-returns-in_ok-at-in-Device-clause-done
place_term-returns-in_ok-at-in-Device-clause-done t c before stands =
    let scope = get_or c.args.building.now.tree c.args.scope [] in
    let step : Step = gives c.args.width (place_of scope c.in-Device.path) device in
    let whole = steps_of c.args.width c.args.term.now scope before in
    let is = ap (λ term. steps_of c.args.width term scope before) c.in-Device.is ∙ steps-Device c.args.width c.in-Device.path c.in-Device.terms scope before in
    let first = c.in_ok-at-in-Device.ensures.done before stands in
    subst (λ s. MatchResult c.place_terms-in-Device.result (λ _. StandsIn c.place_terms-in-Device.new.building s) (λ f. IsFaultOf f s))
    (inside_step c.args.width step c.in-Device.terms c.as_slice-in-Device.result.now (get_or c.put-in-Device.new.self.tree c.in_ok-at-in-Device.at []) before whole
    c.as_slice-in-Device.ensures c.in_ok-at-in-Device.ensures.here.1 is)
    (c.place_terms-in-Device.ensures.done (before ++ step ∷ []) first)

pub place_term-returns-in_err-at-in-Device-clause-done : goal.place_term-returns-in_err-at-in-Device-clause-done
place_term-returns-in_err-at-in-Device-clause-done t c before stands =
    let scope = get_or c.args.building.now.tree c.args.scope [] in
    let step : Step = gives c.args.width (place_of scope c.in-Device.path) device in
    let is = ap (λ term. steps_of c.args.width term scope before) c.in-Device.is ∙ steps-Device c.args.width c.in-Device.path c.in-Device.terms scope before in
    let p = err_from_is_err_and c.from_residual-in_err-at-in-Device.result c.from_residual-in_err-at-in-Device.ensures.1 in
    let inside = steps_in c.args.width c.in-Device.terms step.place (before ++ step ∷ []) in
    rw (p.1, p.2) (first_fault c.in_err-at-in-Device.field-0.0 before step inside (steps_of c.args.width c.args.term.now scope before) is
    (c.in_err-at-in-Device.ensures.done before stands))

pub place_term-returns-in_ok-at-in-Processor-clause-done : goal.place_term-returns-in_ok-at-in-Processor-clause-done
place_term-returns-in_ok-at-in-Processor-clause-done t c before stands =
    let scope = get_or c.args.building.now.tree c.args.scope [] in
    let step : Step = gives c.args.width (place_of scope c.in-Processor.path) processor in
    let whole = steps_of c.args.width c.args.term.now scope before in
    let v = c.in-Processor in
    let is = ap (λ term. steps_of c.args.width term scope before) v.is ∙ steps-Processor c.args.width v.path v.id v.block v.length v.terms scope before in
    let first = c.in_ok-at-in-Processor.ensures.done before stands in
    subst (λ s. MatchResult c.place_terms-in-Processor.result (λ _. StandsIn c.place_terms-in-Processor.new.building s) (λ f. IsFaultOf f s))
    (inside_step c.args.width step c.in-Processor.terms c.as_slice-in-Processor.result.now (get_or c.put-in-Processor.new.self.tree c.in_ok-at-in-Processor.at []) before whole
    c.as_slice-in-Processor.ensures c.in_ok-at-in-Processor.ensures.here.1 is)
    (c.place_terms-in-Processor.ensures.done (before ++ step ∷ []) first)

pub place_term-returns-in_err-at-in-Processor-clause-done : goal.place_term-returns-in_err-at-in-Processor-clause-done
place_term-returns-in_err-at-in-Processor-clause-done t c before stands =
    let scope = get_or c.args.building.now.tree c.args.scope [] in
    let step : Step = gives c.args.width (place_of scope c.in-Processor.path) processor in
    let v = c.in-Processor in
    let is = ap (λ term. steps_of c.args.width term scope before) v.is ∙ steps-Processor c.args.width v.path v.id v.block v.length v.terms scope before in
    let p = err_from_is_err_and c.from_residual-in_err-at-in-Processor.result c.from_residual-in_err-at-in-Processor.ensures.1 in
    let inside = steps_in c.args.width c.in-Processor.terms step.place (before ++ step ∷ []) in
    rw (p.1, p.2) (first_fault c.in_err-at-in-Processor.field-0.0 before step inside (steps_of c.args.width c.args.term.now scope before) is
    (c.in_err-at-in-Processor.ensures.done before stands))

pub place_term-returns-in_ok-at-in-Scope-clause-done : goal.place_term-returns-in_ok-at-in-Scope-clause-done
place_term-returns-in_ok-at-in-Scope-clause-done t c before stands =
    let scope = get_or c.args.building.now.tree c.args.scope [] in
    let step : Step = opens (opened (touched before) scope c.in-Scope.path) in
    let whole = steps_of c.args.width c.args.term.now scope before in
    let is = ap (λ term. steps_of c.args.width term scope before) c.in-Scope.is ∙ steps-Scope c.args.width c.in-Scope.path c.in-Scope.terms scope before in
    let first = c.in_ok-at-in-Scope.ensures.done before stands in
    subst (λ s. MatchResult c.place_terms.result (λ _. StandsIn c.place_terms.new.building s) (λ f. IsFaultOf f s))
    (inside_step c.args.width step c.in-Scope.terms c.as_slice.result.now (get_or c.open.new.self.tree c.in_ok-at-in-Scope.at []) before whole
    c.as_slice.ensures (c.in_ok-at-in-Scope.ensures.here before stands).1 is)
    (c.place_terms.ensures.done (before ++ step ∷ []) first)

pub place_term-returns-in_err-at-in-Scope-clause-done : goal.place_term-returns-in_err-at-in-Scope-clause-done
place_term-returns-in_err-at-in-Scope-clause-done t c before stands =
    let scope = get_or c.args.building.now.tree c.args.scope [] in
    let step : Step = opens (opened (touched before) scope c.in-Scope.path) in
    let is = ap (λ term. steps_of c.args.width term scope before) c.in-Scope.is ∙ steps-Scope c.args.width c.in-Scope.path c.in-Scope.terms scope before in
    let p = err_from_is_err_and c.from_residual-in_err-at-in-Scope.result c.from_residual-in_err-at-in-Scope.ensures.1 in
    let inside = steps_in c.args.width c.in-Scope.terms step.place (before ++ step ∷ []) in
    rw (p.1, p.2) (first_fault c.in_err-at-in-Scope.field-0.0 before step inside (steps_of c.args.width c.args.term.now scope before) is
    (c.in_err-at-in-Scope.ensures.done before stands))

pub place_term-returns-in-External-clause-done : goal.place_term-returns-in-External-clause-done
place_term-returns-in-External-clause-done t c before stands =
    let scope = get_or c.args.building.now.tree c.args.scope [] in
    rw (c.in-External.is, steps-External c.args.width c.in-External.path c.in-External.kind c.in-External.args scope before, append-nil before) stands

pub place_term-returns-in-Mutex-clause-done : goal.place_term-returns-in-Mutex-clause-done
place_term-returns-in-Mutex-clause-done t c before stands =
    let scope = get_or c.args.building.now.tree c.args.scope [] in
    rw (c.in-Mutex.is, steps-Mutex c.args.width c.in-Mutex.path c.in-Mutex.flags scope before, append-nil before) stands

pub place_term-returns-in-Event-clause-done : goal.place_term-returns-in-Event-clause-done
place_term-returns-in-Event-clause-done t c before stands =
    let scope = get_or c.args.building.now.tree c.args.scope [] in
    rw (c.in-Event.is, steps-Event c.args.width c.in-Event.path scope before, append-nil before) stands

pub place_term-returns-in-Region-clause-done : goal.place_term-returns-in-Region-clause-done
place_term-returns-in-Region-clause-done t c before stands =
    let scope = get_or c.args.building.now.tree c.args.scope [] in
    rw (c.in-Region.is, steps-Region c.args.width c.in-Region.path c.in-Region.space c.in-Region.offset c.in-Region.length scope before, append-nil before) stands

pub place_term-returns-in-Unread-clause-done : goal.place_term-returns-in-Unread-clause-done
place_term-returns-in-Unread-clause-done t c before stands =
    let scope = get_or c.args.building.now.tree c.args.scope [] in
    rw (c.in-Unread.is, steps-Unread c.args.width c.in-Unread.opcode c.in-Unread.body scope before, ← c.as_slice-in-Unread.ensures) (c.place_unread.ensures.done before stands)

pub place_terms-returns-in_err-place_term-clause-done : goal.place_terms-returns-in_err-place_term-clause-done
place_terms-returns-in_err-place_term-clause-done t c before stands =
    let terms = c.args.terms.now in
    let i = c.loop-term.term-index in
    let inside : i < length terms = omega arith in
    let same = grown_at c.args.building.now.tree c.loop-term.building.tree c.args.scope c.loop-term.invariant.grown c.requires in
    let scope = get_or c.args.building.now.tree c.args.scope [] in
    let done = before ++ steps_in c.args.width (take i terms) scope before in
    let f = c.in_err-place_term.field-0.0 in
    let fault = c.in_err-place_term.ensures.done done (c.loop-term.invariant.done before stands) in
    let p = err_from_is_err_and c.from_residual.result c.from_residual.ensures.1 in
    rw (p.1, p.2) (turn_fault (steps_of c.args.width) terms i c.term-item.result scope before f inside c.term-item.is
    (subst (λ s. IsFaultOf f (done ++ steps_of c.args.width c.term-item.result s done)) same fault))

pub place_terms-loop-term-preserved : goal.place_terms-loop-term-preserved
place_terms-loop-term-preserved t c =
    let terms = c.args.terms.now in
    let i = c.loop-term.term-index in
    let inside : i < length terms = omega arith in
    let same = grown_at c.args.building.now.tree c.loop-term.building.tree c.args.scope c.loop-term.invariant.grown c.requires in
    let scope = get_or c.args.building.now.tree c.args.scope [] in
    record {
      grown = grown_on c.args.building.now.tree c.loop-term.building.tree c.place_term.new.building.tree c.loop-term.invariant.grown c.in_ok-place_term.ensures.grown;
      done = λ before stands. (
          let done = before ++ steps_in c.args.width (take i terms) scope before in
          let next = c.in_ok-place_term.ensures.done done (c.loop-term.invariant.done before stands) in
          subst (StandsIn c.place_term.new.building)
          (ap (λ s. done ++ steps_of c.args.width c.term-item.result s done) same ∙ sym (more_turns (steps_of c.args.width) terms i c.term-item.result scope before inside c.term-item.is)) next);
    }
