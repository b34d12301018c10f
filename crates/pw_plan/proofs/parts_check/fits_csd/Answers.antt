use Rattle.std.proofs.Common.{◌<◌, ◌≤◌, length, sym, ◌∙◌, inl, inr, arith, refl}
use Rattle.pw_plan.specs.Parts.{entry_in}
use Rattle.pw_plan.specs.inner.EntryTables.{name_from}
use Rattle.pw_plan.proofs.Csd.{last_of}
use Rattle.pw_plan.proofs.Repeats.{itself_not_before, later_tops}
use Rattle.pw_plan.proofs.parts_check.fits_csd.Goals as goal

pub is_new-requires-clause-greatest : goal.is_new-requires-clause-greatest
is_new-requires-clause-greatest c = rw c.as_slice-csd.ensures c.loop-number.invariant.greatest

pub returns-then-not-is_state : goal.returns-then-not-is_state
returns-then-not-is_state c =
    let lt : c.loop-number.number < length c.args.cpu.now.csd = rw (← c.as_slice-csd.ensures) c.loop-number-test.true in
    let e = rw c.as_slice-csd.ensures at c.entry_in-entry.ensures in
    (λ f. cc, λ fits. sym c.if-not-is_state.true ∙ c.is_state.ensures.1 (fits.kind c.loop-number.number lt, rw e (fits.state c.loop-number.number lt)))

pub returns-then-not-is_new : goal.returns-then-not-is_new
returns-then-not-is_new c =
    let n = c.loop-number.number in
    let lt : n < length c.args.cpu.now.csd = rw (← c.as_slice-csd.ensures) c.loop-number-test.true in
    let new = rw c.as_slice-csd.ensures at c.is_new.ensures in
    (λ f. cc, λ fits. sym c.if-not-is_new.true ∙ new.1 (λ j a. fits.once j n a lt))

pub loop-number-preserved : goal.loop-number-preserved
loop-number-preserved c =
    let n = c.loop-number.number in
    let csd = c.args.cpu.now.csd in
    let e = rw c.as_slice-csd.ensures at c.entry_in-entry.ensures in
    let here = c.is_state.ensures.0 c.if-not-is_state.false in
    let new = (rw c.as_slice-csd.ensures at c.is_new.ensures).0 c.if-not-is_new.false in
    record {
      kind = λ k lt. here.0;
      state = λ k lt. elim (last_of k n lt) [ inl b ↦ c.loop-number.invariant.state k b | inr i ↦ rw (i, ← e) here.1 ];
      once = λ j k a lt. elim (last_of k n lt) [ inl b ↦ c.loop-number.invariant.once j k a b | inr i ↦ rw i (new j (omega (arith, i, a))) ];
      greatest = λ k lt. rw (c.later-greatest.ensures, c.name_from.ensures, e) (elim (last_of k n lt) [
        | inl b ↦ later_tops c.loop-number.greatest (name_from (entry_in csd n)) (name_from (entry_in csd k)) (c.loop-number.invariant.greatest k b)
        | inr i ↦ rw i (itself_not_before c.loop-number.greatest (name_from (entry_in csd n)))
      ]);
    }

pub returns : goal.returns
returns c =
    let csd = c.args.cpu.now.csd in
    let all : length csd ≤ c.loop-number.number = rw (← c.as_slice-csd.ensures) c.loop-number-test.false in (
      λ t. record {
        kind = λ k lt. c.loop-number.invariant.kind k (omega arith);
        state = λ k lt. c.loop-number.invariant.state k (omega arith);
        once = λ j k lt in_list. c.loop-number.invariant.once j k lt (omega arith);
      },
      λ fits. refl,
    )
