use Rattle.std.proofs.Common.{◌≡◌, ◌∙◌, ◌+◌, ◌++◌, ◌∷◌, [], ap, sym, length, arith, length-append}
use Rattle.pw_journal.proofs.Places.{place_noted}
use Rattle.pw_journal.proofs.journal.Journal.note.Goals as goal

pub invariant_of-self : goal.invariant_of-self
invariant_of-self g c =
    let was = c.self.invariant in
    let is = ap (λ j. j.entries) c.self.view_is in
    let size = ap (λ j. j.capacity) c.self.view_is in
    let room = c.requires.room in
    let e = c.record_of-entry.result in
    let more : c.self.inside.count + 1 ≡ length (c.self.inside.past.items ++ e ∷ []) = grind (arith, length-append, was.1) in
    let place = place_noted c.self.inside.past.items e c.args.fault (rw is c.requires.faultless) (ap (λ e. e.fault) c.record_of-entry.ensures) in
    let sized = ap length is in
    let fits = was.1 in (
      was.0,
      rw c.push.ensures more,
      omega (arith, room, sized, size, fits),
      (λ small. let old = was.3 small in (c.keep.ensures.kept small ∙ ap (λ xs. xs ++ e ∷ []) old.0 ∙ sym c.push.ensures, rw (c.keep.ensures.room small) old.1)),
      rw (c.push.ensures, more) place,
    )
