use Rattle.std.proofs.Common.{◌≡◌, ◌∙◌, append-nil, refl, sym}
use Rattle.std.specs.Prelude.{option_copied}
use Rattle.pw_kind.specs.History.{replies}
use Rattle.pw_history.proofs.Known.{all_known, copied_told}
use Rattle.pw_history.proofs.printing.print_history.Goals as goal

pub put_history-put-requires-clause-known : goal.put_history-put-requires-clause-known
put_history-put-requires-clause-known g c =
    let C = g.T.Kind.words.kind in
    let P = c.args.plan.now in
    let told = copied_told (λ told. told ≡ replies C P c.args.entries.now) c.args.known c.requires.known in
    rw (c.in_ok-held.ensures.named, c.for_each-known.ensures) (all_known C P c.args.entries.now (option_copied c.args.known) told)

pub returns-in_err-put-clause-keeps : goal.returns-in_err-put-clause-keeps
returns-in_err-put-clause-keeps g c = c.in_err-put.ensures.text.keeps

pub returns-in_err-put-clause-part : goal.returns-in_err-put-clause-part
returns-in_err-put-clause-part g c = λ told. rw (c.in_ok-held.ensures.page, c.in_ok-held.ensures.named) at (c.in_err-put.ensures.text.part told)

pub returns-in_err-put-clause-sink : goal.returns-in_err-put-clause-sink
returns-in_err-put-clause-sink g c = λ _. c.in_err-put.ensures.text.failed refl

pub returns-clause-keeps : goal.returns-clause-keeps
returns-clause-keeps g c = c.in_ok-put.ensures.text.keeps

pub returns-clause-whole : goal.returns-clause-whole
returns-clause-whole g c = λ told.
    sym (append-nil (g.K.Sink.written c.put_history-put.new.sink))
    ∙ (rw (c.in_ok-held.ensures.page, c.in_ok-held.ensures.named, c.in_ok-put.ensures.empty) at (c.in_ok-put.ensures.text.whole refl told))

pub returns-clause-part : goal.returns-clause-part
returns-clause-part g c = λ told. rw (c.in_ok-held.ensures.page, c.in_ok-held.ensures.named) at (c.in_ok-put.ensures.text.part told)
