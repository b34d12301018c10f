use Rattle.std.proofs.Common.{inl, inr}
use Rattle.pw_text.proofs.Putting.{PutsText-as}
use Rattle.pw_show.proofs.Escapes.{printable_stands, quote_behind}
use Rattle.pw_show.proofs.json_strings.put_printable.Goals.{then-byte-eq34-via-then-byte-eq34, then-byte-eq34-via-else-byte-eq34+then-byte-eq92}
use Rattle.pw_show.proofs.json_strings.put_printable.Goals as goal

pub returns-then-byte-eq34 : goal.returns-then-byte-eq34
returns-then-byte-eq34 g c = elim c.then-byte-eq34.branch [
  | then-byte-eq34-via-then-byte-eq34 w ↦ PutsText-as _ (quote_behind c.args.byte (inl w.if-byte-eq34.true)) c.put.ensures
  | then-byte-eq34-via-else-byte-eq34+then-byte-eq92 w ↦ PutsText-as _ (quote_behind c.args.byte (inr w.if-byte-eq92.true)) c.put.ensures
]

pub returns : goal.returns
returns g c = PutsText-as _ (printable_stands c.args.byte c.requires c.if-byte-eq34.false c.if-byte-eq92.false) c.put-2.ensures
