use Rattle.std.proofs.Common.{true, take}
use Rattle.aml_data.specs.declared.data.Data.{Data}
use Rattle.pw_text.specs.Puts.{PutsText}
use Rattle.pw_show.specs.Json.{told}
use Rattle.pw_show.specs.inner.Pieces.{element_text}
use Rattle.pw_show.proofs.Joining.{joined}
use Rattle.pw_show.proofs.json_values.+values.Given as goal

abbrev pub invariant-put_elements-loop-index : goal.invariant-put_elements-loop-index
invariant-put_elements-loop-index g l = PutsText g.K.Sink l.initial.sink l.sink l.initial.page l.page
    (joined (λ (v : Data). element_text (told v)) (take l.index l.elements)) true
