use Rattle.std.proofs.Common.{true, take, codes}
use Rattle.std.specs.List.{flat_map}
use Rattle.aml_data.specs.declared.data.Data.{Data}
use Rattle.pw_text.specs.Puts.{PutsText}
use Rattle.pw_show.specs.Values.{behind, value_text}
use Rattle.pw_show.proofs.values.+values.Given as goal

abbrev pub invariant-put_elements-loop-element : goal.invariant-put_elements-loop-element
invariant-put_elements-loop-element g l = PutsText g.K.Sink l.initial.sink l.sink l.initial.page l.page
    (flat_map (λ (v : Data). behind (codes ", ") (value_text v)) (take l.element-index l.rest)) true
